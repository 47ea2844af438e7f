use Rattle.fs_pcapng.proofs.{Words.{rules, ◌≡◌, moment, ap, sym, ◌∙◌, big_number, opened}, Opening.{opening_fails, opening_reads}}
use Rattle.fs_pcapng.proofs.capture.take_opening.Goals as goal

pub returns-in-Ok-clause-reads : goal.returns-in-Ok-clause-reads
returns-in-Ok-clause-reads g c =
    let is : big_number 4 c.take_kind.new.kind ≡ 0x0a0d0d0a = sym c.read_u32.ensures ∙ (search rules) in
    let same : c.open.new.self ≡ opened c.in-Ok.order 0 =
    c.open.ensures ∙ ap (λ s. opened c.in-Ok.order s.moment) c.requires.nothing in
    opening_reads (moment g.F.Files c.args.files.now c.args.counted.now) (moment g.F.Files c.take_kind.new.files c.take_kind.new.counted)
    (moment g.F.Files c.take_header.new.files c.take_header.new.counted) c.open.new.self c.take_kind.new.kind c.requires.start is same c.in_default.ensures.none
    c.take_header.ensures.none
    c.in_default.ensures.reads c.in-Ok.ensures.reads

pub returns-in-Err-take_header-clause-reads : goal.returns-in-Err-take_header-clause-reads
returns-in-Err-take_header-clause-reads g c =
    let is : big_number 4 c.take_kind.new.kind ≡ 0x0a0d0d0a = sym c.read_u32.ensures ∙ (search rules) in
    opening_fails (moment g.F.Files c.args.files.now c.args.counted.now) (moment g.F.Files c.take_kind.new.files c.take_kind.new.counted)
    (moment g.F.Files c.take_header.new.files c.take_header.new.counted) c.args.section.now c.take_kind.new.kind c.requires.start is c.in_default.ensures.none
    c.take_header.ensures.none
    c.in_default.ensures.reads c.in-Err-take_header.ensures.reads
