use Rattle.fs_input.proofs.Words.{rules, ◌≡◌, [], List, ℕ, Option, Ok, Err, false, length, refl, ap, subst, with_part, straight_draws, Advances}
use Rattle.fs_input.proofs.Words.{part_in, parts_ahead, parts_to_come, IsOver, ahead, passes_as, passes_in}
use Rattle.fs_input.proofs.Advancing.{first_advances, later_advances, over_advances, part_advances, part_reads, some_taken}
use Rattle.fs_input.proofs.{Again.{ahead_here, reads_ahead}, Lifting.{starts_as, starts_true}}
use Rattle.std.specs.Option.{option_map}
use Rattle.fs_input.proofs.reading.advance.Goals as goal

pub returns-in-Ok-clause-advances : goal.returns-in-Ok-clause-advances
returns-in-Ok-clause-advances g c = λ told.
    let first = g.P.Parts.first in
    let behind = g.P.Parts.behind c.args.given.now in
    let chain = part_in first behind in
    let starts = starts_true first c.in-Ok-true.ensures.starts c.cut.ensures (search rules) (search rules) in
    let before = ahead_here c.args.counted.now (g.F.Files.left c.args.files.now) in
    let later = ahead_here c.take_behind.new.counted (g.F.Files.left c.take_behind.new.files) in
    subst
    (λ (left : List ℕ). parts_to_come chain g.P.Parts.cut c.args.counted.now.limit c.args.counted.now.taken c.args.parts.now left
    ≡ with_part (option_map (g.P.Parts.part_of c.take_behind.new.into) c.in-Ok.told) (parts_ahead chain g.P.Parts.cut c.take_behind.new.counted
    c.take_behind.new.self (g.F.Files.left c.take_behind.new.files c.take_behind.new.counted.slot)))
    before
    (subst
    (λ (left : List ℕ). parts_to_come chain g.P.Parts.cut c.args.counted.now.limit c.args.counted.now.taken c.args.parts.now
    (ahead c.args.counted.now (g.F.Files.left c.args.files.now) c.args.counted.now.slot)
    ≡ with_part (option_map (g.P.Parts.part_of c.take_behind.new.into) c.in-Ok.told) (parts_to_come chain g.P.Parts.cut c.take_behind.new.counted.limit
    c.take_behind.new.counted.taken c.take_behind.new.self left))
    later
    (part_advances chain c.first_size-size.ensures.takes g.P.Parts.cut c.args.parts.now told
    (part_reads first behind c.args.parts.now (search rules) starts
    (reads_ahead _ _ (c.in-Ok-true.ensures.none (search rules)) c.take_behind.ensures.none c.in-Ok.ensures.reads))))

pub returns-in-Err-take_behind-clause-advances : goal.returns-in-Err-take_behind-clause-advances
returns-in-Err-take_behind-clause-advances g c = λ told.
    let first = g.P.Parts.first in
    let behind = g.P.Parts.behind c.args.given.now in
    let chain = part_in first behind in
    let starts = starts_true first c.in-Ok-true.ensures.starts c.cut.ensures (search rules) (search rules) in
    let later : Option g.row.P-Told.Denot → _ = λ told. with_part (option_map (g.P.Parts.part_of c.take_behind.new.into) told)
    (parts_ahead chain g.P.Parts.cut c.take_behind.new.counted c.take_behind.new.self
    (g.F.Files.left c.take_behind.new.files c.take_behind.new.counted.slot)) in
    subst (λ (left : List ℕ). Advances (parts_to_come chain g.P.Parts.cut c.args.counted.now.limit c.args.counted.now.taken c.args.parts.now left)
    later (Err c.in-Err-take_behind.fault))
    (ahead_here c.args.counted.now (g.F.Files.left c.args.files.now))
    (later_advances chain c.first_size-size.ensures.takes g.P.Parts.cut {T = Option g.row.P-Told.Denot} later c.args.parts.now told
    (part_reads first behind c.args.parts.now (search rules) starts
    (reads_ahead _ _ (c.in-Ok-true.ensures.none (search rules)) c.take_behind.ensures.none c.in-Err-take_behind.ensures.reads))
    (some_taken told (search rules) starts))

pub returns-in-Ok-false-clause-advances : goal.returns-in-Ok-false-clause-advances
returns-in-Ok-false-clause-advances g c = λ told.
    let first = g.P.Parts.first in
    let size : length c.take_first.new.into ≡ first = search rules in
    let is : Ok c.in-Ok-false.field-0 ≡ Ok false = ap Ok (search rules) in
    over_advances (part_in first (g.P.Parts.behind c.args.given.now)) c.first_size-size.ensures.takes g.P.Parts.cut
    c.args.counted.now.limit c.args.counted.now.taken c.args.parts.now _
    (subst (λ (left : List ℕ). IsOver c.args.counted.now.limit c.args.counted.now.taken left)
    (ahead_here c.args.counted.now (g.F.Files.left c.args.files.now))
    ((starts_as first c.cut.ensures size is c.in-Ok-false.ensures.starts).started told))

pub returns-in-Err-clause-advances : goal.returns-in-Err-clause-advances
returns-in-Err-clause-advances g c = λ told.
    let first = g.P.Parts.first in
    let behind = g.P.Parts.behind c.args.given.now in
    let chain = part_in first behind in
    let now = c.args.parts.now in
    let size : length c.take_first.new.into ≡ first = search rules in
    let later : Option g.row.P-Told.Denot → _ = λ told. with_part (option_map (g.P.Parts.part_of c.args.into.now) told)
    (parts_ahead chain g.P.Parts.cut c.take_first.new.counted now (g.F.Files.left c.take_first.new.files c.take_first.new.counted.slot)) in
    subst (λ (left : List ℕ). Advances (parts_to_come chain g.P.Parts.cut c.args.counted.now.limit c.args.counted.now.taken now left)
    later (Err c.in-Err.fault))
    (ahead_here c.args.counted.now (g.F.Files.left c.args.files.now))
    (first_advances chain c.first_size-size.ensures.takes g.P.Parts.cut {T = Option g.row.P-Told.Denot}
    (behind now c.args.counted.now.taken) later now told
    (starts_as first c.cut.ensures size refl c.in-Err.ensures.starts) (λ octets. refl))

pub returns-in-Ok-clause-passes : goal.returns-in-Ok-clause-passes
returns-in-Ok-clause-passes g c =
    let none : c.take_first.new.counted.back ≡ [] = c.in-Ok-true.ensures.none (search rules) in
    passes_in c.take_first.ensures.passes (passes_as (straight_draws _ _ _ _ none c.take_behind.ensures.none) c.in-Ok.ensures.reads.passes)

pub returns-in-Err-take_behind-clause-passes : goal.returns-in-Err-take_behind-clause-passes
returns-in-Err-take_behind-clause-passes g c =
    let none : c.take_first.new.counted.back ≡ [] = c.in-Ok-true.ensures.none (search rules) in
    passes_in c.take_first.ensures.passes (passes_as (straight_draws _ _ _ _ none c.take_behind.ensures.none) c.in-Err-take_behind.ensures.reads.passes)
