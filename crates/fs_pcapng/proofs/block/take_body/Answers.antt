use Rattle.fs_pcapng.proofs.Words.{rules, ◌≡◌, true, Some, length, sym, ◌∙◌, nat_lt, reads_ends, gives, behind_packet, enhanced_in, simple_in}
use Rattle.fs_pcapng.proofs.Bodies.{body_as, body_described, body_fails, body_packet, told_of}
use Rattle.fs_pcapng.proofs.block.take_body.Goals as goal

pub returns-in-Ok-clause-reads : goal.returns-in-Ok-clause-reads
returns-in-Ok-clause-reads g c =
    let now = c.args.section.now in
    let room : nat_lt (length now.interfaces) 256 ≡ true = sym c.has_room.ensures ∙ (search rules) in
    body_as c.args.frame now c.in-Described.is
    (body_described c.args.frame now c.add.new.self c.args.into.now room c.add.ensures c.in-Ok.ensures.reads)

pub returns-in-Err-clause-reads : goal.returns-in-Err-clause-reads
returns-in-Err-clause-reads g c =
    let now = c.args.section.now in
    let room : nat_lt (length now.interfaces) 256 ≡ true = sym c.has_room.ensures ∙ (search rules) in
    body_as c.args.frame now c.in-Described.is (body_fails c.args.frame now now c.args.into.now room c.in-Err.ensures.reads)

pub returns-in-Ok-take_enhanced-clause-reads : goal.returns-in-Ok-take_enhanced-clause-reads
returns-in-Ok-take_enhanced-clause-reads g c =
    let now = c.args.section.now in
    body_as c.args.frame now c.in-Enhanced.is
    (body_packet c.args.frame now c.pass.new.self c.take_enhanced.new.into (enhanced_in c.args.frame now) c.pass.ensures c.in-Ok-take_enhanced.ensures.reads)

pub returns-in-Ok-take_simple-clause-reads : goal.returns-in-Ok-take_simple-clause-reads
returns-in-Ok-take_simple-clause-reads g c =
    let now = c.args.section.now in
    body_as c.args.frame now c.in-Simple.is
    (body_packet c.args.frame now c.pass-in-Ok-take_simple.new.self c.take_simple.new.into (simple_in c.args.frame now)
    c.pass-in-Ok-take_simple.ensures c.in-Ok-take_simple.ensures.reads)

pub returns-in-Err-take_enhanced-clause-reads : goal.returns-in-Err-take_enhanced-clause-reads
returns-in-Err-take_enhanced-clause-reads g c =
    let now = c.args.section.now in
    body_as c.args.frame now c.in-Enhanced.is
    (reads_ends (λ found. gives (Some found, behind_packet now found)) (told_of c.take_enhanced.new.into now) c.in-Err-take_enhanced.ensures.reads)

pub returns-in-Err-take_simple-clause-reads : goal.returns-in-Err-take_simple-clause-reads
returns-in-Err-take_simple-clause-reads g c =
    let now = c.args.section.now in
    body_as c.args.frame now c.in-Simple.is
    (reads_ends (λ found. gives (Some found, behind_packet now found)) (told_of c.take_simple.new.into now) c.in-Err-take_simple.ensures.reads)
