use Rattle.fs_pcapng.proofs.{Words.{rules, ℕ, Ok, number, Endian, field, gives, reads_ends, reads_gives, reads_then, Cut}, Bodies.{version_reads}}
use Rattle.fs_input.specs.Reads.{Scans}
use Rattle.fs_pcapng.proofs.header.take_version.Goals as goal

pub returns-in-Ok-clause-reads : goal.returns-in-Ok-clause-reads
returns-in-Ok-clause-reads g c =
    let first : Scans g.F.Files c.args.files.now c.take_front.new.files (field 2 (number c.args.frame.order 2)) Cut c.args.counted.now
    c.take_front.new.counted (λ (n : ℕ). n) (Ok c.read_u16.result) = search rules in
    version_reads c.args.frame first (search rules)
    (reads_then (λ _. gives c.args.frame.order) (λ (o : Endian). o) c.in-Ok.ensures.reads (reads_gives (λ (o : Endian). o) c.args.frame.order))

pub returns-in-Err-end_block-clause-reads : goal.returns-in-Err-end_block-clause-reads
returns-in-Err-end_block-clause-reads g c =
    let first : Scans g.F.Files c.args.files.now c.take_front.new.files (field 2 (number c.args.frame.order 2)) Cut c.args.counted.now
    c.take_front.new.counted (λ (n : ℕ). n) (Ok c.read_u16.result) = search rules in
    version_reads c.args.frame first (search rules)
    (reads_ends (λ _. gives c.args.frame.order) (λ (o : Endian). o) c.in-Err-end_block.ensures.reads)
