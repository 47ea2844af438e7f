use Rattle.cmd_stages.proofs.Words.{◌++◌, ℕ, List, Err, Rose, TapeState, ap, drop, subst, rose_earlier, version_of}
use Rattle.cmd_stages.proofs.{Playing.{opened_so}, Reading.{opened_file, read_so, unbegun_tape, unopened}, Stages.{match_err}}
use Rattle.fs_input.specs.Opening.{Opens}
use Rattle.cmd_stages.proofs.play.open_tape.Goals as goal

pub returns-in-Ok-clause-opened : goal.returns-in-Ok-clause-opened
returns-in-Ok-clause-opened g c = λ told.
    opened_so c.args.limit (g.F.Files.holds c.args.files.now) c.args.name.now (g.F.Files.left c.open.new.files)
    (g.F.Files.left c.begin.new.files) c.in-Ok.tape c.new.result.slot c.new.result.limit
    c.new.ensures.slot (c.in_ok-open.ensures.opened told) c.new.ensures.limit (rw c.new.ensures.back at (c.in-Ok.ensures.opens told)) c.in-Ok.ensures.state

pub returns-in_err-open-clause-reads : goal.returns-in_err-open-clause-reads
returns-in_err-open-clause-reads g c = λ told config.
    match_err _ _ c.from_residual.result c.from_residual.ensures.1 (λ refusal same.
    unopened config c.args.limit (g.F.Files.holds c.args.files.now) c.args.name.now
    (Rose (g.F.Files.faults c.args.files.now) (g.F.Files.faults c.open.new.files)) refusal
    (rw same (c.in_err-open.ensures.opened told)))

pub returns-in-Ok-clause-reads : goal.returns-in-Ok-clause-reads
returns-in-Ok-clause-reads g c = λ told config.
    read_so config (opened_file c.args.limit (g.F.Files.holds c.args.files.now) c.args.name.now (g.F.Files.left c.open.new.files)
    c.new.result.slot c.new.result.limit c.new.ensures.slot (c.in_ok-open.ensures.opened told) c.new.ensures.limit)
    (g.F.Files.left c.begin.new.files) c.in-Ok.tape (rw c.new.ensures.back at (c.in-Ok.ensures.opens told)) c.in-Ok.ensures.state

pub returns-in-Err-clause-reads : goal.returns-in-Err-clause-reads
returns-in-Err-clause-reads g c = λ told config.
    let left : List ℕ = g.F.Files.left c.open.new.files c.new.result.slot in
    unbegun_tape config (opened_file c.args.limit (g.F.Files.holds c.args.files.now) c.args.name.now (g.F.Files.left c.open.new.files)
    c.new.result.slot c.new.result.limit c.new.ensures.slot (c.in_ok-open.ensures.opened told) c.new.ensures.limit)
    (drop 8 left) (g.F.Files.left c.begin.new.files c.new.result.slot) c.in-Err.fault c.refusal_of.result
    (Rose (g.F.Files.faults c.args.files.now) (g.F.Files.faults c.begin.new.files))
    (subst (λ (back : List ℕ). Opens (λ (tape : TapeState). tape.version) (version_of c.new.result.limit (back ++ left)) (drop 8 (back ++ left))
    (g.F.Files.left c.begin.new.files c.new.result.slot) (Err c.in-Err.fault))
    c.new.ensures.back (c.in-Err.ensures.opens told))
    (λ read. rose_earlier _ _ _ c.in_ok-open.ensures.later (c.in-Err.ensures.read (ap Err read))) c.refusal_of.ensures.result
