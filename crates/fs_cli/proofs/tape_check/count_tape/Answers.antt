use Rattle.fs_cli.proofs.{Words.{ℕ, subst}, TapeChecking.{tape_counted}}
use Rattle.fs_tape.specs.Tape.{coming}
use Rattle.cmd_stages.proofs.Playing.{comes_at, refused_whole}
use Rattle.fs_cli.specs.TapeCheck.{CountsOn}
use Rattle.fs_cli.proofs.tape_check.count_tape.Goals as goal

pub returns-in-Ok-clause-counted : goal.returns-in-Ok-clause-counted
returns-in-Ok-clause-counted g c = λ told.
    tape_counted c.args.config.now c.args.limit (g.F.Files.holds c.args.files.now) c.args.name.now
    (g.F.Files.left c.open_tape.new.files 1) c.in_ok-tape.tape c.version-version.result c.in_ok-nothing.nothing c.in-Ok.counts
    (c.in_ok-tape.ensures.opened told) c.version-version.ensures
    (subst (λ (n : ℕ). CountsOn (coming c.args.config.now c.in_ok-tape.tape (g.F.Files.left c.open_tape.new.files n)) c.in_ok-nothing.nothing c.in-Ok.counts)
    c.in_ok-tape.ensures.state.slot_is (c.in-Ok.ensures.counted told))
    c.in_ok-nothing.ensures

pub returns-clause-counted : goal.returns-clause-counted
returns-clause-counted g c = λ told.
    refused_whole _ _ _ _ _ c.in-Err.refusal
    (comes_at c.args.config.now c.args.limit (g.F.Files.holds c.args.files.now) c.args.name.now (g.F.Files.left c.open_tape.new.files)
    c.in_ok-tape.tape (c.in_ok-tape.ensures.opened told) c.in_ok-tape.ensures.state.slot_is)
    c.in_ok-tape.ensures.later (c.in-Err.ensures.counted told)
