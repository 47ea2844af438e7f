use Rattle.fs_cli.proofs.Words.{◌⊎◌, ℕ, inl, inr, subst, sym, IsOneOf, Rose}
use Rattle.fs_cli.proofs.Checking.{file_said, file_unsaid, never_two, never_quiet, opens_said, said_possible}
use Rattle.cmd_stages.specs.Said.{said_shown}
use Rattle.fs_cli.specs.FileCheck.{ChecksFileSo, file_openings, file_shown, file_statuses}
use Rattle.fs_cli.proofs.file_check.check_file.Goals as goal

pub returns-in-Ok-clause-checks : goal.returns-in-Ok-clause-checks
returns-in-Ok-clause-checks g c = λ told.
    file_said c.args.limit (g.F.Files.holds c.args.files.now) (file_shown c.args.checked)
    (Rose (g.S.Sink.faults c.args.sink.now) (g.S.Sink.faults c.write_said.new.sink))
    (Rose (g.F.Files.faults c.args.files.now) (g.F.Files.faults c.say_of_file.new.files)
    ⊎ Rose (g.S.Sink.faults c.args.sink.now) (g.S.Sink.faults c.write_said.new.sink))
    (g.S.Sink.written c.args.sink.now) (g.S.Sink.written c.write_said.new.sink) (said_shown c.in-Ok.said) c.write_said.result
    (c.in-Ok.ensures.said told) c.write_said.ensures.answers (λ r. inr r)

pub returns-in-Err-clause-checks : goal.returns-in-Err-clause-checks
returns-in-Err-clause-checks g c = λ told.
    subst
    (λ (n : ℕ). ChecksFileSo c.args.limit (g.F.Files.holds c.args.files.now) (file_shown c.args.checked)
    (Rose (g.F.Files.faults c.args.files.now) (g.F.Files.faults c.say_of_file.new.files)
    ⊎ Rose (g.S.Sink.faults c.args.sink.now) (g.S.Sink.faults c.args.sink.now))
    (g.S.Sink.written c.args.sink.now) (g.S.Sink.written c.args.sink.now) n)
    (sym c.status.ensures)
    (file_unsaid c.args.limit (g.F.Files.holds c.args.files.now) (file_shown c.args.checked)
    (Rose (g.F.Files.faults c.args.files.now) (g.F.Files.faults c.say_of_file.new.files))
    (Rose (g.F.Files.faults c.args.files.now) (g.F.Files.faults c.say_of_file.new.files)
    ⊎ Rose (g.S.Sink.faults c.args.sink.now) (g.S.Sink.faults c.args.sink.now))
    (g.S.Sink.written c.args.sink.now) c.in-Err.refusal (c.in-Err.ensures.said told) (λ r. inl r))

pub returns-in-Ok-clause-possible : goal.returns-in-Ok-clause-possible
returns-in-Ok-clause-possible g c =
    said_possible (file_shown c.args.checked) c.in-Ok.said.status c.write_said.result c.in-Ok.ensures.possible c.write_said.ensures.late

pub returns-in-Err-clause-possible : goal.returns-in-Err-clause-possible
returns-in-Err-clause-possible g c = subst (IsOneOf (file_statuses (file_shown c.args.checked))) (sym c.status.ensures) c.in-Err.ensures.possible

pub returns-in-Ok-clause-known : goal.returns-in-Ok-clause-known
returns-in-Ok-clause-known g c =
    never_two (file_shown c.args.checked) c.write_said.result
    (said_possible (file_shown c.args.checked) c.in-Ok.said.status c.write_said.result c.in-Ok.ensures.possible c.write_said.ensures.late)

pub returns-in-Err-clause-known : goal.returns-in-Err-clause-known
returns-in-Err-clause-known g c =
    never_two (file_shown c.args.checked) c.status.result
    (subst (IsOneOf (file_statuses (file_shown c.args.checked))) (sym c.status.ensures) c.in-Err.ensures.possible)

pub returns-in-Ok-clause-quiet : goal.returns-in-Ok-clause-quiet
returns-in-Ok-clause-quiet g c = λ early. never_quiet c.in-Ok.said.status c.write_said.result c.in-Ok.ensures.accepted c.write_said.ensures.late early

pub returns-in-Ok-clause-opens : goal.returns-in-Ok-clause-opens
returns-in-Ok-clause-opens g c =
    opens_said (file_openings (file_shown c.args.checked)) _ _ c.in-Ok.said.status c.write_said.result c.in-Ok.ensures.opens
    c.in-Ok.ensures.accepted.0 c.write_said.ensures.late
