use Rattle.fs_cli.proofs.Words.{◌∙◌, ◌∷◌, [], ap, refl, sym, happened, with_wire, form_shown, subst, Form, Unopened, Wants, shown, StopsSo}
use Rattle.fs_cli.proofs.Words.{conversation}
use Rattle.fs_cli.proofs.Running.{enforce_as, one_but, one_of_session, opens_as, opens_none, runs_as, wants_changes, wants_enforce}
use Rattle.fs_cli.proofs.program.perform.Goals as goal

pub returns-in-Enforce-clause-runs : goal.returns-in-Enforce-clause-runs
returns-in-Enforce-clause-runs g c =
    let p = c.enforce.ensures.possible in
    runs_as _ _ _ _ _ (ap form_shown c.in-Enforce.is) c.answer_of.ensures.answered (one_but c.enforce.result (8 ∷ 10 ∷ []) (p.0, (p.1, tt)))
    c.enforce.ensures.enforces

pub returns-in-Enforce-clause-wanting : goal.returns-in-Enforce-clause-wanting
returns-in-Enforce-clause-wanting g c =
    wants_enforce c.args.job.limit (g.F.Files.holds c.args.files.now) c.enforce.result (ap form_shown c.in-Enforce.is) c.answer_of.ensures.answered
    c.enforce.ensures.unwritten

pub returns-in-Enforce-clause-unfinished : goal.returns-in-Enforce-clause-unfinished
returns-in-Enforce-clause-unfinished g c = λ told six config tape capture asked.
    enforce_as (λ config tape capture. Wants c.args.job.limit (g.F.Files.holds c.args.files.now) config tape capture
    (shown g.F.Files.opened g.F.Files.left c.args.files.now c.enforce.new.files)
    (happened g.F.Files g.S.Sink c.args.files.now c.enforce.new.files c.args.sink.now c.enforce.new.sink))
    (ap form_shown c.in-Enforce.is) asked (c.enforce.ensures.wanting told (sym c.answer_of.ensures.answered ∙ six))

pub returns-in-Enforce-clause-early : goal.returns-in-Enforce-clause-early
returns-in-Enforce-clause-early g c = λ told four config tape capture asked.
    enforce_as (λ config tape capture. Unopened config tape capture (g.F.Files.opened c.args.files.now) (g.F.Files.opened c.enforce.new.files))
    (ap form_shown c.in-Enforce.is) asked (c.enforce.ensures.unopened told (sym c.answer_of.ensures.answered ∙ four))

pub returns-in-Announce-clause-stopped : goal.returns-in-Announce-clause-stopped
returns-in-Announce-clause-stopped g c = λ told refusal stops.
    c.announce.ensures.stopped told refusal
    (subst (λ (f : Form). StopsSo c.args.job.limit (g.F.Files.holds c.args.files.now) f refusal) (ap form_shown c.in-Announce.is) stops)

pub returns-in-Listen-clause-stopped : goal.returns-in-Listen-clause-stopped
returns-in-Listen-clause-stopped g c = λ told refusal stops.
    c.listen.ensures.stopped told refusal
    (subst (λ (f : Form). StopsSo c.args.job.limit (g.F.Files.holds c.args.files.now) f refusal) (ap form_shown c.in-Listen.is) stops)

pub returns-in-Pair-clause-stopped : goal.returns-in-Pair-clause-stopped
returns-in-Pair-clause-stopped g c = λ told refusal stops.
    c.pair.ensures.stopped told refusal
    (subst (λ (f : Form). StopsSo c.args.job.limit (g.F.Files.holds c.args.files.now) f refusal) (ap form_shown c.in-Pair.is) stops)

pub returns-in-Survey-clause-runs : goal.returns-in-Survey-clause-runs
returns-in-Survey-clause-runs g c =
    let p = c.survey_tape.ensures.possible in
    runs_as _ _ _ _ _ (ap form_shown c.in-Survey.is) c.answer_of-in-Survey.ensures.answered
    (one_but c.survey_tape.result (5 ∷ 8 ∷ 10 ∷ []) (p.0, (p.1, (p.2, tt)))) c.survey_tape.ensures.lists

pub returns-in-Changes-clause-runs : goal.returns-in-Changes-clause-runs
returns-in-Changes-clause-runs g c =
    let p = c.tell_changes.ensures.possible in
    runs_as g.F.Files.tells c.args.job.limit (g.F.Files.holds c.args.files.now)
    (with_wire g.W.Wire c.args.wire.now c.args.wire.now
    (happened g.F.Files g.S.Sink c.args.files.now c.tell_changes.new.files c.args.sink.now c.tell_changes.new.sink))
    (conversation g.W.Wire g.C.Clock c.args.wire.now c.args.wire.now c.args.clock.now c.args.clock.now)
    (ap form_shown c.in-Changes.is) c.answer_of-in-Changes.ensures.answered (one_but c.tell_changes.result (5 ∷ 8 ∷ 10 ∷ []) (p.0, (p.1, (p.2, tt))))
    c.tell_changes.ensures.tells

pub returns-in-Changes-clause-wanting : goal.returns-in-Changes-clause-wanting
returns-in-Changes-clause-wanting g c = λ six tells none. wants_changes (ap form_shown c.in-Changes.is) tells

pub returns-in-Changes-clause-opens : goal.returns-in-Changes-clause-opens
returns-in-Changes-clause-opens g c = opens_as (ap form_shown c.in-Changes.is) c.answer_of-in-Changes.ensures.answered c.tell_changes.ensures.opens

pub returns-in-Convert-clause-runs : goal.returns-in-Convert-clause-runs
returns-in-Convert-clause-runs g c =
    let p = c.convert.ensures.possible in
    runs_as _ _ _ _ _ (ap form_shown c.in-Convert.is) c.answer_of-in-Convert.ensures.answered
    (one_but c.convert.result (4 ∷ 5 ∷ 8 ∷ []) (p.0, (p.1, (p.2, tt)))) c.convert.ensures.converts

pub returns-in-Check-clause-runs : goal.returns-in-Check-clause-runs
returns-in-Check-clause-runs g c =
    runs_as g.F.Files.tells c.args.job.limit (g.F.Files.holds c.args.files.now)
    (with_wire g.W.Wire c.args.wire.now c.args.wire.now (happened g.F.Files g.S.Sink c.args.files.now c.args.files.now c.args.sink.now c.run_check.new.sink))
    (conversation g.W.Wire g.C.Clock c.args.wire.now c.args.wire.now c.args.clock.now c.args.clock.now)
    (ap form_shown c.in-Check.is) refl c.run_check.ensures.possible c.run_check.ensures.checks

pub returns-in-CheckFile-clause-runs : goal.returns-in-CheckFile-clause-runs
returns-in-CheckFile-clause-runs g c =
    runs_as g.F.Files.tells c.args.job.limit (g.F.Files.holds c.args.files.now)
    (with_wire g.W.Wire c.args.wire.now c.args.wire.now
    (happened g.F.Files g.S.Sink c.args.files.now c.check_file.new.files c.args.sink.now c.check_file.new.sink))
    (conversation g.W.Wire g.C.Clock c.args.wire.now c.args.wire.now c.args.clock.now c.args.clock.now)
    (ap form_shown c.in-CheckFile.is) refl c.check_file.ensures.possible c.check_file.ensures.checks

pub returns-in-CheckFile-clause-opens : goal.returns-in-CheckFile-clause-opens
returns-in-CheckFile-clause-opens g c = opens_as (ap form_shown c.in-CheckFile.is) refl c.check_file.ensures.opens

pub returns-in-Gen-clause-runs : goal.returns-in-Gen-clause-runs
returns-in-Gen-clause-runs g c =
    let p = c.generate.ensures.late in
    runs_as g.F.Files.tells c.args.job.limit (g.F.Files.holds c.args.files.now)
    (with_wire g.W.Wire c.args.wire.now c.args.wire.now (happened g.F.Files g.S.Sink c.args.files.now c.args.files.now c.args.sink.now c.generate.new.sink))
    (conversation g.W.Wire g.C.Clock c.args.wire.now c.args.wire.now c.args.clock.now c.args.clock.now)
    (ap form_shown c.in-Gen.is) c.answer_of-in-Gen.ensures.answered
    (one_but c.generate.result (3 ∷ 4 ∷ 5 ∷ 7 ∷ 8 ∷ 10 ∷ []) (p.0, (p.1, (p.2, (p.3, (p.4, (p.5, tt))))))) c.generate.ensures.generates

pub returns-in-Announce-clause-runs : goal.returns-in-Announce-clause-runs
returns-in-Announce-clause-runs g c =
    runs_as _ _ _ _ _ (ap form_shown c.in-Announce.is) c.answer_of-in-Announce.ensures.answered
    (one_of_session c.announce.result c.announce.ensures.possible) c.announce.ensures.announces

pub returns-in-Listen-clause-runs : goal.returns-in-Listen-clause-runs
returns-in-Listen-clause-runs g c =
    runs_as _ _ _ _ _ (ap form_shown c.in-Listen.is) c.answer_of-in-Listen.ensures.answered (one_of_session c.listen.result c.listen.ensures.possible)
    c.listen.ensures.listens

pub returns-in-Pair-clause-runs : goal.returns-in-Pair-clause-runs
returns-in-Pair-clause-runs g c =
    runs_as _ _ _ _ _ (ap form_shown c.in-Pair.is) c.answer_of-in-Pair.ensures.answered (one_of_session c.pair.result c.pair.ensures.possible)
    c.pair.ensures.joins

pub returns-in-Enforce-clause-opens : goal.returns-in-Enforce-clause-opens
returns-in-Enforce-clause-opens g c = opens_as (ap form_shown c.in-Enforce.is) c.answer_of.ensures.answered c.enforce.ensures.opens

pub returns-in-Survey-clause-opens : goal.returns-in-Survey-clause-opens
returns-in-Survey-clause-opens g c = opens_as (ap form_shown c.in-Survey.is) c.answer_of-in-Survey.ensures.answered c.survey_tape.ensures.opens

pub returns-in-Convert-clause-opens : goal.returns-in-Convert-clause-opens
returns-in-Convert-clause-opens g c = opens_as (ap form_shown c.in-Convert.is) c.answer_of-in-Convert.ensures.answered c.convert.ensures.opens

pub returns-in-Announce-clause-opens : goal.returns-in-Announce-clause-opens
returns-in-Announce-clause-opens g c = opens_as (ap form_shown c.in-Announce.is) c.answer_of-in-Announce.ensures.answered c.announce.ensures.opens

pub returns-in-Listen-clause-opens : goal.returns-in-Listen-clause-opens
returns-in-Listen-clause-opens g c = opens_as (ap form_shown c.in-Listen.is) c.answer_of-in-Listen.ensures.answered c.listen.ensures.opens

pub returns-in-Pair-clause-opens : goal.returns-in-Pair-clause-opens
returns-in-Pair-clause-opens g c = opens_as (ap form_shown c.in-Pair.is) c.answer_of-in-Pair.ensures.answered c.pair.ensures.opens

pub returns-in-Check-clause-opens : goal.returns-in-Check-clause-opens
returns-in-Check-clause-opens g c = opens_none (g.F.Files.opened c.args.files.now) _ (ap form_shown c.in-Check.is) refl

pub returns-in-Gen-clause-opens : goal.returns-in-Gen-clause-opens
returns-in-Gen-clause-opens g c = opens_none (g.F.Files.opened c.args.files.now) _ (ap form_shown c.in-Gen.is) refl
