use Rattle.std.proofs.Common.{[], sym, subst}
use Rattle.fs_base.{proofs.Grew.{Grew-refl}, specs.declared.config.Config.{Config}}
use Rattle.fs_recorder.specs.Books.{Agrees}
use Rattle.fs_recorder.proofs.Doing.{handed_on, no_memory}
use Rattle.cmd_stages.proofs.Stages.{either_rose}
use Rattle.cmd_wire.proofs.{Recorded.{begins_at, filled_behind, filled_by_magic, recorded_behind}, RecordingEnds.{magic_broken, unbegun}}
use Rattle.cmd_wire.proofs.recording.follow.Goals as goal

pub returns-in_err-buffer-clause-records : goal.returns-in_err-buffer-clause-records
returns-in_err-buffer-clause-records g c = unbegun c.args.config.now _ _ _ (Grew-refl (g.G.Gate.turns c.args.gate.now))

pub returns-in_err-recorder-clause-records : goal.returns-in_err-recorder-clause-records
returns-in_err-recorder-clause-records g c = magic_broken c.args.config.now _ _ _ c.in_err-recorder.ensures.err

pub hear_all-requires-clause-stands : goal.hear_all-requires-clause-stands
hear_all-requires-clause-stands g c =
    begins_at c.args.config.now c.in_ok-recorder.recorder c.args.limit c.in_ok-recorder.ensures.config c.in_ok-recorder.ensures.begun
    c.in_ok-recorder.ensures.empty c.in_ok-recorder.ensures.stands c.in_ok-recorder.ensures.door

pub hear_all-requires-clause-agrees : goal.hear_all-requires-clause-agrees
hear_all-requires-clause-agrees g c =
    subst (λ (config : Config). Agrees config [] c.in_ok-recorder.recorder.books) (sym c.in_ok-recorder.ensures.config) c.in_ok-recorder.ensures.agrees

pub returns-clause-records : goal.returns-clause-records
returns-clause-records g c =
    recorded_behind _ c.args.config.now c.in_ok-recorder.recorder _ _ _ (g.S.Sink.written c.begin.new.sink) _ c.in_ok-recorder.ensures.config
    c.in_ok-recorder.ensures.written c.hear_all.ensures.continues

pub returns-clause-failed : goal.returns-clause-failed
returns-clause-failed g c = λ e.
    either_rose _ (g.S.Sink.faults c.begin.new.sink) _ _ c.in_ok-recorder.ensures.later (c.hear_all.ensures.failed e)

pub returns-in_err-buffer-clause-full : goal.returns-in_err-buffer-clause-full
returns-in_err-buffer-clause-full g c = λ limited. absurd (no_memory c.from_residual.result c.from_residual.ensures.1 limited)

pub returns-in_err-recorder-clause-full : goal.returns-in_err-recorder-clause-full
returns-in_err-recorder-clause-full g c = λ limited.
    filled_by_magic c.args.limit c.args.config.now _
    (c.in_err-recorder.ensures.limit
    (handed_on c.in_err-recorder.field-0.0 c.from_residual-in_err-recorder.result c.from_residual-in_err-recorder.ensures.1 limited))

pub returns-clause-full : goal.returns-clause-full
returns-clause-full g c =
    filled_behind c.args.limit c.args.config.now c.in_ok-recorder.recorder _ _ (g.S.Sink.written c.begin.new.sink) _ c.in_ok-recorder.ensures.config
    c.in_ok-recorder.ensures.begun c.hear_all.ensures.continues
