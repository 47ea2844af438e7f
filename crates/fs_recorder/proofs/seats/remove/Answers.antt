use Rattle.std.{specs.Prelude.{not, ◌==◌}, proofs.{Common.{rules}, lemmas.Fn.{filter_same}}}
use Rattle.fs_recorder.specs.declared.seats.Seat.{Seat}
use Rattle.fs_recorder.proofs.seats.remove.Goals as goal

pub returns : goal.returns
returns c = filter_same _ (λ (seat : Seat). not (seat.line == c.args.line)) _ (λ x b f' k. search rules) _ _ c.retain.ensures.filtered
