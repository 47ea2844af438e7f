use Rattle.std.{specs.Prelude.{not, ◌==◌}, proofs.{Common.{rules}, lemmas.Fn.{filter_same}}}
use Rattle.fs_recorder.specs.declared.door.Guest.{Guest}
use Rattle.fs_recorder.proofs.door.forget.Goals as goal

pub returns : goal.returns
returns c = filter_same _ (λ (guest : Guest). not (guest.line == c.args.line)) _ (λ x b f' k. search rules) _ _ c.retain.ensures.filtered
