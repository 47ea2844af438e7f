use Rattle.std.proofs.{Common.{rules}, lemmas.Fn.{filter_same}}
use Rattle.fs_recorder.specs.{Door.{has_time}, declared.door.Guest.{Guest}}
use Rattle.fs_recorder.proofs.door.forget_late.Goals as goal

pub returns : goal.returns
returns c = filter_same _ (λ (guest : Guest). has_time c.args.time guest) _ (λ x b f' k. search rules) _ _ c.retain.ensures.filtered
