use Rattle.fs_buckets.proofs.Words.{ap, ◌∙◌, splice}
use Rattle.std.proofs.IntoIterSteps.{All-taken}
use Rattle.fs_buckets.proofs.buckets.put_between.Goals as goal

pub returns : goal.returns
returns g c = let h = c.in_ok-splice.ensures.items in h.4 ∙ ap (splice c.args.items.now.items c.args.from c.args.to) (All-taken h.0 h.1 h.3 ∙ h.2.0)
