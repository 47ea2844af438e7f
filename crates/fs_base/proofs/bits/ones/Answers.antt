use Rattle.fs_base.proofs.Words.{◌≡◌, ◌-◌, ◌^◌, ap, ◌∙◌, arith, ones_shr}
use Rattle.fs_base.proofs.bits.ones.Goals as goal

pub returns : goal.returns
returns c = ones_shr 128 (128 - c.args.count) (omega arith) ∙ (let e : 128 - (128 - c.args.count) ≡ c.args.count = omega arith in ap (λ k. 2 ^ k - 1) e)
