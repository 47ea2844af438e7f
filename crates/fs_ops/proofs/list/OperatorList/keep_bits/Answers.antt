use Rattle.fs_ops.proofs.{Words.{sym, subst, IsNormal}, Normal.{kept_is_normal}}
use Rattle.fs_ops.proofs.list.OperatorList.keep_bits.Goals as goal

pub invariant_of-self : goal.invariant_of-self
invariant_of-self g c =
    subst (IsNormal g.K.OfKind.KIND) (sym c.keep_bits.ensures) (kept_is_normal g.K.OfKind.KIND c.args.bits c.self.inside.list c.self.invariant)
