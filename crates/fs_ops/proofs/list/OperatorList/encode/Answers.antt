use Rattle.fs_ops.proofs.{Words.{◌<◌, ◌^◌, List, ℕ, All, sym, subst, meant_bits, width_of}, Normal.{values_fit}}
use Rattle.fs_ops.proofs.list.OperatorList.encode.Goals as goal

pub write-requires : goal.write-requires
write-requires g c =
    let fit = λ (pairs : List (ℕ × ℕ)). All (λ (pair : ℕ × ℕ). pair.1 < 256 ^ width_of pair.0) pairs in
    subst fit (sym c.as_slice.ensures) (values_fit (meant_bits g.K.OfKind.KIND) c.self.inside.list c.self.invariant.normal)
