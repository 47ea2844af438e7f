use Rattle.std.proofs.Common.{ℕ, ◌<◌, ◌^◌, List, subst, sym, All}
use Rattle.fs_ops.{specs.Operator.{width_of, meant_bits}, proofs.Normal.{values_fit}}
use Rattle.fs_words.proofs.operators.print_operators.Goals as goal

pub print_list-requires : goal.print_list-requires
print_list-requires g c =
    subst (λ (l : List (ℕ × ℕ)). All (λ (pair : ℕ × ℕ). pair.1 < 256 ^ width_of pair.0) l) (sym c.pairs.ensures.value)
    (values_fit (meant_bits g.K.OfKind.KIND) c.args.list.now c.pairs.ensures.normal.normal)
