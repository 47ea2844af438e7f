-- The addresses of a rule's destination are those of a prefix, and have the width of its family.
use Rattle.fs_buckets.proofs.Words.{◌≡◌, ◌∙◌, ℕ, zero, suc, ◌+◌, ◌-◌, ◌^◌, ◌<◌, ◌≤◌, sym, subst, Some, List, [], ◌∷◌, pow_pos, arith, AllByRecursion}
use Rattle.fs_buckets.proofs.Words.{none-some, Family, IsBlock, width_of, block_of, IsMade, last_shown, Listed, family_of_destination, IsSubnet}
use Rattle.fs_buckets.proofs.Words.{IsOfFamily, span_of, spans_of, AreNarrow}
use Rattle.fs_buckets.proofs.Destinations.{HasDestination, from_span, made_destination}

span_narrow : (family : Family) (r : Listed) (s : ℕ × ℕ) → IsOfFamily family r → span_of r.rule ≡ Some s
    → (s.0 < 2 ^ width_of family) × (s.1 < 2 ^ width_of family) × IsSubnet s.0 s.1
span_narrow family r s own e =
    subst (λ (x : ℕ × ℕ). (x.0 < 2 ^ width_of family) × (x.1 < 2 ^ width_of family) × IsSubnet x.0 x.1) (sym from.span)
    (subst (λ f. (from.d.1 < 2 ^ width_of f) × (last_shown from.d < 2 ^ width_of f) × IsSubnet from.d.1 (last_shown from.d)) same below) where
      from : HasDestination r.rule s
      from = from_span r.rule s e

      made : IsMade (Some from.d)
      made = made_destination r.rule from.d own.rule from.is

      same : from.d.0 ≡ family
      same = family_of_destination r.rule from.d own.rule from.is ∙ own.same

      block : IsBlock (width_of from.d.0) from.d.2 from.d.1
      block = block_of (width_of from.d.0) from.d.2 from.d.1 made.0 made.1

      below : (from.d.1 < 2 ^ width_of from.d.0) × (last_shown from.d < 2 ^ width_of from.d.0) × IsSubnet from.d.1 (last_shown from.d)
      below =
          let within : from.d.1 + 2 ^ (width_of from.d.0 - from.d.2) ≤ 2 ^ width_of from.d.0 = block.within in
          let some : 0 < 2 ^ (width_of from.d.0 - from.d.2) = pow_pos (width_of from.d.0 - from.d.2) in (
            omega (arith, within, some),
            omega (arith, within, some),
            record { count = block.count; host = width_of from.d.0 - from.d.2; begins = block.spelled; ends = omega (arith, some) },
          )

pub narrow : (family : Family) (rs : List Listed) → AllByRecursion (IsOfFamily family) rs → AreNarrow (width_of family) (spans_of rs)
narrow family [] each k s e = absurd (none-some s e)
narrow family (r ∷ rs) each zero s e = span_narrow family r s each.0 e
narrow family (r ∷ rs) each (suc k) s e = narrow family rs each.1 k s e
