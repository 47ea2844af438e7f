use Rattle.fs_buckets.proofs.Words.{◌≡◌, ℕ, ◌-◌, refl, sym, subst, Option, Some, None, none-some, same_Some, Family, Ruled, IsRule, destination_of}
use Rattle.fs_buckets.proofs.Words.{IsMade, made_parts, last_shown, span_by, span_of}

-- A rule's destination by its first and last address.

pub made_destination : (rule : Ruled) (d : Family × ℕ × ℕ) → IsRule rule → destination_of rule ≡ Some d → IsMade (Some d)
made_destination rule d h e = subst IsMade e (made_parts rule.family rule.parts h.normal)

pub record HasDestination (rule : Ruled) (p : ℕ × ℕ) : Type 0 where
  pub d : Family × ℕ × ℕ
  pub is : destination_of rule ≡ Some d
  pub span : p ≡ (d.1, last_shown d)

pub from_span : (rule : Ruled) (p : ℕ × ℕ) → span_of rule ≡ Some p → HasDestination rule p
from_span rule p s = at (destination_of rule) refl s where
  at : (o : Option (Family × ℕ × ℕ)) → destination_of rule ≡ o → span_by o ≡ Some p → HasDestination rule p
  at None e g = absurd (none-some p g)
  at (Some d) e g = record { d = d; is = e; span = sym (same_Some (d.1, last_shown d) p g) }
