-- Equality of lists as `==` has it: equal operators and equal values, pair by pair.
use Rattle.std.specs.{Prelude.{◌≡◌, ℕ, Bool, true, false, ◌==◌, ◌&&◌, List}, Bool.{Decides}}
use Rattle.std.specs.Cmp.{IsEquivalence, unsigned_Decides, decided, Lexicographic.{pointwise, pointwise_decides}}

abbrev pub same_pair : ℕ × ℕ → ℕ × ℕ → Bool
same_pair a b = (a.0 == b.0) && (a.1 == b.1)

abbrev pub same_pairs : List (ℕ × ℕ) → List (ℕ × ℕ) → Bool
same_pairs = pointwise same_pair

-- lists are equal exactly where they are the same
abbrev pub OnlySame : Type 0
OnlySame = (a b : List (ℕ × ℕ)) → Decides (same_pairs a b) (a ≡ b)

pub both_decide : {P Q : Type 0} (s t : Bool) → Decides s P → Decides t Q → Decides (s && t) (P × Q)
both_decide true t a b = (λ e. (a.0 (cc), b.0 e), λ h. b.1 h.1)
both_decide false t a b = (λ e. absurd (cc), λ h. a.1 h.0)

pub same_pair_decides : (a b : ℕ × ℕ) → Decides (same_pair a b) (a ≡ b)
same_pair_decides a b =
    let parts = both_decide (a.0 == b.0) (a.1 == b.1) (unsigned_Decides a.0 b.0) (unsigned_Decides a.1 b.1) in
    (λ e. let s = parts.0 e in λ i. (s.0 i, s.1 i), λ e. parts.1 (λ i. (e i).0, λ i. (e i).1))

pub same_pairs_decides : OnlySame
same_pairs_decides = pointwise_decides same_pair_decides

pub same_pairs_law : IsEquivalence same_pairs
same_pairs_law = decided same_pairs same_pairs_decides
