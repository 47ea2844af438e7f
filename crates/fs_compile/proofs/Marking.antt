-- Bits that are set where no other is cleared, for more and more of a run's rules.
use Rattle.fs_compile.proofs.Words.{◌≡◌, ℕ, ◌+◌, ◌*◌, ◌/◌, ◌%◌, ◌^◌, ◌<◌, ◌≤◌, ◌⊎◌, inl, inr, max, refl, sym, subst, ◌∙◌, Bool, true, false}
use Rattle.fs_compile.proofs.Words.{true≢false, ◌||◌, bit_or, set, take, List, get_or, length, w64, arith, bit_at, cases_lt, cases_order, get_or-map}
use Rattle.fs_compile.proofs.Words.{get_or-set_other, get_or-set_same, length-set, bit_at-lt, bit_at_or, bit_at_set_same, Fast, IsMarked}
use Rattle.fs_compile.proofs.Words.{AreRowsOf, Grown, bit_in, Facts, facts_hold, hits, contains, is_in}
use Rattle.std.proofs.lemmas.List.Folds.{list_any_more}

abbrev pub with_bit : ℕ → ℕ → ℕ
with_bit n bit = bit_or n (1 * 2 ^ bit % 18446744073709551616)

kept_bit : (n m i : ℕ) → bit_at n i ≡ 1 → bit_at (bit_or n m) i ≡ 1
kept_bit n m i h = bit_at_or n m i ∙ at (bit_at n i) (bit_at m i) h (bit_at-lt m i) where
  at : (a b : ℕ) → a ≡ 1 → b < 2 → max a b ≡ 1
  at a b e small = omega (arith, e, small)

pub set_grows : (rows : List ℕ) (word bit : ℕ) → word < length rows → Grown rows (set rows word (with_bit (get_or rows word 0) bit))
set_grows rows word bit inside = record {
  size = length-set rows word (with_bit (get_or rows word 0) bit);
  kept = λ w i h. by w i (cases_order w word) h;
} where
  other : (w i : ℕ) → (w ≡ word → ⊥) → bit_at (get_or rows w 0) i ≡ 1 → bit_at (get_or (set rows word (with_bit (get_or rows word 0) bit)) w 0) i ≡ 1
  other w i apart h = subst (λ (n : ℕ). bit_at n i ≡ 1) (sym (get_or-set_other rows word w (with_bit (get_or rows word 0) bit) 0 apart)) h

  by : (w i : ℕ) → (w ≡ word) ⊎ ((w < word) ⊎ (word < w)) → bit_at (get_or rows w 0) i ≡ 1
      → bit_at (get_or (set rows word (with_bit (get_or rows word 0) bit)) w 0) i ≡ 1
  by w i (inl same) h =
      subst (λ (v : ℕ). bit_at (get_or (set rows word (with_bit (get_or rows word 0) bit)) v 0) i ≡ 1) (sym same)
      (subst (λ (n : ℕ). bit_at n i ≡ 1) (sym (get_or-set_same rows word (with_bit (get_or rows word 0) bit) 0 inside))
      (kept_bit (get_or rows word 0) (1 * 2 ^ bit % 18446744073709551616) i (subst (λ (v : ℕ). bit_at (get_or rows v 0) i ≡ 1) same h)))
  by w i (inr (inl less)) h = other w i (λ same. omega (arith, same, less)) h
  by w i (inr (inr more)) h = other w i (λ same. omega (arith, same, more)) h

pub set_there : (rows : List ℕ) (word bit : ℕ) → word < length rows → bit < 64
    → bit_at (get_or (set rows word (with_bit (get_or rows word 0) bit)) word 0) bit ≡ 1
set_there rows word bit inside small =
    subst (λ (n : ℕ). bit_at n bit ≡ 1) (sym (get_or-set_same rows word (with_bit (get_or rows word 0) bit) 0 inside))
    (bit_at_set_same w64 (get_or rows word 0) bit small)

pub grown_on : (a b c : List ℕ) → Grown a b → Grown b c → Grown a c
grown_on a b c first second = record {
  size = second.size ∙ first.size;
  kept = λ word bit h. second.kept word bit (first.kept word bit h);
}

pub shaped_on : (bounds rows new : List ℕ) (words : ℕ) → AreRowsOf bounds rows words → Grown rows new → AreRowsOf bounds new words
shaped_on bounds rows new words shaped grown = record { rising = shaped.rising; size = grown.size ∙ shaped.size }

-- Of a rule's ranges one more is marked.
pub range_more : (bounds rows new : List ℕ) (words rule i : ℕ) (ranges : List (ℕ × ℕ)) (range : ℕ × ℕ) → i < length ranges → Grown rows new
    → IsMarked bounds rows words rule (contains (take i ranges)) → IsMarked bounds new words rule (λ n. is_in n (get_or ranges i range))
    → IsMarked bounds new words rule (contains (take (i + 1) ranges))
range_more bounds rows new words rule i ranges range inside grown before here number class h classed =
    by (contains (take i ranges) number) (is_in number (get_or ranges i range)) refl refl (sym (list_any_more (is_in number) ranges i range inside) ∙ h) where
      by : (a b : Bool) → contains (take i ranges) number ≡ a → is_in number (get_or ranges i range) ≡ b → (a || b) ≡ true → bit_in new words class rule ≡ 1
      by true b e f t = grown.kept (class * words + rule / 64) (rule % 64) (before number class e classed)
      by false true e f t = here number class f classed
      by false false e f t = absurd (true≢false (sym t))

-- What holds before a number and at it holds before the next.
pub one_more : (P : ℕ → Type 0) (number k : ℕ) → k < number + 1 → (k < number → P k) → P number → P k
one_more P number k below before here = by (cases_lt k number) where
  by : (k < number) ⊎ (number ≤ k) → P k
  by (inl earlier) = before earlier
  by (inr later) = subst P (let e : number ≡ k = omega (arith, later, below) in e) here

-- A rule holds whose test is passed.
pub rule_holds : (rules : List Fast) (number : ℕ) (fast : Fast) (facts : Facts) → number < length rules
    → get_or (hits facts rules) number false ≡ true → facts_hold facts (get_or rules number fast) ≡ true
rule_holds rules number fast facts inside hit = sym (get_or-map (facts_hold facts) rules number fast false inside) ∙ hit

-- one of two is set, and stays so
pub either_on : (a b c d : ℕ) → c < 2 → d < 2 → (a ≡ 1 → c ≡ 1) → (b ≡ 1 → d ≡ 1) → max a b ≡ 1 → max c d ≡ 1
either_on a b c d small less f g h = by (cases_lt b a) where
  by : (b < a) ⊎ (a ≤ b) → max c d ≡ 1
  by (inl first) = let e : c ≡ 1 = f (omega (arith, first, h)) in omega (arith, e, less)
  by (inr second) = let e : d ≡ 1 = g (omega (arith, second, h)) in omega (arith, e, small)

-- one of two is set where either stands for it
pub either_here : (x y : Bool) (a b : ℕ) → a < 2 → b < 2 → (x ≡ true → b ≡ 1) → (y ≡ true → a ≡ 1) → (x || y) ≡ true → max a b ≡ 1
either_here true y a b small less f g h = let e : b ≡ 1 = f refl in omega (arith, e, small)
either_here false true a b small less f g h = let e : a ≡ 1 = g refl in omega (arith, e, less)
either_here false false a b small less f g h = absurd (true≢false (sym h))
