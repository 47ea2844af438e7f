-- The walk over the keys that are related to a prefix: first those under it, one after the other, and behind them those
-- that cover it.
use Rattle.std.proofs.Common.{is_lt}
use Rattle.fs_flows.proofs.Words.{ℕ, ◌≡◌, ◌+◌, ◌<◌, ◌≤◌, ◌⊎◌, inl, inr, refl, sym, ap, subst, ◌∙◌, Bool, true, false, true≢false, ◌&&◌, ◌||◌, cond}
use Rattle.fs_flows.proofs.Words.{List, [], ◌∷◌, Option, Some, None, Ordering, Less, Equal, Greater, is_eq, is_le, arith, list_any, AllByRecursion}
use Rattle.fs_flows.proofs.Words.{is_at, range_contains, entries_between, Included, Excluded, Unbounded, keys_of, MatchOption, ordering_reverse}
use Rattle.fs_flows.proofs.Words.{tied_itself, and_both, and_first, and_second, false_from, or_either, or_first, or_second, same_tests, and_true}
use Rattle.fs_flows.proofs.Words.{Prefix, covers, prefix_cmp, prefix_total, covers_fact, covered_before, between_covered, same_family, covers_self}
use Rattle.fs_flows.proofs.Words.{alike_covers, covers_same_length, same_from_cmp, each, each_weaker, filter_first, filter_empty, IsLeast, is_related}
use Rattle.fs_flows.proofs.Words.{Entry, AreInOrder, AreNoShorter, is_before, IsNextAfter, IsNextRelated, Config, Route, Mends, Progress}
use Rattle.fs_flows.proofs.Mending.{Same, along_keys, mends_both, mends_on}
use Rattle.fs_unicast.proofs.Fronts.{upto_upto}
use Rattle.fs_base.specs.Search.{IsFirst, IsFirstFrom}

-- The order of prefixes by its tests.
le_or_lt : (p q : Prefix) → is_le (prefix_cmp p q) ≡ false → is_lt (prefix_cmp q p) ≡ true
le_or_lt p q h = at (prefix_cmp p q) refl h where
  at : (o : Ordering) → prefix_cmp p q ≡ o → is_le o ≡ false → is_lt (prefix_cmp q p) ≡ true
  at Less e g = absurd (true≢false g)
  at Equal e g = absurd (true≢false g)
  at Greater e g = ap is_lt (prefix_total.antisymm q p ∙ ap ordering_reverse e)

lt_not_le : (p q : Prefix) → is_lt (prefix_cmp q p) ≡ true → is_le (prefix_cmp p q) ≡ true → ⊥
lt_not_le p q h k = at (prefix_cmp q p) refl h where
  at : (o : Ordering) → prefix_cmp q p ≡ o → is_lt o ≡ true → ⊥
  at Less e g = true≢false (sym k ∙ ap is_le (prefix_total.antisymm p q ∙ ap ordering_reverse e))
  at Equal e g = true≢false (sym g)
  at Greater e g = true≢false (sym g)

-- not before is after or at
not_lt_le : (p q : Prefix) → is_lt (prefix_cmp q p) ≡ false → is_le (prefix_cmp p q) ≡ true
not_lt_le p q h = at (is_le (prefix_cmp p q)) refl where
  at : (b : Bool) → is_le (prefix_cmp p q) ≡ b → is_le (prefix_cmp p q) ≡ true
  at true e = e
  at false e = absurd (true≢false (sym (le_or_lt p q e) ∙ h))

lt_le : (p q : Prefix) → is_lt (prefix_cmp p q) ≡ true → is_le (prefix_cmp p q) ≡ true
lt_le p q h = at (prefix_cmp p q) h where
  at : (o : Ordering) → is_lt o ≡ true → is_le o ≡ true
  at Less g = refl
  at Equal g = absurd (true≢false (sym g))
  at Greater g = absurd (true≢false (sym g))

eq_le : (p q : Prefix) → is_eq (prefix_cmp p q) ≡ true → is_le (prefix_cmp p q) ≡ true
eq_le p q h = at (prefix_cmp p q) h where
  at : (o : Ordering) → is_eq o ≡ true → is_le o ≡ true
  at Less g = absurd (true≢false (sym g))
  at Equal g = refl
  at Greater g = absurd (true≢false (sym g))

le_cases : (p q : Prefix) → is_le (prefix_cmp p q) ≡ true → (is_lt (prefix_cmp p q) ≡ true) ⊎ (is_eq (prefix_cmp p q) ≡ true)
le_cases p q h = at (prefix_cmp p q) h where
  at : (o : Ordering) → is_le o ≡ true → (is_lt o ≡ true) ⊎ (is_eq o ≡ true)
  at Less g = inl refl
  at Equal g = inr refl
  at Greater g = absurd (true≢false (sym g))

itself : (p : Prefix) → prefix_cmp p p ≡ Equal
itself p = tied_itself prefix_total p

pub first_in_range : (low : Prefix) (es : List Entry) → AreInOrder es → (found : List Entry) (x : Entry) (rest : List Entry)
    → found ≡ entries_between prefix_cmp (Included low) Unbounded es → found ≡ x ∷ rest → IsFirst (λ e. e.0) es low x.0
first_in_range low es sorted found x rest e k = record {
  there = first.there;
  from = sym (and_true (is_le (prefix_cmp low x.0))) ∙ first.passes;
  least = each_weaker (λ r. range_contains prefix_cmp (Included low) Unbounded r.0 ≡ true
      → is_le (prefix_cmp x.0 r.0) ≡ true) (λ r. is_le (prefix_cmp low r.0) ≡ true → is_le (prefix_cmp x.0 r.0) ≡ true)
      (λ r h f. h (and_true (is_le (prefix_cmp low r.0)) ∙ f)) es first.least;
} where
  first : IsLeast prefix_cmp (range_contains prefix_cmp (Included low) Unbounded) es x.0
  first = filter_first prefix_cmp itself (range_contains prefix_cmp (Included low) Unbounded) es sorted x rest (sym e ∙ k)

pub none_in_range : (low : Prefix) (es found : List Entry) → found ≡ entries_between prefix_cmp (Included low) Unbounded es → found ≡ []
    → AllByRecursion (λ e. is_le (prefix_cmp low e.0) ≡ false) es
none_in_range low es found e k = each_weaker (λ r. range_contains prefix_cmp (Included low) Unbounded r.0 ≡ false) (λ r. is_le (prefix_cmp low r.0) ≡ false)
    (λ r h. sym (and_true (is_le (prefix_cmp low r.0))) ∙ h) es (filter_empty (λ r. range_contains prefix_cmp (Included low) Unbounded r.0) es (sym e ∙ k))

-- the next key behind a key
after_test : (low q : Prefix) → range_contains prefix_cmp (Excluded low) Unbounded q ≡ is_lt (prefix_cmp low q)
after_test low q = and_true (is_lt (prefix_cmp low q))

pub next_in_range : (low : Prefix) (es : List Entry) → AreInOrder es → (found : List Entry) (x : Entry) (rest : List Entry)
    → found ≡ entries_between prefix_cmp (Excluded low) Unbounded es → found ≡ x ∷ rest → IsNextAfter es low (Some x.0)
next_in_range low es sorted found x rest e k = record {
  there = first.there;
  from = beyond;
  before = each_weaker (λ r. range_contains prefix_cmp (Excluded low) Unbounded r.0 ≡ true
      → is_le (prefix_cmp x.0 r.0) ≡ true) (λ r. is_lt (prefix_cmp r.0 x.0) ≡ is_le (prefix_cmp r.0 low))
      (λ r h. same_tests (is_lt (prefix_cmp r.0 x.0)) (is_le (prefix_cmp r.0 low)) (there r h) (back r)) es first.least;
} where
  first : IsLeast prefix_cmp (range_contains prefix_cmp (Excluded low) Unbounded) es x.0
  first = filter_first prefix_cmp itself (range_contains prefix_cmp (Excluded low) Unbounded) es sorted x rest (sym e ∙ k)

  beyond : is_lt (prefix_cmp low x.0) ≡ true
  beyond = sym (after_test low x.0) ∙ first.passes

  there : (r : Entry) → (range_contains prefix_cmp (Excluded low) Unbounded r.0 ≡ true → is_le (prefix_cmp x.0 r.0) ≡ true)
      → is_lt (prefix_cmp r.0 x.0) ≡ true → is_le (prefix_cmp r.0 low) ≡ true
  there r h less = at (is_le (prefix_cmp r.0 low)) refl where
    at : (b : Bool) → is_le (prefix_cmp r.0 low) ≡ b → is_le (prefix_cmp r.0 low) ≡ true
    at true f = f
    at false f = absurd (lt_not_le x.0 r.0 less (h (after_test low r.0 ∙ le_or_lt r.0 low f)))

  back : (r : Entry) → is_le (prefix_cmp r.0 low) ≡ true → is_lt (prefix_cmp r.0 x.0) ≡ true
  back r f = at (is_lt (prefix_cmp r.0 x.0)) refl where
    at : (b : Bool) → is_lt (prefix_cmp r.0 x.0) ≡ b → is_lt (prefix_cmp r.0 x.0) ≡ true
    at true g = g
    at false g = absurd (lt_not_le x.0 low beyond (upto_upto x.0 r.0 low (not_lt_le x.0 r.0 g) f))

pub no_next_in_range : (low : Prefix) (es found : List Entry) → found ≡ entries_between prefix_cmp (Excluded low) Unbounded es → found ≡ []
    → IsNextAfter es low None
no_next_in_range low es found e k = record {
  there = tt;
  from = tt;
  before = each_weaker (λ r. range_contains prefix_cmp (Excluded low) Unbounded r.0 ≡ false) (λ r. true ≡ is_le (prefix_cmp r.0 low))
      (λ r h. sym (at r h)) es (filter_empty (λ r. range_contains prefix_cmp (Excluded low) Unbounded r.0) es (sym e ∙ k));
} where
  at : (r : Entry) → range_contains prefix_cmp (Excluded low) Unbounded r.0 ≡ false → is_le (prefix_cmp r.0 low) ≡ true
  at r h = go (is_le (prefix_cmp r.0 low)) refl where
    go : (b : Bool) → is_le (prefix_cmp r.0 low) ≡ b → is_le (prefix_cmp r.0 low) ≡ true
    go true f = f
    go false f = absurd (true≢false (sym (after_test low r.0 ∙ le_or_lt r.0 low f) ∙ h))

-- Where the walk begins: `first` is the first prefix under p.
abbrev pub IsRange : (p first : Prefix) → Type 0
IsRange p first = (q : Prefix) → covers p q ≡ (is_le (prefix_cmp first q) && is_le (prefix_cmp q p))

-- all that is related to p comes from there on
related_from : (p first q : Prefix) → IsRange p first → is_related p q ≡ true → is_le (prefix_cmp first q) ≡ true
related_from p first q law h = at (or_either (covers q p) (covers p q) h) where
  at : (covers q p ≡ true) ⊎ (covers p q ≡ true) → is_le (prefix_cmp first q) ≡ true
  at (inl f) = upto_upto first p q (and_first (is_le (prefix_cmp first p)) (is_le (prefix_cmp p p)) (sym (law p) ∙ covers_self p)) (covered_before q p f)
  at (inr f) = and_first (is_le (prefix_cmp first q)) (is_le (prefix_cmp q p)) (sym (law q) ∙ f)

-- those that are done
abbrev pub done : Prefix → Option Prefix → Prefix → Bool
done p next q = is_related p q && is_before next q

-- what comes next lies under p, or behind all that does
abbrev pub IsFrom : Prefix → Option Prefix → Type 0
IsFrom p next = MatchOption next (Unit {0}) (λ n. is_le (prefix_cmp n p) ≡ true → covers p n ≡ true)

-- behind a key
abbrev pub IsBehind : Prefix → Option Prefix → Type 0
IsBehind n next = MatchOption next (Unit {0}) (λ m. is_lt (prefix_cmp n m) ≡ true)

-- at the start none
pub none_done : (p first : Prefix) (next : Option Prefix) (es : List Entry) → IsRange p first → IsFirstFrom (λ e. e.0) es first next
    → AllByRecursion (λ e. done p next e.0 ≡ false) es
none_done p first None es law h =
    each_weaker (λ e. is_le (prefix_cmp first e.0) ≡ false) (λ e. done p None e.0 ≡ false)
    (λ e f. false_from (done p None e.0) (λ g. true≢false (sym (related_from p first e.0 law (and_first (is_related p e.0) true g)) ∙ f))) es h
none_done p first (Some n) es law h =
    each_weaker (λ e. is_le (prefix_cmp first e.0) ≡ true → is_le (prefix_cmp n e.0) ≡ true) (λ e. done p (Some n) e.0 ≡ false)
    (λ e f. false_from (done p (Some n) e.0)
    (λ g. lt_not_le n e.0 (and_second (is_related p e.0) (is_lt (prefix_cmp e.0 n)) g)
    (f (related_from p first e.0 law (and_first (is_related p e.0) (is_lt (prefix_cmp e.0 n)) g))))) es h.least

pub from_first : (p first : Prefix) (next : Option Prefix) (es : List Entry) → IsRange p first → IsFirstFrom (λ e. e.0) es first next → IsFrom p next
from_first p first None es law h = tt
from_first p first (Some n) es law h = λ le. law n ∙ and_both (is_le (prefix_cmp first n)) (is_le (prefix_cmp n p)) h.from le

-- at the end all
pub all_done : (p : Prefix) (es : List Entry) → AllByRecursion (Same (done p None) (is_related p)) es
all_done p es = each (Same (done p None) (is_related p)) (λ e. and_true (is_related p e.0)) es

-- one more
apart_now : (p n : Prefix) (es : List Entry) → AllByRecursion (λ e. (done p (Some n) e.0 && is_at (prefix_cmp n) e.0) ≡ false) es
apart_now p n es = each (λ e. (done p (Some n) e.0 && is_at (prefix_cmp n) e.0) ≡ false)
    (λ e. false_from (done p (Some n) e.0 && is_at (prefix_cmp n) e.0)
    (λ h. lt_not_le n e.0 (and_second (is_related p e.0) (is_lt (prefix_cmp e.0 n)) (and_first (done p (Some n) e.0) (is_at (prefix_cmp n) e.0) h))
    (eq_le n e.0 (and_second (done p (Some n) e.0) (is_at (prefix_cmp n) e.0) h)))) es

equal_upto : (p q : Prefix) → is_eq (prefix_cmp p q) ≡ true → is_le (prefix_cmp q p) ≡ true
equal_upto p q h = subst (λ r. is_le (prefix_cmp r p) ≡ true) (same_from_cmp p q h) (ap is_le (itself p))

equal_back : (p q : Prefix) → is_eq (prefix_cmp p q) ≡ true → is_eq (prefix_cmp q p) ≡ true
equal_back p q h = subst (λ r. is_eq (prefix_cmp r p) ≡ true) (same_from_cmp p q h) (ap is_eq (itself p))

one_more_done : (p n : Prefix) (next : Option Prefix) (es : List Entry) → is_related p n ≡ true → IsNextRelated es p n next
    → AllByRecursion (Same (λ q. done p (Some n) q || is_at (prefix_cmp n) q) (done p next)) es
one_more_done p n next es inside h =
    each_weaker (λ e. is_related p e.0 ≡ true
    → is_before next e.0 ≡ is_le (prefix_cmp e.0 n)) (Same (λ q. done p (Some n) q || is_at (prefix_cmp n) q) (done p next))
    (λ e f. same_tests (done p (Some n) e.0 || is_at (prefix_cmp n) e.0) (done p next e.0) (there e f) (back e f)) es h.before where
      there : (e : Entry) → (is_related p e.0 ≡ true → is_before next e.0 ≡ is_le (prefix_cmp e.0 n))
          → (done p (Some n) e.0 || is_at (prefix_cmp n) e.0) ≡ true → done p next e.0 ≡ true
      there e f g = at (or_either (done p (Some n) e.0) (is_at (prefix_cmp n) e.0) g) where
        at : (done p (Some n) e.0 ≡ true) ⊎ (is_at (prefix_cmp n) e.0 ≡ true) → done p next e.0 ≡ true
        at (inl d) = let related = and_first (is_related p e.0) (is_lt (prefix_cmp e.0 n)) d in
            and_both (is_related p e.0) (is_before next e.0) related (f related ∙ lt_le e.0 n (and_second (is_related p e.0) (is_lt (prefix_cmp e.0 n)) d))
        at (inr d) = let related = subst (λ q. is_related p q ≡ true) (same_from_cmp n e.0 d) inside in
            and_both (is_related p e.0) (is_before next e.0) related (f related ∙ equal_upto n e.0 d)

      back : (e : Entry) → (is_related p e.0 ≡ true → is_before next e.0 ≡ is_le (prefix_cmp e.0 n)) → done p next e.0 ≡ true
          → (done p (Some n) e.0 || is_at (prefix_cmp n) e.0) ≡ true
      back e f g = at (le_cases e.0 n (sym (f (and_first (is_related p e.0) (is_before next e.0) g))
          ∙ and_second (is_related p e.0) (is_before next e.0) g)) where
            at : (is_lt (prefix_cmp e.0 n) ≡ true) ⊎ (is_eq (prefix_cmp e.0 n) ≡ true) → (done p (Some n) e.0 || is_at (prefix_cmp n) e.0) ≡ true
            at (inl d) = or_first (done p (Some n) e.0) (is_at (prefix_cmp n) e.0)
                (and_both (is_related p e.0) (is_lt (prefix_cmp e.0 n)) (and_first (is_related p e.0) (is_before next e.0) g) d)
            at (inr d) = or_second (done p (Some n) e.0) (is_at (prefix_cmp n) e.0) (equal_back e.0 n d)

-- none, where the key isn't related to p
none_between : (p n : Prefix) (next : Option Prefix) (es : List Entry) → is_related p n ≡ false → IsNextRelated es p n next
    → AllByRecursion (Same (done p (Some n)) (done p next)) es
none_between p n next es apart h =
    each_weaker (λ e. is_related p e.0 ≡ true → is_before next e.0 ≡ is_le (prefix_cmp e.0 n)) (Same (done p (Some n)) (done p next))
    (λ e f. same_tests (done p (Some n) e.0) (done p next e.0) (there e f) (back e f)) es h.before where
      there : (e : Entry) → (is_related p e.0 ≡ true → is_before next e.0 ≡ is_le (prefix_cmp e.0 n)) → done p (Some n) e.0 ≡ true → done p next e.0 ≡ true
      there e f g = and_both (is_related p e.0) (is_before next e.0) related (f related
          ∙ lt_le e.0 n (and_second (is_related p e.0) (is_lt (prefix_cmp e.0 n)) g)) where
            related : is_related p e.0 ≡ true
            related = and_first (is_related p e.0) (is_lt (prefix_cmp e.0 n)) g

      back : (e : Entry) → (is_related p e.0 ≡ true → is_before next e.0 ≡ is_le (prefix_cmp e.0 n)) → done p next e.0 ≡ true → done p (Some n) e.0 ≡ true
      back e f g = at (le_cases e.0 n (sym (f related) ∙ and_second (is_related p e.0) (is_before next e.0) g)) where
        related : is_related p e.0 ≡ true
        related = and_first (is_related p e.0) (is_before next e.0) g

        at : (is_lt (prefix_cmp e.0 n) ≡ true) ⊎ (is_eq (prefix_cmp e.0 n) ≡ true) → done p (Some n) e.0 ≡ true
        at (inl d) = and_both (is_related p e.0) (is_lt (prefix_cmp e.0 n)) related d
        at (inr d) = absurd (true≢false (sym (subst (λ q. is_related p q ≡ true) (same_from_cmp e.0 n d) related) ∙ apart))

-- of the keys, so of the entries
entries_of_keys : (P : Prefix → Type 0) (es : List Entry) → AllByRecursion P (keys_of es) → AllByRecursion (λ e. P e.0) es
entries_of_keys P [] h = tt
entries_of_keys P (e ∷ es) h = (h.0, entries_of_keys P es h.1)

-- Where the walk goes on behind a key that isn't related to p: such a key stands behind p.
pub behind_now : (p n : Prefix) → IsFrom p (Some n) → covers p n ≡ false → is_le (prefix_cmp p n) ≡ true
behind_now p n from apart = at (is_le (prefix_cmp n p)) refl where
  at : (b : Bool) → is_le (prefix_cmp n p) ≡ b → is_le (prefix_cmp p n) ≡ true
  at true e = absurd (true≢false (sym (from e) ∙ apart))
  at false e = lt_le p n (le_or_lt n p e)

-- up to one that stands before another is before that
before_later : (q n m : Prefix) → is_le (prefix_cmp q n) ≡ true → is_lt (prefix_cmp n m) ≡ true → is_lt (prefix_cmp q m) ≡ true
before_later q n m h k = at (is_lt (prefix_cmp q m)) refl where
  at : (b : Bool) → is_lt (prefix_cmp q m) ≡ b → is_lt (prefix_cmp q m) ≡ true
  at true e = e
  at false e = absurd (lt_not_le m n k (upto_upto m q n (not_lt_le m q e) h))

-- there is no next key, where none of them is related to p and stands behind n
none_further : (p n : Prefix) (P : Prefix → Type 0) (es : List Entry) → AllByRecursion (λ e. P e.0) es
    → ((q : Prefix) → P q → is_related p q ≡ true → is_le (prefix_cmp q n) ≡ false → ⊥) → IsNextRelated es p n None
none_further p n P es all none = record {
  there = tt;
  from = tt;
  before = each_weaker (λ e. P e.0) (λ e. is_related p e.0 ≡ true
      → true ≡ is_le (prefix_cmp e.0 n)) (λ e h related. sym (at e h related (is_le (prefix_cmp e.0 n)) refl)) es all;
} where
  at : (e : Entry) → P e.0 → is_related p e.0 ≡ true → (b : Bool) → is_le (prefix_cmp e.0 n) ≡ b → is_le (prefix_cmp e.0 n) ≡ true
  at e h related true f = f
  at e h related false f = absurd (none e.0 h related f)

module _ (p n : Prefix) (behind : is_le (prefix_cmp p n) ≡ true) where
  -- what is related to p and stands behind n covers both
  both_covered : (q : Prefix) → is_related p q ≡ true → is_lt (prefix_cmp n q) ≡ true → (covers q p ≡ true) × (covers q n ≡ true)
  both_covered q h past = at (or_either (covers q p) (covers p q) h) where
    at : (covers q p ≡ true) ⊎ (covers p q ≡ true) → (covers q p ≡ true) × (covers q n ≡ true)
    at (inl f) = (f, between_covered q p n f behind (lt_le n q past))
    at (inr f) = absurd (lt_not_le q n past (upto_upto q p n (covered_before p q f) behind))

  -- without a family in common nothing does
  pub nothing_over : (es : List Entry) → (p.family ≡ n.family → ⊥) → IsNextRelated es p n None
  nothing_over es apart = none_further p n (λ q. Unit {0}) es (each (λ e. Unit {0}) (λ e. tt) es) (λ q _ related f.
      let both = both_covered q related (le_or_lt q n f) in
      apart (same_family p.family n.family (sym (covers_fact q p both.0).family ∙ (covers_fact q n both.1).family)))

  module _ (both : Prefix) (over : covers both n ≡ true) (apart : covers n p ≡ false) (up : covers both p ≡ true)
      (longest : (q : Prefix) → covers q p ≡ true → covers q n ≡ true → covers q both ≡ true) where
    -- so it covers what they have in common
    common_covered : (q : Prefix) → is_related p q ≡ true → is_le (prefix_cmp q n) ≡ false → covers q both ≡ true
    common_covered q related past = let covered = both_covered q related (le_or_lt q n past) in longest q covered.0 covered.1

    -- where that is too short nothing does
    pub short_over : (shortest : ℕ) (es : List Entry) → both.length < shortest → AreNoShorter shortest es → IsNextRelated es p n None
    short_over shortest es short none = none_further p n (λ q. shortest ≤ q.length) es (entries_of_keys (λ q. shortest ≤ q.length) es none)
        (λ q long related f. let a : q.length ≤ both.length = (covers_fact q both (common_covered q related f)).longer in omega (arith, short, long))

    -- and stands from there on
    common_before : (q : Prefix) → is_related p q ≡ true → is_le (prefix_cmp q n) ≡ false → is_le (prefix_cmp both q) ≡ true
    common_before q related past = covered_before q both (common_covered q related past)

    -- which stands behind n
    common_behind : is_le (prefix_cmp both n) ≡ false
    common_behind = false_from (is_le (prefix_cmp both n)) (λ back. true≢false (sym (covers_both back) ∙ apart)) where
      covers_both : is_le (prefix_cmp both n) ≡ true → covers n p ≡ true
      covers_both back = at (le_cases both n back) where
        at : (is_lt (prefix_cmp both n) ≡ true) ⊎ (is_eq (prefix_cmp both n) ≡ true) → covers n p ≡ true
        at (inl d) = absurd (lt_not_le n both d (covered_before both n over))
        at (inr d) = sym (alike_covers both n p d) ∙ up

    pub first_over : (next : Option Prefix) (es : List Entry) → IsFirstFrom (λ e. e.0) es both next → IsNextRelated es p n next
    first_over None es none = none_further p n (λ q. is_le (prefix_cmp both q) ≡ false) es none
        (λ q out related f. true≢false (sym (common_before q related f) ∙ out))
    first_over (Some m) es first = record {
      there = first.there;
      from = beyond;
      before = each_weaker (λ e. is_le (prefix_cmp both e.0) ≡ true → is_le (prefix_cmp m e.0) ≡ true) (λ e. is_related p e.0 ≡ true
          → is_lt (prefix_cmp e.0 m) ≡ is_le (prefix_cmp e.0 n))
          (λ e least related. same_tests (is_lt (prefix_cmp e.0 m)) (is_le (prefix_cmp e.0 n)) (there e least related)
          (λ f. before_later e.0 n m f beyond)) es first.least;
    } where
      beyond : is_lt (prefix_cmp n m) ≡ true
      beyond = le_or_lt m n (false_from (is_le (prefix_cmp m n)) (λ back. true≢false (sym (upto_upto both m n first.from back) ∙ common_behind)))

      there : (e : Entry) → (is_le (prefix_cmp both e.0) ≡ true → is_le (prefix_cmp m e.0) ≡ true) → is_related p e.0 ≡ true
          → is_lt (prefix_cmp e.0 m) ≡ true → is_le (prefix_cmp e.0 n) ≡ true
      there e least related less = at (is_le (prefix_cmp e.0 n)) refl where
        at : (b : Bool) → is_le (prefix_cmp e.0 n) ≡ b → is_le (prefix_cmp e.0 n) ≡ true
        at true f = f
        at false f = absurd (lt_not_le m e.0 less (least (common_before e.0 related f)))

-- Behind a key that covers p, where none is shorter, nothing is related to p.
pub last_related : (p n : Prefix) (shortest : ℕ) (es : List Entry) → covers n p ≡ true → n.length ≤ shortest → AreNoShorter shortest es
    → IsNextRelated es p n None
last_related p n shortest es over short none =
    none_further p n (λ q. shortest ≤ q.length) es (entries_of_keys (λ q. shortest ≤ q.length) es none) (λ q long related f.
    let past = le_or_lt q n f in
    let covered = (both_covered p n (covered_before n p over) q related past).1 in
    let same : q.length ≡ n.length = omega (arith, short, long, (covers_fact q n covered).longer) in
    lt_not_le q n past (eq_le q n (covers_same_length q n covered same)))

-- the next key is one that may be related
pub after_related : (p n : Prefix) (next : Option Prefix) (es : List Entry) → IsNextAfter es n next → IsNextRelated es p n next
after_related p n next es h = record {
  there = h.there;
  from = h.from;
  before = each_weaker (λ e. is_before next e.0 ≡ is_le (prefix_cmp e.0 n)) (λ e. is_related p e.0 ≡ true
      → is_before next e.0 ≡ is_le (prefix_cmp e.0 n)) (λ e f related. f) es h.before;
}

-- how many keys are still to come
abbrev pub left : Option Prefix → List Prefix → ℕ
left next [] = 0
left next (q ∷ qs) = cond (is_before next q) 0 1 + left next qs

one_less : (a b e : Bool) → (a ≡ true → b ≡ true) → (e ≡ true → b ≡ true) → (e ≡ true → a ≡ false)
    → (cond b 0 1 ≤ cond a 0 1) × (e ≡ true → cond b 0 1 < cond a 0 1)
one_less true b true h k l = absurd (true≢false (l refl))
one_less true true false h k l = (omega arith, (λ e. absurd (true≢false (sym e))))
one_less true false false h k l = absurd (true≢false (sym (h refl)))
one_less false true e h k l = (omega arith, (λ _. omega arith))
one_less false false true h k l = absurd (true≢false (sym (k refl)))
one_less false false false h k l = (omega arith, (λ e. absurd (true≢false (sym e))))

left_at : (n : Prefix) (next : Option Prefix) (q : Prefix) → IsBehind n next → (cond (is_before next q) 0 1 ≤ cond (is_lt (prefix_cmp q n)) 0 1)
    × (is_eq (prefix_cmp n q) ≡ true → cond (is_before next q) 0 1 < cond (is_lt (prefix_cmp q n)) 0 1)
left_at n next q h = one_less (is_lt (prefix_cmp q n)) (is_before next q) (is_eq (prefix_cmp n q)) (λ e. upto next h (lt_le q n e))
    (λ e. upto next h (equal_upto n q e)) (λ e. false_from (is_lt (prefix_cmp q n)) (λ f. lt_not_le n q f (eq_le n q e))) where
      upto : (next : Option Prefix) → IsBehind n next → is_le (prefix_cmp q n) ≡ true → is_before next q ≡ true
      upto None h k = refl
      upto (Some m) h k = before_later q n m k h

left_least : (n : Prefix) (next : Option Prefix) (qs : List Prefix) → IsBehind n next → left next qs ≤ left (Some n) qs
left_least n next [] h = omega arith
left_least n next (q ∷ qs) h = let a : cond (is_before next q) 0 1 ≤ cond (is_lt (prefix_cmp q n)) 0 1 = (left_at n next q h).0 in
    let b : left next qs ≤ left (Some n) qs = left_least n next qs h in omega arith

pub left_falls : (n : Prefix) (next : Option Prefix) (qs : List Prefix) → IsBehind n next → list_any (λ q. is_eq (prefix_cmp n q)) qs ≡ true
    → left next qs < left (Some n) qs
left_falls n next [] h there = absurd (true≢false (sym there))
left_falls n next (q ∷ qs) h there = at (or_either (is_eq (prefix_cmp n q)) (list_any (λ q. is_eq (prefix_cmp n q)) qs) there) (left_falls n next qs h) where
  at : (is_eq (prefix_cmp n q) ≡ true) ⊎ (list_any (λ q. is_eq (prefix_cmp n q)) qs ≡ true)
      → (list_any (λ q. is_eq (prefix_cmp n q)) qs ≡ true → left next qs < left (Some n) qs) → left next (q ∷ qs) < left (Some n) (q ∷ qs)
  at (inl e) ih = let a : cond (is_before next q) 0 1 < cond (is_lt (prefix_cmp q n)) 0 1 = (left_at n next q h).1 e in
      let b : left next qs ≤ left (Some n) qs = left_least n next qs h in omega arith
  at (inr e) ih = let a : cond (is_before next q) 0 1 ≤ cond (is_lt (prefix_cmp q n)) 0 1 = (left_at n next q h).0 in
      let b : left next qs < left (Some n) qs = ih e in omega arith

-- a key that is there
abbrev pub IsThere : List Prefix → Option Prefix → Type 0
IsThere qs next = MatchOption next (Unit {0}) (λ n. list_any (λ q. is_eq (prefix_cmp n q)) qs ≡ true)

any_key : (t : Prefix → Bool) (es : List Entry) → list_any (λ e. t e.0) es ≡ list_any t (keys_of es)
any_key t [] = refl
any_key t (e ∷ es) = ap (λ b. t e.0 || b) (any_key t es)

pub next_there : (next : Option Prefix) (es : List Entry) → MatchOption next (Unit {0}) (λ n. list_any (λ e. is_eq (prefix_cmp n e.0)) es ≡ true)
    → IsThere (keys_of es) next
next_there None es h = tt
next_there (Some m) es h = sym (any_key (λ q. is_eq (prefix_cmp m q)) es) ∙ h

pub first_there : (first : Prefix) (next : Option Prefix) (es : List Entry) → IsFirstFrom (λ e. e.0) es first next → IsThere (keys_of es) next
first_there first None es h = tt
first_there first (Some n) es h = sym (any_key (λ q. is_eq (prefix_cmp n q)) es) ∙ h.there

pub next_from : (p n : Prefix) (next : Option Prefix) → IsFrom p (Some n) → IsBehind n next → IsFrom p next
next_from p n None h k = tt
next_from p n (Some m) h k = λ le. between_covered p n m (h (upto_upto n m p (lt_le n m k) le)) (lt_le n m k) le

-- One round of the walk: what is mended before the next key, by what was mended before this one.
module _ (unicast : List Route) (config : Config) (p n : Prefix) (now next : Option Prefix) {old here : Progress} (is : now ≡ Some n)
    (mended : Mends unicast config (done p now) old here) where
  so_far : Mends unicast config (done p (Some n)) old here
  so_far = subst (λ m. Mends unicast config (done p m) old here) is mended

  -- where this one is related and is mended now
  pub related_done : {new : Progress} → is_related p n ≡ true → Mends unicast config (is_at (prefix_cmp n)) here new → IsNextRelated new.groups p n next
      → Mends unicast config (done p next) old new
  related_done {new} related m h = mends_on unicast config with_n (done p next) both
      (along_keys unicast config (λ q. with_n q ≡ done p next q) with_n both (one_more_done p n next new.groups related h)) where
        with_n : Prefix → Bool
        with_n q = done p (Some n) q || is_at (prefix_cmp n) q

        both : Mends unicast config with_n old new
        both = mends_both unicast config (done p (Some n)) (is_at (prefix_cmp n)) so_far m (apart_now p n old.groups)

  -- where it isn't
  pub apart_done : is_related p n ≡ false → IsNextRelated here.groups p n next → Mends unicast config (done p next) old here
  apart_done apart h = mends_on unicast config (done p (Some n)) (done p next) so_far
      (along_keys unicast config (λ q. done p (Some n) q ≡ done p next q) (done p (Some n)) so_far (none_between p n next here.groups apart h))
