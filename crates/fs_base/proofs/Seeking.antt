-- The longest prefix that covers another, found by the order: where the first prefix from `low` on doesn't cover
-- it, each that does covers what the two have in common.
use Rattle.fs_base.proofs.Words.{◌≡◌, ◌<◌, ◌≤◌, ◌⊎◌, inl, inr, sym, ◌∙◌, true, false, List, true≢false, is_eq, is_le, arith, AllByRecursion, cases_lt}
use Rattle.fs_base.proofs.Words.{Prefix, covers, prefix_cmp}
use Rattle.fs_base.proofs.Bools.{false_from}
use Rattle.fs_base.proofs.Covers.{covers_fact, covered_before, between_covered, Covers, same_family}
use Rattle.fs_base.proofs.Nesting.{covers_self, covers_trans, covers_same_length, alike_covers}
use Rattle.fs_base.proofs.Lists.{each, each_both, each_weaker}
use Rattle.fs_base.specs.Search.{IsFirst, IsLongest}

module _ {X : Type 0} (at : X → Prefix) (held : List X) where
  -- what covers d covers p as well
  abbrev Reaches : (d p : Prefix) → X → Type 0
  Reaches d p x = covers (at x) d ≡ true → covers (at x) p ≡ true

  -- the search for the covers of d has come to low: each of them covers low
  pub record Seeking (d low : Prefix) : Type 0 where
    pub over : covers low d ≡ true
    pub each_covers : AllByRecursion (Reaches d low) held

  pub seeking_starts : (d : Prefix) → Seeking d d
  seeking_starts d = record { over = covers_self d; each_covers = each (Reaches d d) (λ x h. h) held }

  -- nothing from low on: no cover
  pub seeking_ends : (d low : Prefix) → Seeking d low → AllByRecursion (λ x. is_le (prefix_cmp low (at x)) ≡ false) held
      → AllByRecursion (λ x. covers (at x) d ≡ false) held
  seeking_ends d low h none =
      each_both (Reaches d low) (λ x. is_le (prefix_cmp low (at x)) ≡ false) (λ x. covers (at x) d ≡ false)
      (λ x k l. false_from (covers (at x) d) (λ e. true≢false (sym (covered_before (at x) low (k e)) ∙ l))) held h.each_covers none

  -- each cover covers the first from low on, too
  reached : (d low q : Prefix) → Seeking d low → IsFirst at held low q → AllByRecursion (Reaches d q) held
  reached d low q h first =
      each_both (Reaches d low) (λ x. is_le (prefix_cmp low (at x)) ≡ true → is_le (prefix_cmp q (at x)) ≡ true) (Reaches d q)
      (λ x k l e. between_covered (at x) low q (k e) first.from (l (covered_before (at x) low (k e)))) held h.each_covers first.least

  -- the first from low on covers d: it is the longest
  pub seeking_found : (d low q : Prefix) → Seeking d low → IsFirst at held low q → covers q d ≡ true → IsLongest at held d q
  seeking_found d low q h first covered = record {
    there = first.there;
    over = covered;
    longest =
        each_weaker (Reaches d q) (λ x. covers (at x) d ≡ true → (at x).length ≤ q.length)
        (λ x k e. (covers_fact (at x) q (k e)).longer) held (reached d low q h first);
  }

  -- else the search goes on from what low and the first have in common, which is shorter than low
  pub seeking_more : (d low q both : Prefix) → Seeking d low → IsFirst at held low q → covers both low ≡ true
      → ((p : Prefix) → covers p low ≡ true → covers p q ≡ true → covers p both ≡ true) → Seeking d both
  seeking_more d low q both h first over longest = record {
    over = covers_trans both low d over h.over;
    each_covers =
        each_both (Reaches d low) (Reaches d q) (Reaches d both) (λ x k l e. longest (at x) (k e) (l e)) held h.each_covers
        (reached d low q h first);
  }

  pub seeking_shorter : (d low q both : Prefix) → Seeking d low → IsFirst at held low q → covers q d ≡ false
      → covers both low ≡ true → covers both q ≡ true → both.length < low.length
  seeking_shorter d low q both h first apart over other = go (cases_lt both.length low.length) where
    fact : Covers both low
    fact = covers_fact both low over

    -- of the same length, low itself covers the first, which comes from low on
    same : both.length ≡ low.length → covers q d ≡ true
    same e = let alike : is_eq (prefix_cmp both low) ≡ true = covers_same_length both low over e in
        let under : covers low q ≡ true = sym (alike_covers both low q alike) ∙ other in
        covers_from_order under (covered_before low q under) where
          covers_from_order : covers low q ≡ true → is_le (prefix_cmp q low) ≡ true → covers q d ≡ true
          covers_from_order under back = covers_trans q low d (back_covers under) h.over where
            back_covers : covers low q ≡ true → covers q low ≡ true
            back_covers k = between_covered q q low (covers_self q) back first.from

    go : (both.length < low.length) ⊎ (low.length ≤ both.length) → both.length < low.length
    go (inl less) = less
    go (inr more) = absurd (true≢false (sym (same (omega (arith, fact.longer))) ∙ apart))

  -- no family in common: nothing from low on covers d
  pub seeking_apart : (d low q : Prefix) → Seeking d low → IsFirst at held low q → (low.family ≡ q.family → ⊥)
      → AllByRecursion (λ x. covers (at x) d ≡ false) held
  seeking_apart d low q h first apart =
      each_both (Reaches d low) (Reaches d q) (λ x. covers (at x) d ≡ false)
      (λ x k l. false_from (covers (at x) d) (λ e.
      apart (same_family low.family q.family (sym (covers_fact (at x) low (k e)).family ∙ (covers_fact (at x) q (l e)).family))))
      held h.each_covers (reached d low q h first)
