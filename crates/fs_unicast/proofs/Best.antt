-- The best of some routes is one of them, and none of them is preferred to it.
use Rattle.std.proofs.Common.{MatchOption}
use Rattle.std.proofs.lemmas.{Cmp.{back_total}, List.Elements.{Contains-push, Contains-append_left, Contains-append_right, Contains-append_cases}}
use Rattle.fs_unicast.proofs.Words.{ℕ, ◌≡◌, refl, sym, ap, ◌∙◌, cond, ◌⊎◌, inl, inr, Bool, true, false, true≢false, List, [], ◌∷◌, Option, Some, None}
use Rattle.fs_unicast.proofs.Words.{fold, Ordering, Less, Equal, Greater, is_lt, Contains, ordering_reverse, IsTotalOrder, alike_right, tied_itself}
use Rattle.fs_unicast.proofs.Words.{on_total, then_total, nat_cmp_total, bool_cmp_total, Path, less_of_is_lt, path_length, preference_cmp, preferred}
use Rattle.fs_unicast.proofs.Words.{better, best_of}
use Rattle.fs_unicast.specs.Laws.{IsMostPreferred, IsBest}

pub preference_total : IsTotalOrder preference_cmp
preference_total = then_total (back_total (on_total (λ (r : ℕ × Path). r.1.local_pref) nat_cmp_total))
    (then_total (on_total (λ (r : ℕ × Path). path_length r.1.segments) nat_cmp_total)
    (then_total (on_total (λ (r : ℕ × Path). r.1.origin) nat_cmp_total)
    (then_total (back_total (on_total (λ (r : ℕ × Path). r.1.external) bool_cmp_total)) (on_total (λ (r : ℕ × Path). r.0) nat_cmp_total))))

not_itself : (r : ℕ × Path) → preferred r r ≡ false
not_itself r = ap is_lt (tied_itself preference_total r)

-- what isn't preferred to s isn't to what s isn't preferred to
not_over : (r s b : ℕ × Path) → preferred r s ≡ false → preferred s b ≡ false → preferred r b ≡ false
not_over r s b h k = at (preference_cmp r b) refl (preference_cmp s b) refl where
  contrary : preference_cmp r s ≡ Less → preferred r b ≡ false
  contrary e = absurd (true≢false (sym (ap is_lt e) ∙ h))

  at : (o : Ordering) → preference_cmp r b ≡ o → (p : Ordering) → preference_cmp s b ≡ p → preferred r b ≡ false
  at Less e Less f = absurd (true≢false (sym (ap is_lt f) ∙ k))
  at Less e Equal f = contrary (alike_right preference_total s b r f ∙ e)
  at Less e Greater f = contrary (preference_total.trans r b s e (preference_total.antisymm b s ∙ ap ordering_reverse f))
  at Equal e p f = ap is_lt e
  at Greater e p f = ap is_lt e

before_both : (r s b : ℕ × Path) → preferred r s ≡ true → preferred r b ≡ false → preferred s b ≡ false
before_both r s b h k = at (preferred s b) refl where
  at : (b' : Bool) → preferred s b ≡ b' → preferred s b ≡ false
  at false e = e
  at true e = absurd (true≢false
      (sym (ap is_lt (preference_total.trans r s b (less_of_is_lt (preference_cmp r s) h) (less_of_is_lt (preference_cmp s b) e))) ∙ k))

-- of s and some more routes
abbrev IsFound : ℕ × Path → List (ℕ × Path) → Option (ℕ × Path) → Type 0
IsFound s rs found = MatchOption found (s ∷ rs ≡ []) (IsMostPreferred (s ∷ rs))

found_with : (s r : ℕ × Path) (rs : List (ℕ × Path)) (found : Option (ℕ × Path)) → preferred r s ≡ true → IsFound r rs found → IsFound s (r ∷ rs) found
found_with s r rs None h f = cc
found_with s r rs (Some b) h f = record {
  there = Contains-append_right (s ∷ []) (r ∷ rs) b f.there;
  none_before = (before_both r s b h f.none_before.0, f.none_before);
}

found_without : (s r : ℕ × Path) (rs : List (ℕ × Path)) (found : Option (ℕ × Path)) → preferred r s ≡ false → IsFound s rs found → IsFound s (r ∷ rs) found
found_without s r rs None h f = cc
found_without s r rs (Some b) h f = record {
  there = there (Contains-append_cases (s ∷ []) rs b f.there);
  none_before = (f.none_before.0, (not_over r s b h f.none_before.0, f.none_before.1));
} where
  there : Contains (s ∷ []) b ⊎ Contains rs b → Contains (s ∷ r ∷ rs) b
  there (inl k) = Contains-append_left (s ∷ []) (r ∷ rs) b k
  there (inr k) = Contains-append_right (s ∷ r ∷ []) rs b k

found_from : (rs : List (ℕ × Path)) (s : ℕ × Path) → IsFound s rs (fold better (Some s) rs)
found_from [] s = record { there = Contains-push [] s; none_before = (not_itself s, tt) }
found_from (r ∷ rs) s = at (preferred r s) refl (found_from rs r) (found_from rs s) where
  at : (b : Bool) → preferred r s ≡ b → IsFound r rs (fold better (Some r) rs) → IsFound s rs (fold better (Some s) rs)
      → IsFound s (r ∷ rs) (fold better (cond b (Some r) (Some s)) rs)
  at true e f g = found_with s r rs (fold better (Some r) rs) e f
  at false e f g = found_without s r rs (fold better (Some s) rs) e g

pub best_law : (routes : List (ℕ × Path)) → IsBest routes (best_of routes)
best_law [] = refl
best_law (r ∷ rs) = found_from rs r
