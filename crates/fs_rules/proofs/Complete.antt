-- Each rule that has a valid route has a most preferred one.
use Rattle.fs_rules.proofs.Words.{ℕ, ◌≡◌, refl, sym, ap, ◌∙◌, Bool, true, false, true≢false, not, ◌&&◌, ◌||◌, ◌==◌, filter, map, List, [], ◌∷◌, Less}
use Rattle.fs_rules.proofs.Words.{Equal, is_eq, is_lt, nat_cmp, arith, list_any, AllByRecursion, tied_itself, tied_back, nat_tests, Family, Path}
use Rattle.fs_rules.proofs.Words.{or_first, or_second, and_both, and_first, and_second, false_from, each_weaker, each_mapped, none_each, each_none}
use Rattle.fs_rules.proofs.Words.{any_filter, equal_of_is_eq, less_of_is_lt, rule_cmp, rule_total, preference_cmp, preferred, FlowRoute, Held}
use Rattle.fs_rules.proofs.Words.{is_of_family, stands, same_rule, beats, is_most_preferred, admitted, IsAdmitted, AreSorted, judged, judged_cmp}
use Rattle.fs_rules.proofs.Words.{AreRising, held_flows, sorted-filter, first_equal, preference_total}
use Rattle.fs_rules.proofs.Orders.{admitted_ordered}
use Rattle.fs_base.specs.Bits.{afi_of}

abbrev seen : FlowRoute → ℕ × Path
seen r = (r.peer, r.path)

-- a best of those that pass a test
record IsBest (q : FlowRoute → Bool) (xs : List FlowRoute) (m : FlowRoute) : Type 0 where
  pub passes : q m ≡ true
  pub best : AllByRecursion (λ t. q t ≡ true → preferred (seen t) (seen m) ≡ false) xs

not_itself : (m : FlowRoute) → preferred (seen m) (seen m) ≡ false
not_itself m = ap is_lt (tied_itself preference_total (seen m))

preferred_trans : (t x m : FlowRoute) → preferred (seen t) (seen x) ≡ true → preferred (seen x) (seen m) ≡ true → preferred (seen t) (seen m) ≡ true
preferred_trans t x m h k = ap is_lt
    (preference_total.trans (seen t) (seen x) (seen m) (less_of_is_lt (preference_cmp (seen t) (seen x)) h)
    (less_of_is_lt (preference_cmp (seen x) (seen m)) k))

-- a best one is among those that pass
abbrev Found : (FlowRoute → Bool) → List FlowRoute → Type 0
Found q xs = (m : FlowRoute) × IsBest q xs m × ((p : FlowRoute → Bool) → p m ≡ true → list_any p xs ≡ true)

best_of_list : (q : FlowRoute → Bool) (xs : List FlowRoute) → list_any q xs ≡ true → Found q xs
best_of_list q [] h = absurd (true≢false (sym h))
best_of_list q (x ∷ xs) h = at (list_any q xs) refl (q x) refl h (best_of_list q xs) where
  alone : list_any q xs ≡ false → q x ≡ true → Found q (x ∷ xs)
  alone none e = (
    x,
    record {
      passes = e;
      best = (
        (λ _. not_itself x),
        each_weaker (λ t. q t ≡ false) (λ t. q t ≡ true
            → preferred (seen t) (seen x) ≡ false) (λ t f g. absurd (true≢false (sym g ∙ f))) xs (none_each q xs none),
      );
    },
    λ p f. or_first (p x) (list_any p xs) f,
  )

  kept : (found : Found q xs) → (q x ≡ true → preferred (seen x) (seen found.0) ≡ false) → Found q (x ∷ xs)
  kept found e = (found.0, record { passes = found.1.passes; best = (e, found.1.best) }, λ p f. or_second (p x) (list_any p xs) (found.2 p f))

  better : (found : Found q xs) → q x ≡ true → preferred (seen x) (seen found.0) ≡ true → Found q (x ∷ xs)
  better found e over = (
    x,
    record {
      passes = e;
      best = (
        (λ _. not_itself x),
        each_weaker (λ t. q t ≡ true → preferred (seen t) (seen found.0) ≡ false) (λ t. q t ≡ true
            → preferred (seen t) (seen x) ≡ false)
            (λ t f g. false_from (preferred (seen t) (seen x)) (λ k. true≢false (sym (preferred_trans t x found.0 k over) ∙ f g))) xs found.1.best,
      );
    },
    λ p f. or_first (p x) (list_any p xs) f,
  )

  choose : (found : Found q xs) (b : Bool) → q x ≡ b → (c : Bool) → preferred (seen x) (seen found.0) ≡ c → Found q (x ∷ xs)
  choose found false e c f = kept found (λ k. absurd (true≢false (sym k ∙ e)))
  choose found true e false f = kept found (λ _. f)
  choose found true e true f = better found e f

  at : (a : Bool) → list_any q xs ≡ a → (b : Bool) → q x ≡ b → (b || a) ≡ true → (list_any q xs ≡ true → Found q xs) → Found q (x ∷ xs)
  at true e b f k ih = let found : Found q xs = ih e in choose found (q x) refl (preferred (seen x) (seen found.0)) refl
  at false e true f k ih = alone e f
  at false e false f k ih = absurd (true≢false (sym k))

-- the same rule is of the same family
same_number : (m n k : ℕ) → nat_cmp m n ≡ Equal → (m == k) ≡ true → (n == k) ≡ true
same_number m n k h e = grind (arith, nat_tests)

same_family : (family : Family) (r s : FlowRoute) → same_rule r s ≡ true → is_of_family family r ≡ true → is_of_family family s ≡ true
same_family family r s h e = same_number (afi_of r.rule.family) (afi_of s.rule.family) (afi_of family)
    (first_equal (nat_cmp (afi_of r.rule.family) (afi_of s.rule.family)) _ (equal_of_is_eq (rule_cmp r.rule s.rule) h)) e

module _ (family : Family) (held : Held) where
  has_entry : (r : FlowRoute) → (is_of_family family r && stands held r) ≡ true → list_any (λ t. stands held t && same_rule r t) held.flows ≡ true
      → list_any (same_rule r) (admitted family held) ≡ true
  has_entry r e there = let found : Found (λ t. stands held t && same_rule r t) held.flows =
      best_of_list (λ t. stands held t && same_rule r t) held.flows there in entry found where
        entry : Found (λ t. stands held t && same_rule r t) held.flows → list_any (same_rule r) (admitted family held) ≡ true
        entry found = any_filter (λ s. is_of_family family s && is_most_preferred held s) (same_rule r) held.flows
            ∙ found.2 (λ s. (is_of_family family s && is_most_preferred held s) && same_rule r s)
            (and_both (is_of_family family m && is_most_preferred held m) (same_rule r m)
            (and_both (is_of_family family m) (is_most_preferred held m) of_family most) same) where
              m : FlowRoute
              m = found.0

              same : same_rule r m ≡ true
              same = and_second (stands held m) (same_rule r m) found.1.passes

              of_family : is_of_family family m ≡ true
              of_family = same_family family r m same (and_first (is_of_family family r) (stands held r) e)

              unbeaten : AllByRecursion (λ t. (stands held t && beats t m) ≡ false) held.flows
              unbeaten = each_weaker (λ t. (stands held t && same_rule r t) ≡ true
                  → preferred (seen t) (seen m) ≡ false) (λ t. (stands held t && beats t m) ≡ false)
                  (λ t k. false_from (stands held t && beats t m)
                  (λ b. true≢false (sym (and_second (same_rule t m) (preferred (seen t) (seen m)) (and_second (stands held t) (beats t m) b))
                  ∙ k (and_both (stands held t) (same_rule r t) (and_first (stands held t) (beats t m) b)
                  (through t (and_first (same_rule t m) (preferred (seen t) (seen m)) (and_second (stands held t) (beats t m) b))))))) held.flows
                  found.1.best where
                    through : (t : FlowRoute) → same_rule t m ≡ true → same_rule r t ≡ true
                    through t k = ap is_eq (rule_total.congr r.rule m.rule t.rule (equal_of_is_eq (rule_cmp r.rule m.rule) same)
                        ∙ tied_back rule_total t.rule m.rule (equal_of_is_eq (rule_cmp t.rule m.rule) k))

              most : is_most_preferred held m ≡ true
              most = and_both (stands held m) (not (list_any (λ t. stands held t && beats t m) held.flows))
                  (and_first (stands held m) (same_rule r m) found.1.passes) (ap not (each_none (λ t. stands held t && beats t m) held.flows unbeaten))

  -- a valid route is there, since the route itself is
  itself : (r : FlowRoute) → (is_of_family family r && stands held r) ≡ true → (stands held r && same_rule r r) ≡ true
  itself r e = and_both (stands held r) (same_rule r r) (and_second (is_of_family family r) (stands held r) e) (ap is_eq (tied_itself rule_total r.rule))

each_there : {X : Type 0} (P : X → Type 0) (xs : List X) → ((x : X) → ((p : X → Bool) → p x ≡ true → list_any p xs ≡ true) → P x) → AllByRecursion P xs
each_there P [] h = tt
each_there P (x ∷ xs) h = (h x (λ p e. or_first (p x) (list_any p xs) e), each_there P xs (λ y k. h y (λ p e. or_second (p x) (list_any p xs) (k p e))))

pub is_admitted_list : (family : Family) (held : Held) → AreSorted held.flows → IsAdmitted family held (admitted family held)
is_admitted_list family held sorted = record {
  chosen = refl;
  each_rule = each_there (λ r. (is_of_family family r && stands held r) ≡ true → list_any (same_rule r) (admitted family held) ≡ true) held.flows
      (λ r there e. has_entry family held r e (there (λ t. stands held t && same_rule r t) (itself family held r e)));
  ordered = admitted_ordered family held sorted;
}

-- the held flow routes of a family stand in order
judged_rising : (held : Held) (rs : List FlowRoute) → AreSorted rs → AreRising (map (judged held) rs)
judged_rising held [] h = tt
judged_rising held (r ∷ rs) h = (each_mapped (judged held) (λ j. judged_cmp (judged held r) j ≡ Less) rs h.0, judged_rising held rs h.1)

pub held_rising : (family : Family) (held : Held) → AreSorted held.flows → AreRising (held_flows family held)
held_rising family held h = judged_rising held (filter (is_of_family family) held.flows) (sorted-filter (is_of_family family) held.flows h)
