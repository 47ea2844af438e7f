use Rattle.fs_rules.proofs.Words.{ℕ, ◌≡◌, refl, sym, ap, ◌∙◌, ◌⊎◌, inl, inr, Bool, true, false, true≢false, not, ◌&&◌, cond, List, [], ◌∷◌, filter}
use Rattle.fs_rules.proofs.Words.{Ordering, Less, Equal, Greater, is_eq, is_lt, nat_cmp, list_any, AllByRecursion, ordering_then, ordering_reverse}
use Rattle.fs_rules.proofs.Words.{bool_cmp, tied_back, and_both, and_first, and_second, false_of_not, Path, Family, each, each_weaker, each_both}
use Rattle.fs_rules.proofs.Words.{none_each, rule_cmp, rule_total, preference_total, preference_cmp, preferred, path_length, FlowRoute, Held, key_cmp}
use Rattle.fs_rules.proofs.Words.{is_of_family, stands, same_rule, beats, is_most_preferred, admitted, AreOrdered, AreSorted, each-filtered}

-- The admitted rules stand in order, and each rule that has a valid route is among them.

-- two routes of different peers are never equally preferred
apart_peers : (a b c d : Ordering) (m n : ℕ) → nat_cmp m n ≡ Less
    → ordering_then a (ordering_then b (ordering_then c (ordering_then d (nat_cmp m n)))) ≡ Equal → ⊥
apart_peers Less b c d m n h k = cc
apart_peers Greater b c d m n h k = cc
apart_peers Equal Less c d m n h k = cc
apart_peers Equal Greater c d m n h k = cc
apart_peers Equal Equal Less d m n h k = cc
apart_peers Equal Equal Greater d m n h k = cc
apart_peers Equal Equal Equal Less m n h k = cc
apart_peers Equal Equal Equal Greater m n h k = cc
apart_peers Equal Equal Equal Equal m n h k = cc

abbrev seen : FlowRoute → ℕ × Path
seen r = (r.peer, r.path)

one_preferred : (x y : ℕ × Path) → nat_cmp x.0 y.0 ≡ Less → (preferred x y ≡ true) ⊎ (preferred y x ≡ true)
one_preferred x y h = at (preference_cmp x y) refl where
  at : (o : Ordering) → preference_cmp x y ≡ o → (preferred x y ≡ true) ⊎ (preferred y x ≡ true)
  at Less e = inl (ap is_lt e)
  at Equal e = absurd (apart_peers (nat_cmp y.1.local_pref x.1.local_pref) (nat_cmp (path_length x.1.segments) (path_length y.1.segments))
      (nat_cmp x.1.origin y.1.origin) (bool_cmp y.1.external x.1.external) x.0 y.0 h e)
  at Greater e = inr (ap is_lt (preference_total.antisymm y x ∙ ap ordering_reverse e))

-- what it is to be the most preferred
abbrev Unbeaten : Held → FlowRoute → FlowRoute → Type 0
Unbeaten held s t = (stands held t && beats t s) ≡ false

unbeaten : (held : Held) (s : FlowRoute) → is_most_preferred held s ≡ true → AllByRecursion (Unbeaten held s) held.flows
unbeaten held s h = none_each (λ t. stands held t && beats t s) held.flows
    (false_of_not (list_any (λ t. stands held t && beats t s) held.flows)
    (and_second (stands held s) (not (list_any (λ t. stands held t && beats t s) held.flows)) h))

-- of two most preferred routes the earlier key has the earlier rule
rules_apart : (held : Held) (r s : FlowRoute) → key_cmp r.rule r.peer s ≡ Less → stands held r ≡ true → stands held s ≡ true → Unbeaten held s r
    → Unbeaten held r s → rule_cmp r.rule s.rule ≡ Less
rules_apart held r s key valid_r valid_s su ru = at (rule_cmp r.rule s.rule) refl key where
  at : (o : Ordering) → rule_cmp r.rule s.rule ≡ o → ordering_then o (nat_cmp r.peer s.peer) ≡ Less → rule_cmp r.rule s.rule ≡ Less
  at Less e k = e
  at Greater e k = cc
  at Equal e k = over (one_preferred (seen r) (seen s) k) where
    swapped : rule_cmp s.rule r.rule ≡ Equal
    swapped = tied_back rule_total r.rule s.rule e

    over : (preferred (seen r) (seen s) ≡ true) ⊎ (preferred (seen s) (seen r) ≡ true) → rule_cmp r.rule s.rule ≡ Less
    over (inl p) = absurd (true≢false
        (sym (and_both (stands held r) (beats r s) valid_r (and_both (same_rule r s) (preferred (seen r) (seen s)) (ap is_eq e) p)) ∙ su))
    over (inr p) = absurd (true≢false
        (sym (and_both (stands held s) (beats s r) valid_s (and_both (same_rule s r) (preferred (seen s) (seen r)) (ap is_eq swapped) p)) ∙ ru))

abbrev is_entry : Family → Held → FlowRoute → Bool
is_entry family held r = is_of_family family r && is_most_preferred held r

-- each entry is unbeaten by those of the list
abbrev Rivals : Family → Held → List FlowRoute → FlowRoute → Type 0
Rivals family held xs s = is_entry family held s ≡ true → AllByRecursion (Unbeaten held s) xs

entries_ordered : (family : Family) (held : Held) (xs : List FlowRoute) → AreSorted xs → AllByRecursion (Rivals family held xs) xs
    → AreOrdered (filter (is_entry family held) xs)
entries_ordered family held [] sorted h = tt
entries_ordered family held (r ∷ rs) sorted h = at (is_entry family held r) refl (entries_ordered family held rs sorted.1 tail) where
  tail : AllByRecursion (Rivals family held rs) rs
  tail = each_weaker (Rivals family held (r ∷ rs)) (Rivals family held rs) (λ s k e. (k e).1) rs h.1

  at : (b : Bool) → is_entry family held r ≡ b → AreOrdered (filter (is_entry family held) rs)
      → AreOrdered (cond b (r ∷ filter (is_entry family held) rs) (filter (is_entry family held) rs))
  at true e ih = (
    each-filtered (λ s. is_entry family held s ≡ true → rule_cmp r.rule s.rule ≡ Less) (λ s. rule_cmp r.rule s.rule ≡ Less) (is_entry family held)
        (λ s k f. k f) rs
        (each_both (λ s. key_cmp r.rule r.peer s ≡ Less) (λ s. Rivals family held (r ∷ rs) s × Unbeaten held r s) (λ s. is_entry family held s ≡ true
        → rule_cmp r.rule s.rule ≡ Less)
        (λ s key k f. rules_apart held r s key (valid r e) (valid s f) (k.0 f).0 k.1) rs sorted.0
        (each_both (Rivals family held (r ∷ rs)) (Unbeaten held r) (λ s. Rivals family held (r ∷ rs) s × Unbeaten held r s) (λ s k u. (k, u)) rs h.1
        (h.0 e).1)),
    ih,
  ) where
    valid : (s : FlowRoute) → is_entry family held s ≡ true → stands held s ≡ true
    valid s f = and_first (stands held s) (not (list_any (λ t. stands held t && beats t s) held.flows))
        (and_second (is_of_family family s) (is_most_preferred held s) f)
  at false e ih = ih

pub admitted_ordered : (family : Family) (held : Held) → AreSorted held.flows → AreOrdered (admitted family held)
admitted_ordered family held sorted =
    entries_ordered family held held.flows sorted
    (each (Rivals family held held.flows) (λ s e. unbeaten held s (and_second (is_of_family family s) (is_most_preferred held s) e)) held.flows)
