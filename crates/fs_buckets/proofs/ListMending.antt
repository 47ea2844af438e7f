-- Lists of rules that are put anew, one place after the other, until they are the admitted ones.
use Rattle.fs_buckets.proofs.Words.{◌≡◌, ℕ, zero, suc, ◌-◌, ◌^◌, ◌<◌, ◌≤◌, ◌+◌, ◌==◌, ◌&&◌, ◌||◌, ◌⊎◌, inl, inr, refl, sym, ap, subst, ◌∙◌, Bool}
use Rattle.fs_buckets.proofs.Words.{true, false, true≢false, not, cond, Option, Some, None, IfSome, option_map, List, [], ◌∷◌, filter, length, get_or}
use Rattle.fs_buckets.proofs.Words.{map, Ordering, Less, Equal, Greater, nat_cmp, pow_pos, arith, AllByRecursion, is_eq, is_gt, is_lt, ordering_then}
use Rattle.fs_buckets.proofs.Words.{cases_order, eq-eqb, eqb-true, slice_get_read, each_append, each_weaker, filter_all, filter_on, each_filtered}
use Rattle.fs_buckets.proofs.Words.{afi_of, width_of, Family, V4, V6, Prefix, IsMade, Ruled, destination_of, shown, destination_cmp, last_shown}
use Rattle.fs_buckets.proofs.Words.{shown_cmp, Listed, listed, Held, admitted, Change, family_of_destination, IsOfFamily, span_by, span_of, spans_of}
use Rattle.fs_buckets.proofs.Words.{AreTo, place_by, span_cmp, target_of, admitted_in, AreOwn, put_in, replaced, AreNesting}
use Rattle.fs_buckets.proofs.{Destinations.{made_destination}, Splicing.{each_got}, Stretching.{same_place}, Parting.{one_fewer}, Replaced.{placed}}
use Rattle.std.{specs.Cmp.{nat_cmp_is}, proofs.Math.Pow.{pow-lt}}
use Rattle.fs_rules.specs.Changes.{AdmitsElsewhere, IsOwn, is_to, touched_by}
use Rattle.fs_validate.specs.declared.route.FlowRoute.{FlowRoute}

-- the rules are of the family
abbrev pub AreOf : Family → List Listed → Type 0
AreOf family rules = AllByRecursion (IsOfFamily family) rules

-- of these rules those that have the destination, and those that no place touches
abbrev pub rules_to : Family → Option Prefix → List Listed → List Listed
rules_to family destination rules = filter (λ r. is_to family destination r.rule) rules

abbrev pub untouched : List Change → List Listed → List Listed
untouched places rules = filter (λ r. not (touched_by places r.rule)) rules

-- two destinations of a family are the same where their addresses are
pub shown_is : (s d : Family × ℕ × ℕ) → IsMade (Some s) → IsMade (Some d) → s.0 ≡ d.0 → shown_cmp s d ≡ span_cmp (s.1, last_shown s) (d.1, last_shown d)
shown_is s d made other same =
    ap (λ o. ordering_then o (ordering_then (nat_cmp (last_shown s) (last_shown d)) (nat_cmp d.2 s.2)))
    (sym (nat_cmp_is (afi_of s.0) (afi_of d.0) Equal (ap afi_of same)))
    ∙ at (cases_order (last_shown s) (last_shown d)) where
      width : ℕ
      width = width_of d.0

      last_s : last_shown s ≡ s.1 + 2 ^ (width - s.2) - 1
      last_s = ap (λ f. s.1 + 2 ^ (width_of f - s.2) - 1) same

      short_s : s.2 ≤ width
      short_s = subst (λ f. s.2 ≤ width_of f) same made.0

      some_s : 0 < 2 ^ (width - s.2)
      some_s = pow_pos (width - s.2)

      some_d : 0 < 2 ^ (width - d.2)
      some_d = pow_pos (width - d.2)

      lengths : last_shown s ≡ last_shown d → (d.2 ≡ s.2) ⊎ ((d.2 < s.2) ⊎ (s.2 < d.2)) → nat_cmp d.2 s.2 ≡ nat_cmp d.1 s.1
      lengths e (inl tied) =
          let z : 2 ^ (width - d.2) ≡ 2 ^ (width - s.2) = ap (λ n. 2 ^ (width - n)) tied in
          sym (nat_cmp_is d.2 s.2 Equal tied) ∙ nat_cmp_is d.1 s.1 Equal (omega (arith, e, last_s, some_s, some_d, z))
      lengths e (inr (inl less)) =
          let z : 2 ^ (width - s.2) < 2 ^ (width - d.2) = pow-lt (omega (arith, less, short_s)) in
          sym (nat_cmp_is d.2 s.2 Less less) ∙ nat_cmp_is d.1 s.1 Less (omega (arith, e, last_s, some_s, some_d, z))
      lengths e (inr (inr more)) =
          let short_d : d.2 ≤ width = other.0 in
          let z : 2 ^ (width - d.2) < 2 ^ (width - s.2) = pow-lt (omega (arith, more, short_d)) in
          sym (nat_cmp_is d.2 s.2 Greater more) ∙ nat_cmp_is d.1 s.1 Greater (omega (arith, e, last_s, some_s, some_d, z))

      at : (last_shown s ≡ last_shown d) ⊎ ((last_shown s < last_shown d) ⊎ (last_shown d < last_shown s))
          → ordering_then (nat_cmp (last_shown s) (last_shown d)) (nat_cmp d.2 s.2) ≡ ordering_then (nat_cmp (last_shown s) (last_shown d)) (nat_cmp d.1 s.1)
      at (inl e) = ap (ordering_then (nat_cmp (last_shown s) (last_shown d))) (lengths e (cases_order d.2 s.2))
      at (inr (inl less)) = subst (λ o. ordering_then o (nat_cmp d.2 s.2) ≡ ordering_then o (nat_cmp d.1 s.1))
          (nat_cmp_is (last_shown s) (last_shown d) Less less) refl
      at (inr (inr more)) = subst (λ o. ordering_then o (nat_cmp d.2 s.2) ≡ ordering_then o (nat_cmp d.1 s.1))
          (nat_cmp_is (last_shown s) (last_shown d) Greater more) refl

-- Whether a rule has a destination is told by its addresses.
to_is : (family : Family) (destination : Option Prefix) (r : Listed) → IfSome destination (λ p. p.family ≡ family) → IsOfFamily family r
    → is_to family destination r.rule ≡ is_eq (place_by (target_of destination) (span_of r.rule))
to_is family destination r here own =
    ap (λ b. b && is_eq (destination_cmp (destination_of r.rule) (option_map shown destination)))
    (eq-eqb (afi_of r.rule.family) (afi_of family) (ap afi_of own.same))
    ∙ at (destination_of r.rule) destination refl here where
      at : (o : Option (Family × ℕ × ℕ)) (p : Option Prefix) → destination_of r.rule ≡ o → IfSome p (λ q. q.family ≡ family)
          → is_eq (destination_cmp o (option_map shown p)) ≡ is_eq (place_by (target_of p) (span_by o))
      at None None e h = refl
      at None (Some p) e h = refl
      at (Some s) None e h = refl
      at (Some s) (Some p) e h = ap is_eq
          (shown_is s (shown p) (made_destination r.rule s own.rule e) (p.short, p.clear) (family_of_destination r.rule s own.rule e ∙ own.same
          ∙ sym h))

-- none of another family does
to_other : (family own : Family) (destination : Option Prefix) (rule : Ruled) → (afi_of own ≡ afi_of family → ⊥) → rule.family ≡ own
    → is_to family destination rule ≡ false
to_other family own destination rule apart e = at (afi_of rule.family == afi_of family) refl where
  at : (b : Bool) → (afi_of rule.family == afi_of family) ≡ b → (b && is_eq (destination_cmp (destination_of rule) (option_map shown destination))) ≡ false
  at false is = refl
  at true is = absurd (apart (sym (ap afi_of e) ∙ eqb-true (afi_of rule.family) (afi_of family) is))

-- but at these places the rules are those that the table admits
abbrev pub AreLeft : List Change → Held → (Family → List Listed) → Type 0
AreLeft places held rules = (family : Family) → untouched places (admitted_in held family) ≡ untouched places (rules family)

pub listed_filter : (p : Ruled → Bool) (rs : List FlowRoute) → filter (λ r. p r.rule) (map listed rs) ≡ map listed (filter (λ r. p r.rule) rs)
listed_filter p [] = refl
listed_filter p (r ∷ rs) = at (p r.rule) (listed_filter p rs) where
  at : (b : Bool) → filter (λ x. p x.rule) (map listed rs) ≡ map listed (filter (λ x. p x.rule) rs)
      → cond b (listed r ∷ filter (λ x. p x.rule) (map listed rs)) (filter (λ x. p x.rule) (map listed rs))
      ≡ map listed (cond b (r ∷ filter (λ x. p x.rule) rs) (filter (λ x. p x.rule) rs))
  at true ih = ap (λ xs. listed r ∷ xs) ih
  at false ih = ih

pub left_first : (places : List Change) (base held : Held) → AdmitsElsewhere (touched_by places) base held → AreLeft places held (admitted_in base)
left_first places base held h family =
    listed_filter (λ rule. not (touched_by places rule)) (admitted family held) ∙ ap (map listed) (h family)
    ∙ sym (listed_filter (λ rule. not (touched_by places rule)) (admitted family base))

-- One place fewer is left.
here_fewer : (place : Change) (rest : List Change) (family : Family) (ys xs : List Listed) → place.family ≡ family → IsOwn place → AreOf family ys
    → AreOf family xs → AreNesting (spans_of ys)
    → untouched (place ∷ rest) ys ≡ untouched (place ∷ rest) xs
    → untouched rest ys ≡ untouched rest (replaced (target_of place.destination) (rules_to place.family place.destination ys) xs)
here_fewer place rest family ys xs f here each own nesting same =
    one_fewer (λ r. span_of r.rule) (place_by target) None (λ r. touched_by rest r.rule) ys xs (placed family ys target each nesting)
    (sym (told ys each) ∙ same ∙ told xs own)
    ∙ ap (λ news. untouched rest (replaced target news xs)) (sym found) where
      target : Option (ℕ × ℕ)
      target = target_of place.destination

      is_there : Listed → Bool
      is_there r = is_eq (place_by target (span_of r.rule))

      is : (r : Listed) → IsOfFamily family r → is_to place.family place.destination r.rule ≡ is_there r
      is r k = subst (λ g. (IfSome place.destination (λ p. p.family ≡ g)) → is_to g place.destination r.rule ≡ is_there r) (sym f)
          (λ h. to_is family place.destination r h k) here

      told : (zs : List Listed) → AreOf family zs
          → untouched (place ∷ rest) zs ≡ filter (λ r. not (is_there r || touched_by rest r.rule)) zs
      told zs all = filter_on (λ r. not (touched_by (place ∷ rest) r.rule)) (λ r. not (is_there r || touched_by rest r.rule)) zs
          (each_weaker (IsOfFamily family) _ (λ r k. ap (λ b. not (b || touched_by rest r.rule)) (is r k)) zs all)

      found : rules_to place.family place.destination ys ≡ filter is_there ys
      found = filter_on (λ r. is_to place.family place.destination r.rule) is_there ys (each_weaker (IsOfFamily family) _ is ys each)

other_fewer : (place : Change) (rest : List Change) (family : Family) (ys xs : List Listed) → (afi_of family ≡ afi_of place.family → ⊥)
    → AreOf family ys → AreOf family xs
    → untouched (place ∷ rest) ys ≡ untouched (place ∷ rest) xs
    → untouched rest ys ≡ untouched rest xs
other_fewer place rest family ys xs apart each own same = sym (told ys each) ∙ same ∙ told xs own where
  told : (zs : List Listed) → AreOf family zs → untouched (place ∷ rest) zs ≡ untouched rest zs
  told zs all = filter_on (λ r. not (touched_by (place ∷ rest) r.rule)) (λ r. not (touched_by rest r.rule)) zs
      (each_weaker (IsOfFamily family) _
      (λ r k. ap (λ b. not (b || touched_by rest r.rule)) (to_other place.family family place.destination r.rule apart k.same)) zs all)

pub left_fewer : (place : Change) (rest : List Change) (held : Held) (rules : Family → List Listed) → IsOwn place
    → ((family : Family) → AreOf family (admitted_in held family))
    → ((family : Family) → AreOf family (rules family)) → ((family : Family) → AreNesting (spans_of (admitted_in held family)))
    → AreLeft (place ∷ rest) held rules
    → AreLeft rest held (put_in place.family
    (replaced (target_of place.destination) (rules_to place.family place.destination (admitted_in held place.family)) (rules place.family)) rules)
left_fewer place rest held rules here each own nesting left family = at place.family family refl where
  anew : Family → List Listed
  anew f = replaced (target_of place.destination) (rules_to place.family place.destination (admitted_in held f)) (rules f)

  v4_v6 : afi_of V4 ≡ afi_of V6 → ⊥
  v4_v6 e = omega (arith, e)

  at : (f g : Family) → place.family ≡ f
      → untouched rest (admitted_in held g)
      ≡ untouched rest (put_in f (anew place.family) rules g)
  at V4 V4 e = subst (λ f. untouched rest (admitted_in held V4) ≡ untouched rest (anew f)) (sym e)
      (here_fewer place rest V4 (admitted_in held V4) (rules V4) e here (each V4) (own V4) (nesting V4) (left V4))
  at V6 V6 e = subst (λ f. untouched rest (admitted_in held V6) ≡ untouched rest (anew f)) (sym e)
      (here_fewer place rest V6 (admitted_in held V6) (rules V6) e here (each V6) (own V6) (nesting V6) (left V6))
  at V4 V6 e = other_fewer place rest V6 (admitted_in held V6) (rules V6) (λ x. v4_v6 (sym (x ∙ ap afi_of e))) (each V6) (own V6) (left V6)
  at V6 V4 e = other_fewer place rest V4 (admitted_in held V4) (rules V4) (λ x. v4_v6 (x ∙ ap afi_of e)) (each V4) (own V4) (left V4)

-- Where no place is left the rules are those that the table admits.
pub left_none : (held : Held) (rules : Family → List Listed) → AreLeft [] held rules → (family : Family) → rules family ≡ admitted_in held family
left_none held rules left family = sym (all (rules family)) ∙ sym (left family) ∙ all (admitted_in held family) where
  all : (zs : List Listed) → untouched [] zs ≡ zs
  all zs = filter_all (λ r. not (touched_by [] r.rule)) zs (each_of zs) where
    each_of : (ys : List Listed) → AllByRecursion (λ r. not (touched_by [] r.rule) ≡ true) ys
    each_of [] = tt
    each_of (y ∷ ys) = (refl, each_of ys)

pub own_last : (held : Held) (rules : Family → List Listed) → AreLeft [] held rules → AreOwn rules → AreOwn (admitted_in held)
own_last held rules left own family = subst (AllByRecursion (IsOfFamily family)) (left_none held rules left family) (own family)

pub own_here : (family : Family) (destination : Option Prefix) (ys : List Listed) → AreOf family ys → AreOf family (rules_to family destination ys)
own_here family destination ys each = each_filtered (IsOfFamily family) (λ r. is_to family destination r.rule) ys each

each_to : (family : Family) (destination : Option Prefix) (ys : List Listed) → IfSome destination (λ p. p.family ≡ family) → AreOf family ys
    → AllByRecursion (λ r. span_of r.rule ≡ target_of destination) (rules_to family destination ys)
each_to family destination [] here each = tt
each_to family destination (y ∷ ys) here each = at (is_to family destination y.rule) refl (each_to family destination ys here each.1) where
  equal_is : (o : Ordering) → is_eq o ≡ true → o ≡ Equal
  equal_is Less e = absurd (true≢false (sym e))
  equal_is Equal e = refl
  equal_is Greater e = absurd (true≢false (sym e))

  at : (b : Bool) → is_to family destination y.rule ≡ b → AllByRecursion (λ r. span_of r.rule ≡ target_of destination) (rules_to family destination ys)
      → AllByRecursion (λ r. span_of r.rule ≡ target_of destination) (cond b (y ∷ rules_to family destination ys) (rules_to family destination ys))
  at true e ih = (
    same_place (target_of destination) (span_of y.rule)
        (equal_is (place_by (target_of destination) (span_of y.rule)) (sym (to_is family destination y here each.0) ∙ e)),
    ih,
  )
  at false e ih = ih

pub are_to : (target : Option (ℕ × ℕ)) (rs : List Listed) → AllByRecursion (λ r. span_of r.rule ≡ target) rs → AreTo target (spans_of rs)
are_to target [] h k below = absurd (omega arith)
are_to target (r ∷ rs) h zero below = h.0
are_to target (r ∷ rs) h (suc k) below = are_to target rs h.1 k (omega arith)

pub to_here : (family : Family) (destination : Option Prefix) (ys : List Listed) → IfSome destination (λ p. p.family ≡ family) → AreOf family ys
    → AreTo (target_of destination) (spans_of (rules_to family destination ys))
to_here family destination ys here each = are_to (target_of destination) (rules_to family destination ys) (each_to family destination ys here each)

own_replaced : (family : Family) (target : Option (ℕ × ℕ)) (news rules : List Listed) → AreOf family news → AreOf family rules
    → AreOf family (replaced target news rules)
own_replaced family target news rules h k =
    each_append (IsOfFamily family) _ _ (each_filtered (IsOfFamily family) (λ r. is_lt (place_by target (span_of r.rule))) rules k)
    (each_append (IsOfFamily family) news _ h (each_filtered (IsOfFamily family) (λ r. is_gt (place_by target (span_of r.rule))) rules k))

pub own_put : (family : Family) (target : Option (ℕ × ℕ)) (news : List Listed) (rules : Family → List Listed) → AreOf family news → AreOwn rules
    → AreOwn (put_in family (replaced target news (rules family)) rules)
own_put V4 target news rules h own V4 = own_replaced V4 target news (rules V4) h (own V4)
own_put V4 target news rules h own V6 = own V6
own_put V6 target news rules h own V4 = own V4
own_put V6 target news rules h own V6 = own_replaced V6 target news (rules V6) h (own V6)

pub listed_to : (family : Family) (destination : Option Prefix) (held : Held)
    → map listed (filter (λ r. is_to family destination r.rule) (admitted family held)) ≡ rules_to family destination (admitted_in held family)
listed_to family destination held = sym (listed_filter (is_to family destination) (admitted family held))

pub own_both : (rules : Family → List Listed) → AreOf V4 (rules V4) → AreOf V6 (rules V6) → AreOwn rules
own_both rules h k V4 = h
own_both rules h k V6 = k

pub own_item : (places noted : List Change) (i : ℕ) (item : Change) → places ≡ noted → i < length places → item ≡ get_or places i item
    → AllByRecursion IsOwn noted → IsOwn item
own_item places noted i item e below is own =
    each_got IsOwn places i item (subst (AllByRecursion IsOwn) (sym e) own) (slice_get_read places (length places) i item refl below is)
