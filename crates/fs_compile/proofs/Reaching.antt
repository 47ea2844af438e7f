-- Which packets the destination of a rule covers: those whose destination lies between its first and its last address. A
-- rule matches no others.
use Rattle.fs_compile.proofs.Words.{◌≡◌, ℕ, ◌-◌, ◌*◌, ◌^◌, ◌<◌, ◌≤◌, ◌==◌, ◌↔◌, refl, sym, ap, ap₂, subst, ◌∙◌, Bool, true, false, true≢false, cond}
use Rattle.fs_compile.proofs.Words.{Option, Some, None, List, [], ◌∷◌, arith, list_all, eqb-true, eq-eqb, none-some, and_first, and_second, Family}
use Rattle.fs_compile.proofs.Words.{V4, V6, Prefix, width_of, cleared, Body, V4Body, V6Body, ListBody, Part, Ruled, IsRule, IsNormalAt, AreNormal}
use Rattle.fs_compile.proofs.Words.{destination_body, destination_in, destination_of, IsMade, destination_first, last_shown, Viewed, family_of}
use Rattle.fs_compile.proofs.Words.{is_match, is_prefix_of, body_matches, part_matches, family_of_destination, IsSmallAddress, span_by, span_of}
use Rattle.fs_compile.proofs.Words.{number_of, covers_address, reaches, made_destination, HasDestination, from_span}
use Rattle.fs_base.{specs.declared.config.Address.{Address, TheVariants.{V4 as V4Address, V6 as V6Address}}, proofs.Addresses.{address_range}}
use Rattle.fs_nlri.specs.Forms.{form_of}

-- the addresses with the first bits of a destination are those from its first to its last
destination_range : (d : Family × ℕ × ℕ) (n : ℕ) → IsMade (Some d) → n < 2 ^ width_of d.0
    → (cleared (width_of d.0) d.2 n ≡ d.1) ↔ ((d.1 ≤ n) × (n ≤ last_shown d))
destination_range d n h below =
    let prefix : Prefix = record { family = d.0; bits = d.1; length = d.2; short = h.0; clear = h.1 } in
    address_range prefix n below

-- an address of a family has its width
number_below : (address : Address) → IsSmallAddress address → number_of address < 2 ^ width_of (family_of address)
number_below (V4Address a) h = h
number_below (V6Address a) h = h

-- A rule with a destination reaches those packets of its family whose destination is one of its addresses.
pub span_reaches : (rule : Ruled) (view : Viewed) (p : ℕ × ℕ) → IsRule rule → rule.family ≡ view.family → family_of view.destination ≡ view.family
    → IsSmallAddress view.destination
    → span_of rule ≡ Some p → (reaches view rule ≡ true) ↔ ((p.0 ≤ number_of view.destination) × (number_of view.destination ≤ p.1))
span_reaches rule view p h f g small s = (
  (λ r. subst (λ (x : ℕ × ℕ). (x.0 ≤ n) × (n ≤ x.1)) (sym found.span) (range.0 (eqb-true (cleared (width_of found.d.0) found.d.2 n) found.d.1 (sym is ∙ r)))),
  (λ r. is ∙ eq-eqb (cleared (width_of found.d.0) found.d.2 n) found.d.1 (range.1 (subst (λ (x : ℕ × ℕ). (x.0 ≤ n) × (n ≤ x.1)) found.span r))),
) where
  n : ℕ
  n = number_of view.destination

  found : HasDestination rule p
  found = from_span rule p s

  is : reaches view rule ≡ (cleared (width_of found.d.0) found.d.2 n == found.d.1)
  is = ap (λ o. covers_address o view.destination) found.is

  same : family_of view.destination ≡ found.d.0
  same = g ∙ sym f ∙ sym (family_of_destination rule found.d h found.is)

  range : (cleared (width_of found.d.0) found.d.2 n ≡ found.d.1) ↔ ((found.d.1 ≤ n) × (n ≤ last_shown found.d))
  range = destination_range found.d n (made_destination rule found.d h found.is) (subst (λ x. n < 2 ^ width_of x) same (number_below view.destination small))

-- a rule without a destination reaches each packet
pub bare_reaches : (rule : Ruled) (view : Viewed) → span_of rule ≡ None → reaches view rule ≡ true
bare_reaches rule view s = at (destination_of rule) s where
  at : (o : Option (Family × ℕ × ℕ)) → span_by o ≡ None → covers_address o view.destination ≡ true
  at None e = refl
  at (Some d) e = absurd (none-some (d.1, last_shown d) (sym e))

-- A rule matches only packets that it reaches.
match_body : (family : Family) (body : Body) (address : Address) → IsNormalAt (form_of family 1) body → is_prefix_of body address ≡ true
    → covers_address (destination_body body) address ≡ true
match_body V4 (V4Body f l b) (V4Address a) h m = subst (λ x. (cleared (width_of x) l a == b) ≡ true) (sym h.0) m
match_body V4 (V4Body f l b) (V6Address a) h m = absurd (true≢false (sym m))
match_body V4 (V6Body l o b) address h m = absurd h
match_body V4 (ListBody pairs) address h m = absurd h
match_body V6 (V4Body f l b) address h m = absurd h
match_body V6 (ListBody pairs) address h m = absurd h
match_body V6 (V6Body l o b) (V4Address a) h m = absurd (true≢false (sym m))
match_body V6 (V6Body l o b) (V6Address a) h m = at (o == 0) refl where
  at : (c : Bool) → (o == 0) ≡ c → covers_address (cond c (Some (V6, b, l)) None) (V6Address a) ≡ true
  at true e =
      let none : o ≡ 0 = eqb-true o 0 e in
      let length_is : l - o ≡ l = omega (arith, none) in
      let power : 2 ^ o ≡ 1 = ap (λ (x : ℕ). 2 ^ x) none in
      let number_is : a * 2 ^ o ≡ a = ap (λ (x : ℕ). a * x) power ∙ once in
      sym (ap₂ (λ (n x : ℕ). cleared 128 n x == b) length_is number_is) ∙ m where
        once : a * 1 ≡ a
        once = omega arith
  at false e = refl

first_body : (family : Family) (view : Viewed) (body : Body) → IsNormalAt (form_of family 1) body → body_matches view 1 body ≡ true
    → covers_address (destination_body body) view.destination ≡ true
first_body family view (V4Body f l b) normal g = match_body family (V4Body f l b) view.destination normal g
first_body family view (V6Body l o b) normal g = match_body family (V6Body l o b) view.destination normal g
first_body V4 view (ListBody pairs) normal g = absurd normal
first_body V6 view (ListBody pairs) normal g = absurd normal

pub match_reaches : (rule : Ruled) (view : Viewed) → IsRule rule → is_match rule view ≡ true → reaches view rule ≡ true
match_reaches rule view h m = in_parts rule.parts h.normal (and_second _ _ m) where
  in_parts : (parts : List Part) → AreNormal rule.family 0 parts → list_all (part_matches view) parts ≡ true
      → covers_address (destination_in parts) view.destination ≡ true
  in_parts [] n a = refl
  in_parts (x ∷ xs) n a = ap (λ o. covers_address o view.destination) (destination_first rule.family x xs n) ∙ at (x.kind == 1) refl where
    at : (c : Bool) → (x.kind == 1) ≡ c → covers_address (cond c (destination_body x.body) None) view.destination ≡ true
    at true k =
        let one : x.kind ≡ 1 = eqb-true x.kind 1 k in
        let first : part_matches view x ≡ true = and_first _ _ a in
        let normal : IsNormalAt (form_of rule.family 1) x.body = subst (λ i. IsNormalAt (form_of rule.family i) x.body) one n.1 in
        first_body rule.family view x.body normal (subst (λ i. body_matches view i x.body ≡ true) one first)
    at false k = refl
