-- A packet that matches what lies in something matches that too: lists, prefixes, components, rules.
use Rattle.fs_shadow.proofs.Words.{◌<◌, ◌≡◌, ℕ, ◌^◌, ◌==◌, Bool, true, false, cond, ◌||◌, Option, Some, None, List, [], ◌∷◌, refl, sym, subst, ◌∙◌}
use Rattle.fs_shadow.proofs.Words.{inl, inr, arith, list_all, list_any, and_from, and_parts, eq-eqb, eqb-true, or_cases, or_left, or_right}
use Rattle.fs_shadow.proofs.Words.{true≢false, or_false, or_weaker, Family, V4, V6, afi_of, compares, holds, Body, V4Body, V6Body, ListBody, Part}
use Rattle.fs_shadow.proofs.Words.{Viewed, body_matches, holds_of, is_prefix_of, list_matches, part_matches, IsSmall, IsSmallAddress, IsSmallField}
use Rattle.fs_shadow.proofs.Words.{are_same_pairs, body_lies_in, implies, is_same_pair, list_lies_in, may_lie_in, numbers_lie_in, part_lies_in}
use Rattle.fs_shadow.proofs.Words.{tests_bits, ContainedMatches}
use Rattle.fs_shadow.proofs.Below.{each_below, follows}
use Rattle.fs_base.specs.declared.config.Address.{Address}

no_truth : {P : Type 0} → false ≡ true → P
no_truth h = absurd (true≢false (sym h))

-- where each of two branches follows from that of another choice by the same test
either_way : (c a b x y : Bool) → (a ≡ true → x ≡ true) → (b ≡ true → y ≡ true) → cond c a b ≡ true → cond c x y ≡ true
either_way true a b x y f g h = f h
either_way false a b x y f g h = g h

-- where the test fails
second_way : (c a b x y : Bool) → c ≡ false → (b ≡ true → y ≡ true) → cond c a b ≡ true → cond c x y ≡ true
second_way true a b x y e g h = absurd (true≢false e)
second_way false a b x y e g h = g h

-- a field that the inner list holds of is one that the outer list holds of
field_holds : (inner outer : List (ℕ × ℕ)) (field : Option ℕ) → IsSmallField field → numbers_lie_in inner outer ≡ true → holds_of inner field ≡ true
    → holds_of outer field ≡ true
field_holds inner outer None small lies h = no_truth h
field_holds inner outer (Some n) small lies h =
    follows (holds (compares n) inner) (holds (compares n) outer)
    (each_below (2 ^ 64) (λ m. implies (holds (compares m) inner) (holds (compares m) outer)) lies n (let l : n < 2 ^ 32 = small in omega (arith, l))) h

-- lists that compare numbers, of each type
numbers_match : (view : Viewed) → IsSmall view → (kind : ℕ) (inner outer : List (ℕ × ℕ)) → tests_bits kind ≡ false → numbers_lie_in inner outer ≡ true
    → list_matches view kind inner ≡ true → list_matches view kind outer ≡ true
numbers_match view small kind inner outer none lies =
    either_way (kind == 3) _ _ _ _ (at view.protocol small.protocol)
    (either_way (kind == 4) _ _ _ _ (or_weaker _ _ _ _ (at view.source_port small.source_port) (at view.destination_port small.destination_port))
    (either_way (kind == 5) _ _ _ _ (at view.destination_port small.destination_port)
    (either_way (kind == 6) _ _ _ _ (at view.source_port small.source_port)
    (either_way (kind == 7) _ _ _ _ (at view.icmp_type small.icmp_type)
    (either_way (kind == 8) _ _ _ _ (at view.icmp_code small.icmp_code)
    (second_way (kind == 9) _ _ _ _ no_bits.0
    (either_way (kind == 10) _ _ _ _ (at (Some view.length) small.length)
    (either_way (kind == 11) _ _ _ _ (at (Some view.dscp) small.dscp)
    (second_way (kind == 12) _ _ _ _ no_bits.1
    (either_way (kind == 13) _ _ _ _ (at view.flow_label small.flow_label) (λ h. h))))))))))) where
      no_bits : ((kind == 9) ≡ false) × ((kind == 12) ≡ false)
      no_bits = or_false (kind == 9) (kind == 12) none

      at : (field : Option ℕ) → IsSmallField field → holds_of inner field ≡ true → holds_of outer field ≡ true
      at field h = field_holds inner outer field h lies

same_pair : (p q : ℕ × ℕ) → is_same_pair p q ≡ true → p ≡ q
same_pair (a, b) (c, d) h =
    let parts = and_parts (a == c) (b == d) h in
    (λ i. (eqb-true a c parts.0 i, eqb-true b d parts.1 i))

same_pairs : (ps qs : List (ℕ × ℕ)) → are_same_pairs ps qs ≡ true → ps ≡ qs
same_pairs [] [] h = refl
same_pairs [] (q ∷ qs) h = no_truth h
same_pairs (p ∷ ps) [] h = no_truth h
same_pairs (p ∷ ps) (q ∷ qs) h =
    let parts = and_parts (is_same_pair p q) (are_same_pairs ps qs) h in
    (λ i. same_pair p q parts.0 i ∷ same_pairs ps qs parts.1 i)

list_implied : (view : Viewed) → IsSmall view → (kind : ℕ) (inner outer : List (ℕ × ℕ)) → list_lies_in kind inner outer ≡ true
    → list_matches view kind inner ≡ true → list_matches view kind outer ≡ true
list_implied view small kind inner outer lies h = by (tests_bits kind) refl lies where
  by : (bits : Bool) → tests_bits kind ≡ bits → cond bits (are_same_pairs inner outer) (numbers_lie_in inner outer) ≡ true → list_matches view kind outer ≡ true
  by true e l = subst (λ pairs. list_matches view kind pairs ≡ true) (same_pairs inner outer l) h
  by false e l = numbers_match view small kind inner outer e l h

v4_implied : (f g : Family) (m a n b : ℕ) (address : Address) → IsSmallAddress address → body_lies_in 1 (V4Body f m a) (V4Body g n b) ≡ true
    → is_prefix_of (V4Body f m a) address ≡ true → is_prefix_of (V4Body g n b) address ≡ true
v4_implied f g m a n b (V6 x) small lies h = no_truth h
v4_implied f g m a n b (V4 x) small lies h =
    follows (is_prefix_of (V4Body f m a) (V4 x)) (is_prefix_of (V4Body g n b) (V4 x))
    (each_below (2 ^ 32) (λ y. implies (is_prefix_of (V4Body f m a) (V4 y)) (is_prefix_of (V4Body g n b) (V4 y))) lies x small) h

v6_implied : (m o a n p b : ℕ) (address : Address) → IsSmallAddress address → body_lies_in 1 (V6Body m o a) (V6Body n p b) ≡ true
    → is_prefix_of (V6Body m o a) address ≡ true → is_prefix_of (V6Body n p b) address ≡ true
v6_implied m o a n p b (V4 x) small lies h = no_truth h
v6_implied m o a n p b (V6 x) small lies h =
    follows (is_prefix_of (V6Body m o a) (V6 x)) (is_prefix_of (V6Body n p b) (V6 x))
    (each_below (2 ^ 128) (λ y. implies (is_prefix_of (V6Body m o a) (V6 y)) (is_prefix_of (V6Body n p b) (V6 y))) lies x small) h

-- what stands behind a type, in what stands behind the same type
body_implied : (view : Viewed) → IsSmall view → (kind : ℕ) (inner outer : Body) → body_lies_in kind inner outer ≡ true
    → body_matches view kind inner ≡ true → body_matches view kind outer ≡ true
body_implied view small kind (V4Body f m a) (V4Body g n b) lies h =
    either_way (kind == 1) _ _ _ _ (v4_implied f g m a n b view.destination small.destination lies)
    (either_way (kind == 2) _ _ _ _ (v4_implied f g m a n b view.source small.source lies) (λ e. e)) h
body_implied view small kind (V6Body m o a) (V6Body n p b) lies h =
    either_way (kind == 1) _ _ _ _ (v6_implied m o a n p b view.destination small.destination lies)
    (either_way (kind == 2) _ _ _ _ (v6_implied m o a n p b view.source small.source lies) (λ e. e)) h
body_implied view small kind (ListBody inner) (ListBody outer) lies h = list_implied view small kind inner outer lies h
body_implied view small kind (V4Body f m a) (V6Body n p b) lies h = no_truth lies
body_implied view small kind (V4Body f m a) (ListBody outer) lies h = no_truth lies
body_implied view small kind (V6Body m o a) (V4Body g n b) lies h = no_truth lies
body_implied view small kind (V6Body m o a) (ListBody outer) lies h = no_truth lies
body_implied view small kind (ListBody inner) (V4Body g n b) lies h = no_truth lies
body_implied view small kind (ListBody inner) (V6Body n p b) lies h = no_truth lies

-- a destination port, or a source port, in a port
port_implied : (view : Viewed) → IsSmall view → (inner outer : Body) → body_lies_in 4 inner outer ≡ true
    → (body_matches view 5 inner || body_matches view 6 inner) ≡ true → body_matches view 4 outer ≡ true
port_implied view small (ListBody inner) (ListBody outer) lies h =
    or_weaker _ _ _ _ (field_holds inner outer view.source_port small.source_port lies)
    (field_holds inner outer view.destination_port small.destination_port lies)
    (elim (or_cases (holds_of inner view.destination_port) (holds_of inner view.source_port) h)
    [ inl first ↦ or_right _ _ first | inr second ↦ or_left _ _ second ])
port_implied view small (V4Body f m a) outer lies h = no_truth h
port_implied view small (V6Body m o a) outer lies h = no_truth h
port_implied view small (ListBody inner) (V4Body g n b) lies h = no_truth lies
port_implied view small (ListBody inner) (V6Body n p b) lies h = no_truth lies

part_implied : (view : Viewed) → IsSmall view → (inner outer : Part) → part_lies_in inner outer ≡ true → part_matches view inner ≡ true
    → part_matches view outer ≡ true
part_implied view small inner outer lies h = elim (or_cases (inner.kind == outer.kind) _ parts.0) [
  | inl same ↦
      body_implied view small outer.kind inner.body outer.body parts.1
      (subst (λ kind. body_matches view kind inner.body ≡ true) (eqb-true inner.kind outer.kind same) h)
  | inr ports ↦
      let both = and_parts (outer.kind == 4) ((inner.kind == 5) || (inner.kind == 6)) ports in
      let four : outer.kind ≡ 4 = eqb-true outer.kind 4 both.0 in
      subst (λ kind. body_matches view kind outer.body ≡ true) (sym four)
      (port_implied view small inner.body outer.body (subst (λ kind. body_lies_in kind inner.body outer.body ≡ true) four parts.1) (either both.1))
] where
  parts : (may_lie_in inner.kind outer.kind ≡ true) × (body_lies_in outer.kind inner.body outer.body ≡ true)
  parts = and_parts (may_lie_in inner.kind outer.kind) (body_lies_in outer.kind inner.body outer.body) lies

  at_kind : (kind : ℕ) → (inner.kind == kind) ≡ true → body_matches view kind inner.body ≡ true
  at_kind kind e = subst (λ k. body_matches view k inner.body ≡ true) (eqb-true inner.kind kind e) h

  either : ((inner.kind == 5) || (inner.kind == 6)) ≡ true → (body_matches view 5 inner.body || body_matches view 6 inner.body) ≡ true
  either e = or_weaker _ _ _ _ (at_kind 5) (at_kind 6) e

any_implied : (view : Viewed) → IsSmall view → (outer : Part) (parts : List Part) → list_any (λ inner. part_lies_in inner outer) parts ≡ true
    → list_all (part_matches view) parts ≡ true → part_matches view outer ≡ true
any_implied view small outer [] some h = no_truth some
any_implied view small outer (part ∷ parts) some h =
    let both = and_parts (part_matches view part) (list_all (part_matches view) parts) h in
    elim (or_cases (part_lies_in part outer) (list_any (λ inner. part_lies_in inner outer) parts) some) [
      | inl here ↦ part_implied view small part outer here both.0
      | inr later ↦ any_implied view small outer parts later both.1
    ]

all_implied : (view : Viewed) → IsSmall view → (parts outers : List Part) → list_all (λ outer. list_any (λ inner. part_lies_in inner outer) parts) outers ≡ true
    → list_all (part_matches view) parts ≡ true → list_all (part_matches view) outers ≡ true
all_implied view small parts [] each h = refl
all_implied view small parts (outer ∷ outers) each h =
    let both = and_parts (list_any (λ inner. part_lies_in inner outer) parts)
    (list_all (λ other. list_any (λ inner. part_lies_in inner other) parts) outers) each in
    and_from (part_matches view outer) (list_all (part_matches view) outers) (any_implied view small outer parts both.0 h)
    (all_implied view small parts outers both.1 h)

pub contained_matches : ContainedMatches
contained_matches a b view small lies h =
    let inside = and_parts (afi_of a.family == afi_of b.family) (list_all (λ outer. list_any (λ inner. part_lies_in inner outer) b.parts) a.parts) lies in
    let met = and_parts (afi_of b.family == afi_of view.family) (list_all (part_matches view) b.parts) h in
    and_from (afi_of a.family == afi_of view.family) (list_all (part_matches view) a.parts)
    (eq-eqb (afi_of a.family) (afi_of view.family) (eqb-true (afi_of a.family) (afi_of b.family) inside.0
    ∙ eqb-true (afi_of b.family) (afi_of view.family) met.0))
    (all_implied view small b.parts a.parts inside.1 met.1)
