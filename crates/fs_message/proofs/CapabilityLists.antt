-- What the reader of OPEN's capabilities has found, field by field, is what the list says.
use Rattle.fs_message.proofs.Words.{◌≡◌, ℕ, Bool, true, false, not, ◌&&◌, ◌||◌, ◌==◌, List, [], ◌∷◌, ◌++◌, length, drop, Option, Some, None, Result}
use Rattle.fs_message.proofs.Words.{Err, refl, sym, ap, ◌∙◌, arith, if◌then◌else◌, flat_map, find, option_map, list_any, list_all, nat_tests}
use Rattle.fs_message.proofs.Words.{common_steps, big_number, list_any-append, Shrinks, parts_of, parts_step, parts_end, Field, first_field}
use Rattle.fs_message.proofs.Words.{fields_of, are_fields, is_capability, is_parameter, are_parameters, capabilities_of, four_octet_as, names_family}
use Rattle.fs_message.proofs.Words.{found_in, first_of_two, with_later, added, gathered, all_gathered, fields_fault, opened, open_of, MessageFault}
use Rattle.fs_message.proofs.Words.{Open, fault}
use Rattle.fs_message.specs.declared.capabilities.Found.{Found}
use Rattle.std.proofs.Math.Bool.{or_assoc, or-false, and-true}
use Rattle.fs_base.proofs.Bools.{and_false}

pub field_shrinks : Shrinks first_field
field_shrinks [] found h = cc
field_shrinks (kind ∷ []) found h = cc
field_shrinks (kind ∷ size ∷ rest) found h = grind (arith, nat_tests, common_steps)

any_later : (found : Bool) (test : Field → Bool) (xs ys : List Field)
    → (found || list_any test (xs ++ ys)) ≡ ((found || list_any test xs) || list_any test ys)
any_later found test xs ys = ap (λ (b : Bool). found || b) (list_any-append test xs ys) ∙ sym (or_assoc found (list_any test xs) (list_any test ys))

abbrev asn_or : Bool → Field → Option Field → Option ℕ
asn_or here x later = option_map (λ capability. big_number 4 capability.value) (if here then Some x else later)

asn_step : (here : Bool) (x : Field) (zs xs ys : List Field) → four_octet_as zs ≡ first_of_two (four_octet_as xs) (four_octet_as ys)
    → asn_or here x (find (λ capability. capability.kind == 65) zs) ≡ first_of_two (asn_or here x (find (λ capability. capability.kind == 65) xs))
    (four_octet_as ys)
asn_step true x zs xs ys h = refl
asn_step false x zs xs ys h = h

asn_append : (xs ys : List Field) → four_octet_as (xs ++ ys) ≡ first_of_two (four_octet_as xs) (four_octet_as ys)
asn_append [] ys = refl
asn_append (x ∷ xs) ys = asn_step (x.kind == 65) x (xs ++ ys) xs ys (asn_append xs ys)

asn_later : (asn : Option ℕ) (xs ys : List Field)
    → first_of_two asn (four_octet_as (xs ++ ys)) ≡ first_of_two (first_of_two asn (four_octet_as xs)) (four_octet_as ys)
asn_later (Some n) xs ys = refl
asn_later None xs ys = asn_append xs ys

first_none : (asn : Option ℕ) → first_of_two asn None ≡ asn
first_none (Some n) = refl
first_none None = refl

abbrev found_with : Option ℕ → Bool → Bool → Bool → Bool → Found
found_with n a b c d = record { asn = n; v4_unicast = a; v4_flow = b; v6_unicast = c; v6_flow = d }

same_found : (n n' : Option ℕ) (a a' b b' c c' d d' : Bool) → n ≡ n' → a ≡ a' → b ≡ b' → c ≡ c' → d ≡ d' → found_with n a b c d ≡ found_with n' a' b' c' d'
same_found n n' a a' b b' c c' d d' e f g h i =
    ap (λ (z : Option ℕ). found_with z a b c d) e ∙ ap (λ (z : Bool). found_with n' z b c d) f ∙ ap (λ (z : Bool). found_with n' a' z c d) g
    ∙ ap (λ (z : Bool). found_with n' a' b' z d) h ∙ ap (λ (z : Bool). found_with n' a' b' c' z) i

later_append : (found : Found) (xs ys : List Field) → with_later found (found_in (xs ++ ys)) ≡ with_later (with_later found (found_in xs)) (found_in ys)
later_append found xs ys = same_found _ _ _ _ _ _ _ _ _ _ (asn_later found.asn xs ys)
    (any_later found.v4_unicast (names_family 1 1) xs ys) (any_later found.v4_flow (names_family 1 133) xs ys)
    (any_later found.v6_unicast (names_family 2 1) xs ys) (any_later found.v6_flow (names_family 2 133) xs ys)

later_none : (found : Found) → with_later found (found_in []) ≡ found
later_none found = same_found _ _ _ _ _ _ _ _ _ _ (first_none found.asn) (or-false found.v4_unicast) (or-false found.v4_flow)
    (or-false found.v6_unicast) (or-false found.v6_flow)

chosen : {A : Type 0} (right : Bool) (a b : A) → Some b ≡ (if right then Some a else None) → (right ≡ true) × (b ≡ a)
chosen true a b h = (refl, cc)
chosen false a b h = cc

not_chosen : {A : Type 0} (right : Bool) (a : A) → None ≡ (if right then Some a else None) → right ≡ false
not_chosen true a h = cc
not_chosen false a h = refl

and_here : (whole here rest : Bool) (a : Found) → here ≡ true → (if whole && (here && rest) then Some a else None) ≡ (if whole && rest then Some a else None)
and_here whole here rest a h = rw h refl

and_not : (whole here rest : Bool) (a : Found) → here ≡ false → (if whole && (here && rest) then Some a else None) ≡ None
and_not true here rest a h = rw h refl
and_not false here rest a h = refl

and_end : (whole : Bool) (a b : Found) → a ≡ b → (if whole && true then Some a else None) ≡ (if whole then Some b else None)
and_end whole a b h = ap (λ (t : Bool). if t then Some a else None) (and-true whole) ∙ ap (λ (z : Found). if whole then Some z else None) h

-- `gathered` and `all_gathered` over the parts: each field passes a test, and holds capabilities
module _ (test : Field → Bool) (held : List Field → List Field) (here : Field → List Field) (none : held [] ≡ [])
    (more : (field : Field) (fields : List Field) → held (field ∷ fields) ≡ here field ++ held fields) where
  abbrev from_parts : Found → List Field × List ℕ → Option Found
  from_parts found parts = if (length parts.1 == 0) && list_all test parts.0 then Some (with_later found (found_in (held parts.0))) else None

  step_right : (found : Found) (octets : List ℕ) (next : Field × List ℕ) → first_field octets ≡ Some next → test next.0 ≡ true
      → from_parts found (parts_of first_field octets) ≡ from_parts (with_later found (found_in (here next.0))) (parts_of first_field next.1)
  step_right found octets next h right =
      let rest : List Field × List ℕ = parts_of first_field next.1 in
      ap (from_parts found) (parts_step first_field field_shrinks octets next h)
      ∙ and_here (length rest.1 == 0) (test next.0) (list_all test rest.0) (with_later found (found_in (held (next.0 ∷ rest.0)))) right
      ∙ ap (λ (z : Found). if (length rest.1 == 0) && list_all test rest.0 then Some z else None)
      (ap (λ (z : List Field). with_later found (found_in z)) (more next.0 rest.0) ∙ later_append found (here next.0) (held rest.0))

  step_wrong : (found : Found) (octets : List ℕ) (next : Field × List ℕ) → first_field octets ≡ Some next → test next.0 ≡ false
      → from_parts found (parts_of first_field octets) ≡ None
  step_wrong found octets next h wrong =
      let rest : List Field × List ℕ = parts_of first_field next.1 in
      ap (from_parts found) (parts_step first_field field_shrinks octets next h)
      ∙ and_not (length rest.1 == 0) (test next.0) (list_all test rest.0) (with_later found (found_in (held (next.0 ∷ rest.0)))) wrong

  step_end : (found : Found) (octets : List ℕ) → first_field octets ≡ None
      → from_parts found (parts_of first_field octets) ≡ (if length octets == 0 then Some found else None)
  step_end found octets h =
      ap (from_parts found) (parts_end first_field octets h)
      ∙ and_end (length octets == 0) (with_later found (found_in (held []))) found (ap (λ (z : List Field). with_later found (found_in z)) none
      ∙ later_none found)

-- one capability after the other
pub gathered_more : (found later : Found) (octets : List ℕ) (next : Field × List ℕ) → first_field octets ≡ Some next → Some later ≡ added found next.0
    → gathered found octets ≡ gathered later next.1
gathered_more found later octets next h some =
    let c = chosen (is_capability next.0) (with_later found (found_in (next.0 ∷ []))) later some in
    step_right is_capability (λ fields. fields) (λ field. field ∷ []) refl (λ field fields. refl) found octets next h c.0
    ∙ ap (λ (z : Found). gathered z next.1) (sym c.1)

pub gathered_not : (found : Found) (octets : List ℕ) (next : Field × List ℕ) → first_field octets ≡ Some next → None ≡ added found next.0
    → gathered found octets ≡ None
gathered_not found octets next h none =
    step_wrong is_capability (λ fields. fields) (λ field. field ∷ []) refl (λ field fields. refl) found octets next h
    (not_chosen (is_capability next.0) (with_later found (found_in (next.0 ∷ []))) none)

pub gathered_end : (found : Found) (octets : List ℕ) → first_field octets ≡ None → gathered found octets ≡ (if length octets == 0 then Some found else None)
gathered_end = step_end is_capability (λ fields. fields) (λ field. field ∷ []) refl (λ field fields. refl)

-- one parameter after the other
abbrev values : Field → List Field
values parameter = fields_of parameter.value

pub all_more : (found later : Found) (octets : List ℕ) (next : Field × List ℕ) → first_field octets ≡ Some next → next.0.kind ≡ 2
    → Some later ≡ gathered found next.0.value → all_gathered found octets ≡ all_gathered later next.1
all_more found later octets next h known some =
    let kind : (next.0.kind == 2) ≡ true = grind (arith, nat_tests) in
    let c = chosen (are_fields next.0.value && list_all is_capability (values next.0)) (with_later found (found_in (values next.0))) later some in
    step_right is_parameter (flat_map values) values refl (λ field fields. refl) found octets next h (rw (kind, c.0) refl)
    ∙ ap (λ (z : Found). all_gathered z next.1) (sym c.1)

pub all_not : (found : Found) (octets : List ℕ) (next : Field × List ℕ) → first_field octets ≡ Some next → is_parameter next.0 ≡ false
    → all_gathered found octets ≡ None
all_not = step_wrong is_parameter (flat_map values) values refl (λ field fields. refl)

pub none_gathered : (found : Found) (parameter : Field) → None ≡ gathered found parameter.value → is_parameter parameter ≡ false
none_gathered found parameter none =
    and_false (parameter.kind == 2) (are_fields parameter.value && list_all is_capability (values parameter))
    (λ _. not_chosen (are_fields parameter.value && list_all is_capability (values parameter)) (with_later found (found_in (values parameter))) none)

pub all_end : (found : Found) (octets : List ℕ) → first_field octets ≡ None → all_gathered found octets ≡ (if length octets == 0 then Some found else None)
all_end = step_end is_parameter (flat_map values) values refl (λ field fields. refl)

-- the tests of the fields, over Bools
abbrev pub fields_chain : Bool → Bool → Bool → Bool → Bool → Option MessageFault
fields_chain version asn hold id size =
    if not version then Some (fault 2 1) else if asn then Some (fault 2 2) else if hold then Some (fault 2 6) else if id then Some (fault 2 3)
    else if not size then Some (fault 2 4) else None

pub fields_right : (version asn hold id size : Bool) → version ≡ true → asn ≡ false → hold ≡ false → id ≡ false → size ≡ true
    → fields_chain version asn hold id size ≡ None
fields_right version asn hold id size a b c d e = rw (a, b, c, d, e) refl

pub fields_sized : (version asn hold id size : Bool) → version ≡ true → asn ≡ false → hold ≡ false → id ≡ false → size ≡ false
    → fields_chain version asn hold id size ≡ Some (fault 2 4)
fields_sized version asn hold id size a b c d e = rw (a, b, c, d, e) refl

abbrev pub tail : Option MessageFault → Bool → Result Open MessageFault → Result Open MessageFault
tail wrong right result = elim wrong [ Some f ↦ Err f | None ↦ if right then result else Err (fault 2 4) ]

-- behind fields without a fault
pub open_found : (expected : ℕ) (body : List ℕ) (found : Found) → None ≡ fields_fault body → Some found ≡ all_gathered (found_in []) (drop 10 body)
    → (found ≡ found_in (capabilities_of (drop 10 body))) × (open_of expected body ≡ opened expected body (capabilities_of (drop 10 body)))
open_found expected body found right some =
    let all = chosen (are_parameters (drop 10 body)) (found_in (capabilities_of (drop 10 body))) found some in
    let result : Result Open MessageFault = opened expected body (capabilities_of (drop 10 body)) in
    (all.1, ap (λ (z : Option MessageFault). tail z (are_parameters (drop 10 body)) result) (sym right) ∙ ap (λ (z : Bool). tail None z result) all.0)
