-- What is read of the front of octets is the outcome that the grammar of flow rules gives: of a prefix, a list, a value, a frame, a field.
use Rattle.fs_nlri.proofs.Words.{Any, Bad, Body, Bool, Contains, Cut, Err, Family, Form, IsBodyBad, IsFieldOutcome, IsFrame, IsFrameOutcome, IsLength}
use Rattle.fs_nlri.proofs.Words.{IsOpen, IsRange, IsSome, IsValueBad, Kind, Length, List, ListForm, NoType, None, Offset, Ok, Option, Order, Part}
use Rattle.fs_nlri.proofs.Words.{PrefixLength, Reason, Result, Ruled, Some, Spells, SpellsAt, SpellsBody, SpellsV4, SpellsV6, V4, V4Body, V4Form, V6}
use Rattle.fs_nlri.proofs.Words.{V6Body, V6Form, Width, [], ap, append_assoc, arith, big_number, bit_and, both_ways, cases_eq, cases_lt, drop, eq-eqb}
use Rattle.fs_nlri.proofs.Words.{false, first_bits, form_of, forms, get_or, inl, inr, le-leb, length, length-append, length-drop, length-take-le}
use Rattle.fs_nlri.proofs.Words.{list_any, lt-ltb, octets_for, part, refl, subst, suc, sym, take, take-append-drop, take_rest, text, true, width_code}
use Rattle.fs_nlri.proofs.Words.{append-nil, is_range, zero, ℕ, ◌++◌, ◌+◌, ◌-◌, ◌<◌, ◌==◌, ◌∙◌, ◌∷◌, ◌≡◌, ◌≤◌, ◌⊎◌}
use Rattle.std.proofs.lemmas.{Bool.{cases_Bool, le-ltb, ne_eqb}, List.Elements.{Contains-append_cases, Contains-append_right, Contains-push_cases}}
use Rattle.fs_ops.specs.{Operator.{counted_bits, ends, width_of}, OperatorList.{Spells as SpellsPairs}, Fault.{IsFault}}
use Rattle.fs_ops.specs.declared.fault.OpsFault.TheVariants.{Cut as ListCut, Width as ListWidth}
use Rattle.fs_ops.proofs.Found.{cut_between, cut_within, bad_width, next_found, goes_on, ends_here, HasRead as HasPairs}
use Rattle.fs_nlri.specs.Reading.{behind_type, body_at, components_in, components_of, frame_at, framed, frames_of, length_at, list_body, pairs_at}
use Rattle.fs_nlri.specs.Reading.{rules_of, sized_at, typed_at, v4_at, v6_at, with_component, with_pair, with_rule}
use Rattle.fs_nlri.proofs.Bodies.{v4_empty, v4_length, v4_cut, v6_empty, v6_length, v6_one, v6_offset, v6_cut}
use Rattle.fs_nlri.proofs.{BodyReaders.{list_bad}, Fronts.{front_more}, Frames.{same_head, frame_found, frame_bad}, InNormalForm.{range_is}}
use Rattle.fs_nlri.proofs.ValueSteps.{HasRead, start, finished, no_type, not_above, bad_at}

-- Prefixes

abbrev IsBodyOutcome : Form → List ℕ → Result (Body × ℕ) (Reason × ℕ) → Type 0
IsBodyOutcome form octets (Ok read) = (read.1 ≤ length octets) × SpellsBody form (take read.1 octets) read.0
IsBodyOutcome form octets (Err bad) = IsBodyBad form octets bad.0 bad.1

v4_whole : (len : ℕ) (tail : List ℕ) → len ≤ 32 → octets_for len ≤ length tail
    → SpellsV4 (take (1 + octets_for len) (len ∷ tail)) (V4Body V4 len (first_bits 32 len (take (octets_for len) tail)))
v4_whole len tail short room = record {
  len = len;
  address = take (octets_for len) tail;
  split = let e : 1 + octets_for len ≡ suc (octets_for len) = omega arith in ap (λ (n : ℕ). take n (len ∷ tail)) e;
  short = short;
  size = length-take-le (octets_for len) tail room;
  says = refl;
}

range_or_not : (len offset : ℕ) → len ≤ 128 → IsRange len offset ⊎ (IsRange len offset → ⊥)
range_or_not len offset short = elim (cases_lt offset len) [
  | inl less ↦ inl (short, inl less)
  | inr more ↦ elim (cases_eq len 0) [
    | inl none ↦ elim (cases_eq offset 0) [
      | inl first ↦ inl (short, inr (none, first))
      | inr other ↦ inr (λ range. elim range.1 [ inl less ↦ absurd (omega arith) | inr both ↦ other both.1 ])
    ]
    | inr some ↦ inr (λ range. elim range.1 [ inl less ↦ absurd (omega arith) | inr both ↦ some both.0 ])
  ]
]

v6_whole : (len offset : ℕ) (tail : List ℕ) → IsRange len offset → octets_for (len - offset) ≤ length tail
    → SpellsV6 (take (2 + octets_for (len - offset)) (len ∷ offset ∷ tail))
    (V6Body len offset (first_bits 128 (len - offset) (take (octets_for (len - offset)) tail)))
v6_whole len offset tail range room = record {
  len = len;
  offset = offset;
  pattern = take (octets_for (len - offset)) tail;
  split = let e : 2 + octets_for (len - offset) ≡ suc (suc (octets_for (len - offset))) = omega arith in ap (λ (n : ℕ). take n (len ∷ offset ∷ tail)) e;
  range = range;
  size = length-take-le (octets_for (len - offset)) tail room;
  says = refl;
}

v4_is : (octets : List ℕ) → IsBodyOutcome V4Form octets (v4_at octets)
v4_is [] = v4_empty
v4_is (len ∷ tail) = elim (cases_lt 32 len) [
  | inl long ↦ rw (lt-ltb 32 len long) (v4_length len tail long)
  | inr short ↦ elim (cases_lt (length tail) (octets_for len)) [
    | inl few ↦ rw (le-ltb 32 len short, lt-ltb (length tail) (octets_for len) few) (v4_cut len tail short few)
    | inr room ↦ rw (le-ltb 32 len short, le-ltb (length tail) (octets_for len) room) (omega arith, v4_whole len tail short room)
  ]
]

no_range : (len offset : ℕ) → len ≤ 128 → (IsRange len offset → ⊥) → is_range len offset ≡ false
no_range len offset short none = elim (cases_lt offset len) [
  | inl below ↦ absurd (none (short, inl below))
  | inr above ↦ elim (cases_eq len 0) [
    | inr some ↦ rw (le-leb len 128 short, le-ltb offset len above, ne_eqb len 0 some) refl
    | inl empty ↦ elim (cases_eq offset 0) [
      | inl first ↦ absurd (none (short, inr (empty, first)))
      | inr other ↦ rw (le-leb len 128 short, le-ltb offset len above, eq-eqb len 0 empty, ne_eqb offset 0 other) refl
    ]
  ]
]

v6_is : (octets : List ℕ) → IsBodyOutcome V6Form octets (v6_at octets)
v6_is [] = v6_empty
v6_is (len ∷ []) = elim (cases_lt 128 len) [
  | inl long ↦ rw (lt-ltb 128 len long) (v6_length len [] long)
  | inr short ↦ rw (le-ltb 128 len short) (v6_one len short)
]
v6_is (len ∷ offset ∷ tail) = elim (cases_lt 128 len) [
  | inl long ↦ rw (lt-ltb 128 len long) (v6_length len (offset ∷ tail) long)
  | inr short ↦ rw (le-ltb 128 len short) (elim (range_or_not len offset short) [
    | inr none ↦ rw (no_range len offset short none) (v6_offset len offset tail short none)
    | inl range ↦ rw (range_is len offset range) (elim (cases_lt (length tail) (octets_for (len - offset))) [
      | inl few ↦ rw (lt-ltb (length tail) (octets_for (len - offset)) few) (v6_cut len offset tail range few)
      | inr room ↦ rw (le-ltb (length tail) (octets_for (len - offset)) room) (omega arith, v6_whole len offset tail range room)
    ])
  ])
]

-- Lists of pairs

-- an allowed code is told from one that isn't
abbrev Told : List ℕ → ℕ → Type 0
Told codes code =
    (Contains codes code × (list_any (λ width. width == code) codes ≡ true))
    ⊎ ((Contains codes code → ⊥) × (list_any (λ width. width == code) codes ≡ false))

told : (codes : List ℕ) (code : ℕ) → Told codes code
told [] code = inr (λ found. absurd (omega (arith, found.1)), refl)
told (own ∷ codes) code = elim (cases_eq own code) [
  | inl same ↦ inl ((0, omega arith, same), rw (eq-eqb own code same) refl)
  | inr other ↦ elim (told codes code) [
    | inl found ↦ inl (Contains-append_right (own ∷ []) codes code found.0, rw (ne_eqb own code other) found.1)
    | inr none ↦ inr (neither other none.0, rw (ne_eqb own code other) none.1)
  ]
]
  where
    neither : (own ≡ code → ⊥) → (Contains codes code → ⊥) → Contains (own ∷ codes) code → ⊥
    neither other none found = elim (Contains-append_cases (own ∷ []) codes code found) [
      | inl first ↦ elim (Contains-push_cases [] own code first) [ inl nothing ↦ absurd (omega (arith, nothing.1)) | inr same ↦ other same ]
      | inr later ↦ none later
    ]

abbrev PairsRead : Type 0
PairsRead = Result (List (ℕ × ℕ) × ℕ) (Reason × ℕ)

-- what is read behind these pairs, which are so many octets
abbrev joined : List (ℕ × ℕ) → ℕ → PairsRead → PairsRead
joined before count (Ok later) = Ok (before ++ later.0, count + later.1)
joined before count (Err bad) = Err (bad.0, count + bad.1)

joined_more : (before : List (ℕ × ℕ)) (pair : ℕ × ℕ) (count more all : ℕ) (later : PairsRead) → all ≡ count + more
    → joined (before ++ pair ∷ []) all later ≡ joined before count (with_pair pair more later)
joined_more before pair count more all (Ok later) e =
    let sum : all + later.1 ≡ count + (more + later.1) = omega (arith, e) in
    ap (λ (l : List (ℕ × ℕ)). let read : PairsRead = Ok (l, all + later.1) in read) (append_assoc before (pair ∷ []) later.0)
    ∙ ap (λ (n : ℕ). let read : PairsRead = Ok (before ++ pair ∷ later.0, n) in read) sum
joined_more before pair count more all (Err bad) e =
    let sum : all + bad.1 ≡ count + (more + bad.1) = omega (arith, e) in
    ap (λ (n : ℕ). let read : PairsRead = Err (bad.0, n) in read) sum

abbrev IsListBad : List ℕ → List ℕ → Reason → ℕ → Type 0
IsListBad widths octets Cut place = IsFault widths octets (ListCut place)
IsListBad widths octets Width place = IsFault widths octets (ListWidth place)
IsListBad widths octets _ place = ⊥

abbrev IsPairsOutcome : Kind → List ℕ → List ℕ → PairsRead → Type 0
IsPairsOutcome kind widths octets (Ok read) = (read.1 ≤ length octets) × SpellsPairs kind widths (take read.1 octets) read.0
IsPairsOutcome kind widths octets (Err bad) = IsListBad widths octets bad.0 bad.1

not_none : (pairs : List (ℕ × ℕ)) (pair : ℕ × ℕ) → (length (pairs ++ pair ∷ []) == 0) ≡ false
not_none pairs pair = ne_eqb (length (pairs ++ pair ∷ [])) 0 (λ none. absurd (omega (arith, none, length-append pairs (pair ∷ []))))

pairs_are : (kind : Kind) (widths octets : List ℕ) → Any (λ code. code < 4) widths → (most : ℕ) (rest : List ℕ) (pairs : List (ℕ × ℕ))
    → HasPairs kind widths octets rest pairs → length rest < most
    → IsPairsOutcome kind widths octets (joined pairs (length octets - length rest) (pairs_at kind widths (length pairs == 0) most rest))
unfolding pairs_at
pairs_are kind widths octets some zero rest pairs read enough = absurd (omega arith)
pairs_are kind widths octets some (suc most) [] pairs read enough =
    let empty : List ℕ = [] in
    let e : length octets ≡ length octets - length empty + 0 = omega arith in
    subst (λ (n : ℕ). IsFault widths octets (ListCut n)) e (cut_between kind widths octets [] pairs some read refl)
pairs_are kind widths octets some (suc most) (operator ∷ tail) pairs read enough =
    let inside : suc (length tail) ≤ length octets =
    omega (arith, ap (λ (l : List ℕ). length l) read.split, length-append (text read.before) (operator ∷ tail)) in
    elim (told widths (width_code operator)) [
      | inr refused ↦
          let e : length octets - length (operator ∷ tail) ≡ length octets - length (operator ∷ tail) + 0 = omega arith in
          rw refused.1 (subst (λ (n : ℕ). IsFault widths octets (ListWidth n)) e
          (bad_width kind widths octets (operator ∷ tail) pairs operator tail some read refl refused.0))
      | inl allowed ↦ rw allowed.1 (elim (cases_lt (length tail) (width_of operator)) [
        | inl short ↦
            let e : length octets ≡ length octets - length (operator ∷ tail) + (1 + length tail) = omega (arith, inside) in
            rw (lt-ltb (length tail) (width_of operator) short)
            (subst (λ (n : ℕ). IsFault widths octets (ListCut n)) e
            (cut_within kind widths octets (operator ∷ tail) pairs operator tail some read refl allowed.0 short))
        | inr room ↦
            let next : List ℕ = drop (width_of operator) tail in
            let value : List ℕ = take (width_of operator) tail in
            let first : Bool = length pairs == 0 in
            let cleared : ℕ = bit_and operator (counted_bits kind first) in
            let more : List (ℕ × ℕ) = pairs ++ (cleared, big_number (width_of operator) value) ∷ [] in
            let found = next_found kind widths octets pairs operator tail read allowed.0 room in
            let e : length octets - length next ≡ length octets - length (operator ∷ tail) + (1 + width_of operator) =
            omega (arith, inside, room, length-drop (width_of operator) tail) in
            rw (le-ltb (length tail) (width_of operator) room) (elim (cases_Bool (ends operator)) [
              | inl last ↦
                  let whole : length octets - length next ≤ length octets = omega arith in
                  rw last (subst (λ (n : ℕ). (n ≤ length octets) × SpellsPairs kind widths (take n octets) more) e
                  (whole, ends_here kind widths octets next more operator found last))
              | inr going ↦
                  let less : length next < most = omega (arith, length-drop (width_of operator) tail) in
                  let later = pairs_are kind widths octets some most next more (goes_on kind widths octets next more operator found going) less in
                  let behind : IsPairsOutcome kind widths octets (joined more (length octets - length next) (pairs_at kind widths false most next)) =
                  subst (λ (b : Bool). IsPairsOutcome kind widths octets (joined more (length octets - length next) (pairs_at kind widths b most next)))
                  (not_none pairs (cleared, big_number (width_of operator) value)) later in
                  rw going (subst (IsPairsOutcome kind widths octets)
                  (joined_more pairs (cleared, big_number (width_of operator) value) (length octets - length (operator ∷ tail))
                  (1 + width_of operator) (length octets - length next) (pairs_at kind widths false most next) e) behind)
            ])
      ])
    ]

joined_none : (count : ℕ) (later : PairsRead) → count ≡ 0 → joined [] count later ≡ later
joined_none count (Ok (pairs, size)) none =
    let e : count + size ≡ size = omega (arith, none) in
    ap (λ (n : ℕ). let read : PairsRead = Ok (pairs, n) in read) e
joined_none count (Err (reason, place)) none =
    let e : count + place ≡ place = omega (arith, none) in
    ap (λ (n : ℕ). let read : PairsRead = Err (reason, n) in read) e

list_is : (kind : Kind) (widths : List ℕ) (bits : Option ℕ) (octets : List ℕ) → Any (λ code. code < 4) widths
    → IsBodyOutcome (ListForm kind widths bits) octets (body_at (ListForm kind widths bits) octets)
list_is kind widths bits octets some =
    let enough : length octets < suc (length octets) = omega arith in
    let all = pairs_are kind widths octets some (suc (length octets)) octets [] (record { before = []; middle = tt; split = refl; means = refl }) enough in
    let none : length octets - length octets ≡ 0 = omega arith in
    by (pairs_at kind widths true (suc (length octets)) octets)
    (subst (IsPairsOutcome kind widths octets) (joined_none (length octets - length octets) (pairs_at kind widths true (suc (length octets)) octets) none) all)
  where
    bad : (reason : Reason) (place : ℕ) → IsListBad widths octets reason place → IsBodyOutcome (ListForm kind widths bits) octets (Err (reason, place))
    bad Cut place h = list_bad kind widths bits octets (ListCut place) h
    bad Width place h = list_bad kind widths bits octets (ListWidth place) h
    bad NoType place h = absurd h
    bad Order place h = absurd h
    bad PrefixLength place h = absurd h
    bad Offset place h = absurd h
    bad Length place h = absurd h

    by : (found : PairsRead) → IsPairsOutcome kind widths octets found → IsBodyOutcome (ListForm kind widths bits) octets (list_body bits found)
    by (Ok found) h = (h.0, record { pairs = found.0; spells = h.1; says = refl })
    by (Err fault) h = bad fault.0 fault.1 h

-- Components

-- each list form allows some width
abbrev AllowsSome : Form → Type 0
AllowsSome V4Form = Unit {0}
AllowsSome V6Form = Unit {0}
AllowsSome (ListForm kind widths bits) = Any (λ code. code < 4) widths

abbrev AllAllow : List (Option Form) → Type 0
AllAllow [] = Unit {0}
AllAllow (None ∷ forms) = AllAllow forms
AllAllow (Some form ∷ forms) = AllowsSome form × AllAllow forms

allows_at : (forms : List (Option Form)) (kind : ℕ) (form : Form) → AllAllow forms → get_or forms kind None ≡ Some form → AllowsSome form
allows_at [] kind form all is = cc
allows_at (None ∷ forms) zero form all is = cc
allows_at (None ∷ forms) (suc kind) form all is = allows_at forms kind form all is
allows_at (Some own ∷ forms) zero form all is = let same : own ≡ form = cc in subst AllowsSome same all.0
allows_at (Some own ∷ forms) (suc kind) form all is = allows_at forms kind form all.1 is

zero_allowed : (widths : List ℕ) → Any (λ code. code < 4) (0 ∷ widths)
zero_allowed widths = (0, 0, omega arith, refl, omega arith)

all_allow : (family : Family) → AllAllow (forms family)
all_allow V4 = let some = zero_allowed (1 ∷ 2 ∷ 3 ∷ []) in
    (tt, (tt, (some, (some, (some, (some, (some, (some, (zero_allowed (1 ∷ []), (some, (zero_allowed [], (zero_allowed [], tt))))))))))))
all_allow V6 = let some = zero_allowed (1 ∷ 2 ∷ 3 ∷ []) in
    (tt, (tt, (some, (some, (some, (some, (some, (some, (zero_allowed (1 ∷ []), (some, (zero_allowed [], (zero_allowed [], (some, tt)))))))))))))

body_is : (form : Form) (octets : List ℕ) → AllowsSome form → IsBodyOutcome form octets (body_at form octets)
body_is V4Form octets some = v4_is octets
body_is V6Form octets some = v6_is octets
body_is (ListForm kind widths bits) octets some = list_is kind widths bits octets some

-- Values

-- one more component
more_part : (family : Family) (octets : List ℕ) (kind : ℕ) (tail : List ℕ) (last : ℕ) (parts : List Part) (form : Form) (taken : ℕ) (body : Body)
    → HasRead family octets (kind ∷ tail) last parts → last < kind → form_of family kind ≡ Some form → SpellsBody form (take taken tail) body
    → HasRead family octets (drop taken tail) kind (parts ++ part kind body ∷ [])
more_part family octets kind tail last parts form taken body read rises is spells = record {
  front = read.front ++ kind ∷ take taken tail;
  had = front_more family 0 last read.front (take taken tail) parts (part kind body) read.had rises
      (subst (λ (at : Option Form). SpellsAt at (take taken tail) body) (sym is) spells);
  split =
      read.split
      ∙ ap (λ (l : List ℕ). read.front ++ kind ∷ l) (sym (take-append-drop taken tail))
      ∙ sym (append_assoc read.front (kind ∷ take taken tail) (drop taken tail));
}

abbrev IsValueOutcome : Family → List ℕ → Result (List Part) (Reason × ℕ) → Type 0
IsValueOutcome family octets (Ok parts) = Spells family 0 octets parts
IsValueOutcome family octets (Err bad) = IsValueBad family octets bad.0 bad.1

none_is_not_some : (o : Option Form) → o ≡ None → IsSome o → ⊥
none_is_not_some None is some = both_ways false refl some
none_is_not_some (Some form) is some = cc

some_is : (o : Option Form) (form : Form) → o ≡ Some form → IsSome o
some_is None form is = cc
some_is (Some own) form is = refl

-- a component that may come next, or the fault of the value
abbrev IsTyped : Family → List ℕ → ℕ → List ℕ → ℕ → Result (Body × ℕ) (Reason × ℕ) → Type 0
IsTyped family octets kind tail last (Ok found) =
    (form : Form) × (form_of family kind ≡ Some form) × (last < kind) × (found.1 ≤ length tail) × SpellsBody form (take found.1 tail) found.0
IsTyped family octets kind tail last (Err bad) = IsValueBad family octets bad.0 (length octets - length (kind ∷ tail) + bad.1)

typed_is : (family : Family) (octets : List ℕ) (kind : ℕ) (tail : List ℕ) (last : ℕ) (parts : List Part) → HasRead family octets (kind ∷ tail) last parts
    → IsTyped family octets kind tail last (typed_at (form_of family kind) last kind tail)
typed_is family octets kind tail last parts read = by (form_of family kind) refl
  where
    start_is : length octets - length (kind ∷ tail) ≡ length octets - length (kind ∷ tail) + 0
    start_is = omega arith

    some_octets : 1 ≤ length (kind ∷ tail)
    some_octets = omega arith

    behind : (form : Form) → form_of family kind ≡ Some form → last < kind → (found : Result (Body × ℕ) (Reason × ℕ)) → IsBodyOutcome form tail found
        → IsTyped family octets kind tail last (behind_type found)
    behind form is rises (Ok found) h = (form, is, rises, h.0, h.1)
    behind form is rises (Err bad) h =
        let e : length octets - length (kind ∷ tail) + 1 + bad.1 ≡ length octets - length (kind ∷ tail) + (1 + bad.1) = omega arith in
        subst (λ (n : ℕ). IsValueBad family octets bad.0 n) e (bad_at family octets kind tail last parts (Some form) (Bad bad.0 bad.1) read rises is h)

    by : (o : Option Form) → form_of family kind ≡ o → IsTyped family octets kind tail last (typed_at o last kind tail)
    by None is =
        subst (λ (n : ℕ). IsValueBad family octets NoType n) start_is
        (no_type family octets (kind ∷ tail) last parts read some_octets (none_is_not_some (form_of family kind) is))
    by (Some form) is = elim (cases_lt last kind) [
      | inl rises ↦ rw (lt-ltb last kind rises)
          (behind form is rises (body_at form tail) (body_is form tail (allows_at (forms family) kind form (all_allow family) is)))
      | inr low ↦
          rw (le-ltb last kind low) (subst (λ (n : ℕ). IsValueBad family octets Order n) start_is
          (not_above family octets (kind ∷ tail) last parts read some_octets (some_is (form_of family kind) form is) low))
    ]

abbrev PartsRead : Type 0
PartsRead = Result (List Part) (Reason × ℕ)

abbrev joined_parts : List Part → ℕ → PartsRead → PartsRead
joined_parts before count (Ok later) = Ok (before ++ later)
joined_parts before count (Err bad) = Err (bad.0, count + bad.1)

parts_more : (before : List Part) (one : Part) (count more all : ℕ) (later : PartsRead) → all ≡ count + more
    → joined_parts (before ++ one ∷ []) all later ≡ joined_parts before count (with_component one more later)
parts_more before one count more all (Ok later) e = ap (λ (l : List Part). let read : PartsRead = Ok l in read) (append_assoc before (one ∷ []) later)
parts_more before one count more all (Err bad) e =
    let sum : all + bad.1 ≡ count + (more + bad.1) = omega (arith, e) in
    ap (λ (n : ℕ). let read : PartsRead = Err (bad.0, n) in read) sum

components_are : (family : Family) (octets : List ℕ) (most : ℕ) (rest : List ℕ) (last : ℕ) (parts : List Part) → HasRead family octets rest last parts
    → length rest < most
    → IsValueOutcome family octets (joined_parts parts (length octets - length rest) (components_of family most last rest))
unfolding components_of
components_are family octets zero rest last parts read enough = absurd (omega arith)
components_are family octets (suc most) [] last parts read enough =
    let empty : List ℕ = [] in
    let none : length empty < 1 = omega arith in
    subst (λ (l : List Part). Spells family 0 octets l) (sym (append-nil parts)) (finished family octets [] last parts read none)
components_are family octets (suc most) (kind ∷ tail) last parts read enough =
    elim (typed_at (form_of family kind) last kind tail) as (λ found. IsTyped family octets kind tail last found
    → IsValueOutcome family octets (joined_parts parts (length octets - length (kind ∷ tail)) (elim found [
      | Ok found ↦ with_component (part kind found.0) (1 + found.1) (components_of family most kind (drop found.1 tail))
      | Err bad ↦ Err bad
    ]))) [
      | Ok found ↦ λ h.
          let next : List ℕ = drop found.1 tail in
          let less : length next < most = omega (arith, length-drop found.1 tail) in
          let inside : suc (length tail) ≤ length octets = omega (arith, ap (λ (l : List ℕ). length l) read.split, length-append read.front (kind ∷ tail)) in
          let within : found.1 ≤ length tail = h.3 in
          let e : length octets - length next ≡ length octets - length (kind ∷ tail) + (1 + found.1) =
          omega (arith, inside, within, length-drop found.1 tail) in
          subst (IsValueOutcome family octets)
          (parts_more parts (part kind found.0) (length octets - length (kind ∷ tail)) (1 + found.1) (length octets - length next)
          (components_of family most kind next) e)
          (components_are family octets most next kind (parts ++ part kind found.0 ∷ [])
          (more_part family octets kind tail last parts h.0 found.1 found.0 read h.2 h.1 h.4) less)
      | Err bad ↦ λ h. h
    ] (typed_is family octets kind tail last parts read)

value_is : (family : Family) (octets : List ℕ) → IsValueOutcome family octets (components_in family octets)
value_is family octets =
    let enough : length octets < suc (length octets) = omega arith in
    let none : length octets - length octets ≡ 0 = omega arith in
    by (components_in family octets) none (components_are family octets (suc (length octets)) octets 0 [] (start family octets) enough)
  where
    by : (found : PartsRead) → length octets - length octets ≡ 0
        → IsValueOutcome family octets (joined_parts [] (length octets - length octets) found) → IsValueOutcome family octets found
    by (Ok found) none h = h
    by (Err bad) none h =
        let e : length octets - length octets + bad.1 ≡ bad.1 = omega (arith, none) in
        subst (λ (n : ℕ). IsValueBad family octets bad.0 n) e h

-- Frames

-- a length at the front with what it says, or none that is whole
abbrev IsLengthOutcome : List ℕ → Option (ℕ × ℕ) → Type 0
IsLengthOutcome octets None = IsOpen octets
IsLengthOutcome octets (Some read) = (read.0 ≤ length octets) × IsLength (take read.0 octets) read.1

open_empty : IsOpen []
open_empty [] value rest is split = is
open_empty (a ∷ head) value rest is split = cc

open_one : (a : ℕ) → 240 ≤ a → IsOpen (a ∷ [])
open_one a large [] value rest is split = is
open_one a large (b ∷ []) value rest is split =
    let heads : a ≡ b = cc in
    let small : b < 240 = is.0 in
    absurd (omega arith)
open_one a large (b ∷ c ∷ head) value rest is split = cc

open_two : (a b : ℕ) (tail : List ℕ) → 240 ≤ a → ((a < 256) × (b < 256) → ⊥) → IsOpen (a ∷ b ∷ tail)
open_two a b tail large none [] value rest is split = is
open_two a b tail large none (c ∷ []) value rest is split =
    let heads : a ≡ c = cc in
    let small : c < 240 = is.0 in
    absurd (omega arith)
open_two a b tail large none (c ∷ d ∷ []) value rest is split =
    let firsts : a ≡ c = cc in
    let seconds : b ≡ d = cc in
    none (subst (λ (x : ℕ). x < 256) (sym firsts) is.1, subst (λ (x : ℕ). x < 256) (sym seconds) is.2)
open_two a b tail large none (c ∷ d ∷ e ∷ head) value rest is split = is

-- a length that passes the end of the octets
passes_end : (octets : List ℕ) (head len : ℕ) → IsLength (take head octets) len → length (take (length octets - head) (drop head octets)) < len
    → IsOpen octets
passes_end octets head len is few own value rest own_is split =
    let found = same_head own (take head octets) (length value) len (value ++ rest) (drop head octets) own_is is (sym split
    ∙ sym (take-append-drop head octets)) in
    let left : length (value ++ rest) ≡ length (take (length octets - head) (drop head octets)) = ap length (found.rest ∙ sym (take_rest octets head)) in
    let size : length value ≡ len = found.size in
    absurd (omega (arith, length-append value rest, left, size, few))

length_is : (octets : List ℕ) → IsLengthOutcome octets (length_at octets)
length_is [] = open_empty
length_is (first ∷ []) = elim (cases_lt first 240) [
  | inl low ↦ rw (lt-ltb first 240 low) (omega arith, (low, refl))
  | inr large ↦ rw (le-ltb first 240 large) (open_one first large)
]
length_is (first ∷ second ∷ tail) = elim (cases_lt first 240) [
  | inl low ↦ rw (lt-ltb first 240 low) (omega arith, (low, refl))
  | inr large ↦ rw (le-ltb first 240 large) (elim (cases_lt first 256) [
    | inr past ↦ rw (le-ltb first 256 past) (open_two first second tail large (λ both. let small : first < 256 = both.0 in omega arith))
    | inl small ↦ rw (lt-ltb first 256 small) (elim (cases_lt second 256) [
      | inr past ↦ rw (le-ltb second 256 past) (open_two first second tail large (λ both. let less : second < 256 = both.1 in omega arith))
      | inl less ↦ rw (lt-ltb second 256 less) (omega arith, (large, small, less, refl))
    ])
  ])
]

sized_is : (family : Family) (octets : List ℕ) (head len : ℕ) → head ≤ length octets → IsLength (take head octets) len
    → IsFrameOutcome family octets (sized_at family head len octets)
sized_is family octets head len inside is = elim (cases_lt (length (drop head octets)) len) [
  | inl few ↦
      rw (lt-ltb (length (drop head octets)) len few)
      (passes_end octets head len is (subst (λ (l : List ℕ). length l < len) (sym (take_rest octets head)) few), refl)
  | inr room ↦ rw (le-ltb (length (drop head octets)) len room)
      (by room (components_in family (take len (drop head octets))) (value_is family (take len (drop head octets))))
]
  where
    by : len ≤ length (drop head octets) → (found : PartsRead) → IsValueOutcome family (take len (drop head octets)) found
        → IsFrameOutcome family octets (framed family (head + len) found)
    by room (Ok parts) h = (
      omega (arith, inside, room, length-drop head octets),
      refl,
      frame_found family octets head len parts is (subst (λ (l : List ℕ). len ≤ length l) (sym (take_rest octets head)) room)
          (subst (λ (l : List ℕ). Spells family 0 (take len l) parts) (sym (take_rest octets head)) h),
    )
    by room (Err bad) h =
        frame_bad family octets head len (Bad bad.0 bad.1) is (subst (λ (l : List ℕ). len ≤ length l) (sym (take_rest octets head)) room)
        (subst (λ (l : List ℕ). IsValueBad family (take len l) bad.0 bad.1) (sym (take_rest octets head)) h)

pub frame_is : (family : Family) (octets : List ℕ) → IsFrameOutcome family octets (frame_at family octets)
frame_is family octets = by (length_at octets) (length_is octets)
  where
    by : (found : Option (ℕ × ℕ)) → IsLengthOutcome octets found
        → IsFrameOutcome family octets (elim found [ None ↦ Err (Length, length octets) | Some found ↦ sized_at family found.0 found.1 octets ])
    by None h = (h, refl)
    by (Some found) h = sized_is family octets found.0 found.1 h.0 h.1

-- Fields

-- a frame is never empty
pub frame_some : (frame : List ℕ) (rule : Ruled) → IsFrame frame rule → frame ≡ [] → ⊥
frame_some frame rule is none = some is.head is.value is.size (sym is.split ∙ none) where
  some : (head value : List ℕ) → IsLength head (length value) → head ++ value ≡ [] → ⊥
  some [] value size empty = size
  some (a ∷ head) value size empty = cc

-- a frame before a field with a fault
frame_before_bad : (family : Family) (frame rest : List ℕ) (rule : Ruled) (bad : Reason × ℕ) → rule.family ≡ family → IsFrame frame rule
    → IsFieldOutcome family rest (Err bad) → IsFieldOutcome family (frame ++ rest) (Err bad)
frame_before_bad family frame rest rule bad families is holds = record {
  front = frame ++ holds.front;
  rules = rule ∷ holds.rules;
  rest = holds.rest;
  frames = (frame, holds.front, refl, families, is, holds.frames);
  split = ap (λ (l : List ℕ). frame ++ l) holds.split ∙ sym (append_assoc frame holds.front holds.rest);
  some = holds.some;
  bad = holds.bad;
}

framed_more : (family : Family) (frame rest : List ℕ) (rule : Ruled) (later : Result (List Ruled) (Reason × ℕ)) → rule.family ≡ family
    → IsFrame frame rule → IsFieldOutcome family rest later
    → IsFieldOutcome family (frame ++ rest) (with_rule rule later)
framed_more family frame rest rule (Ok rules) families is holds = (frame, rest, refl, families, is, holds)
framed_more family frame rest rule (Err bad) families is holds = frame_before_bad family frame rest rule bad families is holds

shorter : (n : ℕ) (rest : List ℕ) (most : ℕ) → length rest < suc most → (take n rest ≡ [] → ⊥) → length (drop n rest) < most
shorter zero rest most enough some = absurd (some refl)
shorter (suc n) [] most enough some = absurd (some refl)
shorter (suc n) (octet ∷ rest) most enough some = omega (arith, length-drop n rest)

not_nil : (octet : ℕ) (tail : List ℕ) → octet ∷ tail ≡ [] → ⊥
not_nil octet tail none = cc

frames_are : (family : Family) (most : ℕ) (octets : List ℕ) → length octets < most
    → IsFieldOutcome family octets (frames_of family most octets)
unfolding frames_of
frames_are family zero octets enough = absurd (omega arith)
frames_are family (suc most) [] enough = refl
frames_are family (suc most) (octet ∷ tail) enough =
    let octets : List ℕ = octet ∷ tail in
    elim (frame_at family octets) as (λ found. IsFrameOutcome family octets found → IsFieldOutcome family octets (elim found [
      | Ok found ↦ with_rule found.0 (frames_of family most (drop found.1 octets))
      | Err bad ↦ Err bad
    ])) [
      | Ok found ↦ λ h.
          let later = frames_are family most (drop found.1 octets)
          (shorter found.1 octets most enough (frame_some (take found.1 octets) found.0 h.2)) in
          subst (λ (l : List ℕ). IsFieldOutcome family l (with_rule found.0 (frames_of family most (drop found.1 octets)))) (take-append-drop found.1 octets)
          (framed_more family (take found.1 octets) (drop found.1 octets) found.0 (frames_of family most (drop found.1 octets)) h.1 h.2 later)
      | Err bad ↦ λ h. record { front = []; rules = []; rest = octets; frames = refl; split = refl; some = λ none. not_nil octet tail none; bad = h }
    ] (frame_is family octets)

pub field_is : (family : Family) (octets : List ℕ) → IsFieldOutcome family octets (rules_of family octets)
unfolding rules_of
field_is family octets = frames_are family (suc (length octets)) octets (omega arith)
