-- What the reader of a value has found when it stands before a type, and what follows from it at each of its ends.
use Rattle.fs_nlri.proofs.Words.{◌≡◌, ℕ, suc, ◌+◌, ◌-◌, ◌<◌, ◌≤◌, List, [], ◌∷◌, ◌++◌, Option, Some, None, IsSome, IsNone, length, get_or, take, drop}
use Rattle.fs_nlri.proofs.Words.{refl, ap, sym, subst, ◌∙◌, arith, append_assoc, length-append, append-nil, take-append-drop, take_all, take_rest}
use Rattle.fs_nlri.proofs.Words.{map-append, Family, NoFront, IsCut, IsFirstFault, fault_after, cut_after, Component, Reason, Cut, NoType, Order}
use Rattle.fs_nlri.proofs.Words.{PrefixLength, Offset, Width, NlriFault, Bad, Memory, Form, form_of, Part, part_of, parts_of, SpellsAt, Spells}
use Rattle.fs_nlri.proofs.Words.{IsValue, IsTypePlace, IsBodyPlace, IsRole, IsValueBad, IsValueFault, moved, IsBody, IsFaultAt}
use Rattle.fs_nlri.proofs.Fronts.{SpellsFront, front_whole, front_more, front_behind, front_leads}
use Rattle.fs_nlri.proofs.ValueFaults.{kind_fault, body_fault, body_cut, no_value}

-- these components stand before what is left
pub record HasRead (family : Family) (octets rest : List ℕ) (last : ℕ) (parts : List Part) : Type 0 where
  pub front : List ℕ
  pub had : SpellsFront family 0 last front parts
  pub split : octets ≡ front ++ rest

pub start : (family : Family) (octets : List ℕ) → HasRead family octets octets 0 []
start family octets = record { front = []; had = (refl, refl); split = refl }

-- nothing is left
pub finished : (family : Family) (octets rest : List ℕ) (last : ℕ) (parts : List Part) → HasRead family octets rest last parts → length rest < 1
    → Spells family 0 octets parts
finished family octets [] last parts read none =
    subst (λ (l : List ℕ). Spells family 0 l parts) (sym (read.split ∙ append-nil read.front)) (front_whole family 0 last read.front parts read.had)
finished family octets (kind ∷ tail) last parts read none = absurd (omega arith)

place_is : (octets front rest : List ℕ) → octets ≡ front ++ rest → length octets - length rest ≡ length front
place_is octets front rest split = let whole : length octets ≡ length front + length rest = ap length split ∙ length-append front rest in omega arith

-- what holds at a place of all octets, told from what is left
at_rest : (octets front rest : List ℕ) (place : ℕ) (P : List ℕ → ℕ → Type 0) → octets ≡ front ++ rest → P (front ++ rest) (length front + place)
    → P octets (length octets - length rest + place)
at_rest octets front rest place P split is =
    let e : length front + place ≡ length octets - length rest + place = ap (λ (n : ℕ). n + place) (sym (place_is octets front rest split)) in
    subst (λ (l : List ℕ). P l (length octets - length rest + place)) (sym split) (subst (λ (n : ℕ). P (front ++ rest) n) e is)

lift_fault : (family : Family) (octets rest : List ℕ) (last : ℕ) (parts : List Part) (place : ℕ) → HasRead family octets rest last parts
    → IsFirstFault (IsValue family last) rest place → IsFirstFault (IsValue family 0) octets (length octets - length rest + place)
lift_fault family octets rest last parts place read fault =
    at_rest octets read.front rest place (IsFirstFault (IsValue family 0)) read.split
    (fault_after (IsValue family last) (IsValue family 0) read.front rest place (front_leads family 0 last read.front parts read.had) fault)

lift_cut : (family : Family) (octets rest : List ℕ) (last : ℕ) (parts : List Part) (place : ℕ) → HasRead family octets rest last parts
    → IsCut (IsValue family last) rest place → IsCut (IsValue family 0) octets (length octets - length rest + place)
lift_cut family octets rest last parts place read cut =
    at_rest octets read.front rest place (IsCut (IsValue family 0)) read.split
    (cut_after (IsValue family last) (IsValue family 0) read.front rest place (front_leads family 0 last read.front parts read.had) cut)

lift_none : (family : Family) (octets rest : List ℕ) (last : ℕ) (parts : List Part) → HasRead family octets rest last parts
    → (IsValue family last rest → ⊥) → IsValue family 0 octets → ⊥
lift_none family octets rest last parts read none value =
    let found = front_behind family 0 last read.front rest parts value.parts read.had
    (subst (λ (l : List ℕ). Spells family 0 l value.parts) read.split value.spells) in
    none (record { parts = found.after; spells = found.spells })

type_place : (family : Family) (octets : List ℕ) (kind : ℕ) (tail : List ℕ) (last : ℕ) (parts : List Part)
    → HasRead family octets (kind ∷ tail) last parts → IsTypePlace family octets (length octets - length (kind ∷ tail)) kind
type_place family octets kind tail last parts read = record {
  before = parts;
  front = read.front;
  tail = tail;
  whole = front_whole family 0 last read.front parts read.had;
  split = read.split;
  here = place_is octets read.front (kind ∷ tail) read.split;
}

not_some : {A : Type 0} (o : Option A) → (IsSome o → ⊥) → IsNone o
not_some None none = refl
not_some (Some a) none = absurd (none refl)

is_none_some : {A : Type 0} (o : Option A) (a : A) → (IsSome o → ⊥) → o ≡ Some a → ⊥
is_none_some None a none is = cc
is_none_some (Some b) a none is = none refl

-- a type that the family doesn't have
pub no_type : (family : Family) (octets rest : List ℕ) (last : ℕ) (parts : List Part) → HasRead family octets rest last parts → 1 ≤ length rest
    → (IsSome (form_of family (get_or rest 0 0)) → ⊥) → IsValueBad family octets NoType (length octets - length rest)
no_type family octets [] last parts read some none = absurd (omega arith)
no_type family octets (kind ∷ tail) last parts read some none =
    let fault = kind_fault family last kind tail (λ more begun. is_none_some (form_of family kind) begun.form none begun.form_is) in
    let e : length octets - length (kind ∷ tail) + 0 ≡ length octets - length (kind ∷ tail) = omega arith in (
      subst (λ (n : ℕ). IsFirstFault (IsValue family 0) octets n) e (lift_fault family octets (kind ∷ tail) last parts 0 read fault),
      (kind, type_place family octets kind tail last parts read, not_some (form_of family kind) none),
    )

-- a type that isn't above the one before it
pub not_above : (family : Family) (octets rest : List ℕ) (last : ℕ) (parts : List Part) → HasRead family octets rest last parts → 1 ≤ length rest
    → IsSome (form_of family (get_or rest 0 0)) → get_or rest 0 0 ≤ last → IsValueBad family octets Order (length octets - length rest)
not_above family octets [] last parts read some known low = absurd (omega arith)
not_above family octets (kind ∷ tail) last parts read some known low =
    let fault = kind_fault family last kind tail (λ more begun. absurd (let rises : last < kind = begun.rises in omega arith)) in
    let e : length octets - length (kind ∷ tail) + 0 ≡ length octets - length (kind ∷ tail) = omega arith in (
      subst (λ (n : ℕ). IsFirstFault (IsValue family 0) octets n) e (lift_fault family octets (kind ∷ tail) last parts 0 read fault),
      (kind, type_place family octets kind tail last parts read, known),
    )

-- the octets after a first one
behind_first : (first : ℕ) (tail : List ℕ) → take (length (first ∷ tail) - 1) (drop 1 (first ∷ tail)) ≡ tail
behind_first first tail = take_all (suc (length tail) - 1) tail (omega arith)

role_fault : (reason : Reason) (family : Family) (octets : List ℕ) (kind : ℕ) (tail : List ℕ) (last : ℕ) (parts : List Part) (form : Form) (place : ℕ)
    → HasRead family octets (kind ∷ tail) last parts → last < kind → form_of family kind ≡ Some form
    → NoFront (IsBody form) tail → IsFirstFault (IsBody form) tail place → IsRole reason form tail place
    → IsFirstFault (IsValue family 0) octets (length octets - length (kind ∷ tail) + 1 + place)
    × IsBodyPlace reason family octets (length octets - length (kind ∷ tail) + 1 + place)
unfolding type_place
role_fault reason family octets kind tail last parts form place read rises is none fault role =
    let start = length octets - length (kind ∷ tail) in
    let e : start + (1 + place) ≡ start + 1 + place = omega arith in (
      subst (λ (n : ℕ). IsFirstFault (IsValue family 0) octets n) e
          (lift_fault family octets (kind ∷ tail) last parts (1 + place) read (body_fault family last kind form tail place rises is none fault)),
      record {
        kind = kind;
        start = start;
        component = type_place family octets kind tail last parts read;
        form = form;
        form_is = is;
        offset = place;
        here = refl;
        role = role;
      },
    )

cut_body : (family : Family) (octets : List ℕ) (kind : ℕ) (tail : List ℕ) (last : ℕ) (parts : List Part) (form : Form) (place : ℕ)
    → HasRead family octets (kind ∷ tail) last parts → last < kind → form_of family kind ≡ Some form
    → NoFront (IsBody form) tail → IsCut (IsBody form) tail place → IsValueBad family octets Cut (length octets - length (kind ∷ tail) + 1 + place)
cut_body family octets kind tail last parts form place read rises is none cut =
    let start = length octets - length (kind ∷ tail) in
    let e : start + (1 + place) ≡ start + 1 + place = omega arith in (
      subst (λ (n : ℕ). IsCut (IsValue family 0) octets n) e
          (lift_cut family octets (kind ∷ tail) last parts (1 + place) read (body_cut family last kind form tail place rises is cut)),
      lift_none family octets (kind ∷ tail) last parts read (no_value family last kind form tail is none),
    )

pub bad_at : (family : Family) (octets : List ℕ) (kind : ℕ) (tail : List ℕ) (last : ℕ) (parts : List Part) (form : Option Form) (fault : NlriFault)
    → HasRead family octets (kind ∷ tail) last parts → last < kind → form_of family kind ≡ form → IsFaultAt form tail fault
    → IsValueFault family octets (moved (length octets - length (kind ∷ tail) + 1) fault)
bad_at family octets kind tail last parts (Some form) Memory read rises is bad = tt
bad_at family octets kind tail last parts (Some form) (Bad Cut place) read rises is bad =
    cut_body family octets kind tail last parts form place read rises is bad.0 bad.1
bad_at family octets kind tail last parts (Some form) (Bad PrefixLength place) read rises is bad =
    role_fault PrefixLength family octets kind tail last parts form place read rises is bad.0 bad.1 bad.2
bad_at family octets kind tail last parts (Some form) (Bad Offset place) read rises is bad =
    role_fault Offset family octets kind tail last parts form place read rises is bad.0 bad.1 bad.2
bad_at family octets kind tail last parts (Some form) (Bad Width place) read rises is bad =
    role_fault Width family octets kind tail last parts form place read rises is bad.0 bad.1 bad.2
bad_at family octets kind tail last parts _ _ read rises is bad = absurd bad

-- a fault behind a type
pub bad_body : (family : Family) (octets rest : List ℕ) (last : ℕ) (parts : List Part) (fault : NlriFault) → HasRead family octets rest last parts
    → 1 ≤ length rest → last < get_or rest 0 0 → IsFaultAt (form_of family (get_or rest 0 0)) (take (length rest - 1) (drop 1 rest)) fault
    → IsValueFault family octets (moved (length octets - length rest + 1) fault)
bad_body family octets [] last parts fault read some rises bad = absurd (omega arith)
bad_body family octets (kind ∷ tail) last parts fault read some rises bad =
    bad_at family octets kind tail last parts (form_of family kind) fault read rises refl
    (subst (λ (l : List ℕ). IsFaultAt (form_of family kind) l fault) (behind_first kind tail) bad)

-- one more component
pub more : (family : Family) (octets rest : List ℕ) (last taken : ℕ) (components grown : List Component) (component : Component)
    → HasRead family octets rest last (parts_of components) → 1 ≤ length rest → last < get_or rest 0 0
    → grown ≡ components ++ component ∷ [] → (part_of component).kind ≡ get_or rest 0 0
    → SpellsAt (form_of family (get_or rest 0 0)) (take taken (take (length rest - 1) (drop 1 rest))) (part_of component).body
    → HasRead family octets (take (length (take (length rest - 1) (drop 1 rest)) - taken) (drop taken (take (length rest - 1) (drop 1 rest))))
    (get_or rest 0 0) (parts_of grown)
more family octets [] last taken components grown component read some rises is kinds spelled = absurd (omega arith)
more family octets (kind ∷ tail) last taken components grown component read some rises is kinds spelled =
    let tails : take (suc (length tail) - 1) tail ≡ tail = behind_first kind tail in
    let next = part_of component in
    let body = take taken tail in
    let own : SpellsAt (form_of family kind) body next.body = subst (λ (l : List ℕ). SpellsAt (form_of family kind) (take taken l) next.body) tails spelled in
    let at : SpellsAt (form_of family next.kind) body next.body = subst (λ (k : ℕ). SpellsAt (form_of family k) body next.body) (sym kinds) own in
    let above : last < next.kind = subst (λ (k : ℕ). last < k) (sym kinds) rises in
    let fronts = front_more family 0 last read.front body (parts_of components) next read.had above at in
    let named : SpellsFront family 0 kind (read.front ++ kind ∷ body) (parts_of components ++ next ∷ []) =
    subst (λ (k : ℕ). SpellsFront family 0 k (read.front ++ k ∷ body) (parts_of components ++ next ∷ [])) kinds fronts in
    let parts : parts_of grown ≡ parts_of components ++ next ∷ [] = ap parts_of is ∙ map-append part_of components (component ∷ []) in
    let left : take (length tail - taken) (drop taken tail) ≡ drop taken tail = take_rest tail taken in
    let split : octets ≡ (read.front ++ kind ∷ body) ++ take (length tail - taken) (drop taken tail) =
    read.split
    ∙ ap (λ (l : List ℕ). read.front ++ kind ∷ l) (sym (take-append-drop taken tail) ∙ ap (λ (l : List ℕ). body ++ l) (sym left))
    ∙ sym (append_assoc read.front (kind ∷ body) (take (length tail - taken) (drop taken tail))) in
    subst (λ (l : List ℕ). HasRead family octets (take (length l - taken) (drop taken l)) kind (parts_of grown)) (sym tails) (record {
      front = read.front ++ kind ∷ body;
      had = subst (λ (l : List Part). SpellsFront family 0 kind (read.front ++ kind ∷ body) l) (sym parts) named;
      split = split;
    })
