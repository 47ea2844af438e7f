use Rattle.fs_nlri.proofs.Words.{◌≡◌, ℕ, suc, ◌+◌, ◌<◌, ◌≤◌, inl, inr, List, [], ◌∷◌, ◌++◌, Option, Some, None, length, take, refl, ap, sym, subst}
use Rattle.fs_nlri.proofs.Words.{◌∙◌, arith, length-take, append-nil, take_all, take-take, take_at, cases_lt, Family, IsOctets, Begins, NoFront}
use Rattle.fs_nlri.proofs.Words.{IsCut, IsFirstFault, octets_nil, octets_left, overlap, Form, form_of, Part, part, SpellsAt, Spells, IsValue, IsBody}

-- The first fault of a value whose next component is wrong.

-- no octets at all are a value
empty_begins : (family : Family) (last : ℕ) → Begins (IsValue family last) []
empty_begins family last = record { more = []; are_octets = octets_nil; whole = record { parts = []; spells = refl } }

-- what a value that begins with a type promises
pub record Opening (family : Family) (last kind : ℕ) (tail : List ℕ) : Type 0 where
  pub rises : last < kind
  pub form : Form
  pub form_is : form_of family kind ≡ Some form
  pub body : List ℕ
  pub rest : List ℕ
  pub whole : IsBody form body
  pub split : tail ≡ body ++ rest

has_form : (form : Option Form) (body : List ℕ) (spelled : Part) → SpellsAt form body spelled.body → (own : Form) × (form ≡ Some own) × IsBody own body
has_form None body spelled spells = absurd spells
has_form (Some form) body spelled spells = (form, refl, record { body = spelled.body; spells = spells })

pub opening : (family : Family) (last kind : ℕ) (tail : List ℕ) → IsValue family last (kind ∷ tail) → Opening family last kind tail
opening family last kind tail value = opening_of value.parts value.spells where
  opening_of : (parts : List Part) → Spells family last (kind ∷ tail) parts → Opening family last kind tail
  opening_of [] spells = let none : kind ∷ tail ≡ [] = spells in cc
  opening_of (first ∷ parts) (body, rest, split, rises, spelled, spells) =
      let kinds : first.kind ≡ kind = cc in
      let tails : tail ≡ body ++ rest = cc in
      let found = has_form (form_of family first.kind) body first spelled in
      record {
        rises = subst (λ (k : ℕ). last < k) kinds rises;
        form = found.0;
        form_is = subst (λ (k : ℕ). form_of family k ≡ Some found.0) kinds found.1;
        body = body;
        rest = rest;
        whole = found.2;
        split = tails;
      }

-- a type with which no value begins is the first fault
pub kind_fault : (family : Family) (last kind : ℕ) (tail : List ℕ) → ((more : List ℕ) → Opening family last kind more → ⊥)
    → IsFirstFault (IsValue family last) (kind ∷ tail) 0
kind_fault family last kind tail none = record {
  inside = omega arith;
  before = empty_begins family last;
  at = λ begins. none begins.more (opening family last kind begins.more begins.whole);
}

-- a value that begins with this type and tail, where no body stands at the front of the tail, begins with a body that the tail begins
has_body : (family : Family) (last kind : ℕ) (form : Form) (tail : List ℕ) → form_of family kind ≡ Some form → NoFront (IsBody form) tail
    → Begins (IsValue family last) (kind ∷ tail) → Begins (IsBody form) tail
has_body family last kind form tail is none begins =
    let begun = opening family last kind (tail ++ begins.more) begins.whole in
    let forms : Some form ≡ Some begun.form = sym is ∙ begun.form_is in
    let same : form ≡ begun.form = cc in
    let whole : IsBody form begun.body = subst (λ (f : Form). IsBody f begun.body) (sym same) begun.whole in
    elim (cases_lt (length tail) (length begun.body)) [
      | inl longer ↦
          let found = overlap tail begins.more begun.body begun.rest begun.split (omega arith) in
          record {
            more = found.between;
            are_octets = octets_left found.between begun.rest (subst IsOctets found.rest begins.are_octets);
            whole = subst (IsBody form) found.front whole;
          }
      | inr shorter ↦
          let found = overlap begun.body begun.rest tail begins.more (sym begun.split) shorter in
          absurd (none (length begun.body)
          (subst (IsBody form) (sym (ap (take (length begun.body)) found.front ∙ take_at begun.body found.between (length begun.body) refl)) whole))
    ]

-- a body that begins, behind its type, begins a value
body_begins : (family : Family) (last kind : ℕ) (form : Form) (tail : List ℕ) → last < kind → form_of family kind ≡ Some form
    → Begins (IsBody form) tail → Begins (IsValue family last) (kind ∷ tail)
body_begins family last kind form tail rises is begins = record {
  more = begins.more;
  are_octets = begins.are_octets;
  whole = record {
    parts = part kind begins.whole.body ∷ [];
    spells = (
      tail ++ begins.more,
      [],
      ap (λ (octets : List ℕ). kind ∷ octets) (sym (append-nil (tail ++ begins.more))),
      rises,
      subst (λ (at : Option Form). SpellsAt at (tail ++ begins.more) begins.whole.body) (sym is) begins.whole.spells,
      refl,
    );
  };
}

-- a fault in the body of a component
pub body_fault : (family : Family) (last kind : ℕ) (form : Form) (tail : List ℕ) (place : ℕ) → last < kind → form_of family kind ≡ Some form
    → NoFront (IsBody form) tail → IsFirstFault (IsBody form) tail place → IsFirstFault (IsValue family last) (kind ∷ tail) (1 + place)
body_fault family last kind form tail place rises is none fault = record {
  inside = let within : place < length tail = fault.inside in omega arith;
  before = subst (Begins (IsValue family last)) (front_taken kind tail place) (body_begins family last kind form (take place tail) rises is fault.before);
  at = λ begins. fault.at (has_body family last kind form (take (place + 1) tail) is (none_in tail (place + 1) none)
      (subst (Begins (IsValue family last)) (sym (front_taken_one kind tail place)) begins));
}
  where
    front_taken : (kind : ℕ) (tail : List ℕ) (place : ℕ) → kind ∷ take place tail ≡ take (1 + place) (kind ∷ tail)
    front_taken kind tail place = let e : suc place ≡ 1 + place = omega arith in ap (λ (n : ℕ). take n (kind ∷ tail)) e

    front_taken_one : (kind : ℕ) (tail : List ℕ) (place : ℕ) → kind ∷ take (place + 1) tail ≡ take (1 + place + 1) (kind ∷ tail)
    front_taken_one kind tail place = let e : suc (place + 1) ≡ 1 + place + 1 = omega arith in ap (λ (n : ℕ). take n (kind ∷ tail)) e

    none_in : (tail : List ℕ) (m : ℕ) → NoFront (IsBody form) tail → NoFront (IsBody form) (take m tail)
    none_in tail m none n whole = elim (cases_lt n m) [
      | inl less ↦ let le : n ≤ m = omega arith in none n (subst (IsBody form) (take-take n m tail le) whole)
      | inr more ↦ none m (subst (IsBody form) (take_all n (take m tail) (omega (arith, length-take m tail))) whole)
    ]

-- octets that end within the body of a component
pub body_cut : (family : Family) (last kind : ℕ) (form : Form) (tail : List ℕ) (place : ℕ) → last < kind → form_of family kind ≡ Some form
    → IsCut (IsBody form) tail place → IsCut (IsValue family last) (kind ∷ tail) (1 + place)
body_cut family last kind form tail place rises is cut = record {
  at_end = let ends : place ≡ length tail = cut.at_end in omega arith;
  begins = body_begins family last kind form tail rises is cut.begins;
}

-- and they are no value
pub no_value : (family : Family) (last kind : ℕ) (form : Form) (tail : List ℕ) → form_of family kind ≡ Some form → NoFront (IsBody form) tail
    → IsValue family last (kind ∷ tail) → ⊥
no_value family last kind form tail is none value =
    let begun = opening family last kind tail value in
    let forms : Some form ≡ Some begun.form = sym is ∙ begun.form_is in
    let same : form ≡ begun.form = cc in
    let front : take (length begun.body) tail ≡ begun.body = ap (take (length begun.body)) begun.split
    ∙ take_at begun.body begun.rest (length begun.body) refl in
    none (length begun.body) (subst (IsBody form) (sym front) (subst (λ (f : Form). IsBody f begun.body) (sym same) begun.whole))
