-- Whole components at the front of a value, and how a value goes on behind them.
use Rattle.fs_nlri.proofs.Words.{◌≡◌, ℕ, ◌<◌, List, [], ◌∷◌, ◌++◌, Option, Some, None, refl, ap, sym, subst, ◌∙◌, append_assoc, append-nil, Family}
use Rattle.fs_nlri.proofs.Words.{Leads, Form, form_of, Body, Part, part, SpellsAt, Spells, IsValue}
use Rattle.fs_nlri.proofs.Bodies.{SameBody, same_body}

-- the octets spell these components, whose types rise from above `last` to `end`
abbrev pub SpellsFront : Family → (last end : ℕ) → List ℕ → List Part → Type 0
SpellsFront family last end octets [] = (octets ≡ []) × (last ≡ end)
SpellsFront family last end octets (part ∷ parts) =
    (body : List ℕ) × (rest : List ℕ) × (octets ≡ part.kind ∷ (body ++ rest)) × (last < part.kind)
    × SpellsAt (form_of family part.kind) body part.body × SpellsFront family part.kind end rest parts

pub front_then : (family : Family) (last end : ℕ) (front rest : List ℕ) (before parts : List Part) → SpellsFront family last end front before
    → Spells family end rest parts → Spells family last (front ++ rest) (before ++ parts)
front_then family last end front rest [] parts had spells =
    subst (λ (from : ℕ). Spells family from (front ++ rest) parts) (sym had.1)
    (subst (λ (octets : List ℕ). Spells family end (octets ++ rest) parts) (sym had.0) spells)
front_then family last end front rest (part ∷ before) parts (body, tail, split, rises, spelled, had) spells = (
  body,
  tail ++ rest,
  ap (λ (octets : List ℕ). octets ++ rest) split ∙ ap (λ (octets : List ℕ). part.kind ∷ octets) (append_assoc body tail rest),
  rises,
  spelled,
  front_then family part.kind end tail rest before parts had spells,
)

-- whole components alone are a value
pub front_whole : (family : Family) (last end : ℕ) (front : List ℕ) (before : List Part) → SpellsFront family last end front before
    → Spells family last front before
front_whole family last end front before had =
    subst (λ (octets : List ℕ). Spells family last octets before) (append-nil front)
    (subst (λ (parts : List Part). Spells family last (front ++ []) parts) (append-nil before) (front_then family last end front [] before [] had refl))

-- and each value is such a front
pub record FrontOf (family : Family) (last : ℕ) (octets : List ℕ) (parts : List Part) : Type 0 where
  pub end : ℕ
  pub had : SpellsFront family last end octets parts

pub whole_front : (family : Family) (last : ℕ) (octets : List ℕ) (parts : List Part) → Spells family last octets parts → FrontOf family last octets parts
whole_front family last octets [] spells = record { end = last; had = (spells, refl) }
whole_front family last octets (part ∷ parts) (body, rest, split, rises, spelled, spells) =
    let found = whole_front family part.kind rest parts spells in
    record { end = found.end; had = (body, rest, split, rises, spelled, found.had) }

-- one more component
pub front_more : (family : Family) (last end : ℕ) (front body : List ℕ) (before : List Part) (next : Part) → SpellsFront family last end front before
    → end < next.kind → SpellsAt (form_of family next.kind) body next.body
    → SpellsFront family last next.kind (front ++ next.kind ∷ body) (before ++ next ∷ [])
front_more family last end front body [] next had rises spelled = (
  body,
  [],
  ap (λ (octets : List ℕ). octets ++ next.kind ∷ body) had.0 ∙ ap (λ (octets : List ℕ). next.kind ∷ octets) (sym (append-nil body)),
  subst (λ (from : ℕ). from < next.kind) (sym had.1) rises,
  spelled,
  (refl, refl),
)
front_more family last end front body (part ∷ before) next (own, tail, split, above, spelled_own, had) rises spelled = (
  own,
  tail ++ next.kind ∷ body,
  ap (λ (octets : List ℕ). octets ++ next.kind ∷ body) split ∙ ap (λ (octets : List ℕ). part.kind ∷ octets) (append_assoc own tail (next.kind ∷ body)),
  above,
  spelled_own,
  front_more family part.kind end tail body before next had rises spelled,
)

pub same_part : (a b : Part) → a.kind ≡ b.kind → a.body ≡ b.body → a ≡ b
same_part a b kinds bodies = ap (λ (kind : ℕ). part kind a.body) kinds ∙ ap (λ (body : Body). part b.kind body) bodies

same_at : (form : Option Form) (a b s t : List ℕ) (p q : Body) → SpellsAt form a p → SpellsAt form b q → a ++ s ≡ b ++ t → SameBody a b p q s t
same_at None a b s t p q one other same = absurd one
same_at (Some form) a b s t p q one other same = same_body form a b s t p q one other same

-- two components at the front of one value are one
record SamePart (p q : Part) (s t : List ℕ) : Type 0 where
  parts : p ≡ q
  rest : s ≡ t

first_part : (family : Family) (p q : Part) (a b s t : List ℕ) → SpellsAt (form_of family p.kind) a p.body → SpellsAt (form_of family q.kind) b q.body
    → p.kind ∷ (a ++ s) ≡ q.kind ∷ (b ++ t) → SamePart p q s t
first_part family p q a b s t one other same =
    let kinds : p.kind ≡ q.kind = cc in
    let tails : a ++ s ≡ b ++ t = cc in
    let moved : SpellsAt (form_of family p.kind) b q.body = subst (λ (kind : ℕ). SpellsAt (form_of family kind) b q.body) (sym kinds) other in
    let found = same_at (form_of family p.kind) a b s t p.body q.body one moved tails in
    record { parts = same_part p q kinds found.body; rest = found.rest }

-- a value that begins as a front has its components, and a value behind them
pub record Behind (family : Family) (end : ℕ) (rest : List ℕ) (before parts : List Part) : Type 0 where
  pub after : List Part
  pub spells : Spells family end rest after
  pub split : parts ≡ before ++ after

pub front_behind : (family : Family) (last end : ℕ) (front rest : List ℕ) (before parts : List Part) → SpellsFront family last end front before
    → Spells family last (front ++ rest) parts → Behind family end rest before parts
front_behind family last end front rest [] parts had spells =
    record {
      after = parts;
      spells = subst (λ (from : ℕ). Spells family from rest parts) had.1 (subst (λ (octets : List ℕ). Spells family last (octets ++ rest) parts) had.0 spells);
      split = refl;
    }
front_behind family last end front rest (part ∷ before) [] (body, tail, split, rises, spelled, had) spells =
    let opened : part.kind ∷ ((body ++ tail) ++ rest) ≡ [] = sym (ap (λ (octets : List ℕ). octets ++ rest) split) ∙ spells in
    cc
front_behind family last end front rest (part ∷ before) (next ∷ parts) (body, tail, split, rises, spelled, had) (
  own,
  more,
  own_split,
  own_rises,
  own_spelled,
  spells,
) =
    let opened : part.kind ∷ (body ++ (tail ++ rest)) ≡ next.kind ∷ (own ++ more) =
    sym (ap (λ (octets : List ℕ). octets ++ rest) split ∙ ap (λ (octets : List ℕ). part.kind ∷ octets) (append_assoc body tail rest)) ∙ own_split in
    let first = first_part family part next body own (tail ++ rest) more spelled own_spelled opened in
    let moved : Spells family part.kind (tail ++ rest) parts =
    subst (λ (octets : List ℕ). Spells family part.kind octets parts) (sym first.rest)
    (subst (λ (p : Part). Spells family p.kind more parts) (sym first.parts) spells) in
    let found = front_behind family part.kind end tail rest before parts had moved in
    record {
      after = found.after;
      spells = found.spells;
      split = ap (λ (p : Part). p ∷ parts) (sym first.parts) ∙ ap (λ (l : List Part). part ∷ l) found.split;
    }

-- so what stands behind a front goes on as the value does
pub front_leads : (family : Family) (last end : ℕ) (front : List ℕ) (before : List Part) → SpellsFront family last end front before
    → Leads (IsValue family end) (IsValue family last) front
front_leads family last end front before had = record {
  there = λ rest begins. record {
    more = begins.more;
    are_octets = begins.are_octets;
    whole = record {
      parts = before ++ begins.whole.parts;
      spells = subst (λ (octets : List ℕ). Spells family last octets (before ++ begins.whole.parts)) (sym (append_assoc front rest begins.more))
          (front_then family last end front (rest ++ begins.more) before begins.whole.parts had begins.whole.spells);
    };
  };
  back = λ rest begins.
      let found = front_behind family last end front (rest ++ begins.more) before begins.whole.parts had
      (subst (λ (octets : List ℕ). Spells family last octets begins.whole.parts) (append_assoc front rest begins.more) begins.whole.spells) in
      record { more = begins.more; are_octets = begins.are_octets; whole = record { parts = found.after; spells = found.spells } };
}
