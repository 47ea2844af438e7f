-- The destination of a rule: types rise, so a component of type 1 stands first; and its prefix is made as any prefix is.
use Rattle.fs_nlri.proofs.Words.{◌≡◌, ℕ, ◌≤◌, ◌<◌, ◌==◌, Bool, true, false, cond, if◌then◌else◌, List, [], ◌∷◌, Option, Some, None, option_map, min}
use Rattle.fs_nlri.proofs.Words.{refl, ap, sym, subst, ◌∙◌, arith, eqb-true, Family, V4, V6, width_of, cleared, slice_get, Component, part_of}
use Rattle.fs_nlri.proofs.Words.{parts_of, form_of, Body, V4Body, V6Body, ListBody, Part, Ruled, IsRule, IsNormalAt, AreNormal, shown}
use Rattle.fs_nlri.proofs.Words.{destination_body, destination_part, destination_in, destination_of, destination_prefix, IsSoundBody}
use Rattle.fs_nlri.proofs.Sound.{sound_part}
use Rattle.std.proofs.lemmas.Bool.Decides.{nat_tests}
use Rattle.fs_base.specs.Prefix.{prefix_of}

not_first : (kind : ℕ) → 1 < kind → (kind == 1) ≡ false
not_first kind above = grind (arith, nat_tests)

-- above type 1 there is no destination
pub no_destination : (family : Family) (last : ℕ) (parts : List Part) → 1 ≤ last → AreNormal family last parts → destination_in parts ≡ None
no_destination family last [] above normal = refl
no_destination family last (part ∷ parts) above normal =
    let risen : last < part.kind = normal.0 in
    ap (λ (b : Bool). if b then destination_body part.body else destination_in parts) (not_first part.kind (omega arith))
    ∙ no_destination family part.kind parts (omega arith) normal.2

-- so it is that of the first component
pub destination_first : (family : Family) (part : Part) (parts : List Part) → AreNormal family 0 (part ∷ parts)
    → destination_in (part ∷ parts) ≡ destination_part part
destination_first family part parts normal =
    let risen : 0 < part.kind = normal.0 in
    ap (λ (rest : Option (Family × ℕ × ℕ)). if part.kind == 1 then destination_body part.body else rest)
    (no_destination family part.kind parts (omega arith) normal.2)

-- the first component of a rule: it is in normal form, and its destination is the rule's
pub record IsFirst (parts : List Part) (part : Part) : Type 0 where
  pub sound : IsSoundBody part.body
  pub destination : destination_in parts ≡ destination_part part

pub first_part : (family : Family) (components : List Component) (component : Component) → Some component ≡ slice_get components 0
    → AreNormal family 0 (parts_of components) → IsFirst (parts_of components) (part_of component)
first_part family [] component is normal = cc
first_part family (first ∷ components) component is normal =
    let same : first ≡ component = cc in
    subst (λ (c : Component). IsFirst (parts_of (first ∷ components)) (part_of c)) same (record {
      sound = sound_part (form_of family (part_of first).kind) (part_of first).body normal.1;
      destination = destination_first family (part_of first) (parts_of components) normal;
    })

-- what `Prefix::new` shows: no bits past the length, which is short enough
abbrev pub IsMade : Option (Family × ℕ × ℕ) → Type 0
IsMade None = Unit {0}
IsMade (Some d) = (d.2 ≤ width_of d.0) × (d.1 ≡ cleared (width_of d.0) d.2 d.1)

pub made_again : (d : Option (Family × ℕ × ℕ)) → IsMade d → d ≡ option_map shown (option_map (λ d. prefix_of d.0 d.1 d.2) d)
made_again None h = refl
made_again (Some (f, b, l)) h = ap Some (ap (λ c. (f, c, l)) h.1 ∙ sym (ap (λ n. (f, cleared (width_of f) n b, n)) short)) where
  short : min l (width_of f) ≡ l
  short = omega (arith, h.0)

pub made_body : (family : Family) (body : Body) → IsNormalAt (form_of family 1) body → IsMade (destination_body body)
made_body V4 (V4Body f l b) h = at f h.0 where
  at : (f : Family) → f ≡ V4 → IsMade (Some (f, b, l))
  at V4 e = (h.1, h.2)
  at V6 e = cc
made_body V4 (V6Body l o b) h = absurd h
made_body V4 (ListBody pairs) h = absurd h
made_body V6 (V6Body l o b) h = at (o == 0) refl where
  at : (c : Bool) → (o == 0) ≡ c → IsMade (cond c (Some (V6, b, l)) None)
  at true e = (h.0.0, subst (λ n. b ≡ cleared 128 n b) (let z : o ≡ 0 = eqb-true o 0 e in omega arith) h.1)
  at false e = tt
made_body V6 (V4Body f l b) h = absurd h
made_body V6 (ListBody pairs) h = absurd h

pub made_parts : (family : Family) (parts : List Part) → AreNormal family 0 parts → IsMade (destination_in parts)
made_parts family [] h = tt
made_parts family (x ∷ xs) h = subst IsMade (sym (destination_first family x xs h)) (at (x.kind == 1) refl) where
  at : (c : Bool) → (x.kind == 1) ≡ c → IsMade (cond c (destination_body x.body) None)
  at true e = made_body family x.body (subst (λ n. IsNormalAt (form_of family n) x.body) (eqb-true x.kind 1 e) h.1)
  at false e = tt

-- a destination is shown as its prefix shows it
pub destination_shown : (rule : Ruled) → IsRule rule → destination_of rule ≡ option_map shown (destination_prefix rule)
destination_shown rule h = made_again (destination_of rule) (made_parts rule.family rule.parts h.normal)
