-- The places that are noted, and what is told with one more.
use Rattle.fs_flows.proofs.Words.{◌≡◌, refl, sym, ap, ap₂, subst, ◌∙◌, Bool, true, false, not, ◌&&◌, ◌||◌, cond, List, [], ◌∷◌, ◌++◌, filter, is_eq}
use Rattle.fs_flows.proofs.Words.{ℕ, Option, Some, None, IfSome, option_map, ◌==◌, list_any, afi_of, Family, V4, V6, Prefix, prefix_of, prefix_total}
use Rattle.fs_flows.proofs.Words.{or_first, or_second, each, filter_on, tied_itself, eqb-true, list_any-append, none-some, same_Some, family_itself}
use Rattle.fs_flows.proofs.Words.{Body, V4Body, V6Body, ListBody, Part, Ruled, AreNormal, IsNormalAt, IsRule, destination_body, destination_in}
use Rattle.fs_flows.proofs.Words.{destination_of, destination_prefix, shown, destination_first, destination_shown, destination_cmp, FlowRoute}
use Rattle.fs_flows.proofs.Words.{AdmitsElsewhere, Covers, Noted, StaysNoted, is_noted, is_to, touched_by, Held}
use Rattle.fs_flows.proofs.Apart.{to_cmp, to_shown}
use Rattle.fs_flows.specs.declared.noted.Change.{Change}
use Rattle.fs_nlri.specs.Forms.{form_of}

-- One filter behind the other.
pub filter_both : {X : Type 0} (p q : X → Bool) (xs : List X) → filter p (filter q xs) ≡ filter (λ x. q x && p x) xs
filter_both p q [] = refl
filter_both p q (x ∷ xs) = at (q x) ∙ ap (λ ys. cond (q x && p x) (x ∷ ys) ys) (filter_both p q xs) where
  at : (b : Bool) → filter p (cond b (x ∷ filter q xs) (filter q xs)) ≡ cond (b && p x) (x ∷ filter p (filter q xs)) (filter p (filter q xs))
  at true = refl
  at false = refl

-- not of a touched rule
abbrev pub spares : (Ruled → Bool) → FlowRoute → Bool
spares touched r = not (touched r.rule)

-- One change behind another.
within : (t w : Ruled → Bool) → ((rule : Ruled) → t rule ≡ true → w rule ≡ true) → (xs : List FlowRoute)
    → filter (spares w) (filter (spares t) xs) ≡ filter (spares w) xs
within t w h xs = filter_both (spares w) (spares t) xs
    ∙ filter_on (λ r. spares t r && spares w r) (spares w) xs (each (λ r. (spares t r && spares w r) ≡ spares w r) (λ r. at r (t r.rule) refl) xs) where
      at : (r : FlowRoute) (b : Bool) → t r.rule ≡ b → (not b && spares w r) ≡ spares w r
      at r true e = sym (ap not (h r.rule e))
      at r false e = refl

pub joined : (t u w : Ruled → Bool) → ((rule : Ruled) → t rule ≡ true → w rule ≡ true) → ((rule : Ruled) → u rule ≡ true → w rule ≡ true)
    → (a b c : Held) → AdmitsElsewhere t a b → AdmitsElsewhere u b c → AdmitsElsewhere w a c
joined t u w h k a b c s r family = sym (within u w k _) ∙ ap (filter (spares w)) (r family) ∙ within u w k _ ∙ sym (within t w h _)
    ∙ ap (filter (spares w)) (s family) ∙ within t w h _

any_front : {X : Type 0} (p : X → Bool) (xs : List X) (y : X) → list_any p xs ≡ true → list_any p (xs ++ y ∷ []) ≡ true
any_front p xs y h = list_any-append p xs (y ∷ []) ∙ or_first (list_any p xs) (p y || false) h

any_back : {X : Type 0} (p : X → Bool) (xs : List X) (y : X) → p y ≡ true → list_any p (xs ++ y ∷ []) ≡ true
any_back p xs y h = list_any-append p xs (y ∷ []) ∙ or_second (list_any p xs) (p y || false) (or_first (p y) false h)

-- with a place more
pub covers_more : (base old new : Held) (noted : Noted) (before places : List Change) (all : Bool) (change : Change)
    → (let own : Noted = record { places = before; all = all } in own ≡ noted) → places ≡ before ++ change ∷ []
    → Covers base noted old → AdmitsElsewhere (is_to change.family change.destination) old new → Covers base (record { places = places; all = all }) new
covers_more base old new noted before places all change v e h k none = subst (λ ps. AdmitsElsewhere (touched_by ps) base new) (sym e)
    (joined (touched_by before) (is_to change.family change.destination) (touched_by (before ++ change ∷ []))
    (λ rule t. any_front (λ place. is_to place.family place.destination rule) before change t)
    (λ rule t. any_back (λ place. is_to place.family place.destination rule) before change t) base old new (subst (λ n. Covers base n old) (sym v) h none) k)

pub stays_more : (noted : Noted) (before places : List Change) (all : Bool) (change : Change)
    → (let own : Noted = record { places = before; all = all } in own ≡ noted) → places ≡ before ++ change ∷ []
    → StaysNoted noted (record { places = places; all = all })
stays_more noted before places all change v e rule h =
    subst (λ ps. (all || touched_by ps rule) ≡ true) (sym e) (at all (subst (λ n. is_noted n rule ≡ true) (sym v) h)) where
      at : (b : Bool) → (b || touched_by before rule) ≡ true → (b || touched_by (before ++ change ∷ []) rule) ≡ true
      at true k = refl
      at false k = any_front (λ place. is_to place.family place.destination rule) before change k

pub noted_more : (before places : List Change) (all : Bool) (change : Change) → places ≡ before ++ change ∷ [] → (rule : Ruled)
    → is_to change.family change.destination rule ≡ true → (all || touched_by places rule) ≡ true
noted_more before places all change e rule t =
    or_second all (touched_by places rule)
    (subst (λ ps. touched_by ps rule ≡ true) (sym e) (any_back (λ place. is_to place.family place.destination rule) before change t))

to_itself : (d : Option Prefix) → is_eq (to_cmp d d) ≡ true
to_itself None = refl
to_itself (Some p) = ap is_eq (tied_itself prefix_total p)

pub is_to_by : (family : Family) (destination : Option Prefix) (rule : Ruled) → rule.family ≡ family → IsRule rule
    → is_to family destination rule ≡ is_eq (to_cmp (destination_prefix rule) destination)
is_to_by family destination rule e h =
    ap₂ (λ a b. a && is_eq b) (ap (λ f. afi_of f == afi_of family) e
    ∙ family_itself family) (ap (λ d. destination_cmp d (option_map shown destination)) (destination_shown rule h)
    ∙ to_shown (destination_prefix rule) destination)

pub stands_at : (family : Family) (destination : Option Prefix) (rule : Ruled) → family ≡ rule.family → destination ≡ destination_prefix rule
    → IsRule rule → is_to family destination rule ≡ true
stands_at family destination rule e d h = is_to_by family destination rule (sym e) h ∙ ap (λ q. is_eq (to_cmp (destination_prefix rule) q)) d
    ∙ to_itself (destination_prefix rule)

-- The destination is of the rule's family.
family_body : (family : Family) (body : Body) (d : Family × ℕ × ℕ) → IsNormalAt (form_of family 1) body → destination_body body ≡ Some d → d.0 ≡ family
family_body V4 (V4Body f l b) d h e = sym (ap (λ (x : Family × ℕ × ℕ). x.0) (same_Some (f, b, l) d e)) ∙ h.0
family_body V4 (V6Body l o b) d h e = absurd h
family_body V4 (ListBody pairs) d h e = absurd h
family_body V6 (V6Body l o b) d h e = at (o == 0) e where
  at : (c : Bool) → cond c (Some (V6, b, l)) None ≡ Some d → d.0 ≡ V6
  at true g = sym (ap (λ (x : Family × ℕ × ℕ). x.0) (same_Some (V6, b, l) d g))
  at false g = absurd (none-some d g)
family_body V6 (V4Body f l b) d h e = absurd h
family_body V6 (ListBody pairs) d h e = absurd h

pub family_of_destination : (rule : Ruled) (d : Family × ℕ × ℕ) → IsRule rule → destination_of rule ≡ Some d → d.0 ≡ rule.family
family_of_destination rule d h e = in_parts rule.parts h.normal e where
  in_parts : (parts : List Part) → AreNormal rule.family 0 parts → destination_in parts ≡ Some d → d.0 ≡ rule.family
  in_parts [] n f = absurd (none-some d f)
  in_parts (x ∷ xs) n f = at (x.kind == 1) refl (sym (destination_first rule.family x xs n) ∙ f) where
    at : (c : Bool) → (x.kind == 1) ≡ c → cond c (destination_body x.body) None ≡ Some d → d.0 ≡ rule.family
    at true k g = family_body rule.family x.body d (subst (λ i. IsNormalAt (form_of rule.family i) x.body) (eqb-true x.kind 1 k) n.1) g
    at false k g = absurd (none-some d g)

pub own_place : (family : Family) (destination : Option Prefix) (rule : Ruled) → family ≡ rule.family → destination ≡ destination_prefix rule
    → IsRule rule → IfSome destination (λ p. p.family ≡ family)
own_place family destination rule e d h = subst (λ q. IfSome q (λ p. p.family ≡ family)) (sym d) (at (destination_of rule) refl) where
  at : (o : Option (Family × ℕ × ℕ)) → destination_of rule ≡ o → IfSome (option_map (λ d. prefix_of d.0 d.1 d.2) o) (λ p. p.family ≡ family)
  at None k = tt
  at (Some d) k = family_of_destination rule d h k ∙ sym e

pub place_at : (d : Prefix) (rule : Ruled) → IsRule rule → destination_prefix rule ≡ Some d → is_to d.family (Some d) rule ≡ true
place_at d rule h e = stands_at d.family (Some d) rule (own_place rule.family (Some d) rule refl (sym e) h) (sym e) h
