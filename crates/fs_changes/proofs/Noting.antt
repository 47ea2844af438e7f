-- What the noted places of a family leave untouched.
use Rattle.fs_changes.proofs.Words.{Bool, IfSome, List, Option, Some, None, [], ap, ap₂, cond, false, length, not, true, true≢false, refl, sym, subst}
use Rattle.fs_changes.proofs.Words.{arith, ℕ, ◌&&◌, ◌||◌, ◌<◌, ◌==◌, ◌∙◌, ◌∷◌, ◌≡◌, ◌⊎◌, inl, inr, eq-eqb, eqb-true, AllByRecursion, filter, is_gt}
use Rattle.fs_changes.proofs.Words.{is_lt, afi_of, Family, V4, V6, Prefix, Ruled, FlowRoute, IsRuleOf, Change, IsOwn, is_to, touched_by, place_by}
use Rattle.fs_changes.proofs.Words.{target_of, is_due, is_later, next_of, targets}
use Rattle.fs_changes.proofs.Apart.{key, to_is}
use Rattle.fs_changes.proofs.Filters.{IsLater, Within, between, equal_is, greater_is, is_past, kept_both, lower, past_onward}
use Rattle.fs_changes.proofs.Nexting.{HasSuch, IsDueGoal, IsSoonest, fewer, none_due, soonest_is}
use Rattle.fs_changes.proofs.Spans.{in_order}

pub both_true : (b c : Bool) → (b && c) ≡ true → (b ≡ true) × (c ≡ true)
both_true true true e = (refl, refl)
both_true true false e = absurd (true≢false (sym e))
both_true false c e = absurd (true≢false (sym e))

none_some : {A : Type 0} {x : A} → None ≡ Some x → ⊥
none_some i = cc

same_family : (f g : Family) → afi_of f ≡ afi_of g → f ≡ g
same_family V4 V4 e = refl
same_family V6 V6 e = refl
same_family V4 V6 e = absurd (omega (arith, e))
same_family V6 V4 e = absurd (omega (arith, e))

-- a rule that a place touches is one of its family, and has its destination
touched_at : (family : Family) (place : Change) (r : FlowRoute) → IsOwn place → IsRuleOf family r → is_to place.family place.destination r.rule ≡ true
    → (place.family ≡ family) × (key r ≡ target_of place.destination)
touched_at family place r own rule e = (
  same,
  in_order.equal (target_of place.destination) (key r)
      (equal_is (place_by (target_of place.destination) (key r)) (sym (to_is family place.destination r own_here rule) ∙ there)),
) where
  same : place.family ≡ family
  same = same_family place.family family
      (sym (eqb-true (afi_of r.rule.family) (afi_of place.family) (both_true (afi_of r.rule.family == afi_of place.family) _ e).0)
      ∙ ap afi_of rule.family)

  own_here : IfSome place.destination (λ p. p.family ≡ family)
  own_here = subst (λ f. IfSome place.destination (λ p. p.family ≡ f)) same own

  there : is_to family place.destination r.rule ≡ true
  there = subst (λ f. is_to f place.destination r.rule ≡ true) same e

-- none of the places touches a rule
pub none_touches : (places : List Change) (r : Ruled) → AllByRecursion (λ place. is_to place.family place.destination r ≡ false) places
    → touched_by places r ≡ false
none_touches [] r each = refl
none_touches (p ∷ ps) r each = ap (λ b. b || touched_by ps r) each.0 ∙ none_touches ps r each.1

pub refused : (b : Bool) → (b ≡ true → ⊥) → b ≡ false
refused true h = absurd (h refl)
refused false h = refl

past_is : (l : Option (Option (ℕ × ℕ))) (r : FlowRoute) → is_past place_by key l r ≡ true → is_later l (key r) ≡ true
past_is None r e = refl
past_is (Some l) r e = e

later_is : (l : Option (Option (ℕ × ℕ))) (t : Option (ℕ × ℕ)) → is_later l t ≡ true → IsLater place_by key l t
later_is None t e = tt
later_is (Some l) t e = greater_is (place_by l t) e

is_later_from : (l : Option (Option (ℕ × ℕ))) (t : Option (ℕ × ℕ)) → IsLater place_by key l t → is_later l t ≡ true
is_later_from None t h = refl
is_later_from (Some l) t h = ap is_gt h

-- a place that touches a rule past the last one is due
due_at : (family : Family) (last : Option (Option Prefix)) (place : Change) (r : FlowRoute) → (place.family ≡ family) × (key r ≡ target_of place.destination)
    → is_past place_by key (targets last) r ≡ true → is_due family last place ≡ true
due_at family last place r at past =
    ap₂ (λ b c. b && c) (eq-eqb (afi_of place.family) (afi_of family) (ap afi_of at.0))
    (subst (λ k. is_later (targets last) k ≡ true) at.1 (past_is (targets last) r past))

-- where none is due no rule past the last one is touched
pub untouched_last : (family : Family) (last : Option (Option Prefix)) (places : List Change) → AllByRecursion IsOwn places → next_of family last places ≡ None
    → (r : FlowRoute) → IsRuleOf family r → is_past place_by key (targets last) r ≡ true → touched_by places r.rule ≡ false
untouched_last family last places own none r rule past =
    none_touches places r.rule (each places own
    (none_due place_by target_of in_order (is_due family last) (λ place. place.destination) None places none).1) where
      each : (ps : List Change) → AllByRecursion IsOwn ps → AllByRecursion (λ p. is_due family last p ≡ false) ps
          → AllByRecursion (λ place. is_to place.family place.destination r.rule ≡ false) ps
      each [] o d = tt
      each (p ∷ ps) o d = (
        refused (is_to p.family p.destination r.rule)
            (λ e. true≢false (sym (due_at family last p r (touched_at family p r o.0 rule e) past) ∙ d.0)),
        each ps o.1 d.1,
      )

-- What is known of the destination that is next.
pub record IsNext (family : Family) (last : Option (Option Prefix)) (places : List Change) (d : Option Prefix) : Type 0 where
  pub own : IfSome d (λ p. p.family ≡ family)
  pub later : IsLater place_by key (targets last) (target_of d)
  pub fewer : length (filter (is_due family (Some d)) places) < length (filter (is_due family last) places)
  pub untouched : (r : FlowRoute) → IsRuleOf family r → is_past place_by key (targets last) r ≡ true → lower place_by key (target_of d) r ≡ true
      → touched_by places r.rule ≡ false

pub next_is : (family : Family) (last : Option (Option Prefix)) (places : List Change) (d : Option Prefix) → AllByRecursion IsOwn places
    → next_of family last places ≡ Some d → IsNext family last places d
next_is family last places d own found = record {
  own = (of_some places own has).0;
  later = (of_some places own has).1;
  fewer = fewer (is_due family last) (is_due family (Some d)) places narrower (such places has);
  untouched = λ r rule past low. none_touches places r.rule (each r rule past low places own soonest.least);
} where
  soonest : IsSoonest place_by target_of in_order (is_due family last) (λ place. place.destination) None places d
  soonest = soonest_is place_by target_of in_order (is_due family last) (λ place. place.destination) None places d found

  IsGoal : Change → Type 0
  IsGoal = IsDueGoal place_by target_of in_order (is_due family last) (λ place. place.destination) d

  has : HasSuch IsGoal places
  has = at soonest.from where
    at : (None ≡ Some d) ⊎ HasSuch IsGoal places → HasSuch IsGoal places
    at (inl e) = absurd (none_some e)
    at (inr h) = h

  of_some : (ps : List Change) → AllByRecursion IsOwn ps → HasSuch IsGoal ps
      → (IfSome d (λ p. p.family ≡ family)) × IsLater place_by key (targets last) (target_of d)
  of_some [] o h = absurd h
  of_some (p ∷ ps) o (inr h) = of_some ps o.1 h
  of_some (p ∷ ps) o (inl h) = (
    subst (λ x. IfSome x (λ q. q.family ≡ family)) h.1 (subst (λ f. IfSome p.destination (λ q. q.family ≡ f)) same o.0),
    later_is (targets last) (target_of d) (subst (λ x. is_later (targets last) (target_of x) ≡ true) h.1 due.1),
  ) where
    due : ((afi_of p.family == afi_of family) ≡ true) × (is_later (targets last) (target_of p.destination) ≡ true)
    due = both_true (afi_of p.family == afi_of family) (is_later (targets last) (target_of p.destination)) h.0

    same : p.family ≡ family
    same = same_family p.family family (eqb-true (afi_of p.family) (afi_of family) due.0)

  narrower : Within (is_due family (Some d)) (is_due family last)
  narrower p e = ap₂ (λ b c. b && c) due.0
      (is_later_from (targets last) (target_of p.destination)
      (past_onward place_by key in_order (targets last) (target_of d) (of_some places own has).1 (target_of p.destination)
      (greater_is (place_by (target_of d) (target_of p.destination)) due.1))) where
        due : ((afi_of p.family == afi_of family) ≡ true) × (is_gt (place_by (target_of d) (target_of p.destination)) ≡ true)
        due = both_true (afi_of p.family == afi_of family) (is_gt (place_by (target_of d) (target_of p.destination))) e

  never_past : (k : Option (ℕ × ℕ)) → is_gt (place_by k k) ≡ false
  never_past k = refused (is_gt (place_by k k)) (λ e. true≢false (sym e ∙ ap is_gt (in_order.greater k k (greater_is (place_by k k) e))))

  and_false : (b c : Bool) → c ≡ false → (b && c) ≡ false
  and_false true c e = e
  and_false false c e = refl

  such : (ps : List Change) → HasSuch IsGoal ps → HasSuch (λ p. (is_due family last p ≡ true) × (is_due family (Some d) p ≡ false)) ps
  such [] h = absurd h
  such (p ∷ ps) (inl h) = inl (
    h.0,
    and_false (afi_of p.family == afi_of family) (is_gt (place_by (target_of d) (target_of p.destination)))
        (ap (λ x. is_gt (place_by (target_of d) (target_of x))) h.1 ∙ never_past (target_of d)),
  )
  such (p ∷ ps) (inr h) = inr (such ps h)

  each : (r : FlowRoute) → IsRuleOf family r → is_past place_by key (targets last) r ≡ true → lower place_by key (target_of d) r ≡ true
      → (ps : List Change) → AllByRecursion IsOwn ps
      → AllByRecursion (λ p. is_due family last p ≡ true → is_lt (place_by (target_of d) (target_of p.destination)) ≡ false) ps
      → AllByRecursion (λ place. is_to place.family place.destination r.rule ≡ false) ps
  each r rule past low [] o least = tt
  each r rule past low (p ∷ ps) o least = (refused (is_to p.family p.destination r.rule) no, each r rule past low ps o.1 least.1) where
    no : is_to p.family p.destination r.rule ≡ true → ⊥
    no e =
        let at : (p.family ≡ family) × (key r ≡ target_of p.destination) = touched_at family p r o.0 rule e in
        true≢false (sym low ∙ ap (λ k. is_lt (place_by (target_of d) k)) at.1 ∙ least.0 (due_at family last p r at past))

-- Of routes of such rules a narrower test keeps the same, whether or not the wider one was before it.
narrowed : {X : Type 0} (P : X → Type 0) (p q : X → Bool) (xs : List X) → ((x : X) → P x → p x ≡ true → q x ≡ true) → AllByRecursion P xs
    → filter p (filter q xs) ≡ filter p xs
narrowed P p q [] h each = refl
narrowed {X} P p q (x ∷ xs) h each = at (q x) (p x) refl refl (narrowed P p q xs h each.1) where
  at : (b c : Bool) → q x ≡ b → p x ≡ c → filter p (filter q xs) ≡ filter p xs
      → filter p (cond b (x ∷ filter q xs) (filter q xs)) ≡ cond c (x ∷ filter p xs) (filter p xs)
  at true c e f ih = ap (λ a. cond a (x ∷ filter p (filter q xs)) (filter p (filter q xs))) f ∙ ap (λ ys. cond c (x ∷ ys) ys) ih
  at false true e f ih = absurd (true≢false (sym (h x each.0 f) ∙ e))
  at false false e f ih = ih

-- what isn't touched is the same of both
same_of_both : (family : Family) (p touched : FlowRoute → Bool) (old new : List FlowRoute)
    → ((r : FlowRoute) → IsRuleOf family r → p r ≡ true → touched r ≡ false)
    → AllByRecursion (IsRuleOf family) old → AllByRecursion (IsRuleOf family) new
    → filter (λ r. not (touched r)) new ≡ filter (λ r. not (touched r)) old → filter p old ≡ filter p new
same_of_both family p touched old new h own own' same =
    sym (narrowed (IsRuleOf family) p (λ r. not (touched r)) old (λ r rule e. ap not (h r rule e)) own) ∙ ap (filter p) (sym same)
    ∙ narrowed (IsRuleOf family) p (λ r. not (touched r)) new (λ r rule e. ap not (h r rule e)) own'

pub between_same : (family : Family) (last : Option (Option Prefix)) (places : List Change) (d : Option Prefix) (old new : List FlowRoute)
    → IsNext family last places d
    → AllByRecursion (IsRuleOf family) old → AllByRecursion (IsRuleOf family) new
    → filter (λ r. not (touched_by places r.rule)) new ≡ filter (λ r. not (touched_by places r.rule)) old
    → between place_by key (targets last) (target_of d) old ≡ between place_by key (targets last) (target_of d) new
between_same family last places d old new next own own' same =
    kept_both (is_past place_by key (targets last)) (lower place_by key (target_of d)) old
    ∙ same_of_both family (λ r. is_past place_by key (targets last) r && lower place_by key (target_of d) r) (λ r. touched_by places r.rule) old new
    (λ r rule e. let b : (is_past place_by key (targets last) r ≡ true) × (lower place_by key (target_of d) r ≡ true) =
    both_true (is_past place_by key (targets last) r) (lower place_by key (target_of d) r) e in next.untouched r rule b.0 b.1) own own' same
    ∙ sym (kept_both (is_past place_by key (targets last)) (lower place_by key (target_of d)) new)

pub past_same : (family : Family) (last : Option (Option Prefix)) (places : List Change) (old new : List FlowRoute) → AllByRecursion IsOwn places
    → next_of family last places ≡ None
    → AllByRecursion (IsRuleOf family) old → AllByRecursion (IsRuleOf family) new
    → filter (λ r. not (touched_by places r.rule)) new ≡ filter (λ r. not (touched_by places r.rule)) old
    → filter (is_past place_by key (targets last)) old ≡ filter (is_past place_by key (targets last)) new
past_same family last places old new mine none own own' same =
    same_of_both family (is_past place_by key (targets last)) (λ r. touched_by places r.rule) old new
    (untouched_last family last places mine none) own own' same
