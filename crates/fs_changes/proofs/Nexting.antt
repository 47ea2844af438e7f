-- The soonest of some goals.
use Rattle.fs_changes.proofs.Words.{Bool, List, Option, Some, None, [], ap, arith, cond, ◌&&◌, if◌then◌else◌, false, length, true, true≢false, refl}
use Rattle.fs_changes.proofs.Words.{sym, subst, ◌<◌, ◌≤◌, ◌∙◌, ◌∷◌, ◌≡◌, ◌⊎◌, inl, inr, AllByRecursion, filter, is_lt, Ordering, Less, Equal, Greater}
use Rattle.fs_changes.proofs.Words.{is_sooner, soonest}
use Rattle.fs_changes.proofs.Filters.{IsOrder, Within, less_is}

-- fewer pass a narrower test, where some pass the other alone
abbrev pub HasSuch : {P : Type 0} → (P → Type 0) → List P → Type 0
HasSuch S [] = ⊥
HasSuch S (p ∷ ps) = S p ⊎ HasSuch S ps

no_more : {P : Type 0} (p q : P → Bool) (xs : List P) → Within q p → length (filter q xs) ≤ length (filter p xs)
no_more p q [] h = omega arith
no_more {P} p q (x ∷ xs) h = at (q x) (p x) refl refl (no_more p q xs h) where
  at : (b c : Bool) → q x ≡ b → p x ≡ c → length (filter q xs) ≤ length (filter p xs)
      → length (cond b (x ∷ filter q xs) (filter q xs)) ≤ length (cond c (x ∷ filter p xs) (filter p xs))
  at true true e f ih = omega (arith, ih)
  at true false e f ih = absurd (true≢false (sym (h x e) ∙ f))
  at false true e f ih = omega (arith, ih)
  at false false e f ih = ih

pub fewer : {P : Type 0} (p q : P → Bool) (xs : List P) → Within q p → HasSuch (λ x. (p x ≡ true) × (q x ≡ false)) xs
    → length (filter q xs) < length (filter p xs)
fewer p q [] h s = absurd s
fewer {P} p q (x ∷ xs) h s = at (q x) (p x) refl refl s (λ k. fewer p q xs h k) where
  at : (b c : Bool) → q x ≡ b → p x ≡ c → ((p x ≡ true) × (q x ≡ false)) ⊎ HasSuch (λ y. (p y ≡ true) × (q y ≡ false)) xs
      → (HasSuch (λ y. (p y ≡ true) × (q y ≡ false)) xs → length (filter q xs) < length (filter p xs))
      → length (cond b (x ∷ filter q xs) (filter q xs)) < length (cond c (x ∷ filter p xs) (filter p xs))
  at true c e f (inl own) ih = absurd (true≢false (sym e ∙ own.1))
  at false true e f (inl own) ih = let le : length (filter q xs) ≤ length (filter p xs) = no_more p q xs h in omega (arith, le)
  at false false e f (inl own) ih = absurd (true≢false (sym own.0 ∙ f))
  at true true e f (inr k) ih = let less : length (filter q xs) < length (filter p xs) = ih k in omega (arith, less)
  at true false e f (inr k) ih = absurd (true≢false (sym (h x e) ∙ f))
  at false true e f (inr k) ih = let less : length (filter q xs) < length (filter p xs) = ih k in omega (arith, less)
  at false false e f (inr k) ih = ih k

module _ {P D K : Type 0} (place : K → K → Ordering) (target : D → K) (order : IsOrder place) (due : P → Bool) (goal : P → D) where
  pub never_itself : (k : K) → is_lt (place k k) ≡ false
  never_itself k = at (place k k) refl where
    at : (o : Ordering) → place k k ≡ o → is_lt o ≡ false
    at Less e = absurd (true≢false (ap is_lt (sym e ∙ order.less k k e)))
    at Equal e = refl
    at Greater e = refl

  abbrev NotSooner : D → D → Type 0
  NotSooner d e = is_lt (place (target d) (target e)) ≡ false

  -- what is before the one is before the other, if that isn't before the one
  carried : (d e f : D) → NotSooner d e → is_lt (place (target d) (target f)) ≡ true → is_lt (place (target e) (target f)) ≡ true
  carried d e f h g = at (place (target d) (target e)) refl h where
    less : place (target d) (target f) ≡ Less
    less = less_is (place (target d) (target f)) g

    at : (o : Ordering) → place (target d) (target e) ≡ o → is_lt o ≡ false → is_lt (place (target e) (target f)) ≡ true
    at Less i h = absurd (true≢false h)
    at Equal i h = ap is_lt (ap (λ k. place k (target f)) (order.equal (target d) (target e) i) ∙ less)
    at Greater i h = ap is_lt (order.onward (target d) (target f) (target e) less (order.greater (target d) (target e) i))

  not_before : (d e f : D) → NotSooner d e → is_lt (place (target e) (target f)) ≡ false → NotSooner d f
  not_before d e f h g = at (is_lt (place (target d) (target f))) refl where
    at : (b : Bool) → is_lt (place (target d) (target f)) ≡ b → b ≡ false
    at true i = absurd (true≢false (sym (carried d e f h i) ∙ g))
    at false i = refl

  before_not : (d e f : D) → NotSooner d f → is_lt (place (target e) (target f)) ≡ true → NotSooner d e
  before_not d e f h g = at (is_lt (place (target d) (target e))) refl where
    at : (b : Bool) → is_lt (place (target d) (target e)) ≡ b → b ≡ false
    at true i = absurd (true≢false
        (sym (ap is_lt (order.onward (target e) (target f) (target d) (less_is (place (target e) (target f)) g)
        (less_is (place (target d) (target e)) i))) ∙ h))
    at false i = refl

  abbrev found_in : Option D → List P → Option D
  found_in found ps = soonest due goal (is_sooner place target) found ps

  -- None is due where none is found.
  pub none_due : (found : Option D) (ps : List P) → found_in found ps ≡ None → (found ≡ None) × AllByRecursion (λ p. due p ≡ false) ps
  none_due found [] h = (h, tt)
  none_due found (p ∷ ps) h = at found (due p) refl (none_due (if due p && is_sooner place target (goal p) found then Some (goal p) else found) ps h) where
    at : (f : Option D) (b : Bool) → due p ≡ b → ((if b && is_sooner place target (goal p) f then Some (goal p) else f) ≡ None)
        × AllByRecursion (λ q. due q ≡ false) ps → (f ≡ None) × ((due p ≡ false) × AllByRecursion (λ q. due q ≡ false) ps)
    at f false e k = (k.0, (e, k.1))
    at None true e k = absurd (some_none k.0) where
      some_none : Some (goal p) ≡ None → ⊥
      some_none i = cc
    at (Some f) true e k = absurd (either (is_lt (place (target f) (target (goal p)))) k.0) where
      either : (c : Bool) → (if c then Some (goal p) else Some f) ≡ None → ⊥
      either true i = cc
      either false i = cc

  -- one of these that is due has this goal
  abbrev pub IsDueGoal : D → P → Type 0
  IsDueGoal d p = (due p ≡ true) × (goal p ≡ d)

  -- What is found is due, and none that is due is sooner.
  pub record IsSoonest (found : Option D) (ps : List P) (d : D) : Type 0 where
    pub from : (found ≡ Some d) ⊎ HasSuch (IsDueGoal d) ps
    pub least : AllByRecursion (λ p. due p ≡ true → NotSooner d (goal p)) ps
    pub before : (e : D) → found ≡ Some e → NotSooner d e

  pub soonest_is : (found : Option D) (ps : List P) (d : D) → found_in found ps ≡ Some d → IsSoonest found ps d
  soonest_is found [] d h = record {
    from = inl h;
    least = tt;
    before = λ e same. subst (NotSooner d) (some_same (sym h ∙ same)) (never_itself (target d));
  } where
    some_same : {e : D} → Some d ≡ Some e → d ≡ e
    some_same i = cc
  soonest_is found (p ∷ ps) d h =
      at found (due p) refl (soonest_is (if due p && is_sooner place target (goal p) found then Some (goal p) else found) ps d h) where
        some_same : {e f : D} → Some e ≡ Some f → e ≡ f
        some_same i = cc

        none_some : {e : D} → None ≡ Some e → ⊥
        none_some i = cc

        kept : (f : Option D) → (due p ≡ true → NotSooner d (goal p)) → IsSoonest f ps d → IsSoonest f (p ∷ ps) d
        kept f here k = record { from = later k.from; least = (here, k.least); before = k.before } where
          later : (f ≡ Some d) ⊎ HasSuch (IsDueGoal d) ps → (f ≡ Some d) ⊎ (IsDueGoal d p ⊎ HasSuch (IsDueGoal d) ps)
          later (inl a) = inl a
          later (inr b) = inr (inr b)

        taken : (f : Option D) → due p ≡ true → ((e : D) → f ≡ Some e → NotSooner d e) → IsSoonest (Some (goal p)) ps d → IsSoonest f (p ∷ ps) d
        taken f e before k = record { from = later k.from; least = ((λ _. k.before (goal p) refl), k.least); before = before } where
          later : (Some (goal p) ≡ Some d) ⊎ HasSuch (IsDueGoal d) ps → (f ≡ Some d) ⊎ (IsDueGoal d p ⊎ HasSuch (IsDueGoal d) ps)
          later (inl a) = inr (inl (e, some_same a))
          later (inr b) = inr (inr b)

        at : (f : Option D) (b : Bool) → due p ≡ b → IsSoonest (if b && is_sooner place target (goal p) f then Some (goal p) else f) ps d
            → IsSoonest f (p ∷ ps) d
        at f false e k = kept f (λ i. absurd (true≢false (sym i ∙ e))) k
        at None true e k = taken None e (λ g i. absurd (none_some i)) k
        at (Some f) true e k = either (is_lt (place (target f) (target (goal p)))) refl k where
          either : (c : Bool) → is_lt (place (target f) (target (goal p))) ≡ c → IsSoonest (if c then Some (goal p) else Some f) ps d
              → IsSoonest (Some f) (p ∷ ps) d
          either true g k = taken (Some f) e (λ x i. subst (NotSooner d) (some_same i) (before_not d f (goal p) (k.before (goal p) refl) g)) k
          either false g k = kept (Some f) (λ _. not_before d f (goal p) (k.before f refl) g) k
