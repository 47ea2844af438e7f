use Rattle.fs_desk.proofs.Words.{◌≡◌, ◌==◌, ℕ, List, [], ◌∷◌, ◌++◌, Bool, true, false, ◌||◌, Option, Some, None, if◌then◌else◌, option_and_then}
use Rattle.fs_desk.proofs.Words.{is_some, refl, ap, sym, ◌∙◌, arith, nat_tests, list_any, Path, Prefix, eq_itself, if_true, if_false, Ruled, shown}
use Rattle.fs_desk.proofs.Words.{Update, takes_prefixes, takes_rules, Held, IsListed, last_such, is_prefix, gives_at, tells_of, unicast_left, is_rule}
use Rattle.fs_desk.proofs.Words.{Given, rule_given, tells_of_rule, given_with, flow_left, Changes, nothing, told, told_of, IsLeft, Spares}

-- What one more update leaves a peer holding, and what a change of the table leaves.

-- which of two counts, where the later one counts if it is there
abbrev pub later_of : {A : Type 0} → Option A → Option A → Option A
later_of earlier (Some found) = Some found
later_of earlier None = earlier

later_twice : {A : Type 0} (a b c : Option A) → later_of (later_of a b) c ≡ later_of a (later_of b c)
later_twice a b (Some z) = refl
later_twice a b None = refl

last_step : {A : Type 0} (test : A → Bool) (x : A) (xs : List A)
    → last_such test (x ∷ xs) ≡ later_of (if test x then Some x else None) (last_such test xs)
last_step {A = A} test x xs = at (last_such test xs)
  where
    at : (o : Option A) → elim o [ Some found ↦ Some found | None ↦ if test x then Some x else None ] ≡ later_of (if test x then Some x else None) o
    at (Some found) = refl
    at None = refl

last-append : {A : Type 0} (test : A → Bool) (xs ys : List A)
    → last_such test (xs ++ ys) ≡ later_of (last_such test xs) (last_such test ys)
last-append {A = A} test [] ys = at (last_such test ys)
  where
    at : (o : Option A) → o ≡ later_of None o
    at (Some found) = refl
    at None = refl
last-append {A = A} test (x ∷ xs) ys =
    last_step test x (xs ++ ys)
    ∙ ap (λ o. later_of (if test x then Some x else None) o) (last-append test xs ys)
    ∙ sym (later_twice (if test x then Some x else None) (last_such test xs) (last_such test ys))
    ∙ ap (λ o. later_of o (last_such test ys)) (sym (last_step test x xs))

pub last-more : {A : Type 0} (test : A → Bool) (xs : List A) (x : A)
    → last_such test (xs ++ x ∷ []) ≡ later_of (last_such test xs) (if test x then Some x else None)
last-more {A = A} test xs x = last-append test xs (x ∷ []) ∙ ap (λ o. later_of (last_such test xs) o) (last_step test x [] ∙ at (test x))
  where
    at : (b : Bool) → later_of (if b then Some x else None) None ≡ (if b then Some x else None)
    at true = refl
    at false = refl

-- the last update decides where it tells of the prefix
told_choice : (takes gives : Bool) (update : Update) (before : Option Update) (given : Update → Option Path) (path : Option Path)
    → given update ≡ (if gives then path else None)
    → option_and_then given (later_of before (if (takes || gives) then Some update else None))
    ≡ (if gives then path else if takes then None else option_and_then given before)
told_choice true true update before given path h = h
told_choice true false update before given path h = h
told_choice false true update before given path h = h
told_choice false false update before given path h = refl

unicast_left-more : (prefix : Prefix) (updates : List Update) (update : Update)
    → unicast_left prefix (updates ++ update ∷ []) ≡ told update prefix (unicast_left prefix updates)
unicast_left-more prefix updates update =
    ap (λ (o : Option Update). option_and_then (λ u. if gives_at (shown prefix) u then u.path else None) o) (last-more (tells_of (shown prefix)) updates update)
    ∙ told_choice (list_any (is_prefix prefix) (takes_prefixes update)) (gives_at (shown prefix) update) update (last_such (tells_of (shown prefix)) updates)
    (λ u. if gives_at (shown prefix) u then u.path else None) update.path refl

told_rule : (takes : Bool) (given : Option Ruled) (update : Update) (before : Option Update) (found : Update → Option Given)
    → found update ≡ option_and_then (given_with update) given
    → option_and_then found (later_of before (if (takes || is_some given) then Some update else None))
    ≡ elim given [ Some rule ↦ given_with update rule | None ↦ if takes then None else option_and_then found before ]
told_rule true (Some rule) update before found h = h
told_rule true None update before found h = h
told_rule false (Some rule) update before found h = h
told_rule false None update before found h = refl

flow_left-more : (rule : Ruled) (updates : List Update) (update : Update)
    → flow_left rule (updates ++ update ∷ []) ≡ told_of update rule (flow_left rule updates)
flow_left-more rule updates update =
    ap (λ (o : Option Update). option_and_then (λ u. option_and_then (given_with u) (rule_given rule u)) o) (last-more (tells_of_rule rule) updates update)
    ∙ told_rule (list_any (is_rule rule) (takes_rules update)) (rule_given rule update) update (last_such (tells_of_rule rule) updates)
    (λ u. option_and_then (given_with u) (rule_given rule u)) refl

-- the peer's next update
pub left_more : (peer : ℕ) (updates : List Update) (update : Update) (old new : Held)
    → IsLeft peer updates old → Changes peer (told update) (told_of update) old new → IsListed old → IsLeft peer (updates ++ update ∷ []) new
left_more peer updates update old new k t l = record {
  unicast = λ place h.
      t.unicast l place
      ∙ if_true (place.peer == peer) _ _ h
      ∙ ap (told update place.prefix) (k.unicast place h)
      ∙ sym (unicast_left-more place.prefix updates update);
  flows = λ rule.
      t.flows l rule peer
      ∙ if_true (peer == peer) _ _ (eq_itself peer)
      ∙ ap (told_of update rule) (k.flows rule)
      ∙ sym (flow_left-more rule updates update);
}

-- a peer of which nothing is held any more
pub left_nothing : (peer : ℕ) (old new : Held) → Changes peer nothing nothing old new → IsListed old → IsLeft peer [] new
left_nothing peer old new t l = record {
  unicast = λ place h. t.unicast l place ∙ if_true (place.peer == peer) _ _ h;
  flows = λ rule. t.flows l rule peer ∙ if_true (peer == peer) _ _ (eq_itself peer);
}

-- a change at one peer leaves the others alone
pub spares_others : (peer : ℕ) (f : Prefix → Option Path → Option Path) (g : Ruled → Option Given → Option Given) (old new : Held)
    → Changes peer f g old new → IsListed old → Spares peer old new
spares_others peer f g old new t l = record {
  config_is = t.config_is;
  listed = t.listed l;
  unicast = λ place h. t.unicast l place ∙ if_false (place.peer == peer) _ _ h;
  flows = λ rule other h. t.flows l rule other ∙ if_false (other == peer) _ _ h;
}

pub spares_none : (peer : ℕ) (held : Held) → IsListed held → Spares peer held held
spares_none peer held l = record { config_is = refl; listed = l; unicast = λ place h. refl; flows = λ rule other h. refl }

pub spares_then : (peer : ℕ) (old mid new : Held) → Spares peer old mid → Spares peer mid new → Spares peer old new
spares_then peer old mid new s t = record {
  config_is = t.config_is ∙ s.config_is;
  listed = t.listed;
  unicast = λ place h. t.unicast place h ∙ s.unicast place h;
  flows = λ rule other h. t.flows rule other h ∙ s.flows rule other h;
}

other_place : (n m p : ℕ) → (p == m) ≡ true → (m == n) ≡ false → (p == n) ≡ false
other_place n m p h e = grind (arith, nat_tests)

-- what another peer holds stays
pub left_spared : (peer other : ℕ) (updates : List Update) (old new : Held) → Spares peer old new → (other == peer) ≡ false → IsLeft other updates old
    → IsLeft other updates new
left_spared peer other updates old new s apart k = record {
  unicast = λ place h. s.unicast place (other_place peer other place.peer h apart) ∙ k.unicast place h;
  flows = λ rule. s.flows rule other apart ∙ k.flows rule;
}
