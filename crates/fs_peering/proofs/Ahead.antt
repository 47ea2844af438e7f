use Rattle.fs_peering.proofs.Words.{Announcing, Closed, SaysText, Sent, Starts, StartsOpen, StartsWith, StaysEnded, first_text, is_established}
use Rattle.fs_peering.proofs.Words.{next_text, state_in, text_sent, ◌≡◌, ◌≤◌, ℕ, suc, zero, ◌+◌, ◌-◌, List, [], ◌∷◌, ◌++◌, length, drop, take, Bool}
use Rattle.fs_peering.proofs.Words.{true, false, if◌then◌else◌, Option, Some, None, Result, Ok, Err, refl, ap, sym, ◌∙◌, subst, arith, IfSome, IfOk}
use Rattle.fs_peering.proofs.Words.{OnOk, is_some, ahead_of}

-- What an announcing end has still to say.

module _ {A : Type 0} (old new : Announcing) (out out' : List ℕ) (result : Result A Closed) (stays : StaysEnded old new result out out') where
  pub stayed : (why : Closed) → old.line.closed ≡ Some why → (result ≡ Err why) × (new ≡ old) × (out' ≡ out)
  stayed why h = subst (λ (c : Option Closed). IfSome c (λ (w : Closed). (result ≡ Err w) × (new ≡ old) × (out' ≡ out))) h stays

  not_both : (a : A) (why : Closed) → result ≡ Ok a → result ≡ Err why → ⊥
  not_both a why e f = by (sym e ∙ f)
    where
      by : Ok a ≡ Err why → ⊥
      by h = cc

  pub alive_on : (a : A) → result ≡ Ok a → old.line.closed ≡ None
  alive_on a e = by old.line.closed refl
    where
      by : (c : Option Closed) → old.line.closed ≡ c → old.line.closed ≡ None
      by None h = h
      by (Some why) h = absurd (not_both _ _ e (stayed _ h).0)

-- the next rule of a list
pub next_of : (text : Sent → List ℕ) (n : ℕ) (rules : List Sent) (said : List ℕ) → first_text text (drop n rules) ≡ Some said
    → (sent : Sent) × ((said ≡ text sent) × (take (suc n) rules ≡ take n rules ++ sent ∷ []))
next_of text n [] said h = absurd (none n h)
  where
    none : (n : ℕ) → first_text text (drop n []) ≡ Some said → ⊥
    none zero e = cc
    none (suc n) e = cc
next_of text zero (sent ∷ rules) said h = (sent, (ap (λ (o : Option (List ℕ)). elim o [ None ↦ said | Some t ↦ t ]) (sym h), refl))
next_of text (suc n) (sent ∷ rules) said h =
    let later = next_of text n rules said h in
    (later.0, (later.1.0, ap (λ (z : List Sent). sent ∷ z) later.1.1))

pub none_left : (text : Sent → List ℕ) (n : ℕ) (rules : List Sent) → first_text text (drop n rules) ≡ None → length rules ≤ n
none_left text n [] h = omega arith
none_left text zero (sent ∷ rules) h = absurd cc
none_left text (suc n) (sent ∷ rules) h = let later = none_left text n rules h in omega (arith, later)

starts_ahead_at : (b : Bool) (old new : Announcing) (out out' : List ℕ) (started : Bool) → StartsWith b old new out out'
    → ahead_of new started ≤ ahead_of old started
starts_ahead_at true old new out out' started s = subst (λ (n : Announcing). ahead_of n started ≤ ahead_of old started) (sym s.0) (least (ahead_of old started))
  where
    least : (n : ℕ) → n ≤ n
    least n = omega arith
starts_ahead_at false old new out out' started s =
    subst (λ (n : Announcing). ahead_of n started ≤ ahead_of old started) (sym s.0) (least _)
  where
    least : (n : ℕ) → n ≤ n
    least n = omega arith

-- saying the OPEN leaves no more to be said
pub starts_ahead : (old new : Announcing) (out out' : List ℕ) (result : Result (Unit {0}) Closed) → StaysEnded old new result out out'
    → StartsOpen old new out out' result
    → (started : Bool) → ahead_of new started ≤ ahead_of old started
starts_ahead old new out out' result stays starts started = by old.line.closed refl
  where
    least : (n : ℕ) → n ≤ n
    least n = omega arith

    same : new ≡ old → ahead_of new started ≤ ahead_of old started
    same e = subst (λ (n : Announcing). ahead_of n started ≤ ahead_of old started) (sym e) (least _)

    none : (m : ℕ) → 0 ≤ m
    none m = omega arith

    on : (r : Result (Unit {0}) Closed) → Starts old new out out' r → ahead_of new started ≤ ahead_of old started
    on (Ok u) s = starts_ahead_at _ _ _ _ _ _ s
    on (Err why) s = subst (λ (n : Announcing). ahead_of n started ≤ ahead_of old started) (sym s.1.1) (none _)

    by : (c : Option Closed) → old.line.closed ≡ c → ahead_of new started ≤ ahead_of old started
    by None e = on _ (starts e)
    by (Some why) e = same (stayed _ _ _ _ _ stays _ e).1

-- none is left once an established end says nothing more
pub says_all : (old new : Announcing) (started : Bool) (out out' : List ℕ) → old.line.closed ≡ None → is_established (state_in old.line) ≡ true
    → started ≡ true → SaysText (next_text old) false old new out out'
    → ahead_of new started ≡ 0
says_all old new started out out' alive up begun_is says =
    at texts refl (subst (λ (b : Bool). SaysText (if b then texts else None) false old new out out') up says)
  where
    texts : Option (List ℕ)
    texts = first_text (text_sent old.config old.peer old.line.phase.four old.sending) (drop old.appended old.sending.rules)

    enough : length old.sending.rules ≤ old.appended
        → (if is_some old.line.closed then 0 else (if started then 0 else 1) + (length old.sending.rules - old.appended)) ≡ 0
    enough h = subst (λ (c : Option Closed). (if is_some c then 0 else (if started then 0 else 1) + (length old.sending.rules - old.appended)) ≡ 0) (sym alive)
        (subst (λ (b : Bool). (if b then 0 else 1) + (length old.sending.rules - old.appended) ≡ 0) (sym begun_is) (omega (arith, h)))

    at : (o : Option (List ℕ)) → texts ≡ o → SaysText o false old new out out' → ahead_of new started ≡ 0
    at None e s = subst (λ (n : Announcing). ahead_of n started ≡ 0) (sym s.1) (enough (none_left _ _ _ e))
    at (Some text) e s = absurd (never s.0)
      where
        never : false ≡ true → ⊥
        never h = cc

pub starts_ok : (old new : Announcing) (out out' : List ℕ) (result : Result (Unit {0}) Closed) → result ≡ Ok tt → StaysEnded old new result out out'
    → StartsOpen old new out out' result
    → (old.line.closed ≡ None) × StartsWith old.started old new out out'
starts_ok old new out out' result e stays starts =
    let alive : old.line.closed ≡ None = alive_on _ _ _ _ _ stays _ e in
    (alive, subst (λ (r : Result (Unit {0}) Closed). Starts old new out out' r) e (starts alive))

pub if_on : {E P : Type 0} (r : Result Bool E) (Q : Bool → Type 0) → IfOk r Q → ((had : Bool) → Q had → P) → OnOk r P
if_on (Ok had) Q q f = f had q
if_on (Err e) Q q f = tt

pub if_if : {E : Type 0} (r : Result Bool E) (Q P : Bool → Type 0) → IfOk r Q → ((had : Bool) → Q had → P had) → IfOk r P
if_if (Ok had) Q P q f = f had q
if_if (Err e) Q P q f = tt
