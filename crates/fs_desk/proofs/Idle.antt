-- Updates that list nothing, and the octets of such: the table and what is noted stay.
use Rattle.fs_desk.proofs.Words.{◌≡◌, inl, inr, ℕ, List, [], ◌∷◌, ◌++◌, drop, Bool, true, false, if◌then◌else◌, Option, Some, None, refl}
use Rattle.fs_desk.proofs.Words.{ap, sym, ◌∙◌, subst, AllByRecursion, Update, given_prefixes}
use Rattle.fs_desk.proofs.Words.{unicast_in, flows_in, Live, held_count, Closed, Ended, Desked, standing_by}
use Rattle.fs_desk.proofs.Words.{standing_at_desk, AreIdle, IsIdle, KeepsAll, LosesNothing, completed, Watched, IsSome}
use Rattle.fs_desk.proofs.{Follows.{completed_fed}, Pieces.{Brings}, Played.{GoesOn, goes_own}}
use Rattle.fs_speaker.specs.declared.Standing.TheVariants.{Live as LiveIn}

pub more_than_none : {A : Type 0} (xs : List A) (x : A) → xs ++ x ∷ [] ≡ [] → ⊥
more_than_none [] x e = cc
more_than_none (y ∷ ys) x e = cc

pub both_none : {A : Type 0} (xs ys : List A) → xs ++ ys ≡ [] → (xs ≡ []) × (ys ≡ [])
both_none [] ys e = (refl, e)
both_none {A} (x ∷ xs) ys e = absurd (never e)
  where
    never : x ∷ (xs ++ ys) ≡ [] → ⊥
    never h = cc

none_of_both : {A : Type 0} (xs ys : List A) → xs ≡ [] → ys ≡ [] → xs ++ ys ≡ []
none_of_both xs ys e f = ap (λ z. z ++ ys) e ∙ f

-- what is given, or is taken in its place
either_none : {A : Type 0} (b : Bool) (xs : List A) → (if b then xs else []) ≡ [] → (if b then [] else xs) ≡ [] → xs ≡ []
either_none true xs e f = e
either_none false xs e f = f

-- each list of an update that lists nothing
pub record ListsNothing (update : Update) : Type 0 where
  pub out : update.classic_out ++ unicast_in update.unreach ≡ []
  pub rules_out : flows_in update.unreach ≡ []
  pub into : given_prefixes update ≡ []
  pub rules_into : flows_in update.reach ≡ []

pub lists_nothing : (update : Update) → IsIdle update → ListsNothing update
lists_nothing update idle =
    let taken = both_none update.classic_out (unicast_in update.unreach ++ (if update.as_withdraw then given_prefixes update else [])) idle.takes_none in
    let others = both_none (unicast_in update.unreach) (if update.as_withdraw then given_prefixes update else []) taken.1 in
    let rules = both_none (flows_in update.unreach) (if update.as_withdraw then flows_in update.reach else []) idle.takes_no_rule in
    record {
      out = none_of_both update.classic_out (unicast_in update.unreach) taken.0 others.0;
      rules_out = rules.0;
      into = either_none update.as_withdraw (given_prefixes update) others.1 idle.gives_none;
      rules_into = either_none update.as_withdraw (flows_in update.reach) rules.1 idle.gives_no_rule;
    }

-- after one message without an update the rest lists nothing either
pub idle_none : {old new : Live} {piece : List ℕ} {count : ℕ} {replies replies' : List ℕ} → Brings old new piece count None replies replies'
    → old.closed ≡ None → AreIdle old piece → AreIdle new (drop count piece)
idle_none {old} {new} {piece} {count} b alive idle =
    subst (AllByRecursion IsIdle) (completed_fed old new piece count None b.config_is b.peer_is (b.does alive).0) idle

-- and after one with an update, which lists nothing
pub idle_update : {old new : Live} {piece : List ℕ} {count : ℕ} {update : Update} {replies replies' : List ℕ}
    → Brings old new piece count (Some update) replies replies' → old.closed ≡ None → AreIdle old piece → IsIdle update × AreIdle new (drop count piece)
idle_update {old} {new} {piece} {count} {update} b alive idle =
    let all : AllByRecursion IsIdle (update ∷ completed new (drop count piece)) =
    subst (AllByRecursion IsIdle) (completed_fed old new piece count (Some update) b.config_is b.peer_is (b.does alive).0) idle in
    (all.0, all.1)

-- where the session has closed the peer held nothing
pub held_nothing : (peer : ℕ) (session : Live) (watched : Watched) (why : Closed) → session.closed ≡ Some why → KeepsAll peer session watched
    → held_count peer watched.table ≡ 0
held_nothing peer session watched why shut (inl alive) = absurd (never (sym shut ∙ alive))
  where
    never : Some why ≡ None → ⊥
    never e = cc
held_nothing peer session watched why shut (inr zero_is) = zero_is

-- A piece, or the clock: a closed session does nothing, and an open one as said.
pub desk_notes_none : {n : ℕ} {session session' : Live} {old new : Desked} → GoesOn n session session' old new → (watched : Watched)
    → watched.table ≡ old.held → watched.changes ≡ old.changes → (IsSome session.closed → new.changes ≡ watched.changes)
    → (session.closed ≡ None → KeepsAll n session' watched → new.changes ≡ watched.changes) → LosesNothing n old new → new.changes ≡ old.changes
desk_notes_none {n} {session} {session'} {old} {new} on watched same noted shut open_ loses = by session.closed refl ∙ noted
  where
    never : (why : Closed) → LiveIn session.phase.state ≡ Ended why → ⊥
    never why e = cc

    did_stand : session.closed ≡ None → standing_at_desk old n ≡ LiveIn session.phase.state
    did_stand alive =
        ap standing_by on.there ∙ ap (λ (c : Option Closed). elim c [ Some why ↦ Ended why | None ↦ LiveIn session.phase.state ]) alive

    now_stands : (why : Closed) → session'.closed ≡ Some why → standing_at_desk new n ≡ Ended why
    now_stands why ends =
        ap standing_by (goes_own on) ∙ ap (λ (c : Option Closed). elim c [ Some w ↦ Ended w | None ↦ LiveIn session'.phase.state ]) ends

    keeps_all : session.closed ≡ None → (c : Option Closed) → session'.closed ≡ c → LosesNothing n old new → KeepsAll n session' watched
    keeps_all alive None h k = inl h
    keeps_all alive (Some why) h (inr zero_is) = inr (ap (held_count n) same ∙ zero_is)
    keeps_all alive (Some why) h (inl same_ends) = absurd (never why (sym (did_stand alive) ∙ same_ends why (now_stands why h)))

    by : (c : Option Closed) → session.closed ≡ c → new.changes ≡ watched.changes
    by (Some why) h = shut (subst (λ (o : Option Closed). IsSome o) (sym h) refl)
    by None h = open_ h (keeps_all h session'.closed refl loses)
