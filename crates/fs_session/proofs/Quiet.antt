-- The announcing end takes no update of any message.
use Rattle.fs_session.proofs.Words.{◌≡◌, ◌⊎◌, inl, inr, ℕ, List, ◌++◌, Option, None, Result, Ok, Err, refl, sym, subst, Config, Message, pending}
use Rattle.fs_session.proofs.Words.{Update, Closed, Needs, Phase, transition_by, announcer, skips_update, Lined, Step, waits, takes, stops, step_by}
use Rattle.fs_session.proofs.Words.{step_in, DoesAt, FeedsAt, counted, without_update}
use Rattle.fs_session.proofs.{MessageRuns.{Transition, Shows, told}, Transitions.{each_transition}}

abbrev NoUpdate : Transition → Type 0
NoUpdate (Ok next) = next.1 ≡ None
NoUpdate (Err why) = Unit {0}

abbrev NoneTaken : Step → Type 0
NoneTaken waits = Unit {0}
NoneTaken (takes next update behind) = update ≡ None
NoneTaken (stops why) = Unit {0}

turn_quiet : (config : Config) (needs : Needs) (now : Phase) (message : Message) → NoUpdate (transition_by (announcer config needs) now message)
turn_quiet config needs now message = each_transition (announcer config needs) NoUpdate now message (λ why. tt) (λ found e. refl) none
  where
    none : (update : Option Update) → (update ≡ None) ⊎ (skips_update now.four message.body ≡ Ok update) → update ≡ None
    none update (inl e) = e
    none update (inr e) = cc

step_quiet : (config : Config) (needs : Needs) (now : Phase) (octets : List ℕ) → NoneTaken (step_by (announcer config needs) now octets)
step_quiet config needs now octets = by (step_by (announcer config needs) now octets) (told (announcer config needs) now octets)
  where
    by : (step : Step) → Shows (announcer config needs) now octets step → NoneTaken step
    by waits s = tt
    by (takes next update behind) s = subst NoUpdate s.2 (turn_quiet config needs now s.0)
    by (stops why) s = tt

does_quiet : (step : Step) (moment : ℕ) (old new : Lined) (piece : List ℕ) (count : ℕ) (update : Option Update) → NoneTaken step
    → DoesAt step moment old new piece count update → DoesAt step moment old new piece count None
does_quiet waits moment old new piece count update n d = (d.0, d.1, d.2, refl, d.4)
does_quiet (takes next took behind) moment old new piece count update n d = (d.0, d.1, d.2, d.3, sym n, d.5)
does_quiet (stops why) moment old new piece count update n d = absurd d

pub fed_counted : (config : Config) (needs : Needs) (moment : ℕ) (old new : Lined) (piece out out' : List ℕ) (result : Result (ℕ × Option Update) Closed)
    → FeedsAt (announcer config needs) moment old new piece out out' result
    → FeedsAt (announcer config needs) moment old new piece out out' (without_update (counted result))
fed_counted config needs moment old new piece out out' (Ok fed) f =
    let step : Step = step_in (announcer config needs) old piece in
    (does_quiet step moment old new piece fed.0 fed.1 (step_quiet config needs old.phase (pending old.framing ++ piece)) f.0, f.1)
fed_counted config needs moment old new piece out out' (Err why) f = f
