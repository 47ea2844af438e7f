use Rattle.fs_peering.proofs.Words.{Config, inl, inr, ℕ, ◌+◌, ◌*◌, ◌<◌, ◌≤◌, List, [], ◌∷◌, ◌++◌, Bool, true, false, not, flat_map, if◌then◌else◌}
use Rattle.fs_peering.proofs.Words.{AllByRecursion, Heard, heard_by, moments_of, Pieces, moments_in, IsTimely}

-- Of moments between which no hold time can have passed some.

timely_by : (config : Config) (some all : List ℕ) → ((P : ℕ → Type 0) → AllByRecursion P all → AllByRecursion P some) → IsTimely config all
    → IsTimely config some
timely_by config some all part (inl none) = inl none
timely_by config some all part (inr close) =
    inr (close.0, part (λ moment. (close.0 ≤ moment) × (moment < close.0 + 1000 * config.hold_time)) close.1)

-- those up to and with one of the pieces
up_to : (P : ℕ → Type 0) (earlier later : Pieces) (moment : ℕ) (piece : List ℕ) → AllByRecursion P (moments_in (earlier ++ (moment, piece) ∷ later))
    → AllByRecursion P (moments_in earlier ++ moment ∷ [])
up_to P [] later moment piece a = (a.0, tt)
up_to P (event ∷ earlier) later moment piece a = (a.0, up_to P earlier later moment piece a.1)

pub timely_up_to : (config : Config) (earlier later : Pieces) (moment : ℕ) (piece : List ℕ) → IsTimely config (moments_in (earlier ++ (moment, piece) ∷ later))
    → IsTimely config (moments_in earlier ++ moment ∷ [])
timely_up_to config earlier later moment piece t =
    timely_by config _ _ (λ P a. up_to _ _ _ _ _ a) t

-- those of one end
ones : (P : ℕ → Type 0) (which : Bool) (events : List Heard) → AllByRecursion P (moments_of events)
    → AllByRecursion P (moments_in (flat_map (heard_by which) events))
ones P which [] a = tt
ones P which (event ∷ events) a = by (ones P which events a.1) (if which then event.first else not event.first)
  where
    by : AllByRecursion P (moments_in (flat_map (heard_by which) events)) → (b : Bool)
        → AllByRecursion P (moments_in ((if b then (event.moment, event.piece) ∷ [] else []) ++ flat_map (heard_by which) events))
    by rest true = (a.0, rest)
    by rest false = rest

pub timely_one : (config : Config) (which : Bool) (events : List Heard) → IsTimely config (moments_of events)
    → IsTimely config (moments_in (flat_map (heard_by which) events))
timely_one config which events t = timely_by config _ _ (λ P a. ones _ _ _ a) t
