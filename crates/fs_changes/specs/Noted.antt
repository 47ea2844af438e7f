-- The noted places of a family, one after the other.
use Rattle.std.specs.Prelude.{ℕ, ◌==◌, ◌&&◌, Bool, true, List, [], ◌∷◌, Option, Some, None, option_map, if◌then◌else◌}
use Rattle.std.specs.{Ordering.{is_gt, is_lt}, declared.cmp.Ordering.{Ordering}}
use Rattle.fs_base.specs.{Bits.{afi_of}, declared.prefix.{Family.{Family}, Prefix.{Prefix}}}
use Rattle.fs_rules.specs.declared.Change.{Change}
use Rattle.fs_buckets.specs.Destinations.{place_by, target_of}

-- a destination stands after the last one, if there is one
abbrev pub is_later : Option (Option (ℕ × ℕ)) → Option (ℕ × ℕ) → Bool
is_later None target = true
is_later (Some last) target = is_gt (place_by last target)

-- a goal stands before the one that was found, if there is one
abbrev pub is_sooner : {D K : Type 0} → (place : K → K → Ordering) → (target : D → K) → D → Option D → Bool
is_sooner place target d None = true
is_sooner place target d (Some e) = is_lt (place (target e) (target d))

abbrev pub targets : Option (Option Prefix) → Option (Option (ℕ × ℕ))
targets found = option_map target_of found

-- a place of the family that stands after the last one
abbrev pub is_due : Family → Option (Option Prefix) → Change → Bool
is_due family last place = (afi_of place.family == afi_of family) && is_later (targets last) (target_of place.destination)

-- of those that are due the soonest goal, with the one that was found before
abbrev pub soonest : {P D : Type 0} → (due : P → Bool) → (goal : P → D) → (sooner : D → Option D → Bool) → Option D → List P → Option D
soonest due goal sooner found [] = found
soonest due goal sooner found (p ∷ ps) =
    soonest due goal sooner (if due p && sooner (goal p) found then Some (goal p) else found) ps

-- the destination of a family that is noted next after the last one
abbrev pub next_of : Family → Option (Option Prefix) → List Change → Option (Option Prefix)
next_of family last places =
    soonest (is_due family last) (λ place. place.destination) (is_sooner place_by target_of) None places
