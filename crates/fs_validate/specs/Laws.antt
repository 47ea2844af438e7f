-- The unicast routes that a destination is related to, and when two lists agree on them.
use Rattle.std.specs.Prelude.{ℕ, ◌≡◌, ◌==◌, ◌&&◌, ◌||◌, not, Bool, true, false, Option, Some, None, List, filter, MatchOption, if◌then◌else◌}
use Rattle.std.specs.Option.{option_eq}
use Rattle.fs_base.specs.{Prefix.{covers}, declared.{config.Config.{Config}, path.Path.{Path}, prefix.Prefix.{Prefix}}}
use Rattle.fs_unicast.specs.{Neighbour.{first_as, neighbour_as}, Search.{best_at, best_match_of, is_other}, Unicast.{Route, path_at, IsSwap}}
use Rattle.fs_unicast.specs.declared.unicast.Swap.{Swap}
use Rattle.fs_nlri.specs.Rule.{destination_prefix}
use Rattle.fs_validate.specs.{Originator.{originator_of, same_originator}, Validity.{validity, validity_to, neighbour_of_best}}
use Rattle.fs_validate.specs.declared.route.FlowRoute.{FlowRoute}

abbrev pub is_related : Prefix → Prefix → Bool
is_related d p = covers p d || covers d p

abbrev pub related : Prefix → List Route → List Route
related d held = filter (λ r. is_related d r.0.prefix) held

abbrev pub AgreeAt : Option Prefix → List Route → List Route → Type 0
AgreeAt destination held other = MatchOption destination (Unit {0}) (λ d. related d held ≡ related d other)

abbrev pub AgreeFor : FlowRoute → List Route → List Route → Type 0
AgreeFor route held other = AgreeAt (destination_prefix route.rule) held other

-- lists of unicast routes that agree for a flow route give it the same validity
abbrev pub Locality : Type 0
Locality = (config : Config) (route : FlowRoute) (held other : List Route) → AgreeFor route held other
    → validity held config route ≡ validity other config route

-- of two best matches all is the same that validation reads: the originator, the leftmost and the neighbouring AS
abbrev pub is_alike : Config → Option (ℕ × Path) → Option (ℕ × Path) → Bool
is_alike config (Some a) (Some b) =
    same_originator (originator_of config a) (originator_of config b)
    && (option_eq (λ m n. m == n) (first_as a.1.segments) (first_as b.1.segments)
    && (neighbour_as config.local_as a.1.segments == neighbour_as config.local_as b.1.segments))
is_alike config _ _ = false

-- whether a path, if it is there, has another neighbouring AS than the best match
abbrev pub is_against : Config → Option (ℕ × Path) → Option Path → Bool
is_against config best None = false
is_against config best (Some path) = is_other config.local_as (neighbour_of_best config best) path

-- both of two paths are against the best match, or neither
abbrev pub are_both_against : Config → Option (ℕ × Path) → Option Path → Option Path → Bool
are_both_against config best a b = if is_against config best a then is_against config best b else not (is_against config best b)

-- Whether a swap leaves as it was what each route to a destination is judged by. Where it covers the destination, the
-- best routes at its prefix are alike; where it lies strictly under it, both of its paths are against the best match, or
-- neither.
abbrev pub stays_at : Config → Prefix → Swap → List Route → List Route → Bool
stays_at config d swap earlier now =
    if covers swap.prefix d then is_alike config (best_at earlier swap.prefix) (best_at now swap.prefix)
    else (if covers d swap.prefix
    then are_both_against config (best_match_of now d) swap.old (path_at swap.peer swap.prefix now) else true)

-- where it does, each flow route to the destination has the validity that it had
abbrev pub Stays : Type 0
Stays = (config : Config) (d : Prefix) (swap : Swap) (earlier now : List Route) → IsSwap swap earlier now
    → stays_at config d swap earlier now ≡ true → (route : FlowRoute)
    → validity_to earlier config route (Some d) ≡ validity_to now config route (Some d)
