-- Which of the routes of one key is preferred (the project's own choice, after RFC 4271 section 9.1). A route of
-- a key is its peer and its path: unicast routes and flow routes have the same preference.
use Rattle.std.specs.Prelude.{ℕ, ◌+◌, ◌==◌, Bool, Option, Some, None, List, [], ◌∷◌, length, if◌then◌else◌, fold}
use Rattle.std.specs.{Ordering.{nat_cmp, bool_cmp, on, then_cmp, flip_args, is_lt}, declared.cmp.Ordering.{Ordering}}
use Rattle.fs_base.specs.declared.path.{Path.{Path}, Segment.{Segment}}
use Rattle.fs_unicast.specs.declared.preference.Held.{Held}

-- what a held route shows: the peer and the path
abbrev pub peer_path : Held → ℕ × Path
peer_path h = (h.peer, h.path.now)

-- a sequence counts its numbers, a set counts 1, a confederation's segment 0
abbrev pub segment_length : Segment → ℕ
segment_length s = if s.form == 2 then length s.numbers else (if s.form == 1 then 1 else 0)

abbrev pub path_length : List Segment → ℕ
path_length [] = 0
path_length (s ∷ segments) = segment_length s + path_length segments

-- higher LOCAL_PREF, shorter AS_PATH, lower ORIGIN, external before internal, lower peer number
abbrev pub preference_cmp : ℕ × Path → ℕ × Path → Ordering
preference_cmp =
    then_cmp (flip_args (on (λ r. r.1.local_pref) nat_cmp)) (then_cmp (on (λ r. path_length r.1.segments) nat_cmp)
    (then_cmp (on (λ r. r.1.origin) nat_cmp)
    (then_cmp (flip_args (on (λ r. r.1.external) bool_cmp)) (on (λ r. r.0) nat_cmp))))

abbrev pub preferred : ℕ × Path → ℕ × Path → Bool
preferred x y = is_lt (preference_cmp x y)

abbrev pub better : Option (ℕ × Path) → ℕ × Path → Option (ℕ × Path)
better None r = Some r
better (Some s) r = if preferred r s then Some r else Some s

-- the most preferred of some routes
abbrev pub best_of : List (ℕ × Path) → Option (ℕ × Path)
best_of routes = fold better None routes
