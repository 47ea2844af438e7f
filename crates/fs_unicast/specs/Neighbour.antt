-- The ASes that a path names first. Of a path that is empty or holds a set or a confederation segment this is
-- the project's own reading; else it is RFC 4271 section 9.1.2.2 (c), the neighbouring AS.
use Rattle.std.specs.Prelude.{ℕ, ◌==◌, ◌||◌, not, Bool, Option, None, List, slice_get, find, if◌then◌else◌, unwrap_or, option_and_then, option_map}
use Rattle.fs_base.specs.declared.path.Segment.{Segment}

-- RFC 5065 section 3: AS_CONFED_SEQUENCE and AS_CONFED_SET
abbrev pub is_confederation : Segment → Bool
is_confederation s = (s.form == 3) || (s.form == 4)

-- the first segment that isn't a confederation's
abbrev pub leading : List Segment → Option Segment
leading segments = find (λ s. not (is_confederation s)) segments

-- the first number of a sequence; a set has none
abbrev pub first_number : Segment → Option ℕ
first_number s = if s.form == 2 then slice_get s.numbers 0 else None

abbrev pub first_as : List Segment → Option ℕ
first_as segments = option_and_then first_number (leading segments)

-- the neighbouring AS, or None where no segment counts
abbrev pub neighbour : List Segment → Option ℕ
neighbour segments = option_map (λ s. unwrap_or (first_number s) 0) (leading segments)

abbrev pub neighbour_as : ℕ → List Segment → ℕ
neighbour_as local_as segments = unwrap_or (neighbour segments) local_as
