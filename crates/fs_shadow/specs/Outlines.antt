-- Rules as they are compared with many others, and which of them may contain a later one by their destinations,
-- or by single numbers that they ask for.
use Rattle.std.specs.Prelude.{◌≡◌, ℕ, ◌+◌, ◌-◌, ◌*◌, ◌^◌, ◌<◌, ◌≤◌, ◌==◌, Bool, true, false, not, ◌&&◌, ◌||◌, max, nat_le, nat_lt, Option, Some, None}
use Rattle.std.specs.Prelude.{List, [], ◌∷◌, get_or, length, if◌then◌else◌}
use Rattle.std.specs.List.{AllByRecursion, list_all, list_any, slice_get, AllZip, Sorted.{IsNonDecreasingBy}}
use Rattle.fs_base.specs.{declared.prefix.Family.{Family}, Bits.{afi_of}}
use Rattle.fs_rules.specs.{Lent.{Listed}, Walk.{goes_on}}
use Rattle.fs_buckets.specs.{Destinations.{IsOfFamily, spans_of}, Runs.{AreNesting}}
use Rattle.fs_shadow.specs.{declared.{outlines.Outline.{Outline}, extents.Measure.{Measure}}, Extents.{AreMeasuresOf, IsTold, key_in, measure_lies_in}}

abbrev pub outline_contains : (a b : Outline) → Bool
outline_contains a b =
    (afi_of a.family == afi_of b.family)
    && list_all (λ outer. list_any (λ inner. measure_lies_in inner outer) b.measures.items) a.measures.items

abbrev pub outline_takes_all : (earlier later : Outline) → Bool
outline_takes_all earlier later = not earlier.goes_on && outline_contains earlier later

-- the place of the first of these that does so, where the first of them has this place
abbrev pub first_taker : ℕ → List Outline → Outline → Option ℕ
first_taker place [] later = None
first_taker place (outline ∷ outlines) later =
    if outline_takes_all outline later then Some place else first_taker (place + 1) outlines later

pub record IsOutlineOf (rule : Listed) (outline : Outline) : Type 0 where
  pub goes_on : outline.goes_on ≡ goes_on rule.actions
  pub family : outline.family ≡ rule.rule.family
  pub measures : AreMeasuresOf rule.rule.parts outline.measures.items

-- each of its rule
abbrev pub AreOutlinesOf : List Listed → List Outline → Type 0
AreOutlinesOf rules outlines = AllZip IsOutlineOf rules outlines

-- rules of a family by their destinations
pub record AreInOrder (rules : List Listed) : Type 0 where
  pub family : Family
  pub each : AllByRecursion (IsOfFamily family) rules
  pub nesting : AreNesting (spans_of rules)

-- The addresses of a destination differ from those of the destination before it. Those of all addresses, which begin at
-- 0, don't differ from none.
abbrev pub lie_apart : (before span : Option (ℕ × ℕ)) → Bool
lie_apart (Some before) (Some span) = not (before.0 == span.0) || not (before.1 == span.1)
lie_apart (Some before) None = nat_lt 0 before.0
lie_apart None span = false

-- the destination of a number differs from that before it
abbrev pub begins_anew : List (Option (ℕ × ℕ)) → ℕ → Bool
begins_anew spans number = nat_lt 0 number && lie_apart (get_or spans (number - 1) None) (get_or spans number None)

-- The greatest of the numbers that these take in alone, or 0. A rule may ask for 0 too.
abbrev pub key_of : List Measure → ℕ
key_of [] = 0
key_of (measure ∷ measures) = max (key_in measure) (key_of measures)

abbrev pub is_number : ℕ → Option ℕ → Bool
is_number key None = false
is_number key (Some number) = number == key

-- a number known of a component is the key
abbrev pub probes : ℕ → Measure → Bool
probes key measure = is_number key measure.held

-- keys in order, and the places of one key
abbrev pub rank : (key place : ℕ) → ℕ
rank key place = key * 2 ^ 64 + place

abbrev pub is_entry : (key place : ℕ) → ℕ × ℕ → Bool
is_entry key place entry = (entry.0 == key) && (entry.1 == place)

-- the key of each with its place, where the first has this place
abbrev pub entries_from : ℕ → List Outline → List (ℕ × ℕ)
entries_from place [] = []
entries_from place (outline ∷ outlines) = (key_of outline.measures.items, place) ∷ entries_from (place + 1) outlines

-- the same in order
pub record IsIndexOf (outlines : List Outline) (index : List (ℕ × ℕ)) : Type 0 where
  pub rising : IsNonDecreasingBy (λ entry. rank entry.0 entry.1) index
  pub has : (key place : ℕ) → list_any (is_entry key place) index ≡ list_any (is_entry key place) (entries_from 0 outlines)

-- a stretch of the rules that have this index
pub record IsStretch (outlines : List Outline) (entries : List (ℕ × ℕ)) (start end : ℕ) : Type 0 where
  pub index : IsIndexOf outlines entries
  pub order : start ≤ end
  pub inside : end ≤ length outlines

abbrev pub takes_as : Option Outline → Outline → Bool
takes_as None later = false
takes_as (Some outline) later = outline_takes_all outline later

abbrev pub takes_before : (outlines : List Outline) (later : Outline) (key end : ℕ) → ℕ × ℕ → Bool
takes_before outlines later key end entry =
    ((entry.0 == key) && nat_lt entry.1 end) && takes_as (slice_get outlines entry.1) later

-- the first place of the key, before the end, at which a rule takes all packets of the later one; or the end
abbrev pub first_entry : (outlines : List Outline) (later : Outline) (key end : ℕ) → List (ℕ × ℕ) → ℕ
first_entry outlines later key end [] = end
first_entry outlines later key end (entry ∷ entries) =
    if nat_le (rank key end) (rank entry.0 entry.1) then end
    else if takes_before outlines later key end entry then entry.1
    else first_entry outlines later key end entries

-- The place is the first, from the start on and before the end, of those rules asked for that take all packets of the
-- later one; or it is the end.
pub record IsFirst (outlines : List Outline) (later : Outline) (asked : ℕ → Bool) (start end place : ℕ) : Type 0 where
  pub from : start ≤ place
  pub within : place ≤ end
  pub takes : place < end → takes_as (slice_get outlines place) later ≡ true
  pub none :
      (q : ℕ) (outline : Outline)
      → start ≤ q
      → q < place
      → slice_get outlines q ≡ Some outline
      → asked (key_of outline.measures.items) ≡ true
      → outline_takes_all outline later ≡ false

-- the keys that these measures ask for, and that of rules without one
abbrev pub is_asked : List Measure → ℕ → Bool
is_asked measures key = (key == 0) || list_any (probes key) measures

-- each outline's measures tell of their numbers what is so
abbrev pub AreTold : List Outline → Type 0
AreTold outlines = AllByRecursion (λ outline. AllByRecursion IsTold outline.measures.items) outlines
