-- The search for an address through buckets.
use Rattle.std.specs.Prelude.{◌≡◌, ℕ, ◌+◌, ◌-◌, ◌<◌, ◌≤◌, Bool, true, false, Option, Some, None, MatchOption, option_map, List, length, take, get_or}
use Rattle.std.specs.Prelude.{map}
use Rattle.std.specs.List.{count_by}
use Rattle.fs_buckets.specs.{declared.{Buckets.{Buckets}, Node.{Node}}, Addresses.{numbers_in, nodes_in}, Buckets.{node_at}}
use Rattle.fs_ranges.specs.{declared.Fast.{Fast}, Facts.{Facts}, Fast.{facts_hold}}
use Rattle.fs_compile.specs.declared.{search.{Hit.{Hit}, Cursor.{Cursor}}, tested.Tested.{Tested}}

abbrev pub hits : Facts → List Fast → List Bool
hits facts rules = map (facts_hold facts) rules

abbrev pub tests_of : Tested → List Bool
tests_of tested = hits tested.facts.now tested.rules.now

-- none in a stretch
abbrev pub Missed : List Bool → (lo to : ℕ) → Type 0
Missed tests lo to = (k : ℕ) → lo ≤ k → k < to → get_or tests k false ≡ false

-- the first in a stretch
pub record Found (tests : List Bool) (lo to k : ℕ) : Type 0 where
  pub above : lo ≤ k
  pub below : k < to
  pub hit : get_or tests k false ≡ true
  pub before : Missed tests lo k

-- of each rule, whether its bucket holds the address, or it has none
pub record AreNear (lasts : List ℕ) (nodes : List (Node ℕ)) (homes : List ℕ) (address count : ℕ) (near : List Bool)
    : Type 0 where
  pub size : length near ≡ count
  pub held : (k : ℕ) → k < length homes
      → (node_at nodes (get_or homes k 0)).first ≤ address → address ≤ get_or lasts (get_or homes k 0) 0
      → get_or near k false ≡ true
  pub apart : (k : ℕ) → k < length homes → get_or near k false ≡ true
      → ((node_at nodes (get_or homes k 0)).first ≤ address) × (address ≤ get_or lasts (get_or homes k 0) 0)
  pub bare : (k : ℕ) → length homes ≤ k → k < count → get_or near k false ≡ true

abbrev pub IsNear : Buckets → (address count : ℕ) → List Bool → Type 0
IsNear b address count near = AreNear (numbers_in b.lasts) (nodes_in b.nodes) b.homes.items address count near

-- each of the first is one of the second
abbrev pub Within : List Bool → List Bool → Type 0
Within tests near = (k : ℕ) → get_or tests k false ≡ true → get_or near k false ≡ true

-- from a number on up to a bucket there is no rule whose bucket holds the address
abbrev pub Passed : List ℕ → List (Node ℕ) → List ℕ → (address lo at : ℕ) → Type 0
Passed lasts nodes homes address lo at =
    (k : ℕ) → lo ≤ k → k < (node_at nodes at).start
    → (node_at nodes (get_or homes k 0)).first ≤ address → get_or lasts (get_or homes k 0) 0 < address

-- a place from which a search finds all: no bucket before it matters any more
pub record IsStart (lasts : List ℕ) (nodes : List (Node ℕ)) (homes : List ℕ) (place : Cursor) : Type 0 where
  pub within : place.bucket ≤ length lasts
  pub ends : place.bucket < length lasts → place.address ≤ get_or lasts place.bucket 0
  pub passed : Passed lasts nodes homes place.address place.from place.bucket

abbrev pub Starts : Buckets → Cursor → Type 0
Starts b place = IsStart (numbers_in b.lasts) (nodes_in b.nodes) b.homes.items place

abbrev pub hit_number : Option Hit → Option ℕ
hit_number found = option_map (λ hit. hit.number) found

-- where the rules that a search tests end: behind what it found, or at the end of what it seeks in
abbrev pub tested_to : Option ℕ → ℕ → ℕ
tested_to None to = to
tested_to (Some n) to = n + 1

-- What a search of the rules from one number on before another finds: none, where none of these matches, or the first that
-- does, which stands before `end`. It takes at most a step for each rule up to that one, or for each of these.
pub record Scanned (tests : List Bool) (from to end before after : ℕ) (result : Option ℕ) : Type 0 where
  pub found : MatchOption result (Missed tests from to) (Found tests from end)
  pub later : before ≤ after
  pub steps : after ≤ before + (tested_to result to - from)

-- where a search for the address goes on behind what was found
abbrev pub behind_hit : (address : ℕ) → Hit → Cursor
behind_hit address hit = record { address = address; bucket = hit.bucket; from = hit.number + 1 }

abbrev pub start_at : Buckets → ℕ → ℕ
start_at b i = (node_at (nodes_in b.nodes) i).start

abbrev pub parent_at : Buckets → ℕ → ℕ
parent_at b i = (node_at (nodes_in b.nodes) i).parent

-- how many of the first n are near
abbrev pub marked : ℕ → List Bool → ℕ
marked n near = count_by (λ b. b) (take n near)
