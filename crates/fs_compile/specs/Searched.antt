-- What is searched, and where.
use Rattle.std.specs.Prelude.{ℕ, ◌<◌, ◌≤◌, ◌^◌, Bool, IfSome, List, get_or, length}
use Rattle.fs_buckets.specs.{Addresses.{numbers_in}, Housed.{AreSound}}
use Rattle.fs_compile.specs.{declared.«search».{Cursor.{Cursor}, Search.{Search}}, Filters.{AreFilters}, Search.{IsNear}}

-- how many rules there are
abbrev pub count_of : Search → ℕ
count_of s = length s.tested.rules.now

-- the buckets and the filters are those of the rules
pub record IsWhole (s : Search) : Type 0 where
  pub sound : AreSound s.buckets.now (count_of s)
  pub few : count_of s < 2 ^ 32
  pub filters : IfSome s.filters (λ filters. AreFilters s.tested.rules.now filters.now)

-- the place is at a bucket that doesn't end below the address
pub record IsAt (s : Search) (place : Cursor) : Type 0 where
  pub whole : IsWhole s
  pub inside : place.bucket < length (numbers_in s.buckets.now.lasts)
  pub ends : place.address ≤ get_or (numbers_in s.buckets.now.lasts) place.bucket 0

-- of each rule, whether its bucket holds the place's address, or it has none
abbrev pub IsNearIn : Search → Cursor → List Bool → Type 0
IsNearIn s place near = IsNear s.buckets.now place.address (count_of s) near
