-- Buckets that house rules: which are in which, what is put in the place of others, and where that is.
use Rattle.std.specs.Prelude.{◌≡◌, ℕ, ◌+◌, ◌-◌, ◌<◌, ◌≤◌, Bool, false, Option, Some, None, List, length, get_or, ◌⊎◌, ◌^◌, if◌then◌else◌}
use Rattle.std.specs.List.{AllByRecursion}
use Rattle.fs_base.specs.declared.prefix.Family.{Family}
use Rattle.fs_buckets.specs.{declared.buckets.Buckets.{Buckets}, Addresses.{numbers_in, nodes_in, node_width, width_in}}
use Rattle.fs_buckets.specs.{Buckets.{AreBuckets, node_at}, Destinations.{IsOfFamily, spans_of, IsStretch}}
use Rattle.fs_rules.specs.Lent.{Listed}

-- these are buckets of so many rules
abbrev pub AreSound : Buckets → ℕ → Type 0
AreSound b count = AreBuckets (numbers_in b.lasts) (nodes_in b.nodes) b.homes.items count

-- the first and the last address of the bucket of a rule
abbrev pub span_at : Buckets → ℕ → ℕ × ℕ
span_at b k =
    ((node_at (nodes_in b.nodes) (get_or b.homes.items k 0)).first, get_or (numbers_in b.lasts) (get_or b.homes.items k 0) 0)

-- each of the first rules has the destination of its bucket, and the others have none
pub record AreHoused (spans : List (Option (ℕ × ℕ))) (b : Buckets) : Type 0 where
  pub homed : (k : ℕ) → k < length b.homes.items
      → get_or spans k None ≡ Some (span_at b k)
  pub bare : (k : ℕ) → length b.homes.items ≤ k → get_or spans k None ≡ None

-- from a place on stand rules of these buckets, those from one number on before another
abbrev pub Keeps : Buckets → (from to place : ℕ) → List (Option (ℕ × ℕ)) → Type 0
Keeps b from to place spans =
    (k : ℕ) → from ≤ k → k < to → get_or spans (place + (k - from)) None ≡ Some (span_at b k)

-- from a place on stand these
abbrev pub Adds : List (Option (ℕ × ℕ)) → (place : ℕ) → List (Option (ℕ × ℕ)) → Type 0
Adds news place spans = (k : ℕ) → k < length news → get_or spans (place + k) None ≡ get_or news k None

-- new ones stand in the place of the rules of these buckets from one number on before another
pub record Mends (b : Buckets) (from to : ℕ) (news spans : List (Option (ℕ × ℕ))) : Type 0 where
  pub front : Keeps b 0 from 0 spans
  pub middle : Adds news from spans
  pub back : Keeps b to (length b.homes.items) (from + length news) spans

-- the first and the last address of a bucket
abbrev pub bucket_span : Buckets → ℕ → ℕ × ℕ
bucket_span b i = ((node_at (nodes_in b.nodes) i).first, get_or (numbers_in b.lasts) i 0)

-- the one stands before the other, or may be the same
abbrev pub IsPassed : ℕ × ℕ → ℕ × ℕ → (same : Bool) → Type 0
IsPassed p q same = (p.1 < q.1) ⊎ ((p.1 ≡ q.1) × (q.0 < p.0 + (if same then 1 else 0)))

-- the one stands behind the other, or, where that isn't passed, may be the same
abbrev pub IsLeft : ℕ × ℕ → ℕ × ℕ → (same : Bool) → Type 0
IsLeft p q same = (q.1 < p.1) ⊎ ((q.1 ≡ p.1) × (p.0 + (if same then 1 else 0) ≤ q.0))

-- so many buckets are passed, and the others left
pub record Passes (b : Buckets) (q : ℕ × ℕ) (same : Bool) (n : ℕ) : Type 0 where
  pub within : n ≤ length (numbers_in b.lasts)
  pub before : (i : ℕ) → i < n → IsPassed (bucket_span b i) q same
  pub behind : (i : ℕ) → n ≤ i → i < length (numbers_in b.lasts) → IsLeft (bucket_span b i) q same

-- a bucket of these addresses, whose rules are those from one number on before another
pub record IsHolder (b : Buckets) (bucket : ℕ) (span : ℕ × ℕ) (from to : ℕ) : Type 0 where
  pub within : bucket < length (numbers_in b.lasts)
  pub few : bucket < 2 ^ 32
  pub first : (node_at (nodes_in b.nodes) bucket).first ≡ span.0
  pub last : get_or (numbers_in b.lasts) bucket 0 ≡ span.1
  pub start : (node_at (nodes_in b.nodes) bucket).start ≡ from
  pub end : (node_at (nodes_in b.nodes) (bucket + 1)).start ≡ to

-- a bucket of these addresses can be put at the place, where its rules stand from the number on
pub record IsGap (b : Buckets) (bucket : ℕ) (span : ℕ × ℕ) (from : ℕ) : Type 0 where
  pub within : bucket ≤ length (numbers_in b.lasts)
  pub few : length (numbers_in b.lasts) + 1 < 2 ^ 32
  pub first : span.0 < 2 ^ node_width b.nodes
  pub last : span.1 < 2 ^ width_in b.lasts
  pub start : (node_at (nodes_in b.nodes) bucket).start ≡ from
  pub before : (i : ℕ) → i < bucket → IsPassed (bucket_span b i) span false
  pub behind : (i : ℕ) → bucket ≤ i → i < length (numbers_in b.lasts) → IsLeft (bucket_span b i) span false

-- buckets of so many rules, which have these destinations
pub record AreBucketsOf (spans : List (Option (ℕ × ℕ))) (b : Buckets) (count : ℕ) : Type 0 where
  pub sound : AreSound b count
  pub housed : AreHoused spans b

-- the first buckets with one more of these addresses at a place, which has no rules, and would have those from a number on
pub record HasEmpty (old new : Buckets) (bucket : ℕ) (span : ℕ × ℕ) (from : ℕ) : Type 0 where
  pub sound : AreSound new (length new.homes.items)
  pub holder : IsHolder new bucket span from from
  pub size : length new.homes.items ≡ length old.homes.items
  pub housed : (spans : List (Option (ℕ × ℕ))) → AreHoused spans old → AreHoused spans new

-- the buckets of these rules of the family, of which those from one number on before another have the destination
pub record HasStretch (family : Family) (rules : List Listed) (b : Buckets) (target : Option (ℕ × ℕ)) (from to : ℕ)
    : Type 0 where
  pub whole : length b.homes.items ≤ length rules
  pub housed : AreHoused (spans_of rules) b
  pub each : AllByRecursion (IsOfFamily family) rules
  pub stretch : IsStretch (spans_of rules) target from to
