-- Runs of rules with one destination, as intervals of addresses.
use Rattle.std.specs.Prelude.{◌≡◌, ℕ, ◌+◌, ◌-◌, ◌<◌, ◌≤◌, ◌++◌, ◌∷◌, [], Option, Some, None, List, length, get_or}
use Rattle.fs_buckets.specs.{declared.{nodes.Node.{Node}, runs.Runs.{Runs}}, Addresses.{numbers_in}, Buckets.{node_at}}

-- Of each rule the first and the last address of its destination, in the order of rules: last addresses rise, one that
-- begins before an earlier one ends begins no later than that, and rules without a destination come last.
pub record AreNesting (spans : List (Option (ℕ × ℕ))) : Type 0 where
  pub rising : (i j : ℕ) (p q : ℕ × ℕ) → i < j
      → get_or spans i None ≡ Some p → get_or spans j None ≡ Some q → p.1 ≤ q.1
  pub nested : (i j : ℕ) (p q : ℕ × ℕ) → i < j
      → get_or spans i None ≡ Some p → get_or spans j None ≡ Some q → q.0 ≤ p.1 → q.0 ≤ p.0
  pub bare : (i j : ℕ) → i ≤ j → get_or spans i None ≡ None → get_or spans j None ≡ None

-- The runs of the first rules, as many as have a home: by their first and last addresses and by the numbers at which
-- they start, with the run of each rule.
pub record AreRuns (spans : List (Option (ℕ × ℕ))) (firsts lasts starts homes : List ℕ) : Type 0 where
  pub firsts_size : length firsts ≡ length lasts
  pub starts_size : length starts ≡ length lasts
  pub few : length lasts ≤ length homes
  pub home : (k : ℕ) → k < length homes → get_or homes k 0 < length lasts
  pub span : (k : ℕ) → k < length homes
      → get_or spans k None ≡ Some (get_or firsts (get_or homes k 0) 0, get_or lasts (get_or homes k 0) 0)
  pub begins : (k : ℕ) → k < length homes → get_or starts (get_or homes k 0) 0 ≤ k
  pub ends : (k : ℕ) → k < length homes
      → get_or homes k 0 + 1 < length lasts → k < get_or starts (get_or homes k 0 + 1) 0
  pub rising : (i j : ℕ) → i < j → j < length lasts → get_or starts i 0 < get_or starts j 0
  pub started : (i : ℕ) → i < length lasts → get_or starts i 0 < length homes
  pub owner : (i : ℕ) → i < length lasts
      → get_or spans (get_or starts i 0) None ≡ Some (get_or firsts i 0, get_or lasts i 0)

abbrev pub RunsOf : List (Option (ℕ × ℕ)) → Runs → Type 0
RunsOf spans runs = AreRuns spans runs.firsts.items (numbers_in runs.lasts) runs.starts.items runs.homes.items

-- from a run on, the parent of each is the next that begins no later, or none
pub record ArePlain (firsts parents : List ℕ) (low : ℕ) : Type 0 where
  pub after : (i : ℕ) → low ≤ i → i < length firsts → i < get_or parents i 0
  pub within : (i : ℕ) → low ≤ i → i < length firsts → get_or parents i 0 ≤ length firsts
  pub least : (i j : ℕ) → low ≤ i → i < length firsts → i < j → j < get_or parents i 0
      → get_or firsts i 0 < get_or firsts j 0

-- the nodes of these runs
pub record AreNodes (firsts starts parents : List ℕ) (homed : ℕ) (nodes : List (Node ℕ)) : Type 0 where
  pub size : length nodes ≡ length firsts + 1
  pub each : (k : ℕ) → k < length firsts
      → node_at nodes k ≡ record { first = get_or firsts k 0; start = get_or starts k 0; parent = get_or parents k 0 }
  pub tail : (node_at nodes (length firsts)).start ≡ homed

-- the last run has these addresses
pub record EndsWith (runs : Runs) (low high : ℕ) : Type 0 where
  pub some : 0 < length (numbers_in runs.lasts)
  pub first : get_or runs.firsts.items (length (numbers_in runs.lasts) - 1) 0 ≡ low
  pub last : get_or (numbers_in runs.lasts) (length (numbers_in runs.lasts) - 1) 0 ≡ high

-- a rule more in the last run
pub record Joined (old new : Runs) : Type 0 where
  pub firsts : new.firsts.items ≡ old.firsts.items
  pub lasts : numbers_in new.lasts ≡ numbers_in old.lasts
  pub starts : new.starts.items ≡ old.starts.items
  pub homes : new.homes.items ≡ old.homes.items ++ (length (numbers_in old.lasts) - 1) ∷ []

-- a rule more with a run of its own
pub record Opened (old : Runs) (low high : ℕ) (new : Runs) : Type 0 where
  pub firsts : new.firsts.items ≡ old.firsts.items ++ low ∷ []
  pub lasts : numbers_in new.lasts ≡ numbers_in old.lasts ++ high ∷ []
  pub starts : new.starts.items ≡ old.starts.items ++ length old.homes.items ∷ []
  pub homes : new.homes.items ≡ old.homes.items ++ length (numbers_in old.lasts) ∷ []
