-- Destinations as intervals of addresses, in the order of their last addresses, with the runs of rules that have them.
use Rattle.std.specs.Prelude.{◌≡◌, ℕ, ◌+◌, ◌-◌, ◌*◌, ◌%◌, ◌^◌, ◌<◌, ◌≤◌, ◌||◌, nat_le, nat_lt, if◌then◌else◌, List, length, get_or}
use Rattle.fs_buckets.specs.declared.nodes.Node.{Node}

abbrev pub AreRising : List ℕ → Type 0
AreRising xs = (i j : ℕ) → i < j → j < length xs → get_or xs i 0 ≤ get_or xs j 0

abbrev pub node_at : List (Node ℕ) → ℕ → Node ℕ
node_at nodes i = get_or nodes i (record { first = 0; start = 0; parent = 0 })

-- the first and the last address of a prefix, of so many host bits
pub record IsSubnet (first last : ℕ) : Type 0 where
  pub count : ℕ
  pub host : ℕ
  pub begins : first ≡ count * 2 ^ host
  pub ends : last + 1 ≡ first + 2 ^ host

-- Of buckets by their last addresses and nodes, with the bucket of each rule that has one, of so many rules. The node
-- behind the last begins where the rules without a bucket do.
pub record AreBuckets (lasts : List ℕ) (nodes : List (Node ℕ)) (homes : List ℕ) (count : ℕ) : Type 0 where
  pub size : length nodes ≡ length lasts + 1
  pub rising : AreRising lasts
  pub subnets : (i : ℕ) → i < length lasts → IsSubnet (node_at nodes i).first (get_or lasts i 0)
  -- one that begins before an earlier one ends begins no later than that
  pub nested : (i j : ℕ) → i < j → j < length lasts
      → (node_at nodes j).first ≤ get_or lasts i 0 → (node_at nodes j).first ≤ (node_at nodes i).first
  -- the parent is the next that begins no later
  pub after : (i : ℕ) → i < length lasts → i < (node_at nodes i).parent
  pub within : (i : ℕ) → i < length lasts → (node_at nodes i).parent ≤ length lasts
  pub least : (i j : ℕ) → i < length lasts → i < j → j < (node_at nodes i).parent
      → (node_at nodes i).first < (node_at nodes j).first
  -- runs of rules one behind the other
  pub starts : (i j : ℕ) → i ≤ j → j ≤ length lasts → (node_at nodes i).start ≤ (node_at nodes j).start
  pub tail : (node_at nodes (length lasts)).start ≡ length homes
  pub few : length homes ≤ count
  pub home : (k : ℕ) → k < length homes → get_or homes k 0 < length lasts
  pub begins : (k : ℕ) → k < length homes → (node_at nodes (get_or homes k 0)).start ≤ k
  pub ends : (k : ℕ) → k < length homes → k < (node_at nodes (get_or homes k 0 + 1)).start

-- the starts of the nodes from a place on can be moved by so many numbers down and so many up
abbrev pub AreAbove : {K : Type 0} → (from down up : ℕ) → List (Node K) → Type 0
AreAbove {K} from down up nodes =
    (k : ℕ) (d : Node K) → from ≤ k → k < length nodes
    → (down ≤ (get_or nodes k d).start) × ((get_or nodes k d).start + up < 2 ^ 32 + down)

-- a node whose start is moved
abbrev pub moved : {K : Type 0} → (down up : ℕ) → Node K → Node K
moved down up node = record { first = node.first; start = node.start - down + up; parent = node.parent }

-- the elements from one place on before another are changed, each by its place
pub record AreChanged {X : Type 0} (from to : ℕ) (change : ℕ → X → X) (old new : List X) : Type 0 where
  pub size : length new ≡ length old
  pub front : (k : ℕ) (d : X) → k < from → get_or new k d ≡ get_or old k d
  pub done : (k : ℕ) (d : X) → from ≤ k → k < to → get_or new k d ≡ change k (get_or old k d)
  pub rest : (k : ℕ) (d : X) → to ≤ k → get_or new k d ≡ get_or old k d

-- The parent of the node of a number, where another is put at a place. Of those before it those before `low` lie before
-- that one, the others within it.
abbrev pub parent_beside : (place low number parent : ℕ) → ℕ
parent_beside place low number parent =
    if nat_lt parent place then parent else (if nat_lt number low || nat_le place number then (parent + 1) % 2 ^ 32 else place)

-- a node that names its parent anew, where another is put at a place
abbrev pub beside : {K : Type 0} → (place low number : ℕ) → Node K → Node K
beside place low number node =
    record { first = node.first; start = node.start; parent = parent_beside place low number node.parent }

-- the nodes with one more at a place
pub record AreOpened {K : Type 0} (place low : ℕ) (node : Node K) (old new : List (Node K)) : Type 0 where
  pub size : length new ≡ length old + 1
  pub front : (k : ℕ) (d : Node K) → k < place → get_or new k d ≡ beside place low k (get_or old k d)
  pub at : (d : Node K) → get_or new place d ≡ node
  pub back : (k : ℕ) (d : Node K) → place ≤ k → k < length old → get_or new (k + 1) d ≡ beside place low k (get_or old k d)
