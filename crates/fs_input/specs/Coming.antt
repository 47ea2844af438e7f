-- The parts of an input that are read by a chain of fields each, where what a part says depends on those before it.
use Rattle.std.specs.Prelude.{ℕ, List, [], ◌∷◌, ◌++◌, Option, Some, None, Bool, ◌≡◌, ◌≤◌, ◌<◌, ◌+◌, ◌==◌, ◌&&◌, not, length, drop, flat_map}
use Rattle.std.specs.Prelude.{if◌then◌else◌, unwrap_or}
use Rattle.fs_base.specs.declared.counted.Counted.{Counted}
use Rattle.fs_input.specs.{Parts.{AllFrom, At, Reader, at, to_come}, Records.{End, done}, Reads.{end_of, whole}}
use Rattle.fs_input.specs.Scan.{Scan, Scanner, and, field, got, partial, wrong}

-- a state, and the place in the input
pub record Placed (S : Type 0) : Type 0 where
  pub now : S
  pub place : ℕ

abbrev pub placed : {S : Type 0} → S → ℕ → Placed S
placed now place = record { now = now; place = place }

-- a chain of fields in a state, which gives a part and the state behind it
abbrev pub Chain : (S P R : Type 0) → Type 0
Chain S P R = S → Scanner (P × S) R

abbrev pub part_of : {S P R : Type 0} → At (Placed S) → Scan (P × S) R → Option (P × At (Placed S))
part_of now (got found count) = Some (found.0, at (placed found.1 (now.state.place + count)) (drop count now.octets))
part_of now (wrong reason place) = None
part_of now partial = None

abbrev pub first_part : {S P R : Type 0} → Chain S P R → Reader (Placed S) P
first_part chain now = part_of now (chain now.state.now now.state.place now.octets)

-- An input ends between two parts where nothing is left and the limit isn't reached; else as the chain ends.
abbrev pub stop : {S P R : Type 0} → Chain S P R → R → Bool → ℕ → At (Placed S) → End R
stop chain cut limit place now =
    if (length now.octets == 0) && not limit
    then done
    else unwrap_or (end_of cut limit now.state.place (length now.octets) (chain now.state.now now.state.place now.octets)) done

-- the parts that are still to come in a state, where so many octets were taken, and how the input ends
abbrev pub parts_to_come : {S P R : Type 0} → Chain S P R → R → (limit taken : ℕ) → S → List ℕ → List P × End R
parts_to_come chain cut limit taken now left = to_come (first_part chain) (stop chain cut) limit taken (at (placed now taken) left)

-- a part that begins with so many octets, and goes on as these tell
abbrev pub part_in : {S P R : Type 0} → ℕ → (S → ℕ → List ℕ → Scanner (P × S) R) → Chain S P R
part_in first behind now place = and (field first whole) (behind now place) place

-- of the parts those that tell something
abbrev pub all_told : {P : Type 0} → List (Option P) → List P
all_told [] = []
all_told (None ∷ parts) = all_told parts
all_told (Some told ∷ parts) = told ∷ all_told parts

abbrev pub only_told : {P R : Type 0} → List (Option P) × End R → List P × End R
only_told found = (all_told found.0, found.1)

-- what is still to be told in a state, where so many octets were taken, and how the input ends
abbrev pub told_to_come : {S P R : Type 0} → Chain S (Option P) R → R → (limit taken : ℕ) → S → List ℕ → List P × End R
told_to_come chain cut limit taken now left = only_told (parts_to_come chain cut limit taken now left)

-- the same of an input of which so much was taken, where this is left in its slot, behind what was put back
abbrev pub parts_ahead : {S P R : Type 0} → Chain S P R → R → Counted → S → List ℕ → List P × End R
parts_ahead chain cut counted now left = parts_to_come chain cut counted.limit counted.taken now (counted.back ++ left)

abbrev pub told_ahead : {S P R : Type 0} → Chain S (Option P) R → R → Counted → S → List ℕ → List P × End R
told_ahead chain cut counted now left = only_told (parts_ahead chain cut counted now left)

-- what written parts give, where `gives` tells it of one, with the state behind it
abbrev pub all_given : {S P W : Type 0} → (S → W → P × S) → S → List W → List P
all_given gives now [] = []
all_given gives now (part ∷ parts) = (gives now part).0 ∷ all_given gives (gives now part).1 parts

-- The content is the text of written parts, each of which fits the state that those before it leave; this is what they
-- tell; and all of it lies below the limit.
pub record IsTextOf {S P W : Type 0} (text : W → List ℕ) (Fits : S → W → Type 0) (gives : S → W → Option P × S) (now : S)
    (limit : ℕ) (content : List ℕ) (told : List P) : Type 0 where
  pub written : List W
  pub spelled : content ≡ flat_map text written
  pub fit : AllFrom Fits (λ state part. (gives state part).1) now written
  pub told_is : told ≡ all_told (all_given gives now written)
  pub below : length content < limit

-- a value takes at least so many of the octets
abbrev pub Takes : {A R : Type 0} → ℕ → Scanner A R → Type 0
Takes {A} least scanner =
    (place : ℕ) (octets : List ℕ) (value : A) (count : ℕ) → scanner place octets ≡ got value count
    → (least ≤ count) × (count ≤ length octets)
