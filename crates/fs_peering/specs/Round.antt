-- What an end of a wire hears and says.
use Rattle.std.specs.Prelude.{ℕ, List, [], ◌∷◌, ◌++◌, ◌≡◌, length, map, flat_map}
use Rattle.fs_base.specs.Wire.{WireEnds, end_at, heard_end, other_than}

-- what was heard, piece by piece, each with its moment
abbrev pub Pieces : Type 0
Pieces = List (ℕ × List ℕ)

-- how an end stands, by what it heard and what it said
abbrev pub Stance : Type 1
Stance = Pieces → List ℕ → Type 0

abbrev pub octets_in : Pieces → List ℕ
octets_in heard = flat_map (λ piece. piece.1) heard

abbrev pub moments_in : Pieces → List ℕ
moments_in heard = map (λ piece. piece.0) heard

-- the end heard a piece at a moment, and appended what it said to it
abbrev pub Hears : Stance → Stance → ℕ → List ℕ → List ℕ → List ℕ → Type 0
Hears old new moment piece out out' =
    (heard : Pieces) (said : List ℕ) → old heard said
    → (more : List ℕ) × ((out' ≡ out ++ more) × new (heard ++ (moment, piece) ∷ []) (said ++ more))

-- the end appended what it said unasked
abbrev pub Says : Stance → Stance → List ℕ → List ℕ → Type 0
Says old new out out' =
    (heard : Pieces) (said : List ℕ) → old heard said → (more : List ℕ) × ((out' ≡ out ++ more) × new heard (said ++ more))

-- The end at a place heard these pieces and said these octets: the pieces are what it had left, in order, and what it said
-- was written through it.
pub record Part (old new : Stance) (place : ℕ) (heard : Pieces) (said : List ℕ) (before now : WireEnds) : Type 0 where
  pub stands : (earlier : Pieces) (spoken : List ℕ) → old earlier spoken → new (earlier ++ heard) (spoken ++ said)
  pub read : (end_at place before).left ≡ octets_in heard ++ (end_at place now).left
  pub wrote : (end_at place now).written ≡ (end_at place before).written ++ said
  pub tied : (end_at place now).joined ≡ (end_at place before).joined
  pub other : other_than place now ≡ heard_end said (other_than place before)

-- one read, and what was said to it; a read of none says that nothing is left
pub record Round (old new : Stance) (place moment count said : ℕ) (before now : WireEnds) : Type 0 where
  pub got : List ℕ
  pub out : List ℕ
  pub part : Part old new place ((moment, got) ∷ []) out before now
  pub counted : length got ≡ count
  pub sized : length out ≡ said
  pub none : count ≡ 0 → (end_at place now).left ≡ []

-- one message that was said unasked
pub record Speech (old new : Stance) (place said : ℕ) (before now : WireEnds) : Type 0 where
  pub out : List ℕ
  pub part : Part old new place [] out before now
  pub sized : length out ≡ said

-- all that was said unasked
pub record Spoken (old new : Stance) (place : ℕ) (before now : WireEnds) : Type 0 where
  pub out : List ℕ
  pub part : Part old new place [] out before now
