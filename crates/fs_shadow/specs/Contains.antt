-- When a rule contains another: each component of the one has a component of the other that lies in it.
use Rattle.std.specs.Prelude.{ℕ, ◌^◌, ◌==◌, Bool, false, not, ◌&&◌, ◌||◌, List, if◌then◌else◌}
use Rattle.std.specs.{List.{list_all, list_any, range_with_len}, Cmp.Lexicographic.{pointwise}}
use Rattle.fs_base.specs.{declared.config.Address.{Address, TheVariants.{V4, V6}}, Bits.{afi_of}}
use Rattle.fs_ops.specs.Evaluation.{compares, holds}
use Rattle.fs_nlri.specs.Parts.{Body, V4Body, V6Body, ListBody, Part, Ruled}
use Rattle.fs_packet.specs.Matching.{is_prefix_of}

-- the test passes each number below the bound
unfoldable pub all_below : (bound : ℕ) → (ℕ → Bool) → Bool
all_below bound test = list_all test (range_with_len 0 bound)

abbrev pub implies : Bool → Bool → Bool
implies one other = not one || other

-- every number from 0 to 2^64 - 1 that holds of the inner list holds of the outer one
abbrev pub numbers_lie_in : (inner outer : List (ℕ × ℕ)) → Bool
numbers_lie_in inner outer = all_below (2 ^ 64) (λ n. implies (holds (compares n) inner) (holds (compares n) outer))

abbrev pub is_same_pair : ℕ × ℕ → ℕ × ℕ → Bool
is_same_pair one other = (one.0 == other.0) && (one.1 == other.1)

abbrev pub are_same_pairs : (one other : List (ℕ × ℕ)) → Bool
are_same_pairs one other = pointwise is_same_pair one other

-- the types whose lists test bits: 9 TCP flags, 12 fragment
abbrev pub tests_bits : ℕ → Bool
tests_bits kind = (kind == 9) || (kind == 12)

-- a list that tests bits lies only in an equal one
abbrev pub list_lies_in : (kind : ℕ) → (inner outer : List (ℕ × ℕ)) → Bool
list_lies_in kind inner outer = if tests_bits kind then are_same_pairs inner outer else numbers_lie_in inner outer

-- every address of that many bits that matches the inner prefix matches the outer one
abbrev pub prefix_lies_in : (width : ℕ) → (ℕ → Address) → (inner outer : Body) → Bool
prefix_lies_in width address inner outer =
    all_below (2 ^ width) (λ n. implies (is_prefix_of inner (address n)) (is_prefix_of outer (address n)))

-- what stands behind a type lies in what stands behind another; the two are of one form
abbrev pub body_lies_in : (kind : ℕ) → (inner outer : Body) → Bool
body_lies_in kind (V4Body f m a) (V4Body g n b) = prefix_lies_in 32 V4 (V4Body f m a) (V4Body g n b)
body_lies_in kind (V6Body m o a) (V6Body n p b) = prefix_lies_in 128 V6 (V6Body m o a) (V6Body n p b)
body_lies_in kind (ListBody inner) (ListBody outer) = list_lies_in kind inner outer
body_lies_in kind _ _ = false

-- a component may lie in one of its type; a source port (6) or a destination port (5) also in a port (4), which is either
abbrev pub may_lie_in : (inner outer : ℕ) → Bool
may_lie_in inner outer = (inner == outer) || ((outer == 4) && ((inner == 5) || (inner == 6)))

abbrev pub part_lies_in : (inner outer : Part) → Bool
part_lies_in inner outer = may_lie_in inner.kind outer.kind && body_lies_in outer.kind inner.body outer.body

-- the rules are of one family, and each component of a has one of b that lies in it
abbrev pub contains : (a b : Ruled) → Bool
contains a b =
    (afi_of a.family == afi_of b.family)
    && list_all (λ outer. list_any (λ inner. part_lies_in inner outer) b.parts) a.parts
