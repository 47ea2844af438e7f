-- What holds of an inner list and of an outer one at some numbers.
use Rattle.std.specs.{Prelude.{ℕ, ◌+◌, ◌-◌, ◌^◌, min, Bool, ◌&&◌, List}, List.{list_all}}
use Rattle.fs_ops.specs.Evaluation.{compares, holds}
use Rattle.fs_shadow.specs.Contains.{implies}

unfoldable pub implied_at : (inner outer : List (ℕ × ℕ)) → ℕ → Bool
implied_at inner outer n = implies (holds (compares n) inner) (holds (compares n) outer)

-- at the number and at its neighbours, of those up to 2^64 - 1
unfoldable pub implied_around : (inner outer : List (ℕ × ℕ)) → ℕ → Bool
implied_around inner outer n =
    (implied_at inner outer n && implied_at inner outer (n - 1)) && implied_at inner outer (min (n + 1) (2 ^ 64 - 1))

-- at the ends, and around the values of these pairs
abbrev pub are_implied : (inner outer pairs others : List (ℕ × ℕ)) → Bool
are_implied inner outer pairs others =
    ((implied_at inner outer 0 && implied_at inner outer (2 ^ 64 - 1))
    && list_all (λ pair. implied_around inner outer pair.1) pairs)
    && list_all (λ pair. implied_around inner outer pair.1) others
