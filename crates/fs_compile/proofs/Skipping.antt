-- Words of rows that have no bit in front.
use Rattle.fs_compile.proofs.Words.{◌≡◌, ℕ, ◌+◌, ◌-◌, ◌/◌, ◌<◌, ◌≤◌, Bool, false, List, get_or, arith, Rows, AreRows, first_at, front_of}
use Rattle.fs_compile.proofs.Sieving.{none_marked, set_in_all}

-- no rule matches of those whose words have none
pub words_missed : (tests : List Bool) (rows : Rows) (to place next : ℕ) → AreRows tests to rows
    → ((w : ℕ) → place ≤ w → w < next → front_of rows w ≡ 0)
    → (k : ℕ) → first_at rows place ≤ k → k < first_at rows next → k < to → get_or tests k false ≡ false
words_missed tests rows to place next are clear k low high below =
    none_marked tests rows at (first_at rows at) k (k + 1) (clear at (omega (arith, low)) (omega (arith, low, high)))
    (λ j above under hit. set_in_all tests rows to at j are (omega (arith, low, above)) (omega (arith, low, under)) (omega (arith, under, below)) hit)
    k (omega arith) (omega arith) where
      at : ℕ
      at = (k - rows.first) / 64
