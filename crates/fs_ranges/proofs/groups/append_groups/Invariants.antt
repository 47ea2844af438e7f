use Rattle.fs_ranges.proofs.Words.{◌≡◌, ℕ, ◌^◌, ◌<◌, ◌||◌, not, drop, All, compares, holds, answers, IsRange, contains}
use Rattle.fs_ranges.proofs.groups.append_groups.Given as goal

-- what earlier groups hold of, or what is left answers behind the pairs of the group in hand
abbrev pub invariant-loop-operator : goal.invariant-loop-operator
invariant-loop-operator l = record {
  numbers : (n : ℕ) → n < 2 ^ 64
      → (contains l.held.items n || answers (compares n) (not (contains l.missed.items n)) (drop l.operator-index l.pairs)) ≡ holds (compares n) l.pairs;
  missed : All IsRange l.missed.items;
  held : All IsRange l.held.items;
}
