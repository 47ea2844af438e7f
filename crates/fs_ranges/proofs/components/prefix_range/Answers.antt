use Rattle.std.proofs.Common.{ℕ, ◌<◌, ◌^◌, subst, sym, arith}
use Rattle.fs_ranges.proofs.ComponentTests.{v4_high}
use Rattle.fs_ranges.proofs.components.prefix_range.Goals as goal

pub overflow_cast-result-2 : goal.overflow_cast-result-2
overflow_cast-result-2 c = let low : c.last.result < 2 ^ 32 =
    subst (λ (n : ℕ). n < 2 ^ 32) (sym c.last.ensures) (v4_high c.args.prefix.now c.requires) in omega arith
