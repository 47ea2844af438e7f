use Rattle.std.proofs.Common.{ℕ, zero, suc, ◌*◌, ◌^◌, ◌%◌, ◌<◌, ◌≤◌, lit≤, arith}
use Rattle.fs_ops.proofs.operator.width_of.Goals as goal

-- a code has two bits
at_most_eight : (code : ℕ) → code < 4 → 1 * 2 ^ code % 2 ^ 64 ≤ 8
at_most_eight zero small = lit≤ tt
at_most_eight (suc zero) small = lit≤ tt
at_most_eight (suc (suc zero)) small = lit≤ tt
at_most_eight (suc (suc (suc zero))) small = lit≤ tt
at_most_eight (suc (suc (suc (suc code)))) small = absurd (omega arith)

pub returns-clause-high : goal.returns-clause-high
returns-clause-high c = at_most_eight c.width_code_of.result c.width_code_of.ensures.small
