use Rattle.std.proofs.Common.{arith}
use Rattle.fs_line.proofs.Decades.{first_ten}
use Rattle.fs_line.proofs.output.Output.new.Goals as goal

pub invariant_of-result : goal.invariant_of-result
invariant_of-result c =
    (omega (arith, c.in_ok-vec.ensures.len), omega arith, first_ten _)
