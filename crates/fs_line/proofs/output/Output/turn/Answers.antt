use Rattle.std.proofs.Common.{arith}
use Rattle.fs_line.proofs.Decades.{some_digit, ten_of}
use Rattle.fs_line.proofs.output.Output.turn.Goals as goal

pub overflow_sub-front : goal.overflow_sub-front
overflow_sub-front c = omega (arith, some_digit c.args.number c.args.text.now (omega arith) c.requires)

pub invariant_of-self : goal.invariant_of-self
invariant_of-self c =
    let some = some_digit c.args.number c.args.text.now (omega arith) c.requires in (
      c.self.invariant.0,
      c.self.invariant.1,
      ten_of c.args.number c.args.text.now _ _ (omega arith) c.requires (omega (arith, some)) (omega arith) c.front_of-self-inside.ensures,
    )
