use Rattle.std.proofs.Common.{◌∙◌, sym}
use Rattle.fs_ranges.proofs.Fields.{port_within}
use Rattle.fs_ranges.proofs.components.ports_test.Goals as goal

pub returns-in-Some : goal.returns-in-Some
returns-in-Some c = port_within c.args.list.now c.in_ok-numbers.numbers c.in-Some.low c.in-Some.high c.in_ok-numbers.ensures (sym c.range.ensures
    ∙ c.in-Some.is)
