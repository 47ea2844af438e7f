use Rattle.std.proofs.Common.{◌∙◌, sym}
use Rattle.fs_ranges.proofs.Fields.{one_of_test, within_test}
use Rattle.fs_ranges.proofs.components.numbers_test.Goals as goal

pub returns-in-Some : goal.returns-in-Some
returns-in-Some c =
    within_test c.args.field c.args.list.now c.in_ok-numbers.numbers c.in-Some.low c.in-Some.high c.in_ok-numbers.ensures (sym c.range.ensures
    ∙ c.in-Some.is) c.requires

pub returns-in-None : goal.returns-in-None
returns-in-None c = one_of_test c.args.field c.args.list.now c.in_ok-numbers.numbers c.in_ok-numbers.ensures c.requires
