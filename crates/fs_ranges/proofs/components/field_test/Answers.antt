use Rattle.fs_ranges.proofs.{Words.{subst, IsOnlyRange}, Fields.{range_test}}
use Rattle.fs_ranges.proofs.components.field_test.Goals as goal

pub returns-in-Some : goal.returns-in-Some
returns-in-Some c =
    range_test c.args.field c.args.list.now c.in-Some.low c.in-Some.high c.in-Some.ensures.small
    (subst (λ pairs. IsOnlyRange pairs (c.in-Some.low, c.in-Some.high)) c.pairs.ensures.value c.in-Some.ensures.numbers) c.requires
