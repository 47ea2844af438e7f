use Rattle.fs_cli.proofs.{TapeChecking.{fresh_counts, fresh_within}}
use Rattle.fs_cli.proofs.tallies.Counts.new.Goals as goal

pub invariant_of-result : goal.invariant_of-result
invariant_of-result c = fresh_within c.in_ok-vec.field-0.items (c.in_ok-vec.ensures.items_if_clones_equal (λ y h. h))

pub returns : goal.returns
returns c = fresh_counts c.in_ok-vec.field-0.items (c.in_ok-vec.ensures.items_if_clones_equal (λ y h. h))
