use Rattle.fs_buckets.proofs.{Words.{nat_lt, get_or, rules, of_calls, arith, ltb-true, ltb-false}, Finding.{parted}}
use Rattle.std.proofs.lemmas.List.Sorted.{IsPartitionPoint-from_clause}
use Rattle.fs_buckets.proofs.addresses.find_widened.Goals as goal

pub returns-clause-below : goal.returns-clause-below
returns-clause-below c =
    let p = IsPartitionPoint-from_clause (λ y. nat_lt y c.args.address) c.args.items.now c.partition_point.result
    c.partition_point.ensures.partitioned (parted c.args.items.now c.args.address c.requires) (λ a r f k. search (rules, of_calls)) in
    λ b below. ltb-true (get_or c.args.items.now b 0) c.args.address (p.0 b 0 (omega arith) below)

pub returns-clause-from : goal.returns-clause-from
returns-clause-from c =
    let p = IsPartitionPoint-from_clause (λ y. nat_lt y c.args.address) c.args.items.now c.partition_point.result
    c.partition_point.ensures.partitioned (parted c.args.items.now c.args.address c.requires) (λ a r f k. search (rules, of_calls)) in
    λ b from below. ltb-false (get_or c.args.items.now b 0) c.args.address (p.1 b 0 from below)
