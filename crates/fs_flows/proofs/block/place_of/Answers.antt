use Rattle.fs_flows.proofs.{Words.{rules, of_calls, IsPartitionPoint-from_clause}, KeyPlaces.{is_after, partitioned, place_from}}
use Rattle.fs_flows.proofs.block.place_of.Goals as goal

pub returns-clause-place : goal.returns-clause-place
returns-clause-place c = let p =
    IsPartitionPoint-from_clause (is_after c.args.rule.now c.args.peer) c.args.kept.now c.partition_point.result c.partition_point.ensures.partitioned
    (partitioned c.args.rule.now c.args.peer c.args.kept.now c.requires) (λ a r f k. search (rules, of_calls)) in
    place_from c.args.rule.now c.args.peer c.args.kept.now c.partition_point.result c.partition_point.ensures.bound p.0 p.1
