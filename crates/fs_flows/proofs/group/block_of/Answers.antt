use Rattle.fs_flows.proofs.{Words.{rules, of_calls, IsPartitionPoint-from_clause, begins_by}, BlockOfRule.{later_parts, later_from}, KeyPlaces.{tail_is}}
use Rattle.fs_flows.proofs.group.block_of.Goals as goal

pub returns-in-len1-up-clause-place : goal.returns-in-len1-up-clause-place
returns-in-len1-up-clause-place c = let p =
    IsPartitionPoint-from_clause (begins_by c.args.rule.now) _ c.partition_point.result c.partition_point.ensures.partitioned
    (later_parts c.args.rule.now c.args.blocks.now _ (tail_is c.args.blocks.now 1) c.requires.cut) (λ a r f k. search (rules, of_calls)) in
    later_from c.args.rule.now c.args.blocks.now _ c.partition_point.result (tail_is c.args.blocks.now 1) c.partition_point.ensures.bound p.0 p.1
