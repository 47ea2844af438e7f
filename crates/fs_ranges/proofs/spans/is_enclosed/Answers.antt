use Rattle.fs_ranges.proofs.Words.{nat_lt, rules, of_calls, sym, IsPartitionPoint-from_clause, ltb-false}
use Rattle.fs_ranges.proofs.Enclosing.{found_encloses, lasts_rise, none_encloses}
use Rattle.fs_ranges.proofs.spans.is_enclosed.Goals as goal

pub returns-in-Some : goal.returns-in-Some
returns-in-Some c =
    let p = IsPartitionPoint-from_clause (λ y. nat_lt y.1 c.args.range.1) c.args.others.now c.partition_point-place.result
    c.partition_point-place.ensures.partitioned (lasts_rise c.args.range.1 0 c.args.others.now c.requires) (λ a r f k. search (rules, of_calls)) in
    found_encloses c.partition_point-place.result c.args.range c.in-Some.field-0.now c.args.others.now c.requires p c.in-Some.ensures.lookup.3.0
    (c.in-Some.ensures.lookup.3.1 _)

pub returns-in-None : goal.returns-in-None
returns-in-None c =
    let p = IsPartitionPoint-from_clause (λ y. nat_lt y.1 c.args.range.1) c.args.others.now c.partition_point-place.result
    c.partition_point-place.ensures.partitioned (lasts_rise c.args.range.1 0 c.args.others.now c.requires) (λ a r f k. search (rules, of_calls)) in
    none_encloses c.partition_point-place.result c.args.range c.args.others.now p (ltb-false _ _ (sym c.in-None.ensures.lookup.0))
