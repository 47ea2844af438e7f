use Rattle.fs_changes.proofs.Words.{rules, of_calls, is_le, is_lt, place_by, target_of, IsPartitionPoint-from_clause}
use Rattle.fs_changes.proofs.{Apart.{key}, Stretched.{have_stretch, parted_before, parted_until}}
use Rattle.fs_changes.proofs.places.stretch.Goals as goal

pub returns : goal.returns
returns c =
    let p = IsPartitionPoint-from_clause (λ y. is_lt (place_by (target_of c.args.target) (key y))) c.args.rules.now c.partition_point-from.result
    c.partition_point-from.ensures.partitioned (parted_before (target_of c.args.target) c.args.rules.now c.requires)
    (λ a r f k. search (rules, of_calls)) in
    let q = IsPartitionPoint-from_clause (λ y. is_le (place_by (target_of c.args.target) (key y))) c.args.rules.now c.partition_point-to.result
    c.partition_point-to.ensures.partitioned (parted_until (target_of c.args.target) c.args.rules.now c.requires)
    (λ a r f k. search (rules, of_calls)) in
    have_stretch (target_of c.args.target) c.args.rules.now c.partition_point-from.result c.partition_point-to.result c.requires
    c.partition_point-from.ensures.bound c.partition_point-to.ensures.bound p.0 p.1 q.0 q.1
