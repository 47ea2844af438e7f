use Rattle.fs_shadow.proofs.Words.{◌==◌, ℕ, List, nat_lt, rules, of_calls, sym, ap, subst, ◌∙◌, IsPartitionPoint-from_clause, IsPartitionedBy-ltb}
use Rattle.fs_shadow.proofs.Words.{IsFirst, first_entry, rank}
use Rattle.fs_shadow.proofs.Entries.{first_of, rest_whole}
use Rattle.fs_shadow.proofs.keys.first_of_key.Goals as goal

pub returns : goal.returns
returns c =
    let p = IsPartitionPoint-from_clause (λ y. nat_lt (rank y.0 y.1) (rank c.args.key c.args.start)) c.args.index.now c.partition_point-from.result
    c.partition_point-from.ensures.partitioned
    (IsPartitionedBy-ltb (λ y. rank y.0 y.1) c.args.index.now (rank c.args.key c.args.start) c.requires.index.rising) (λ a r f k. search (rules, of_calls)) in
    subst (λ (place : ℕ). IsFirst c.args.outlines.now c.args.later.now (λ other. other == c.args.key) c.args.start c.args.end place)
    (sym (c.first_entry.ensures ∙ ap (λ (es : List (ℕ × ℕ)). first_entry c.args.outlines.now c.args.later.now c.args.key c.args.end es)
    (rest_whole c.partition_point-from.result c.args.index.now)))
    (first_of c.args.outlines.now c.args.index.now c.args.later.now c.args.key c.args.start c.args.end c.partition_point-from.result c.requires.index
    c.requires.order p)
