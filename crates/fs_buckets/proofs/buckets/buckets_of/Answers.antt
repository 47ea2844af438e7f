use Rattle.fs_buckets.proofs.{Words.{length, IfOk-weaker, all_admitted, spans_of}, Widths.{narrow}}
use Rattle.fs_buckets.proofs.buckets.buckets_of.Goals as goal

pub runs_of-requires-clause-narrow : goal.runs_of-requires-clause-narrow
runs_of-requires-clause-narrow c = narrow c.args.family (all_admitted c.args.list.now) c.requires.each

pub buckets_with-requires-clause-some : goal.buckets_with-requires-clause-some
buckets_with-requires-clause-some c = (
  spans_of (all_admitted c.args.list.now),
  c.in_ok-runs_of.ensures.runs,
  narrow c.args.family (all_admitted c.args.list.now) c.requires.each,
  c.requires.nesting,
)

pub returns : goal.returns
returns c = IfOk-weaker c.buckets_with.result _ _
    (λ b h. h (length c.args.list.now) (spans_of (all_admitted c.args.list.now)) c.in_ok-runs_of.ensures.few c.in_ok-runs_of.ensures.runs
    c.requires.nesting c.in_ok-runs_of.ensures.rest) c.buckets_with.ensures
