use Rattle.fs_buckets.proofs.Words.{arith, IfOk-weaker}
use Rattle.fs_buckets.proofs.buckets.Buckets.opened.Goals as goal

pub returns : goal.returns
returns c =
    let e = c.in_ok-with_empty.ensures in
    IfOk-weaker c.resized.result _ _
    (λ new h. λ most spans news fits housed whole each size. h most c.args.span spans news (omega (arith, fits, e.size)) e.holder
    (e.housed spans housed) (omega (arith, e.size, whole)) each size) c.resized.ensures
