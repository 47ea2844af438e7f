use Rattle.fs_ranges.proofs.{Words.{◌≡◌, true, sym, subst, Test, passes}, Truths.{holds_at}}
use Rattle.fs_ranges.proofs.fast.ports_limit_of.Goals as goal

pub returns-in-Some : goal.returns-in-Some
returns-in-Some c = λ facts h.
    c.in-Some.ensures facts (subst (λ (t : Test). passes facts t ≡ true) (sym c.test-item.is)
    (holds_at (passes facts) c.args.tests.now c.loop-test.test-index c.test-item.result c.loop-test-test.true h))
