use Rattle.fs_buckets.proofs.{Words.{ℕ, ap, arith, Node}, Stretching.{stretch_at, stretch_before, stretch_behind, stretch_ordered}}
use Rattle.fs_buckets.proofs.buckets.Buckets.stretch.Goals as goal

pub returns-clause-ordered : goal.returns-clause-ordered
returns-clause-ordered c =
    let a = ap (λ (n : Node ℕ). n.start) c.at.ensures in
    let b = ap (λ (n : Node ℕ). n.start) c.at-2.ensures in
    let le = stretch_ordered c.args.self.now c.requires.sound.0 c.passed-from.result c.passed-to.result (
      c.args.first,
      c.args.last,
    ) c.requires.sound.1 c.passed-from.ensures c.passed-to.ensures in
    omega (arith, a, b, le)

pub returns-clause-at : goal.returns-clause-at
returns-clause-at c = λ k above below.
    let a = ap (λ (n : Node ℕ). n.start) c.at.ensures in
    let b = ap (λ (n : Node ℕ). n.start) c.at-2.ensures in
    stretch_at c.args.self.now c.requires.sound.0 k c.passed-from.result c.passed-to.result (
      c.args.first,
      c.args.last,
    ) c.requires.sound.1 c.passed-from.ensures c.passed-to.ensures
    (omega (arith, a, above)) (omega (arith, b, below))

pub returns-clause-before : goal.returns-clause-before
returns-clause-before c = λ k below.
    let a = ap (λ (n : Node ℕ). n.start) c.at.ensures in
    stretch_before c.args.self.now c.requires.sound.0 k c.passed-from.result (c.args.first, c.args.last) c.requires.sound.1 c.passed-from.ensures
    (omega (arith, a, below))

pub returns-clause-behind : goal.returns-clause-behind
returns-clause-behind c = λ k above below.
    let b = ap (λ (n : Node ℕ). n.start) c.at-2.ensures in
    stretch_behind c.args.self.now c.requires.sound.0 k c.passed-to.result (c.args.first, c.args.last) c.requires.sound.1 c.passed-to.ensures below
    (omega (arith, b, above))
