use Rattle.fs_buckets.proofs.Words.{◌≡◌, ℕ, ◌+◌, ◌-◌, ◌^◌, ◌<◌, ◌≤◌, Option, Some, None, length, get_or, sym, ap, ap₂, subst, ◌∙◌, arith}
use Rattle.fs_buckets.proofs.Words.{get_or_default, Buckets, Node, numbers_in, nodes_in, node_at, span_at}
use Rattle.fs_buckets.proofs.runs.keep_runs.Goals as goal

-- the addresses of a rule's bucket, as they are read
at_span : (old : Buckets) (number home : ℕ) (node : Node ℕ) (last : ℕ) → number < length old.homes.items → home ≡ get_or old.homes.items number home
    → node ≡ node_at (nodes_in old.nodes) home → last ≡ get_or (numbers_in old.lasts) home 0
    → ◌≡◌ {A = Option (ℕ × ℕ)} (Some (node.first, last)) (Some (span_at old number))
at_span old number home node last below is first end =
    ap₂ (λ (x y : ℕ). Some (x, y)) (ap (λ (n : Node ℕ). n.first) first ∙ ap (λ h. (node_at (nodes_in old.nodes) h).first) same) (end
    ∙ ap (λ h. get_or (numbers_in old.lasts) h 0) same) where
      same : home ≡ get_or old.homes.items number 0
      same = is ∙ get_or_default old.homes.items number home 0 below

pub loop-number-preserved : goal.loop-number-preserved
loop-number-preserved c = record {
  runs = λ spans s keeps.
      c.in_ok-add.ensures.runs spans (c.loop-number.invariant.runs spans s keeps)
      (ap (λ i. get_or spans i None) place ∙ keeps c.loop-number.number low (omega (arith, c.loop-number-test.true)) ∙ sym span);
  one = let one = c.loop-number.invariant.one in let more = c.in_ok-add.ensures.one in omega (arith, one, more);
  width = c.in_ok-add.ensures.width ∙ c.loop-number.invariant.width;
} where
  low : c.args.from ≤ c.loop-number.number
  low = let a = c.loop-number.auto.number in omega (arith, a)

  place : length c.loop-number.runs.homes.items ≡ length c.args.runs.now.homes.items + (c.loop-number.number - c.args.from)
  place = let one = c.loop-number.invariant.one in omega (arith, one, low)

  span : ◌≡◌ {A = Option (ℕ × ℕ)} (Some (c.at.result.first, c.at-in-loop-number.result)) (Some (span_at c.args.old.now c.loop-number.number))
  span = at_span c.args.old.now c.loop-number.number c.index.result.now c.at.result c.at-in-loop-number.result
      (omega (arith, c.loop-number-test.true, c.requires.bounds.1)) c.index.ensures c.at.ensures c.at-in-loop-number.ensures

pub add-requires-clause-width : goal.add-requires-clause-width
add-requires-clause-width c =
    subst (λ w. c.at-in-loop-number.result < 2 ^ w) (sym c.loop-number.invariant.width)
    (c.requires.some.3 (length c.args.runs.now.homes.items + (c.loop-number.number - c.args.from)) (c.at.result.first, c.at-in-loop-number.result)
    (c.requires.some.2 c.loop-number.number (let a = c.loop-number.auto.number in omega (arith, a)) (omega (arith, c.loop-number-test.true))
    ∙ sym (at_span c.args.old.now c.loop-number.number c.index.result.now c.at.result c.at-in-loop-number.result
    (omega (arith, c.loop-number-test.true, c.requires.bounds.1)) c.index.ensures c.at.ensures c.at-in-loop-number.ensures))).1
