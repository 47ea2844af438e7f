use Rattle.fs_buckets.proofs.Words.{◌≡◌, ℕ, ◌+◌, Option, None, List, length, get_or, sym, ap, subst, arith, all_admitted, spans_of, AreNarrow, Adds}
use Rattle.fs_buckets.proofs.runs.runs_of.Goals as goal

-- behind no rules stand all
adds_all : (spans : List (Option (ℕ × ℕ))) (n : ℕ) → n ≡ 0 → Adds spans n spans
adds_all spans n none k below = let same : n + k ≡ k = omega (arith, none) in ap (λ i. get_or spans i None) same

pub add_each-requires-clause-some : goal.add_each-requires-clause-some
add_each-requires-clause-some c = (
  spans_of (all_admitted c.args.list.now),
  c.in_ok-runs.ensures.runs (spans_of (all_admitted c.args.list.now)),
  adds_all (spans_of (all_admitted c.args.list.now)) (length c.in_ok-runs.runs.homes.items) (ap (λ (xs : List ℕ). length xs) c.in_ok-runs.ensures.none),
  subst (λ (w : ℕ). AreNarrow w (spans_of (all_admitted c.args.list.now))) (sym c.in_ok-runs.ensures.width) c.requires.narrow,
)

pub returns-clause-runs : goal.returns-clause-runs
returns-clause-runs c =
    c.in_ok-add_each.ensures.runs (spans_of (all_admitted c.args.list.now)) (c.in_ok-runs.ensures.runs (spans_of (all_admitted c.args.list.now)))
    (adds_all (spans_of (all_admitted c.args.list.now)) (length c.in_ok-runs.runs.homes.items) (ap (λ (xs : List ℕ). length xs) c.in_ok-runs.ensures.none))
