use Rattle.fs_compile.proofs.Words.{◌≡◌, ℕ, ◌+◌, ◌-◌, ◌/◌, ◌^◌, ◌<◌, ◌≤◌, min, inl, inr, ◌⊎◌, false, get_or, arith, cases_lt, Found, first_at, tests_of}
use Rattle.fs_compile.proofs.{Sieving.{set_in_all}, Skipping.{words_missed}}
use Rattle.fs_compile.proofs.filters.Rows.scan.Goals as goal

pub words-init : goal.words-init
words-init g c = record {
  low = omega arith;
  small = let a : c.args.from < 2 ^ 64 = c.ranges.from.fits in let b = c.requires.first in omega (arith, a, b);
  missed = let b = c.requires.first in λ k above below. absurd (omega (arith, above, below, b));
  later = omega arith;
  steps = omega arith;
}

pub overflow_mul-place : goal.overflow_mul-place
overflow_mul-place g c = let a = c.words.invariant.small in omega (arith, a)

pub overflow_add-self : goal.overflow_add-self
overflow_add-self g c = let a = c.words.invariant.small in omega (arith, a)

pub scan_word-requires-clause-start : goal.scan_word-requires-clause-start
scan_word-requires-clause-start g c =
    let a = c.words.invariant.low in let b = c.requires.first in let e = c.max-start.ensures in
    (omega (arith, e), omega (arith, a, b, e))

pub scan_word-requires-clause-marked : goal.scan_word-requires-clause-marked
scan_word-requires-clause-marked g c = λ k above below hit.
    let e = c.max-start.ensures in
    set_in_all (tests_of c.args.tested.now) c.args.self.now c.args.to c.words.place k c.requires.rows
    (omega (arith, e, above)) (omega (arith, below)) (omega (arith, below)) hit

pub returns-in-Some : goal.returns-in-Some
returns-in-Some g c = record {
  found = record {
    above = omega (arith, found.above, c.max-start.ensures);
    below = found.below;
    hit = found.hit;
    before = λ k above below. by k above below (cases_lt k (first_at c.args.self.now c.words.place));
  };
  later = let a : c.args.steps.now ≤ c.words.steps = c.words.invariant.later in let b = c.in-Some.ensures.later in omega (arith, a, b);
  steps =
      let a : c.words.steps ≤ c.args.steps.now + (min (first_at c.args.self.now c.words.place) c.args.to - c.args.from) = c.words.invariant.steps in
      let b = c.in-Some.ensures.steps in
      omega (arith, a, b, found.above, c.max-start.ensures, c.words-test.true);
} where
  found : Found (tests_of c.args.tested.now) c.max-start.result c.args.to c.in-Some.number
  found = c.in-Some.ensures.found

  by : (k : ℕ) → c.args.from ≤ k → k < c.in-Some.number → (k < first_at c.args.self.now c.words.place) ⊎ (first_at c.args.self.now c.words.place ≤ k)
      → get_or (tests_of c.args.tested.now) k false ≡ false
  by k above below (inl earlier) = c.words.invariant.missed k above (omega (arith, earlier, c.words-test.true))
  by k above below (inr here) = found.before k (omega (arith, above, here, c.max-start.ensures)) below

pub words-preserved : goal.words-preserved
words-preserved g c = record {
  low = let a = c.words.invariant.low in omega (arith, a, next.0);
  small = omega (arith, w, next.1, c.requires.to, c.requires.few);
  missed = λ k above below. by k above below (cases_lt k (first_at c.args.self.now c.words.place)) (cases_lt k (first_at c.args.self.now (c.words.place + 1)));
  later = let a : c.args.steps.now ≤ c.words.steps = c.words.invariant.later in let b = c.in-None.ensures.later in omega (arith, a, b);
  steps =
      let a : c.words.steps ≤ c.args.steps.now + (min (first_at c.args.self.now c.words.place) c.args.to - c.args.from) = c.words.invariant.steps in
      let b = c.in-None.ensures.steps in
      let e = c.max-start.ensures in
      let t = c.words-test.true in
      omega (arith, a, b, e, t, next.0);
} where
  w : c.words_of.result ≡ (c.args.to - c.args.self.now.first + 63) / 64
  w = c.words_of.ensures

  next : (c.words.place + 1 ≤ c.next_front-place.result) × (c.next_front-place.result ≤ c.words_of.result)
  next = c.next_front-place.ensures.within

  by : (k : ℕ) → c.args.from ≤ k → k < min (first_at c.args.self.now c.next_front-place.result) c.args.to
      → (k < first_at c.args.self.now c.words.place) ⊎ (first_at c.args.self.now c.words.place ≤ k)
      → (k < first_at c.args.self.now (c.words.place + 1)) ⊎ (first_at c.args.self.now (c.words.place + 1) ≤ k)
      → get_or (tests_of c.args.tested.now) k false ≡ false
  by k above below (inl earlier) any = let t = c.words-test.true in c.words.invariant.missed k above (omega (arith, earlier, t))
  by k above below (inr here) (inl early) =
      let e = c.max-start.ensures in c.in-None.ensures.found k (omega (arith, above, here, e)) (omega (arith, below, early))
  by k above below (inr here) (inr late) =
      words_missed (tests_of c.args.tested.now) c.args.self.now c.args.to
      (c.words.place + 1) c.next_front-place.result c.requires.rows c.next_front-place.ensures.clear k late (omega (arith, below))
      (omega (arith, below))
