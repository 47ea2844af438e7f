use Rattle.fs_compile.proofs.Words.{◌≡◌, ℕ, ◌+◌, ◌-◌, ◌/◌, ◌^◌, min, sym, subst, ◌∙◌, w64, arith, bit_at, trailing_zeros, facts_hold, Missed}
use Rattle.fs_compile.proofs.Words.{first_at, tests_of}
use Rattle.fs_compile.proofs.Climbing.{missed_more, test_fails}
use Rattle.fs_compile.proofs.Sieving.{fits_shifted, left_first, left_next, lowest, missed_all, missed_on, none_marked, test_passes}
use Rattle.fs_compile.proofs.filters.Rows.scan_word.Goals as goal

pub returns-then-front-eq0 : goal.returns-then-front-eq0
returns-then-front-eq0 g c = record { found = found; later = omega arith; steps = omega arith } where
  found : Missed (tests_of c.args.tested.now) c.args.from (min c.args.to (first_at c.args.self.now c.args.place + 64))
  found = none_marked (tests_of c.args.tested.now) c.args.self.now c.args.place (first_at c.args.self.now c.args.place) c.args.from
      (min c.args.to (first_at c.args.self.now c.args.place + 64)) (sym c.front.ensures ∙ c.if-front-eq0.true) c.requires.marked

pub candidates-init : goal.candidates-init
candidates-init g c = record {
  from = omega arith;
  small = omega (arith, c.requires.start.1, c.requires.low, c.requires.few);
  rest = fits_shifted c.word.result (c.args.from - first_at c.args.self.now c.args.place) c.word.type_inv;
  left = left_first (tests_of c.args.tested.now) c.word.result (first_at c.args.self.now c.args.place) c.args.from
      (min c.args.to (first_at c.args.self.now c.args.place + 64)) c.requires.start.0
      (λ k above below hit. subst (λ (w : ℕ). bit_at w (k - first_at c.args.self.now c.args.place) ≡ 1) (sym c.word.ensures)
      (c.requires.marked k above below hit));
  missed = λ k above below. absurd (omega (arith, above, below));
  later = omega arith;
  steps = omega arith;
}

pub overflow_add-number : goal.overflow_add-number
overflow_add-number g c =
    let a = (lowest c.candidates.rest c.candidates.invariant.rest (let some = c.candidates-test.true in omega (arith, some))).0 in
    let b = c.candidates.invariant.small in
    omega (arith, a, b)

pub returns-then-number-end : goal.returns-then-number-end
returns-then-number-end g c = record {
  found = λ k above below.
      missed_on (tests_of c.args.tested.now) c.candidates.rest c.args.from (min c.args.to (first_at c.args.self.now c.args.place + 64)) c.candidates.number
      (trailing_zeros w64 c.candidates.rest) c.candidates.invariant.left
      (lowest c.candidates.rest c.candidates.invariant.rest (let some = c.candidates-test.true in omega (arith, some))).2
      c.candidates.invariant.missed k above (omega (arith, below, c.if-number-end.true, c.min-end.ensures));
  later = c.candidates.invariant.later;
  steps = let a = c.candidates.invariant.steps in omega (arith, a);
}

pub returns-then-test_facts : goal.returns-then-test_facts
returns-then-test_facts g c = record {
  found = record {
    above = let a = c.candidates.invariant.from in omega (arith, a);
    below = omega (arith, c.if-number-end.false, c.min-end.ensures);
    hit = test_passes (facts_hold c.args.tested.now.facts.now) c.args.tested.now.rules.now (c.candidates.number + trailing_zeros w64 c.candidates.rest)
        c.index-tested-number.result c.test_facts.result
        (omega (arith, c.if-number-end.false, c.requires.to, c.min-end.ensures)) c.test_facts.ensures.holds c.if-test_facts.true;
    before = λ k above below.
        missed_on (tests_of c.args.tested.now) c.candidates.rest c.args.from (min c.args.to (first_at c.args.self.now c.args.place + 64)) c.candidates.number
        (trailing_zeros w64 c.candidates.rest) c.candidates.invariant.left
        (lowest c.candidates.rest c.candidates.invariant.rest (let some = c.candidates-test.true in omega (arith, some))).2
        c.candidates.invariant.missed k above (omega (arith, below, c.if-number-end.false, c.min-end.ensures));
  };
  later = let a = c.candidates.invariant.later in let b = c.test_facts.ensures.step in omega (arith, a, b);
  steps = let a = c.candidates.invariant.steps in let b = c.test_facts.ensures.step in let d = c.candidates.invariant.from in omega (arith, a, b, d);
}

pub candidates-preserved : goal.candidates-preserved
candidates-preserved g c = record {
  from = let a = c.candidates.invariant.from in omega (arith, a);
  small = omega (arith, c.if-number-end.false, c.requires.to, c.min-end.ensures, c.requires.few);
  rest = fits_shifted (c.candidates.rest / 2 ^ trailing_zeros w64 c.candidates.rest) 1
      (fits_shifted c.candidates.rest (trailing_zeros w64 c.candidates.rest) c.candidates.invariant.rest);
  left = left_next (tests_of c.args.tested.now) c.candidates.rest c.candidates.number (trailing_zeros w64 c.candidates.rest)
      (min c.args.to (first_at c.args.self.now c.args.place + 64)) c.candidates.invariant.left;
  missed = λ k above below.
      missed_more (tests_of c.args.tested.now) c.args.from (c.candidates.number + trailing_zeros w64 c.candidates.rest)
      (λ j from before. missed j from (omega (arith, before, c.if-number-end.false, c.min-end.ensures)))
      (test_fails (facts_hold c.args.tested.now.facts.now) c.args.tested.now.rules.now (c.candidates.number + trailing_zeros w64 c.candidates.rest)
      c.index-tested-number.result c.test_facts.result
      (omega (arith, c.if-number-end.false, c.requires.to, c.min-end.ensures)) c.test_facts.ensures.holds c.if-test_facts.false)
      k above (omega (arith, below));
  later = let a = c.candidates.invariant.later in let b = c.test_facts.ensures.step in omega (arith, a, b);
  steps =
      let a = c.candidates.invariant.steps in
      let b = c.test_facts.ensures.step in
      let d = c.candidates.invariant.from in
      omega (arith, a, b, d, c.if-number-end.false, c.min-end.ensures);
} where
  missed : Missed (tests_of c.args.tested.now) c.args.from
      (min (c.candidates.number + trailing_zeros w64 c.candidates.rest) (min c.args.to (first_at c.args.self.now c.args.place + 64)))
  missed =
      missed_on (tests_of c.args.tested.now) c.candidates.rest c.args.from (min c.args.to (first_at c.args.self.now c.args.place + 64)) c.candidates.number
      (trailing_zeros w64 c.candidates.rest) c.candidates.invariant.left
      (lowest c.candidates.rest c.candidates.invariant.rest (let some = c.candidates-test.true in omega (arith, some))).2 c.candidates.invariant.missed

pub returns : goal.returns
returns g c = record {
  found = missed_all (tests_of c.args.tested.now) c.candidates.rest c.args.from (min c.args.to (first_at c.args.self.now c.args.place + 64)) c.candidates.number
      (let none = c.candidates-test.false in omega (arith, none)) c.candidates.invariant.left c.candidates.invariant.missed;
  later = c.candidates.invariant.later;
  steps = let a = c.candidates.invariant.steps in omega (arith, a);
}
