use Rattle.std.proofs.Common.{◌≡◌, ◌≤◌, ◌<◌, ◌/◌, ◌^◌, arith, ap, ◌∙◌}
use Rattle.fs_pcapng.proofs.Dividing.{next_power, next_small, next_some, nothing_left}
use Rattle.fs_pcapng.proofs.time.divided.Goals as goal

pub digits-preserved : goal.digits-preserved
digits-preserved c =
    let low : c.digits.power ≤ c.args.scaled = omega arith in
    record {
      power = next_power c.args.base c.digits.power c.digits.counter c.digits.invariant.power;
      small = next_small c.args.scaled c.args.base c.digits.power c.requires.few low;
      some = next_some c.args.base c.digits.power c.requires.some c.digits.invariant.some;
    }

pub returns-then-power-scaled : goal.returns-then-power-scaled
returns-then-power-scaled c =
    let more : c.args.scaled < c.digits.power = omega arith in
    let far : c.digits.counter ≤ c.args.exponent = omega arith in
    nothing_left c.args.scaled c.args.base c.digits.power c.digits.counter c.args.exponent c.requires.some c.digits.invariant.power more far

pub returns : goal.returns
returns c =
    let all : c.digits.counter ≡ c.args.exponent = omega (arith, c.digits-test.false, c.digits.auto.counter-end) in
    ap (λ p. c.args.scaled / p) (c.digits.invariant.power ∙ ap (λ n. c.args.base ^ n) all)
