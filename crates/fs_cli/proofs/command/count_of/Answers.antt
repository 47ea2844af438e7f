use Rattle.fs_cli.proofs.Words.{◌≡◌, ℕ, decimal, sym, subst, arith, true, false, ◌∙◌, bytes_eq, bytes_eq-Decides}
use Rattle.fs_cli.proofs.Counting.{count_found, count_other, same_number, never_both}
use Rattle.fs_cli.proofs.command.count_of.Goals as goal

pub returns-in-Ok : goal.returns-in-Ok
returns-in-Ok c = search (count_found c.args.word.now c.in-Ok.count (sym c.if-is_decimal.ensures) c.if-count-ge1.true c.if-count-le-MOST.true)

pub returns-in_default : goal.returns-in_default
returns-in_default c =
    count_other c.args.word.now c.parse.result c.parse.ensures.value.0 (λ n e spelled low high.
    let same : c.in-Ok.count ≡ n = same_number c.parse.result c.in-Ok.count n c.in-Ok.is e in
    omega (arith, same, high, c.if-count-le-MOST.false))

pub returns-in_default-2 : goal.returns-in_default-2
returns-in_default-2 c =
    count_other c.args.word.now c.parse.result c.parse.ensures.value.0 (λ n e spelled low high.
    let same : c.in-Ok.count ≡ n = same_number c.parse.result c.in-Ok.count n c.in-Ok.is e in
    omega (arith, same, low, c.if-count-ge1.false))

pub returns-in_default-3 : goal.returns-in_default-3
returns-in_default-3 c =
    count_other c.args.word.now c.parse.result c.parse.ensures.value.0 (λ n e spelled low high.
    let same : n ≡ c.in-Ok.count = same_number c.parse.result n c.in-Ok.count e c.in-Ok.is in
    let whole : bytes_eq c.args.word.now (decimal c.in-Ok.count) ≡ true =
    (bytes_eq-Decides c.args.word.now (decimal c.in-Ok.count)).1 (subst (λ (m : ℕ). c.args.word.now ≡ decimal m) same spelled) in
    let no : false ≡ true = c.if-is_decimal.ensures ∙ whole in
    absurd cc)

pub returns-in_default-4 : goal.returns-in_default-4
returns-in_default-4 c =
    count_other c.args.word.now c.parse.result c.parse.ensures.value.0 (λ n e spelled low high. never_both c.parse.result _ n c.in_default.is e)
