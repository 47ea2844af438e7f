use Rattle.fs_shadow.proofs.Words.{Bool, not, ap, sym, ◌∙◌, compares, holds, implies, implied_at}
use Rattle.fs_shadow.proofs.points.implied_at.Goals as goal

pub returns-then-not-eval : goal.returns-then-not-eval
unfolding implied_at
returns-then-not-eval c =
    ap not c.if-not-eval.true
    ∙ sym (ap (λ (b : Bool). implies b (holds (compares c.args.number) c.args.outer.now)) (sym c.eval.ensures ∙ c.if-not-eval.true))

pub returns-else-not-eval : goal.returns-else-not-eval
unfolding implied_at
returns-else-not-eval c =
    c.eval-else-not-eval.ensures
    ∙ sym (ap (λ (b : Bool). implies b (holds (compares c.args.number) c.args.outer.now)) (sym c.eval.ensures ∙ c.if-not-eval.false))
