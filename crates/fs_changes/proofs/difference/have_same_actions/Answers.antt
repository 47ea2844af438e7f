use Rattle.fs_changes.proofs.{Words.{◌≡◌, ◌∙◌, ap, sym, FlowRoute}, Same.{told_same}}
use Rattle.fs_changes.proofs.difference.have_same_actions.Goals as goal

pub returns : goal.returns
returns c = told_same c.are.result c.args.old.now.actions c.args.new.now.actions (λ t. sym before ∙ c.are.ensures.0 t
    ∙ now) (λ e. c.are.ensures.1 (before ∙ e ∙ sym now)) where
      before : c.route-before.result.now.actions ≡ c.args.old.now.actions
      before = ap (λ (r : FlowRoute). r.actions) c.route-before.ensures

      now : c.actions.result.now ≡ c.args.new.now.actions
      now = c.actions.ensures ∙ ap (λ (r : FlowRoute). r.actions) c.route-now.ensures
