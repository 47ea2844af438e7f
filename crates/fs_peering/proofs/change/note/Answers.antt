use Rattle.fs_peering.proofs.{Words.{◌≡◌, ◌||◌, ◌∙◌, Bool, true, false, cond, refl, ap}, ChangeParts.{same_other_way}}
use Rattle.std.specs.Ordering.{is_eq}
use Rattle.fs_nlri.specs.Parts.{Ruled}
use Rattle.fs_order.specs.Comparison.{rule_cmp}
use Rattle.fs_peering.specs.Change.{has_rule}
use Rattle.fs_peering.proofs.change.note.Goals as goal

either : (b x : Bool) → cond b true x ≡ (b || x)
either true x = refl
either false x = refl

pub returns : goal.returns
returns c = λ rule. c.in_ok-insert.ensures.updates.0 (record { rule = rule })
    ∙ either (is_eq (rule_cmp c.in_ok-rule.rule rule)) (has_rule c.args.kept.now rule)
    ∙ ap (λ (own : Ruled). is_eq (rule_cmp own rule) || has_rule c.args.kept.now rule) c.in_ok-rule.ensures
    ∙ ap (λ b. b || has_rule c.args.kept.now rule) (same_other_way c.args.sent.now.rule rule)
