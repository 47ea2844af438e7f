use Rattle.fs_conf.proofs.Words.{◌≡◌, Bool, true, false, cond, not, ◌||◌, refl, ap, ◌∙◌, is_eq, Ruled, rule_cmp, has_seen}
use Rattle.fs_conf.proofs.rules.see.Goals as goal

either : (b x : Bool) → cond b true x ≡ (b || x)
either true x = refl
either false x = refl

pub returns : goal.returns
returns c = record {
  fresh = c.in_ok-insert.ensures.added ∙ ap (λ (rule : Ruled). not (has_seen c.args.seen.now rule)) c.in_ok-rule.ensures;
  seen = λ rule.
      c.in_ok-insert.ensures.updates.0 (record { rule = rule })
      ∙ either (is_eq (rule_cmp c.in_ok-rule.rule rule)) (has_seen c.args.seen.now rule)
      ∙ ap (λ (own : Ruled). is_eq (rule_cmp own rule) || has_seen c.args.seen.now rule) c.in_ok-rule.ensures;
}
