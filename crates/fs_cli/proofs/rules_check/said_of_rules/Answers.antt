use Rattle.fs_cli.proofs.Words.{List, ℕ, inl, ap, rules, verdict_with}
use Rattle.fs_cli.proofs.rules_check.said_of_rules.Goals as goal

pub returns-in_ok-format-in-Ok-clause-judged : goal.returns-in_ok-format-in-Ok-clause-judged
returns-in_ok-format-in-Ok-clause-judged c =
    inl (c.in-Ok.sending, c.in-Ok.ensures.ok, ap (λ (text : List ℕ). verdict_with 0 text) (rw (← c.as_slice.ensures) (search rules)))
