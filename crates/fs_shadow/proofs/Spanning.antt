-- The destination of the rule at a place.
use Rattle.fs_shadow.proofs.Words.{◌≡◌, ℕ, ◌<◌, None, List, length, get_or, ap, ◌∙◌, arith, get_or-map, length-map, Listed, all_admitted, shown_lent}
use Rattle.fs_shadow.proofs.Words.{span_of, spans_of}
use Rattle.fs_rules.specs.declared.lent.LentRule.{LentRule}

pub span_of_item : (list : List LentRule) (i : ℕ) (a : LentRule) → i < length list
    → get_or (spans_of (all_admitted list)) i None ≡ span_of (get_or list i a).rule.now
span_of_item list i a below =
    get_or-map (λ (r : Listed). span_of r.rule) (all_admitted list) i (shown_lent a) None (omega (arith, below, length-map list shown_lent))
    ∙ ap (λ (r : Listed). span_of r.rule) (get_or-map shown_lent list i a (shown_lent a) below)
