use Rattle.fs_session.proofs.{Words.{ℕ, false, List, ap, sym, subst, ◌∙◌, length, flat_map, attribute_text, actions_in, ne_eqb}, Fitting.{actions_long}}
use Rattle.fs_actions.specs.Actions.{IsActions}
use Rattle.fs_session.proofs.size.actions_len.Goals as goal

pub returns-clause-value : goal.returns-clause-value
returns-clause-value c =
    let lent = c.as_slice-count in
    c.attribute_len.ensures.value
    ∙ sym (actions_long lent.result.now false (subst IsActions (sym lent.ensures.value) lent.ensures.actions)
    (ne_eqb (length lent.result.now) 0 c.if-count-eq0.false))
    ∙ ap (λ (l : List (List ℕ)). length (flat_map attribute_text (actions_in l))) lent.ensures.value
