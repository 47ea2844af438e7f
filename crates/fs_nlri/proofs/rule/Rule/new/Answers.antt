use Rattle.fs_nlri.proofs.Words.{List, ap, sym, subst, ◌∙◌, length, nat_le, Component, parts_of, canonical_value, fault_in, AreTyped}
use Rattle.fs_nlri.proofs.Made.{made_rule, no_fault}
use Rattle.fs_nlri.proofs.rule.Rule.new.Goals as goal

pub invariant_of-result : goal.invariant_of-result
invariant_of-result c =
    let none =
    no_fault c.args.family (parts_of c.args.components.items)
    (ap (λ (l : List Component). fault_in c.args.family (parts_of l)) (sym c.deref.ensures.value) ∙ sym c.fault_in.ensures.fault
    ∙ c.in_default.is) in
    made_rule c.args.family (parts_of c.args.components.items) (parts_of c.in_ok-components.components.items) c.in_ok-components.ensures.ok none.0 none.1
    (subst (λ (l : List Component). AreTyped c.args.family (parts_of l)) c.deref.ensures.value c.in_default.ensures.typed)
    (ap (λ (l : List Component). nat_le (length (canonical_value (parts_of l))) 4095) (sym c.deref-2.ensures.value) ∙ sym c.fits.ensures ∙ c.if-not-fits.false)
