use Rattle.fs_speaker.proofs.Words.{true, Bool, List, [], ◌∷◌, ◌++◌, refl, ap, sym, subst, ◌∙◌, Event, jointed, IsRun}
use Rattle.fs_speaker.proofs.Running.{one_happened, none_happened, same_joint}
use Rattle.fs_speaker.proofs.joint.Joint.step.Goals as goal

pub invariant_of-self : goal.invariant_of-self
invariant_of-self c =
    subst (λ (l : List Event). IsRun c.self.inside.ends l c.self.inside.taker_closed c.self.inside.teller_closed true) (sym c.in_err-reserve.ensures.items)
    (none_happened c.self.inside.ends c.self.inside.ends c.self.inside.events.items c.self.inside.taker_closed c.self.inside.teller_closed
    c.self.inside.spent c.self.invariant (refl, refl, refl) refl)

pub invariant_of-self-in_err-happen : goal.invariant_of-self-in_err-happen
invariant_of-self-in_err-happen c =
    subst (λ (l : List Event). IsRun c.happen.new.self l c.self.inside.taker_closed c.self.inside.teller_closed true) (sym c.in_ok-reserve.ensures.items)
    (none_happened c.self.inside.ends c.happen.new.self c.self.inside.events.items c.self.inside.taker_closed c.self.inside.teller_closed
    c.self.inside.spent c.self.invariant c.in_err-happen.ensures.same c.in_err-happen.ensures.err)

pub invariant_of-self-2 : goal.invariant_of-self-2
invariant_of-self-2 c =
    one_happened c.self.inside.ends c.happen.new.self c.self.inside.events.items c.push_reserved.new.self.items c.args.event
    c.self.inside.taker_closed c.self.inside.teller_closed c.taker_closed-self-inside.result c.teller_closed-self-inside.result
    (subst (λ (b : Bool). IsRun c.self.inside.ends c.self.inside.events.items c.self.inside.taker_closed c.self.inside.teller_closed b)
    c.if-self.false c.self.invariant)
    (c.push_reserved.ensures.items ∙ ap (λ (l : List Event). l ++ c.args.event ∷ []) c.in_ok-reserve.ensures.items) c.in_ok-happen.ensures.ok
    c.in_ok-happen.ensures.same c.taker_closed-self-inside.ensures c.teller_closed-self-inside.ensures

pub returns-clause-done : goal.returns-clause-done
returns-clause-done c =
    same_joint c.self.inside.ends c.happen.new.self c.self.inside.events.items c.push_reserved.new.self.items c.args.event c.args.self.now
    (ap (λ (b : Bool). jointed c.self.inside.ends.teller.config c.self.inside.ends.teller.peer c.self.inside.ends.teller.sending
    c.self.inside.events.items b) (sym c.if-self.false) ∙ c.self.view_is)
    (c.push_reserved.ensures.items ∙ ap (λ (l : List Event). l ++ c.args.event ∷ []) c.in_ok-reserve.ensures.items) c.in_ok-happen.ensures.same
