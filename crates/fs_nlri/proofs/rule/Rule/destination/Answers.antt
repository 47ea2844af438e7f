use Rattle.fs_nlri.proofs.{Words.{List, ap, sym, ◌∙◌, slice_get, Component, Ruled, destination_of}, Destination.{first_part}}
use Rattle.fs_nlri.proofs.rule.Rule.destination.Goals as goal

pub returns-in-Some-clause-shown : goal.returns-in-Some-clause-shown
returns-in-Some-clause-shown c =
    let first =
    first_part c.self.inside.family c.self.inside.components.items c.in-Some.component.now (c.in-Some.ensures.value
    ∙ ap (λ (l : List Component). slice_get l 0) c.as_slice.ensures.value) c.self.invariant.normal in
    c.destination.ensures ∙ sym first.destination ∙ ap (λ (rule : Ruled). destination_of rule) c.self.view_is
