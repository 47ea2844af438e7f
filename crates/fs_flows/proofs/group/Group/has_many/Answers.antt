use Rattle.fs_flows.proofs.{Words.{◌≤◌, ap, sym, subst, ◌∙◌, length, flat, routes_in}, Cutting.{many_in}}
use Rattle.fs_flows.proofs.group.Group.has_many.Goals as goal

pub returns-in-Many : goal.returns-in-Many
returns-in-Many c = λ h. subst (λ ks. 16 ≤ length ks) (ap flat c.deref.ensures.value ∙ ap routes_in (sym c.in-Many.is)
    ∙ c.self.view_is) (many_in 16 c.deref.result.now (sym c.have_many.ensures ∙ h))
