use Rattle.fs_actions.proofs.{Words.{◌≡◌, Option, Some, None, List, ℕ, ◌∙◌, ap, subst, length, ◌-◌, last_or, IsAbove}, Behind.{last_is}}
use Rattle.std.specs.Prelude.{◌↔◌, IsTrue, slice_get}
use Rattle.fs_actions.proofs.actions.Actions.goes_behind.Goals as goal

pub returns-in-Some : goal.returns-in-Some
returns-in-Some c =
    let found : Some c.in-Some.last.now ≡ last_or None c.args.self.now =
    c.in-Some.ensures.value ∙ ap (λ (l : List (List ℕ)). slice_get l (length l - 1)) (c.deref.ensures.value ∙ c.self.view_is) ∙ last_is c.args.self.now in
    subst (λ (o : Option (List ℕ)). IsTrue c.is_below.result ↔ IsAbove o c.args.action.now) found c.is_below.ensures
