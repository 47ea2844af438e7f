use Rattle.std.proofs.Common.{◌≡◌, sym, ap, ◌∙◌, refl, Option, Some, None, option_map}
use Rattle.fs_base.{specs.{declared.prefix.Prefix.{Prefix}, Prefix.{prefix_of}}, proofs.SamePrefix.{prefix_again}}
use Rattle.fs_nlri.specs.Rule.{shown}
use Rattle.fs_validate.proofs.route.destination.Goals as goal

shown_again : (o : Option Prefix) → option_map (λ d. prefix_of d.0 d.1 d.2) (option_map shown o) ≡ o
shown_again None = refl
shown_again (Some p) = ap Some (prefix_again p)

pub returns-clause-value : goal.returns-clause-value
returns-clause-value c = sym (shown_again c.destination.result) ∙ ap (option_map (λ d. prefix_of d.0 d.1 d.2)) c.destination.ensures.shown
