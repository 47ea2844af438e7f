use Rattle.fs_ranges.proofs.{Words.{◌≡◌, ◌∙◌, Bool, true, if◌then◌else◌, List, sym, subst, list_all, Test, number_of, passes}, Placing.{tests_held}}
use Rattle.fs_ranges.specs.{Facts.{front_of}, Limits.{allows}}
use Rattle.fs_ranges.proofs.fast.Fast.limit.Goals as goal

pub returns-then-is_front : goal.returns-then-is_front
returns-then-is_front c = λ facts h.
    subst (λ (b : Bool). allows c.front_limit_of.result (if b then front_of facts.view.source else number_of facts c.args.field) ≡ true)
    (sym (sym c.is_front.ensures ∙ c.if-is_front.true))
    (c.front_limit_of.ensures facts
    (subst (λ (tests : List Test). list_all (passes facts) tests ≡ true) (sym c.deref.ensures.value) (tests_held facts c.args.self.now h)))
