use Rattle.fs_ranges.proofs.{Words.{◌≡◌, true, List, sym, subst, list_all, Test, passes}, Placing.{tests_held}}
use Rattle.fs_ranges.proofs.fast.Fast.ports_limit.Goals as goal

pub returns : goal.returns
returns c = λ facts h.
    c.ports_limit_of.ensures facts
    (subst (λ (tests : List Test). list_all (passes facts) tests ≡ true) (sym c.deref.ensures.value) (tests_held facts c.args.self.now h))
