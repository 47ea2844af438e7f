use Rattle.fs_ranges.proofs.{Words.{◌≡◌, true, List, sym, subst, list_all, Test, passes}, Placing.{ranges_held, tests_held}}
use Rattle.fs_ranges.proofs.fast.Fast.number_limit.Goals as goal

pub returns-in-Any : goal.returns-in-Any
returns-in-Any c = λ facts h. c.limit.ensures facts (ranges_held facts c.args.self.now h)

pub returns-in_default : goal.returns-in_default
returns-in_default c = λ facts h.
    c.limit_of.ensures facts (subst (λ (tests : List Test). list_all (passes facts) tests ≡ true) (sym c.deref.ensures.value)
    (tests_held facts c.args.self.now h))
