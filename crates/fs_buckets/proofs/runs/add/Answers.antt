use Rattle.fs_buckets.proofs.Words.{◌≡◌, ℕ, ◌-◌, Option, Some, None, OnOk, Result, Ok, Err, List, length, get_or, refl, sym, ap₂, subst, ◌∙◌}
use Rattle.fs_buckets.proofs.Words.{numbers_in, AreRuns, EndsWith, Joined, Opened, RunsOf}
use Rattle.fs_buckets.proofs.Running.{join_runs, open_runs}
use Rattle.fs_buckets.specs.declared.runs.Runs.{Runs}
use Rattle.fs_buckets.proofs.runs.add.Goals as goal

-- by the lists of the new runs
along : (spans : List (Option (ℕ × ℕ))) (fs ls ss hs gs ms ts is : List ℕ) → gs ≡ fs → ms ≡ ls → ts ≡ ss → is ≡ hs → AreRuns spans fs ls ss hs
    → AreRuns spans gs ms ts is
along spans fs ls ss hs gs ms ts is e f g h s =
    subst (λ x. AreRuns spans x ms ts is) (sym e)
    (subst (λ x. AreRuns spans fs x ts is) (sym f)
    (subst (λ x. AreRuns spans fs ls x is) (sym g) (subst (λ x. AreRuns spans fs ls ss x) (sym h) s)))

joined : {E : Type 0} (r : Result (Unit {0}) E) (old new : Runs) (low high : ℕ) → EndsWith old low high → OnOk r (Joined old new)
    → OnOk r ((spans : List (Option (ℕ × ℕ))) → RunsOf spans old → get_or spans (length old.homes.items) None ≡ Some (low, high) → RunsOf spans new)
joined (Err e) old new low high ends j = tt
joined (Ok u) old new low high ends j = λ spans s now.
    along spans _ _ _ _ _ _ _ _ j.firsts j.lasts j.starts j.homes
    (join_runs spans old.firsts.items (numbers_in old.lasts) old.starts.items old.homes.items (length (numbers_in old.lasts) - 1) s ends.some refl
    (now ∙ ap₂ (λ (x y : ℕ). Some (x, y)) (sym ends.first) (sym ends.last)))

opened : {E : Type 0} (r : Result (Unit {0}) E) (old new : Runs) (low high : ℕ) → OnOk r (Opened old low high new)
    → OnOk r ((spans : List (Option (ℕ × ℕ))) → RunsOf spans old → get_or spans (length old.homes.items) None ≡ Some (low, high) → RunsOf spans new)
opened (Err e) old new low high o = tt
opened (Ok u) old new low high o = λ spans s now.
    along spans _ _ _ _ _ _ _ _ o.firsts o.lasts o.starts o.homes
    (open_runs spans old.firsts.items (numbers_in old.lasts) old.starts.items old.homes.items low high s now)

pub returns-then-ends_with-clause-runs : goal.returns-then-ends_with-clause-runs
returns-then-ends_with-clause-runs c =
    joined c.join.result c.args.runs.now c.join.new.runs c.args.first c.args.last (c.ends_with.ensures c.if-ends_with.true) c.join.ensures.same

pub returns-else-ends_with-clause-runs : goal.returns-else-ends_with-clause-runs
returns-else-ends_with-clause-runs c = opened c.open.result c.args.runs.now c.open.new.runs c.args.first c.args.last c.open.ensures.opened
