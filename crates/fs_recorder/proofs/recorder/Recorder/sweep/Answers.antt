use Rattle.fs_recorder.proofs.Words.{ap, ◌∙◌, Recording}
use Rattle.std.proofs.lemmas.List.Elements.{same_from_all_zip}
use Rattle.fs_recorder.proofs.Sweeping.{ran_sweep, broke_sweep}
use Rattle.fs_recorder.proofs.recorder.Recorder.sweep.Goals as goal

pub returns-in_err-seats-clause-ran : goal.returns-in_err-seats-clause-ran
returns-in_err-seats-clause-ran g c =
    broke_sweep c.from_residual.result c.from_residual.ensures.1 (λ limited. absurd cc) c.args.time c.args.self.now _ _ _

pub returns-clause-ran : goal.returns-clause-ran
returns-clause-ran g c =
    ran_sweep c.check_each.result c.args.time c.args.self.now c.check_each.new.self _ _ _ _ c.deref.result.now
    (c.deref.ensures.value ∙ same_from_all_zip _ c.self.inside.seats.items c.in_ok-seats.seats.items c.in_ok-seats.ensures.cases.0 (λ x y same. same)
    ∙ ap (λ (r : Recording). r.seats) c.self.view_is)
    c.check_each.ensures.ran
