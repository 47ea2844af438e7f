use Rattle.fs_peering.proofs.{Words.{standing_at_desk, ◌≡◌, ℕ, ap, subst, ◌∙◌, is_ended, EndsHearing, Hearer}, Listened.{listens_as}}
use Rattle.fs_peering.proofs.listen.listen_over.Goals as goal

pub returns-clause-listens : goal.returns-clause-listens
returns-clause-listens g c =
    let first : Hearer = c.args.hearer.now in
    let last : Hearer = c.hear_out.new.speaker in
    let kept = c.in_ok-heard.ensures.own in
    let same : last.peer ≡ first.peer = ap (λ (h : Hearer). h.peer) kept in
    listens_as _ _ _ _ _ _ _ same (ap (λ (h : Hearer). h.desk) kept) c.requires.fresh _ _ _ _ _ _ _ c.in_ok-heard.ensures.heard
    (ap (λ (n : ℕ). is_ended (standing_at_desk last.desk n)) same)
    (subst (λ s. EndsHearing c.in_ok-heard.heard s c.ending_of.result) (c.standing.ensures
    ∙ ap (λ (n : ℕ). standing_at_desk last.desk n) same) c.ending_of.ensures)
