use Rattle.cmd_enforce.proofs.Words.{subst, sym, Held, match_err}
use Rattle.fs_rules.specs.Changes.{Covers, Noted}
use Rattle.cmd_enforce.proofs.following.Following.follow.Goals as goal

pub returns-in_err-play_to-clause-played : goal.returns-in_err-play_to-clause-played
returns-in_err-play_to-clause-played g c = λ told items s.
    match_err _ _ c.from_residual.result c.from_residual.ensures.1 (λ refusal same. rw same (c.in_err-play_to.ensures.played told items s))

pub returns-in_err-play_to-clause-ends : goal.returns-in_err-play_to-clause-ends
returns-in_err-play_to-clause-ends g c = λ stood.
    match_err _ _ c.from_residual.result c.from_residual.ensures.1 (λ refusal same. rw same (c.in_err-play_to.ensures.ends stood))

pub mend-requires : goal.mend-requires
mend-requires g c = (
  c.args.self.now.player.desk.held,
  record { v4 = c.requires.stands.v4; v6 = c.requires.stands.v6 },
  c.requires.own,
  subst (λ (t : Held). Covers c.args.self.now.player.desk.held c.changes.result.now t) (sym c.table.ensures)
      (subst (λ (n : Noted). Covers c.args.self.now.player.desk.held n c.play_to.new.self.desk.held) (sym c.changes.ensures) c.in_ok-play_to.ensures.told),
)
