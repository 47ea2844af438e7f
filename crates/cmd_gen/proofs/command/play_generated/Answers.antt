use Rattle.cmd_gen.proofs.Words.{[], subst, Config, Played, three_peers, opening}
use Rattle.cmd_gen.proofs.command.play_generated.Goals as goal

pub returns-clause-played : goal.returns-clause-played
returns-clause-played c =
    let begun : Played three_peers [] c.in_ok-desk.desk =
    subst (λ (config : Config). Played config [] c.in_ok-desk.desk) c.requires.config c.in_ok-desk.ensures.played in
    c.in_ok-play_steps.ensures.played three_peers _
    (c.in_ok-open_session-2.ensures.played three_peers (opening 1) (c.in_ok-open_session.ensures.played three_peers [] begun))
