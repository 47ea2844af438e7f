use Rattle.cmd_stages.proofs.Words.{◌∙◌, sym}
use Rattle.cmd_stages.proofs.LookingAhead.{read_played}
use Rattle.cmd_stages.proofs.player.Player.read_whole.Goals as goal

pub returns-in-Ok-clause-read : goal.returns-in-Ok-clause-read
returns-in-Ok-clause-read g c = λ told.
    read_played c.args.config.now c.args.limit (g.F.Files.holds c.args.files.now) c.args.name.now (g.F.Files.left c.open_tape.new.files)
    c.in_ok-tape.tape c.play_rest.new.tape _ c.in-Ok.desk
    (c.in_ok-tape.ensures.opened told) c.in_ok-tape.ensures.state.slot_is (sym c.format.ensures ∙ c.in-One.is) (c.in-Ok.ensures.played told)
