use Rattle.cmd_stages.proofs.{LookingAhead.{slots_then}, Playing.{comes_at, played_whole}}
use Rattle.cmd_stages.proofs.play.play_whole.Goals as goal

pub returns-clause-played : goal.returns-clause-played
returns-clause-played g c = λ told.
    played_whole c.args.config.now c.in_ok-tape.tape.version _ _ _ _ _ c.play_rest.result
    (comes_at c.args.config.now c.args.limit (g.F.Files.holds c.args.files.now) c.args.name.now (g.F.Files.left c.open_tape.new.files)
    c.in_ok-tape.tape (c.in_ok-tape.ensures.opened told) c.in_ok-tape.ensures.state.slot_is)
    c.in_ok-tape.ensures.later (c.play_rest.ensures.played told)

pub returns-clause-others : goal.returns-clause-others
returns-clause-others g c =
    slots_then g.F.Files.tells g.F.Files.left g.F.Files.holds 1 c.in_ok-tape.tape.slot c.args.files.now c.open_tape.new.files c.play_rest.new.files
    c.in_ok-tape.ensures.others c.in_ok-tape.ensures.state.slot_is c.play_rest.ensures.others
