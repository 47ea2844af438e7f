use Rattle.fs_line.proofs.{Words.{line_of, entries}, Outputs.{sends_stopped}}
use Rattle.fs_line.proofs.line.write_whole_line.Goals as goal

pub returns-in_err-make_room : goal.returns-in_err-make_room
returns-in_err-make_room g c =
    sends_stopped (line_of c.args.number (entries c.args.walked.now)) _ c.from_residual.result c.from_residual.ensures.1 c.in_err-make_room.ensures.sends
