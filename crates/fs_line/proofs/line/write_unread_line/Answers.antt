use Rattle.fs_line.{specs.Line.{unread_line_of}, proofs.Outputs.{sends_stopped}}
use Rattle.fs_line.proofs.line.write_unread_line.Goals as goal

pub returns-in_err-make_room : goal.returns-in_err-make_room
returns-in_err-make_room g c =
    sends_stopped (unread_line_of c.args.number c.args.reason) _ c.from_residual.result c.from_residual.ensures.1 c.in_err-make_room.ensures.sends
