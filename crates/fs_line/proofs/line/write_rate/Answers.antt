use Rattle.fs_line.{specs.Line.{rate_text}, proofs.Outputs.{sends_stopped}}
use Rattle.fs_line.proofs.line.write_rate.Goals as goal

pub returns-in_err-make_room : goal.returns-in_err-make_room
returns-in_err-make_room g c = sends_stopped (rate_text c.args.rate) _ c.from_residual.result c.from_residual.ensures.1 c.in_err-make_room.ensures.sends
