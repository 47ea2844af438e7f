use Rattle.cmd_enforce.proofs.{Words.{sym, ◌∙◌, ◌+◌, sends_as}, Walking.{packet_line, unread_line}}
use Rattle.cmd_enforce.proofs.lines.judge_packet.Goals as goal

pub returns-in-Ok-clause-sends : goal.returns-in-Ok-clause-sends
returns-in-Ok-clause-sends g c = λ admitted stands.
    sends_as (packet_line (c.args.lines.now.number + 1) admitted c.args.link c.args.octets.now c.in-Ok.view (sym c.read_packet.ensures ∙ c.in-Ok.is))
    (c.write_walk.ensures.sends admitted stands)

pub returns-in-Err-clause-sends : goal.returns-in-Err-clause-sends
returns-in-Err-clause-sends g c = λ admitted stands.
    sends_as (unread_line (c.args.lines.now.number + 1) admitted c.args.link c.args.octets.now c.in-Err.unread c.number.result
    (sym c.read_packet.ensures ∙ c.in-Err.is) c.number.ensures)
    c.write_unread_line.ensures
