use Rattle.cmd_enforce.proofs.Words.{ap, ◌∙◌, sends_as, line_of, entries}
use Rattle.cmd_enforce.proofs.lines.write_walk.Goals as goal

pub returns-clause-sends : goal.returns-clause-sends
returns-clause-sends g c = λ admitted stands.
    sends_as (ap (λ walked. line_of c.args.lines.now.number (entries walked)) c.deref.ensures.value
    ∙ ap (line_of c.args.lines.now.number) (c.walk_packet.ensures.walk admitted stands)) c.write_packet_line.ensures
