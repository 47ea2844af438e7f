use Rattle.cmd_stages.proofs.Texts.{said_whole}
use Rattle.cmd_wire.proofs.tell.end_session.Goals as goal

pub returns-clause-told : goal.returns-clause-told
returns-clause-told g c = said_whole 8 c.args.line.now _ _ _ c.in_ok-write_text.ensures.written
