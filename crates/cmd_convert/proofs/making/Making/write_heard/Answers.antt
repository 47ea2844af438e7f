use Rattle.cmd_convert.proofs.Words.{[], append-nil, lives_of, made, sends_as, sends_stopped, sends_then, spoken_from, text_at}
use Rattle.cmd_convert.proofs.making.Making.write_heard.Goals as goal

pub returns-in_err-write_said-clause-sends : goal.returns-in_err-write_said-clause-sends
returns-in_err-write_said-clause-sends g c =
    sends_as (append-nil (text_at c.args.heard.moment
    (made c.args.self.now.config (spoken_from c.args.heard c.args.buffer.now) (lives_of c.args.self.now.lives c.args.heard.peer)).0))
    (sends_stopped [] _ c.from_residual.result c.from_residual.ensures.1 c.in_err-write_said.ensures.sends)

pub returns-clause-sends : goal.returns-clause-sends
returns-clause-sends g c =
    sends_as (append-nil (text_at c.args.heard.moment
    (made c.args.self.now.config (spoken_from c.args.heard c.args.buffer.now) (lives_of c.args.self.now.lives c.args.heard.peer)).0))
    (sends_then c.in_ok-write_said.ensures.sends c.leave.ensures.sends)
