use Rattle.cmd_convert.proofs.{Words.{ap, sym, sends_as, said_from, What, lives_of, made_by, text_at}, Converting.{change_lives}}
use Rattle.cmd_convert.proofs.making.Making.write_said.Goals as goal

pub returns-in-Change-clause-lives : goal.returns-in-Change-clause-lives
returns-in-Change-clause-lives g c =
    change_lives c.write_change.result (lives_of c.write_change.new.self.lives) (lives_of c.args.self.now.lives) c.args.self.now.config c.args.heard.peer
    c.in-Change.old c.in-Change.new c.args.heard.what c.args.buffer.now c.args.heard.wide (lives_of c.args.self.now.lives c.args.heard.peer)
    c.in-Change.is c.write_change.ensures.lives

pub returns-in-Change-clause-sends : goal.returns-in-Change-clause-sends
returns-in-Change-clause-sends g c =
    sends_as
    (ap (λ (what : What). text_at c.args.heard.moment
    (made_by c.args.self.now.config c.args.heard.peer c.args.heard.wide (said_from what c.args.buffer.now)
    (lives_of c.args.self.now.lives c.args.heard.peer)).0)
    (sym c.in-Change.is))
    (c.write_change.ensures.sends c.args.heard.wide)
