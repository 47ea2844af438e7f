use Rattle.cmd_convert.proofs.Words.{◌≡◌, rules, true, false, sends_as, sends_stopped, sends_then, item_text_at, received, Two, has_width, lives_of}
use Rattle.cmd_convert.proofs.Words.{is_taken}
use Rattle.cmd_convert.proofs.Converting.{message_text, sends_from}
use Rattle.cmd_convert.proofs.making.Making.write_message.Goals as goal

pub returns-in_err-open-clause-sends : goal.returns-in_err-open-clause-sends
returns-in_err-open-clause-sends g c =
    let taken : is_taken c.args.octets.now ≡ true = search rules in
    let other : has_width (lives_of c.args.self.now.lives c.args.stamp.peer) c.args.wide ≡ false = search rules in
    sends_as (message_text c.args.stamp.moment c.args.self.now.config c.args.stamp.peer c.args.wide c.args.octets.now
    (lives_of c.args.self.now.lives c.args.stamp.peer) taken other)
    (sends_stopped (item_text_at Two c.args.stamp.moment (received c.args.stamp.peer c.args.octets.now)) _ c.from_residual.result
    c.from_residual.ensures.1 c.in_err-open.ensures.sends)

pub returns-clause-sends : goal.returns-clause-sends
returns-clause-sends g c =
    let taken : is_taken c.args.octets.now ≡ true = search rules in
    let other : has_width (lives_of c.args.self.now.lives c.args.stamp.peer) c.args.wide ≡ false = search rules in
    sends_as (message_text c.args.stamp.moment c.args.self.now.config c.args.stamp.peer c.args.wide c.args.octets.now
    (lives_of c.args.self.now.lives c.args.stamp.peer) taken other)
    (sends_then c.in_ok-open.ensures.sends (sends_from (search rules) c.write_record-2.ensures))
