use Rattle.cmd_convert.proofs.Words.{◌≡◌, ap, ℕ, rules, sends_as, sends_stopped, sends_then, item_text_at, received, Two, greeting, lives_of, asn_of}
use Rattle.cmd_convert.proofs.Converting.{opening_text, sends_from}
use Rattle.cmd_convert.proofs.making.Making.open.Goals as goal

pub returns-in_err-lose-clause-sends : goal.returns-in_err-lose-clause-sends
returns-in_err-lose-clause-sends g c =
    sends_as (opening_text c.args.stamp.moment c.args.stamp.peer (asn_of c.args.self.now.config c.args.stamp.peer) c.args.wide
    (lives_of c.args.self.now.lives c.args.stamp.peer))
    (sends_stopped _ _ c.from_residual.result c.from_residual.ensures.1 c.in_err-lose.ensures.sends)

pub returns-in_err-write_record-clause-sends : goal.returns-in_err-write_record-clause-sends
returns-in_err-write_record-clause-sends g c =
    sends_as (opening_text c.args.stamp.moment c.args.stamp.peer (asn_of c.args.self.now.config c.args.stamp.peer) c.args.wide
    (lives_of c.args.self.now.lives c.args.stamp.peer))
    (sends_then c.in_ok-lose.ensures.sends
    (sends_stopped _ _ c.from_residual-in_err-write_record.result c.from_residual-in_err-write_record.ensures.1
    (sends_from (search rules) c.in_err-write_record.ensures)))

pub returns-clause-sends : goal.returns-clause-sends
returns-clause-sends g c =
    let same : c.asn_of-asn.result ≡ asn_of c.args.self.now.config c.args.stamp.peer = search rules in
    sends_as (opening_text c.args.stamp.moment c.args.stamp.peer (asn_of c.args.self.now.config c.args.stamp.peer) c.args.wide
    (lives_of c.args.self.now.lives c.args.stamp.peer))
    (sends_then c.in_ok-lose.ensures.sends
    (sends_then (sends_from (search rules) c.in_ok-write_record.ensures)
    (sends_as (ap (λ (k : ℕ). item_text_at Two c.args.stamp.moment (received c.args.stamp.peer (greeting k c.args.wide))) same) c.write_greeting.ensures)))
