use Rattle.cmd_wire.proofs.{Words.{sender_of}, FromPairing.{both_begin, lowest_broken}}
use Rattle.cmd_wire.proofs.pairing.both_ends.Goals as goal

pub returns-in_err-hearer-clause-broken : goal.returns-in_err-hearer-clause-broken
returns-in_err-hearer-clause-broken c =
    lowest_broken c.args.config.now (sender_of c.args.config.now.peers) c.args.sending c.from_residual.result c.in_err-hearer.field-0.0
    c.requires c.in_err-hearer.ensures.begins c.from_residual.ensures.1

pub returns-clause-ready : goal.returns-clause-ready
returns-clause-ready c = record {
  unheard = c.in_ok-hearer.ensures.begins.fresh;
  stands = c.in_ok-hearer.ensures.open;
  none = c.in_ok-teller.ensures.fresh;
  on = c.in_ok-teller.ensures.on;
  lives = c.in_ok-teller.ensures.open;
}

pub returns-clause-begins : goal.returns-clause-begins
returns-clause-begins c =
    both_begin c.args.config.now c.args.sending c.in_ok-hearer.hearer.desk c.in_ok-hearer.hearer.peer c.in_ok-hearer.hearer.count
    c.in_ok-teller.teller.announcer c.in_ok-teller.teller.started c.in_ok-hearer.ensures.begins c.in_ok-teller.ensures.made
