use Rattle.fs_session.proofs.Fitting.{body_written}
use Rattle.fs_session.proofs.sending.write_rule.Goals as goal

pub returns : goal.returns
returns c =
    body_written c.write_update.result c.args.terms.now c.args.numbers.now c.args.sent.now c.in_ok-update.update c.args.out.now.items
    c.write_update.new.out.items c.in_ok-update.ensures c.write_update.ensures.written
