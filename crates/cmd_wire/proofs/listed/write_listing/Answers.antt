use Rattle.cmd_wire.proofs.{Words.{Rose}, Listings.{told_listing}}
use Rattle.cmd_wire.proofs.listed.write_listing.Goals as goal

pub returns-clause-told : goal.returns-clause-told
returns-clause-told g c =
    told_listing c.args.desk.now c.in_ok-text.text.items c.deref.result.now
    (Rose (g.S.Sink.faults c.args.sink.now) (g.S.Sink.faults c.write_text.new.sink))
    (g.S.Sink.written c.args.sink.now) (g.S.Sink.written c.write_text.new.sink) c.write_text.result
    c.deref.ensures.value c.in_ok-text.ensures.told c.write_text.ensures.written
