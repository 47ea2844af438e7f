use Rattle.cmd_stages.proofs.{Words.{Err, ap, coming, item_from, timed, with_part}, Reading.{ceased}}
use Rattle.fs_tape.specs.declared.item.TapeItem.{TapeItem}
use Rattle.cmd_stages.proofs.play.next_item.Goals as goal

pub returns-in-Err-clause-ceases : goal.returns-in-Err-clause-ceases
returns-in-Err-clause-ceases g c = λ told.
    ceased (coming c.args.config.now c.args.tape.now (g.F.Files.left c.args.files.now c.args.tape.now.slot))
    (λ (item : TapeItem). with_part (timed c.next.new.self.moment (item_from item c.next.new.into))
    (coming c.args.config.now c.next.new.self (g.F.Files.left c.next.new.files c.args.tape.now.slot)))
    c.in-Err.fault c.refusal_of.result _ (c.in-Err.ensures.gives.advances told c.requires.open)
    (λ read. c.in-Err.ensures.gives.read c.requires.open (ap Err read)) c.refusal_of.ensures.result
