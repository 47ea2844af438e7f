use Rattle.fs_session.proofs.{Words.{pending, frame_of, machine_of}, Closing.{StandsIn, closes}}
use Rattle.fs_session.proofs.intake.advance.Goals as goal

pub returns-in-Err-transition-clause-exact : goal.returns-in-Err-transition-clause-exact
returns-in-Err-transition-clause-exact c =
    let s : StandsIn (pending c.args.deframer.now) c.args.piece.now c.in-Ok.count c.in-Ok.field-0-1 c.feed.new.self (frame_of c.in-Some.frame) =
    record { fed = c.in-Ok.ensures.exact c.requires; stands_is = c.in-Ok.ensures.stands; message_is = c.in-Some.ensures.exact } in
    closes (machine_of c.args.side.now) c.args.phase.now (pending c.args.deframer.now) c.args.piece.now
    c.in-Ok.count c.in-Ok.field-0-1 c.feed.new.self (frame_of c.in-Some.frame) c.in-Err-transition.why c.close-in-Err-transition.result
    c.args.out.now.items c.close-in-Err-transition.new.out.items
    s c.in-Err-transition.ensures c.close-in-Err-transition.ensures
