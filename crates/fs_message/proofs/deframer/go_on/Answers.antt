use Rattle.fs_message.proofs.{Words.{◌≤◌, sym, ◌∙◌, arith, length-take}, BegunMessages.{Sized, headed_of, header_judged, short_feeds, size_fits, fed_of}}
use Rattle.fs_message.proofs.deframer.go_on.Goals as goal

pub returns-in-Some-clause-exact : goal.returns-in-Some-clause-exact
returns-in-Some-clause-exact c =
    let h = headed_of c.args.held.now c.args.count.now c.args.piece.now _ _ c.requires.begun
    (omega arith) c.append-headed.ensures.taken c.append-headed.ensures.held in
    sym (header_judged c.append-headed.new.held c.append-headed.new.count c.min.result _ c.args.piece.now _ h c.min.ensures) ∙ sym c.in-Some.ensures.exact

pub returns-then-count-lt-HEADER-clause-exact : goal.returns-then-count-lt-HEADER-clause-exact
returns-then-count-lt-HEADER-clause-exact c =
    let h = headed_of c.args.held.now c.args.count.now c.args.piece.now _ _ c.requires.begun
    (omega arith) c.append-headed.ensures.taken c.append-headed.ensures.held in
    short_feeds _ c.args.piece.now _ _ h (omega (arith, length-take c.append-headed.new.count c.append-headed.new.held))
    (sym (header_judged c.append-headed.new.held c.append-headed.new.count c.min.result _ c.args.piece.now _ h c.min.ensures) ∙ sym c.in_default.ensures.exact)

pub append-bodied-requires-clause-room : goal.append-bodied-requires-clause-room
append-bodied-requires-clause-room c =
    let s : Sized c.append-headed.new.held c.append-headed.new.count c.min.result c.read_u16-size.result =
    record { within = omega arith; long = omega arith; judged_is = c.min.ensures; fits = c.in_default.ensures.sized; read = c.read_u16-size.ensures } in
    let high : c.read_u16-size.result ≤ 4096 = (size_fits _ _ _ _ s).1 in
    omega arith

pub returns : goal.returns
returns c =
    let h = headed_of c.args.held.now c.args.count.now c.args.piece.now _ _ c.requires.begun
    (omega arith) c.append-headed.ensures.taken c.append-headed.ensures.held in
    let s : Sized c.append-headed.new.held c.append-headed.new.count c.min.result c.read_u16-size.result =
    record { within = omega arith; long = omega arith; judged_is = c.min.ensures; fits = c.in_default.ensures.sized; read = c.read_u16-size.ensures } in
    let f = fed_of _ _ _ _ s _ c.args.piece.now c.append-bodied.new.held c.append-headed.result c.append-bodied.result c.append-bodied.new.count h
    c.in_default.ensures.exact c.append-bodied.ensures.taken c.append-bodied.ensures.held c.append-bodied.ensures.count (omega arith) (omega arith) in
    let high : c.read_u16-size.result ≤ 4096 = (size_fits _ _ _ _ s).1 in
    record { within = omega arith; kept = f.kept; some = f.some; exact = f.exact }
