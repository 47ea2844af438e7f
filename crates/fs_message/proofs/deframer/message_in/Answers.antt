use Rattle.fs_message.proofs.Words.{◌≡◌, ℕ, ◌+◌, ◌-◌, ◌≤◌, length, take, drop, get_or, IsTrue, sym, subst, arith, allows, length-take, length-drop}
use Rattle.fs_message.proofs.BegunMessages.{message_front, message_allowed}
use Rattle.fs_message.proofs.deframer.message_in.Goals as goal

pub returns-clause-exact : goal.returns-clause-exact
returns-clause-exact c =
    let long : 19 ≤ c.args.count = omega (arith, c.requires.whole.headed, length-take c.args.count c.args.held.now) in
    let front = message_front c.args.held.now c.args.count long in
    let kind : get_or c.args.held.now 18 0 ≡ get_or (take c.args.count c.args.held.now) 18 0 = front.0 in
    let body : take (c.args.count - 19) (drop 19 c.args.held.now) ≡ drop 19 (take c.args.count c.args.held.now) = front.1 in
    cc

pub returns-clause-sized : goal.returns-clause-sized
returns-clause-sized c =
    let long : 19 ≤ c.args.count = omega (arith, c.requires.whole.headed, length-take c.args.count c.args.held.now) in
    let front = message_front c.args.held.now c.args.count long in
    let size : length (take c.args.count c.args.held.now) ≡ 19 + length (take (c.args.count - 19) (drop 19 c.args.held.now)) =
    omega (arith, length-take c.args.count c.args.held.now, length-take (c.args.count - 19) (drop 19 c.args.held.now), length-drop 19 c.args.held.now) in
    let P : ℕ → Type 0 = λ n. IsTrue (allows (get_or c.args.held.now 18 0) n) in
    let Q : ℕ → Type 0 = λ k. IsTrue (allows k (length (take c.args.count c.args.held.now))) in
    subst P size (subst Q (sym front.0) (message_allowed (take c.args.count c.args.held.now) c.requires.whole))
