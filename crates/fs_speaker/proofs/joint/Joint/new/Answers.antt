use Rattle.fs_speaker.proofs.Words.{rules, sym, subst, Ok, ap, List, ℕ, [], false, ◌∙◌, Update, StartsOpen, both, Flying, flying}
use Rattle.fs_speaker.proofs.{Running.{joint_begins}, Lowest.{is_told}}
use Rattle.fs_speaker.proofs.joint.Joint.new.Goals as goal

pub new-requires : goal.new-requires
new-requires c = is_told c.args.config.now.peers c.in-Some.peer.now (sym c.in-Some.ensures)

pub invariant_of-result : goal.invariant_of-result
invariant_of-result c =
    (joint_begins c.args.config.now c.in-Some.peer.now c.args.sending c.in_ok-taker.taker c.in_ok-teller.teller c.start.new.self c.start.new.out.items
    c.new-5.result c.new-6.result.items
    (sym c.in-Some.ensures) c.in_ok-taker.ensures c.in_ok-teller.ensures
    (subst (λ (z : List ℕ). StartsOpen c.in_ok-teller.teller c.start.new.self z c.start.new.out.items (Ok tt)) c.new-said.ensures.items (search rules))
    (c.new-5.ensures ∙ ap (λ (f : Flying). both c.in_ok-taker.taker c.start.new.self f c.new-4.result.items) c.new-3.ensures
    ∙ ap (λ (u : List Update). both c.in_ok-taker.taker c.start.new.self (flying c.start.new.out.items [] false) u) c.new-4.ensures.items)
    c.new-6.ensures.items).1
