-- Rules that nothing hinders are carried.
use Rattle.cmd_wire.proofs.Words.{Done, Ending, MayHold, Names, Peer, ◌≡◌, ◌∙◌, ℕ, ◌+◌, ◌<◌, List, ◌++◌, length, ap, sym, subst, arith, length-append}
use Rattle.cmd_wire.proofs.Words.{same_Some, Conversation, Joined, Meets, CanBeCarried, Carries}
use Rattle.cmd_wire.proofs.{Accepted.{arrivable}, Concluding.{told_at}}

-- so many more octets were written
written_within : (before now said : List ℕ) (limit : ℕ) → now ≡ before ++ said → length now < length before + limit → length said < limit
written_within before now said limit e l =
    let all : length now ≡ length before + length said = ap length e ∙ length-append before said in
    omega (arith, all, l)

-- where nothing hinders the rules, all of them arrive
pub carried_done : (limit : ℕ) (holds : Names) (config rules : List ℕ) (talk : Conversation) (s : CanBeCarried limit holds config rules talk)
    (ending : Ending) (text : List ℕ)
    → Carries limit talk s.set_up.accepted ending text → ending ≡ Done
carried_done limit holds config rules talk s ending text carried =
    let at = s.set_up in
    let j : Joined ending at.accepted.0 at.accepted.1 limit text talk = carried.joined in
    let here : Meets ending at.accepted.0 j.peer at.accepted.1 j.desk limit j.given text at.ends at.ends_now =
    told_at (Meets ending at.accepted.0 j.peer at.accepted.1 j.desk limit j.given text) at j.told in
    here.pairs.arrives (record {
      can = arrivable limit holds config rules at.accepted.0 at.accepted.1 j.peer at.found j.peer_is s.named;
      may_hold = subst (λ (p : Peer). MayHold p.max_routes (length at.accepted.1.rules)) (same_Some s.peer j.peer (sym s.peer_is ∙ j.peer_is)) s.may_hold;
      timely = s.timely j.given j.grew;
      announced_within = written_within at.ends.second.written at.ends_now.second.written here.pairs.announced limit here.pairs.wrote_second s.announced_within;
      replied_within = written_within at.ends.first.written at.ends_now.first.written here.pairs.replied limit here.pairs.wrote_first s.replied_within;
    })
