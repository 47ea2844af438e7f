use Rattle.fs_desk.proofs.Words.{◌≡◌, ℕ, List, ◌++◌, length, None, Config, Peer, IsListed, bounded_replies_from, IsUp, HasTaken, Extends}
use Rattle.fs_desk.proofs.Words.{IsReplyingMore, Comes, AreIdle, Tells}
use Rattle.fs_desk.proofs.receive.receive.Given as goal

abbrev pub invariant-messages : goal.invariant-messages
invariant-messages g l =
    Extends l.fn.replies.items l.replies.items
    × Tells l.fn.watched l.watched
    × ((config : Config) (whose : Peer) (octets : List ℕ) → IsListed l.fn.watched.table → IsUp config whose l.peer octets l.fn.session l.fn.watched.table
    → HasTaken config whose l.peer (octets ++ l.fn.piece) l.rest l.session l.fn.watched.table l.watched.table
    × IsReplyingMore config whose (octets ++ l.fn.piece) l.rest l.session (bounded_replies_from config whose octets) l.fn.replies.items l.replies.items)
    × (l.session.closed ≡ None)
    × Comes l.fn.session l.fn.piece l.session l.rest l.fn.replies.items l.replies.items
    × (AreIdle l.fn.session l.fn.piece → (l.watched ≡ l.fn.watched) × AreIdle l.session l.rest)

abbrev pub decreases-messages : goal.decreases-messages
decreases-messages g l = length l.rest
