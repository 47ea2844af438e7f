-- What is appended to the replies, through a piece of the peer's octets.
use Rattle.fs_desk.proofs.Words.{◌≡◌, ◌==◌, ℕ, List, [], ◌∷◌, ◌++◌, length, drop, false, Option, Some, None, IfSome, Result, Err, refl, sym, ap}
use Rattle.fs_desk.proofs.Words.{◌∙◌, append_assoc, append-nil, subst, is_some, true, arith, nat_tests, nil_from_length, Config, Peer, Update, Held}
use Rattle.fs_desk.proofs.Words.{Closed, Memory, CloseIs, reply_at, Live, reply_of, step_with, some_there, is_over}
use Rattle.fs_desk.proofs.Words.{routes_left, too_many, bounded_replies_from, Follows, TakesUpdate, IsFed, IsReplying, HasReplied}
use Rattle.fs_desk.proofs.Words.{IsUp, RepliesTo, Extends, IsReplyingMore, HasRepliedMore, RepliesMessage, close_is}
use Rattle.fs_desk.proofs.Pieces.{Brings, closes_over, follows_brought, held_left}
use Rattle.fs_desk.proofs.Replying.{replying_piece, replying_fed, fed_established, replying_closed, replying_ceased, replied_all}

-- one message of a piece was taken
pub replies_taken : {peer : ℕ} {old new : Live} {table : Held} {replies replies' piece : List ℕ} {count : ℕ} {update : Option Update}
    → Brings old new piece count update replies replies' → RepliesMessage peer old new table replies replies' piece (Some count)
replies_taken {peer} {old} {new} {table} {replies} {replies'} {piece} {count} {update} b = λ config whose octets updates said f w l k s. record {
  more = reply_of old (step_with old piece);
  grows = (b.does f.alive).1;
  replied = replying_fed config whose octets piece old said new count update f s (step_with old piece) refl (b.does f.alive).0;
}

-- and its update was applied
pub replies_update : {peer : ℕ} {old mid new : Live} {table table' : Held} {replies replies' replies'' piece : List ℕ} {count : ℕ} {update : Update}
    → Brings old mid piece count (Some update) replies replies' → TakesUpdate peer update mid new table table' replies' replies'' true
    → RepliesMessage peer old new table replies replies'' piece (Some count)
replies_update {peer} {old} {mid} {new} {table} {table'} {replies} {replies'} {replies''} {piece} {count} b t =
    subst (λ (v : Live). RepliesMessage peer old v table replies replies'' piece (Some count)) (sym (t.stays refl).0)
    (subst (λ (z : List ℕ). RepliesMessage peer old mid table replies z piece (Some count)) (sym (t.stays refl).2) (replies_taken b))

-- or passes the limit
pub replies_ceased : {peer : ℕ} {old mid new : Live} {table table' : Held} {replies replies' replies'' piece : List ℕ} {count : ℕ} {update : Update}
    → Brings old mid piece count (Some update) replies replies' → TakesUpdate peer update mid new table table' replies' replies'' false
    → RepliesMessage peer old new table replies replies'' piece None
replies_ceased {peer} {old} {mid} {new} {table} {table'} {replies} {replies'} {replies''} {piece} {count} {update} b t =
    λ config whose octets updates said f w l k s.
    let follows : Follows config whose octets (drop count piece) mid (updates ++ update ∷ []) = follows_brought b f in
    let over : is_over whose.max_routes (routes_left (updates ++ update ∷ [])) ≡ true =
    closes_over t.within follows.peer_is (held_left peer updates update table t.applied whose t.changes t.prefixes w l k) in
    let spoke : IsReplying config whose octets (drop count piece) mid (said ++ reply_of old (step_with old piece)) =
    replying_fed config whose octets piece old said mid count (Some update) f s (step_with old piece) refl (b.does f.alive).0 in
    record {
      more = reply_of old (step_with old piece) ++ reply_at too_many;
      grows = (t.ceases refl).2 ∙ ap (λ (z : List ℕ). z ++ reply_at too_many) (b.does f.alive).1
          ∙ append_assoc replies (reply_of old (step_with old piece)) (reply_at too_many);
      replied =
          subst (λ (o : Option Closed). HasReplied config whose octets new o (said ++ (reply_of old (step_with old piece) ++ reply_at too_many)))
          (sym (t.ceases refl).0)
          (λ more.
          replying_ceased config whose octets (drop count piece) mid updates update (said ++ reply_of old (step_with old piece)) follows w over spoke.said_is
          (fed_established config whose octets piece old said mid count update f (step_with old piece) refl (b.does f.alive).0) more
          ∙ append_assoc said (reply_of old (step_with old piece)) (reply_at too_many));
    }

-- the session was closed
pub replies_closed : (peer : ℕ) (old new : Live) (table : Held) (replies replies' piece : List ℕ) (why : Closed)
    → (old.closed ≡ None → CloseIs (step_with old piece) why × (replies' ≡ replies ++ reply_at why)) → (why ≡ Memory → ⊥) → new.closed ≡ Some why
    → RepliesMessage peer old new table replies replies' piece None
replies_closed peer old new table replies replies' piece why did n closed = λ config whose octets updates said f w l k s. record {
  more = reply_at why;
  grows = (did f.alive).1;
  replied =
      subst (λ (o : Option Closed). HasReplied config whose octets new o (said ++ reply_at why)) (sym closed)
      (replying_closed config whose octets piece old said why f w s (close_is (step_with old piece) why n (did f.alive).0));
}

-- nothing is left of the piece
pub replies_nothing : (peer : ℕ) (session : Live) (table : Held) (replies piece : List ℕ) → (length piece == 0) ≡ true
    → RepliesMessage peer session session table replies replies piece None
replies_nothing peer session table replies piece h = λ config whose octets updates said f w l k s. record {
  more = [];
  grows = sym (append-nil replies);
  replied =
      subst (λ (z : List ℕ). HasReplied config whose octets session session.closed z) (sym (append-nil said))
      (subst (λ (o : Option Closed). HasReplied config whose octets session o said) (sym f.alive)
      (subst (λ (z : List ℕ). IsReplying config whose octets z session said) (nil_from_length piece (grind (arith, nat_tests, h))) s));
}

-- before the first octet of a piece
pub replying_none : (config : Config) (whose : Peer) (peer : ℕ) (octets piece : List ℕ) (session : Live) (table : Held) (replies : List ℕ)
    → IsUp config whose peer octets session table → session.closed ≡ None
    → IsReplyingMore config whose (octets ++ piece) piece session (bounded_replies_from config whose octets) replies replies
replying_none config whose peer octets piece session table replies s open_ = record {
  more = [];
  grows = sym (append-nil replies);
  replied =
      subst (λ (z : List ℕ). IsReplying config whose (octets ++ piece) piece session z) (sym (append-nil (bounded_replies_from config whose octets)))
      (replying_piece config whose octets piece session (bounded_replies_from config whose octets)
      (subst (λ (o : Option Closed). HasReplied config whose octets session o (bounded_replies_from config whose octets)) open_ s.replied));
}

-- one message more
pub replying_more : {config : Config} {whose : Peer} {octets rest rest' : List ℕ} {session new : Live} {said first replies replies' : List ℕ}
    → (s : IsReplyingMore config whose octets rest session said first replies)
    → IsReplyingMore config whose octets rest' new (said ++ s.more) replies replies' → IsReplyingMore config whose octets rest' new said first replies'
replying_more {config} {whose} {octets} {rest} {rest'} {session} {new} {said} {first} s t = record {
  more = s.more ++ t.more;
  grows = t.grows ∙ ap (λ (z : List ℕ). z ++ t.more) s.grows ∙ append_assoc first s.more t.more;
  replied = subst (λ (z : List ℕ). IsReplying config whose octets rest' new z) (append_assoc said s.more t.more) t.replied;
}

-- and all
pub replying_all : {config : Config} {whose : Peer} {octets rest : List ℕ} {session new : Live} {said first replies replies' : List ℕ}
    → (s : IsReplyingMore config whose octets rest session said first replies)
    → HasRepliedMore config whose octets new (said ++ s.more) replies replies' → HasRepliedMore config whose octets new said first replies'
replying_all {config} {whose} {octets} {rest} {session} {new} {said} {first} s t = record {
  more = s.more ++ t.more;
  grows = t.grows ∙ ap (λ (z : List ℕ). z ++ t.more) s.grows ∙ append_assoc first s.more t.more;
  replied = subst (λ (z : List ℕ). HasReplied config whose octets new new.closed z) (append_assoc said s.more t.more) t.replied;
}

-- so a piece is replied to
pub replied_to : (config : Config) (whose : Peer) (octets piece : List ℕ) (new : Live) (updates : List Update) (first replies' : List ℕ)
    → IsFed config whose (octets ++ piece) new new.closed updates
    → HasRepliedMore config whose (octets ++ piece) new (bounded_replies_from config whose octets) first replies'
    → RepliesTo config whose octets piece first replies'
replied_to config whose octets piece new updates first replies' fed t =
    (t.more, t.grows, replied_all config whose (octets ++ piece) new new.closed updates (bounded_replies_from config whose octets ++ t.more) fed t.replied)

-- octets for a closed session are not answered
pub replied_ended : (config : Config) (whose : Peer) (peer : ℕ) (octets piece : List ℕ) (session : Live) (table : Held) (replies : List ℕ)
    → is_some session.closed ≡ true → IsUp config whose peer octets session table → RepliesTo config whose octets piece replies replies
replied_ended config whose peer octets piece session table replies h s =
    let found = some_there session.closed h in
    let said : HasReplied config whose octets session (Some found.0) (bounded_replies_from config whose octets) =
    subst (λ (o : Option Closed). HasReplied config whose octets session o (bounded_replies_from config whose octets)) found.1 s.replied in
    ([], sym (append-nil replies), said piece ∙ sym (append-nil (bounded_replies_from config whose octets)))

-- in any case what was replied before still stands
pub extends_none : (replies : List ℕ) → Extends replies replies
extends_none replies = ([], sym (append-nil replies))

pub extends_then : (first mid last : List ℕ) → Extends first mid → Extends mid last → Extends first last
extends_then first mid last g h = (g.0 ++ h.0, h.1 ∙ ap (λ (z : List ℕ). z ++ h.0) g.1 ∙ append_assoc first g.0 h.0)

-- where a call closed the session, or it was closed before
pub extends_fed : (closed : Option Closed) (old new : Live) (result : Result (ℕ × Option Update) Closed) (replies replies' more : List ℕ)
    → IfSome closed (λ why. (result ≡ Err why) × (new ≡ old) × (replies' ≡ replies)) → (closed ≡ None → replies' ≡ replies ++ more) → Extends replies replies'
extends_fed None old new result replies replies' more again did = (more, did refl)
extends_fed (Some why) old new result replies replies' more again did = ([], again.2 ∙ sym (append-nil replies))
