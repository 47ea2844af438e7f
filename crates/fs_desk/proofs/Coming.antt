-- What a session is still to come to with a piece, message by message.
use Rattle.fs_desk.proofs.Words.{◌≡◌, ◌==◌, ℕ, max, List, [], ◌++◌, drop, length, true, Option, Some, None, refl, ap, sym, ◌∙◌, append_assoc}
use Rattle.fs_desk.proofs.Words.{append-nil, subst, arith, nat_tests, nil_from_length, Config, Peer, pending, Update, Held, Closed, Times, Phase}
use Rattle.fs_desk.proofs.Words.{Handed, with_taken, runs_by, Step, waits, takes, stops, Live, Does, reply_of, step_with, receiver, at_moment}
use Rattle.fs_desk.proofs.Words.{taken_in, Machine, runs_takes, Comes, ComesOpen, MessageComes, TakesUpdate, comes_to}
use Rattle.fs_desk.proofs.{Follows.{all_gone}, Pieces.{Brings}}

-- the greatest moment so far moves nothing
pub at_greatest : (now : Times) → at_moment now.greatest now ≡ now
at_greatest now = ap (λ (n : ℕ). let t : Times = record { greatest = n; taken = now.taken; written = now.written } in t) (same now.greatest)
  where
    same : (n : ℕ) → max n n ≡ n
    same n = omega arith

-- nothing is said, and nothing is taken
pub comes_none : (session : Live) (octets replies : List ℕ) → Comes session octets session octets replies replies
comes_none session octets replies = record { more = []; grows = sym (append-nil replies); text = refl; point_is = refl }

pub comes_then : (old mid new : Live) (octets between rest a b c : List ℕ) → Comes old octets mid between a b → Comes mid between new rest b c
    → Comes old octets new rest a c
comes_then old mid new octets between rest a b c first later = record {
  more = first.more ++ later.more;
  grows = later.grows ∙ ap (λ (z : List ℕ). z ++ later.more) first.grows ∙ append_assoc a first.more later.more;
  text = first.text ∙ ap (λ (z : List ℕ). first.more ++ z) later.text ∙ sym (append_assoc first.more later.more (comes_to new rest).text);
  point_is = first.point_is ∙ later.point_is;
}

module _ {old new : Live} {piece : List ℕ} {count : ℕ} {update : Option Update} {replies replies' : List ℕ}
    (b : Brings old new piece count update replies replies') where
  abbrev machine : Machine
  machine = receiver old.config old.peer

  -- what is still to come, by the parts of the session
  comes_of : (octets : List ℕ) (now : Phase) (times : Times) (rest : List ℕ) → new.phase ≡ now → new.times ≡ times → pending new.framing ≡ octets
      → comes_to new rest ≡ runs_by machine now times (octets ++ rest)
  comes_of octets now times rest p t f =
      ap (λ (c : Config). runs_by (receiver c new.peer) new.phase new.times (pending new.framing ++ rest)) b.config_is
      ∙ ap (λ (q : Peer). runs_by (receiver old.config q) new.phase new.times (pending new.framing ++ rest)) b.peer_is
      ∙ ap (λ (s : Phase). runs_by machine s new.times (pending new.framing ++ rest)) p
      ∙ ap (λ (s : Times). runs_by machine now s (pending new.framing ++ rest)) t
      ∙ ap (λ (z : List ℕ). runs_by machine now times (z ++ rest)) f

  -- a message was taken, or the octets wait
  comes_by : (step : Step) → step_with old piece ≡ step → Does step old new piece count update → replies' ≡ replies ++ reply_of old step
      → Comes old piece new (drop count piece) replies replies'
  comes_by waits h did r = record { more = []; grows = r; text = ap (λ (m : Handed). m.text) same; point_is = ap (λ (m : Handed). m.point) same }
    where
      same : comes_to old piece ≡ comes_to new (drop count piece)
      same =
          ap (λ (z : List ℕ). runs_by machine old.phase old.times z) (sym (append-nil (pending old.framing ++ piece)))
          ∙ ap (λ (z : List ℕ). runs_by machine old.phase old.times ((pending old.framing ++ piece) ++ z)) (sym (all_gone piece count did.0))
          ∙ sym (comes_of (pending old.framing ++ piece) old.phase old.times (drop count piece) did.2 (did.4 ∙ at_greatest old.times) did.1)
  comes_by (takes next taken behind) h did r = record {
    more = machine.answer old.phase.state;
    grows = r;
    text = ap (λ (m : Handed). m.text) front;
    point_is = ap (λ (m : Handed). m.point) front;
  }
    where
      later : comes_to new (drop count piece) ≡ runs_by machine next (taken_in old.phase.state old.times) (behind ++ [])
      later =
          comes_of [] next (taken_in old.phase.state old.times) (drop count piece) did.3 (did.5 ∙ ap (taken_in old.phase.state) (at_greatest old.times)) did.2
          ∙ ap (runs_by machine next (taken_in old.phase.state old.times)) (sym did.1 ∙ sym (append-nil behind))

      front : comes_to old piece ≡ with_taken (machine.answer old.phase.state) taken (comes_to new (drop count piece))
      front =
          ap (λ (z : List ℕ). runs_by machine old.phase old.times z) (sym (append-nil (pending old.framing ++ piece)))
          ∙ runs_takes machine old.phase next old.times taken (pending old.framing ++ piece) behind [] h
          ∙ ap (with_taken (machine.answer old.phase.state) taken) (sym later)
  comes_by (stops why) h did r = absurd did

  pub comes_fed : old.closed ≡ None → Comes old piece new (drop count piece) replies replies'
  comes_fed h = comes_by (step_with old piece) refl (b.does h).0 (b.does h).1

-- the rest that a session, which goes on, has taken a part of
pub comes_all : (old mid new : Live) (octets rest a b c : List ℕ) → Comes old octets mid rest a b → MessageComes mid new rest b c None
    → new.closed ≡ None → Comes old octets new [] a c
comes_all old mid new octets rest a b c first last alive =
    let l = last alive in
    subst (λ (s : Live). Comes old octets s [] a c) (sym l.1)
    (subst (λ (z : List ℕ). Comes old octets mid [] a z) (sym l.2)
    (subst (λ (z : List ℕ). Comes old octets mid z a b) l.0 first))

-- a closed session comes to nothing more
pub comes_shut : {P : Type 0} (session : Live) (why : Closed) → session.closed ≡ Some why → session.closed ≡ None → P
comes_shut session why shut alive = absurd (never (sym shut ∙ alive))
  where
    never : Some why ≡ None → ⊥
    never h = cc

-- an update that was applied leaves the session as it is
pub comes_applied : {peer : ℕ} {old mid new : Live} {table table' : Held} {a b c piece : List ℕ} {count : ℕ} {update : Update}
    → Brings old mid piece count (Some update) a b → TakesUpdate peer update mid new table table' b c true → ComesOpen old new piece a c (Some count)
comes_applied {peer} {old} {mid} {new} {table} {table'} {a} {b} {c} {piece} {count} brings t h = (
  ap (λ (s : Live). s.closed) (t.stays refl).0 ∙ brings.alive,
  subst (λ (s : Live). Comes old piece s (drop count piece) a c) (sym (t.stays refl).0)
      (subst (λ (z : List ℕ). Comes old piece mid (drop count piece) a z) (sym (t.stays refl).2) (comes_fed brings h)),
)

-- nothing is left of the piece
pub comes_nothing : (session : Live) (piece replies : List ℕ) → (length piece == 0) ≡ true → MessageComes session session piece replies replies None
comes_nothing session piece replies h alive = (nil_from_length piece (grind (arith, nat_tests, h)), refl, refl)
