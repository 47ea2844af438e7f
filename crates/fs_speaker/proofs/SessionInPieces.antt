-- What a session comes to that is handed on, in pieces, and that a front of the octets closed.
use Rattle.fs_speaker.proofs.Words.{◌≡◌, ℕ, List, [], ◌++◌, Option, Some, None, refl, ap, sym, ◌∙◌, subst, append_assoc, Update, Handed, Point, hand}
use Rattle.fs_speaker.proofs.Words.{runs_by, Last, at_start, closed, still, session_by, with_update, at_moment, tick_at, Machine, Closed, Tick, Quiet}
use Rattle.fs_speaker.proofs.Words.{Keeps, Expires, Times, Phase, hand_each, open_hand, both_by, last_of, session_seen, ticked, ticks}
use Rattle.fs_speaker.proofs.Waking.{open_not, hand_stays, tick_each}
use Rattle.fs_speaker.specs.JointLaws.{taken_in as octets_in}

-- an update more changes nothing of what the session comes to
pub last_update : (update : Option Update) (played : List Update × Last) → (with_update update played).1 ≡ played.1
last_update None played = refl
last_update (Some update) played = refl

module _ (machine : Machine) where
  abbrev pub last_by : Phase → List ℕ → Last
  last_by now octets = (session_by machine now octets).1

  -- what it comes to of an end that was handed octets, and of more behind them
  abbrev pub goes_at : List ℕ → Point → Option Closed → Last
  goes_at more now how = elim how [ Some why ↦ closed why | None ↦ last_by now.phase (now.waiting ++ more) ]

  abbrev pub goes_on : List ℕ → Handed → Last
  goes_on more made = goes_at more made.point made.point.closed

  module _ (more : List ℕ) where
    last_goes : (now : Point) → last_of (hand machine 0 now more).point ≡ goes_at more now now.closed
    last_goes now =
        hand_each machine 0 now more (λ made. last_of made.point ≡ goes_at more now now.closed)
        (λ e. sym (ap (λ (z : List Update × Last). z.1) (session_seen machine now.phase (at_moment 0 now.times) (now.waiting ++ more)))
        ∙ sym (ap (goes_at more now) e))
        (λ why e. ap (λ (o : Option Closed). elim o [ Some w ↦ closed w | None ↦ still now.phase ]) e ∙ sym (ap (goes_at more now) e))

    pub goes_by : (now : Phase) (times : Times) (octets : List ℕ) → last_by now (octets ++ more) ≡ goes_on more (runs_by machine now times octets)
    goes_by now times octets = ap (λ (z : List Update × Last). z.1) (both_by machine more 0 now times octets).0
        ∙ last_goes (runs_by machine now times octets).point

  -- An end that is open goes on from where it stands.
  pub record Follows (octets : List ℕ) (now : Point) : Type 0 where
    pub goes : now.closed ≡ None → (more : List ℕ) → (session_by machine at_start (octets ++ more)).1 ≡ (session_by machine now.phase (now.waiting ++ more)).1

  follows_hand : (octets piece more : List ℕ) (now : Point) (moment : ℕ) → now.closed ≡ None → Follows octets now
      → (session_by machine at_start ((octets ++ piece) ++ more)).1 ≡ goes_on more (hand machine moment now piece)
  follows_hand octets piece more now moment e f =
      ap (λ (z : List ℕ). last_by at_start z) (append_assoc octets piece more) ∙ f.goes e (piece ++ more)
      ∙ ap (λ (z : List ℕ). last_by now.phase z) (sym (append_assoc now.waiting piece more))
      ∙ goes_by more now.phase (at_moment moment now.times) (now.waiting ++ piece)
      ∙ sym (ap (goes_on more) (open_hand machine moment now piece e))

  -- a piece
  pub follows_piece : (octets piece : List ℕ) (now : Point) (moment : ℕ) (how : Option Closed) → now.closed ≡ how → Follows octets now
      → Follows (octets ++ octets_in how piece) (hand machine moment now piece).point
  follows_piece octets piece now moment None e f = record {
    goes = λ o more.
        follows_hand octets piece more now moment e f ∙ ap (goes_at more (hand machine moment now piece).point) o;
  }
  follows_piece octets piece now moment (Some why) e f = record { goes = λ o. absurd (open_not why (sym (hand_stays machine moment now piece why e) ∙ o)) }

  -- a piece that closes it closes the session, whatever follows
  closes_for : (octets piece more : List ℕ) (now : Point) (moment : ℕ) (why : Closed) → now.closed ≡ None → Follows octets now
      → (hand machine moment now piece).point.closed ≡ Some why → (session_by machine at_start ((octets ++ piece) ++ more)).1 ≡ closed why
  closes_for octets piece more now moment why e f h = follows_hand octets piece more now moment e f ∙ ap (goes_at more (hand machine moment now piece).point) h

  -- how it has then closed: as it had, not at all, or as the session of all octets does
  pub closes_by : (P : Option Closed → Type 0) (octets piece more all : List ℕ) (now : Point) (moment : ℕ) → P now.closed → P None
      → ((why : Closed) → (session_by machine at_start all).1 ≡ closed why → P (Some why)) → Follows octets now
      → (octets ++ octets_in now.closed piece) ++ more ≡ all
      → P (hand machine moment now piece).point.closed
  closes_by P octets piece more all now moment kept opened shut f front = by now.closed refl
    where
      made_by : now.closed ≡ None → (made : Option Closed) → (hand machine moment now piece).point.closed ≡ made → P made
      made_by o None e = opened
      made_by o (Some why) e =
          shut why (ap (λ (z : List ℕ). (session_by machine at_start z).1) (sym front ∙ ap (λ (how : Option Closed). (octets ++ octets_in how piece) ++ more) o)
          ∙ closes_for octets piece more now moment why o f e)

      by : (how : Option Closed) → now.closed ≡ how → P (hand machine moment now piece).point.closed
      by None o = made_by o (hand machine moment now piece).point.closed refl
      by (Some why) e = subst P (e ∙ sym (hand_stays machine moment now piece why e)) kept

  pub follows_none : (octets : List ℕ) (now : Point) → Follows octets now → Follows (octets ++ []) now
  follows_none octets now f = record { goes = λ o more. ap (λ (z : List ℕ). last_by at_start z) (append_assoc octets [] more) ∙ f.goes o more }

  -- the clock
  pub follows_tick : (octets : List ℕ) (now : Point) (moment : ℕ) → Follows octets now → Follows (octets ++ []) (ticked moment now).point
  follows_tick octets now moment f =
      tick_each moment now (λ made. Follows (octets ++ []) made.point) (due (tick_at now.phase.hold (at_moment moment now.times))) (λ why e. same)
    where
      same : Follows (octets ++ []) now
      same = follows_none octets now f

      due : (tick : Tick) → now.closed ≡ None → Follows (octets ++ []) (ticks tick now.waiting now.phase (at_moment moment now.times)).point
      due Quiet e = record { goes = λ o more. same.goes e more }
      due Keeps e = record { goes = λ o more. same.goes e more }
      due Expires e = record { goes = λ o more. absurd cc }

  pub follows_first : (now : Point) → now.phase ≡ at_start → now.waiting ≡ [] → Follows [] now
  follows_first now p w = record {
    goes = λ o more. ap (λ (q : Phase). last_by q more) (sym p) ∙ ap (λ (z : List ℕ). last_by now.phase (z ++ more)) (sym w);
  }
