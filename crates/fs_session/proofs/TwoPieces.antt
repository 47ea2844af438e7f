-- Octets that are handed in two pieces, at whatever moments, give what they give at once.
use Rattle.fs_session.proofs.Words.{◌≡◌, ℕ, List, [], ◌∷◌, ◌++◌, Option, Some, None, Ok, Err, refl, sym, ap, ◌∙◌, append_assoc, append-nil, parts_of}
use Rattle.fs_session.proofs.Words.{parts_append, MessageFault, Message, first_message, wrong_at, message_shrinks, message_stable, fault_stays}
use Rattle.fs_session.proofs.Words.{Update, Times, no_times, at_moment, Machine, Phase, transition_by, at_fault, Last, rest_closes, with_update}
use Rattle.fs_session.proofs.Words.{plays, session_by, reply_rest, replies, replies_by, Handed, Point, point, rests, runs, runs_by, with_taken, hand}
use Rattle.fs_session.proofs.MessageRuns.{Transition, open_hand, runs_each, wrong_first}
use Rattle.fs_session.proofs.SessionSteps.{going, plays_step, session_rest, answered, replies_step, last_of, session_seen, replies_seen, runs_updates}
use Rattle.fs_session.proofs.ReplySteps.{replies_rest}

module _ (machine : Machine) (more : List ℕ) (later : ℕ) where
  -- the messages and the fault of a rest with more octets behind it
  abbrev next_messages : List ℕ → List Message
  next_messages rest = (parts_of first_message (rest ++ more)).0

  abbrev next_wrong : List ℕ → Option MessageFault
  next_wrong rest = wrong_at (parts_of first_message (rest ++ more)).1

  -- what it takes and says of both, and where it then stands
  abbrev pub both_seen : Handed → List Update × Last
  both_seen first = (first.updates ++ (hand machine later first.point more).updates, last_of (hand machine later first.point more).point)

  abbrev pub both_texts : Handed → List ℕ
  both_texts first = first.text ++ (hand machine later first.point more).text

  more_seen : (answer : List ℕ) (update : Option Update) (first : Handed) → with_update update (both_seen first) ≡ both_seen (with_taken answer update first)
  more_seen answer None first = refl
  more_seen answer (Some update) first = refl

  both_rest : (now : Phase) (times : Times) (rest : List ℕ) (wrong : Option MessageFault) → wrong_at rest ≡ wrong
      → (session_by machine now (rest ++ more) ≡ both_seen (rests machine now times rest wrong))
      × (replies_by machine now (rest ++ more) ≡ both_texts (rests machine now times rest wrong))
  both_rest now times rest None h =
      (session_seen machine now (at_moment later times) (rest ++ more), replies_seen machine now (at_moment later times) (rest ++ more))
  both_rest now times rest (Some fault) h =
      let stays = fault_stays rest more fault h in
      let none = wrong_first (rest ++ more) fault stays in (
        session_rest machine now (rest ++ more) none ∙ ap (λ (w : Option MessageFault). ([], rest_closes now w)) stays,
        replies_rest machine now (rest ++ more) none ∙ ap (reply_rest machine) stays ∙ sym (append-nil (reply_rest machine (Some fault))),
      )

  both_join : (messages : List Message) (now : Phase) (times : Times) (rest : List ℕ)
      → (plays machine now (messages ++ next_messages rest) (next_wrong rest) ≡ both_seen (runs machine now times messages rest (wrong_at rest)))
      × (replies machine now (messages ++ next_messages rest) (next_wrong rest) ≡ both_texts (runs machine now times messages rest (wrong_at rest)))
  both_join messages now times rest =
      runs_each machine rest (wrong_at rest)
      (λ now messages made. (plays machine now (messages ++ next_messages rest) (next_wrong rest) ≡ both_seen made)
      × (replies machine now (messages ++ next_messages rest) (next_wrong rest) ≡ both_texts made))
      (λ now times. both_rest now times rest (wrong_at rest) refl)
      (λ now times message messages why t. (
        step now message messages (Err why) t,
        answer now message messages (Err why) t
            ∙ sym (append-nil (at_fault machine.farewell why)),
      ))
      (λ now next update message messages first t join. (
        step now message messages (Ok (next, update)) t ∙ ap (with_update update) join.0 ∙ more_seen (machine.answer now.state) update first,
        answer now message messages (Ok (next, update)) t ∙ ap (λ (z : List ℕ). machine.answer now.state ++ z) join.1
            ∙ sym (append_assoc (machine.answer now.state) first.text (hand machine later first.point more).text),
      ))
      messages now times
    where
      step : (now : Phase) (message : Message) (messages : List Message) (made : Transition) → transition_by machine now message ≡ made
          → plays machine now ((message ∷ messages) ++ next_messages rest) (next_wrong rest)
          ≡ going made (λ next. plays machine next (messages ++ next_messages rest) (next_wrong rest))
      step now message messages made t =
          plays_step machine now message (messages ++ next_messages rest) (next_wrong rest)
          ∙ ap (λ (u : Transition). going u (λ next. plays machine next (messages ++ next_messages rest) (next_wrong rest))) t

      answer : (now : Phase) (message : Message) (messages : List Message) (made : Transition) → transition_by machine now message ≡ made
          → replies machine now ((message ∷ messages) ++ next_messages rest) (next_wrong rest)
          ≡ answered machine now made (λ next. replies machine next (messages ++ next_messages rest) (next_wrong rest))
      answer now message messages made t =
          replies_step machine now message (messages ++ next_messages rest) (next_wrong rest)
          ∙ ap (λ (u : Transition). answered machine now u (λ next. replies machine next (messages ++ next_messages rest) (next_wrong rest))) t

  -- octets, and then more
  pub both_by : (now : Phase) (times : Times) (octets : List ℕ)
      → (session_by machine now (octets ++ more) ≡ both_seen (runs_by machine now times octets))
      × (replies_by machine now (octets ++ more) ≡ both_texts (runs_by machine now times octets))
  both_by now times octets =
      let parts = parts_append first_message message_shrinks message_stable octets more in
      let join = both_join (parts_of first_message octets).0 now times (parts_of first_message octets).1 in (
        ap (λ (parts : List Message × List ℕ). plays machine now parts.0 (wrong_at parts.1)) parts ∙ join.0,
        ap (λ (parts : List Message × List ℕ). replies machine now parts.0 (wrong_at parts.1)) parts ∙ join.1,
      )

-- two pieces, and then their octets
pub both_hands : (machine : Machine) (now : Point) (moment later : ℕ) (piece more : List ℕ) → now.closed ≡ None
    → (session_by machine now.phase (now.waiting ++ (piece ++ more))).0
    ≡ (hand machine moment now piece).updates ++ (hand machine later (hand machine moment now piece).point more).updates
both_hands machine now moment later piece more h =
    ap (λ (z : List ℕ). (session_by machine now.phase z).0) (sym (append_assoc now.waiting piece more))
    ∙ ap (λ (z : List Update × Last). z.0) (both_by machine more later now.phase (at_moment moment now.times) (now.waiting ++ piece)).0
    ∙ sym (ap (λ (m : Handed). (both_seen machine more later m).0) (open_hand machine moment now piece h))

pub both_answers : (machine : Machine) (now : Point) (moment later : ℕ) (piece more : List ℕ) → now.closed ≡ None
    → replies_by machine now.phase (now.waiting ++ (piece ++ more))
    ≡ (hand machine moment now piece).text ++ (hand machine later (hand machine moment now piece).point more).text
both_answers machine now moment later piece more h =
    ap (replies_by machine now.phase) (sym (append_assoc now.waiting piece more))
    ∙ (both_by machine more later now.phase (at_moment moment now.times) (now.waiting ++ piece)).1
    ∙ sym (ap (both_texts machine more later) (open_hand machine moment now piece h))

-- the updates of the octets in front come first
pub front_first : (machine : Machine) (now : Phase) (front behind : List ℕ)
    → (rest : List Update) × ((session_by machine now (front ++ behind)).0 ≡ (session_by machine now front).0 ++ rest)
front_first machine now front behind =
    let start : Point = point [] now no_times None in
    let first : Handed = hand machine 0 start front in
    let later : List Update = (hand machine 0 first.point behind).updates in
    (later, both_hands machine start 0 0 front behind refl ∙ ap (λ (z : List Update). z ++ later) (runs_updates machine now (at_moment 0 no_times) front))
