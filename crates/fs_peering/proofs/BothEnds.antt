-- What two ends that are joined know of each other.
use Rattle.fs_peering.proofs.Words.{CanArrive, ComesBack, Config, Established, Last, Machine, Message, MessageFault, Open, Peer, Phase, Sending, Sent}
use Rattle.fs_peering.proofs.Words.{Update, UpdateFault, WaitKeep, WaitOpen, as_update, at_start, body_by, first_message, message_text, open_body}
use Rattle.fs_peering.proofs.Words.{open_of, open_sent, opened, phase, receiver, reply_to, session_by, session_from, still, terms_of, text_sent}
use Rattle.fs_peering.proofs.Words.{transition_by, update_sent, updates, with_update, ◌≡◌, ◌⊎◌, inl, inr, ℕ, List, [], ◌∷◌, ◌++◌, length, map, min}
use Rattle.fs_peering.proofs.Words.{Bool, true, Option, Some, None, Result, Ok, Err, refl, ap, sym, ◌∙◌, subst, append_assoc, arith, AllByRecursion}
use Rattle.fs_peering.proofs.Words.{none-some, open_read, message_stable, text_first, at_most, body_long, one_message, open_fits, update_fits}
use Rattle.fs_peering.proofs.Words.{machine_waits, Pieces, course_of, TookOpen, rules_in, woven}
use Rattle.fs_peering.proofs.{Courses.{keepalives}, Replying.{replies}}
use Rattle.fs_message.specs.Laws.{own_open}

module _ (config : Config) (whose : Peer) where
  -- the receiving end, while it is open, has said nothing, or what it said begins with the answer to the OPEN
  pub answers : (heard : Pieces) → (course_of config whose heard).point.closed ≡ None
      → ((course_of config whose heard).text ≡ []) ⊎ ((more : List ℕ) × ((course_of config whose heard).text ≡ reply_to config WaitOpen ++ more))
  answers heard alive = by (replies config whose heard alive)
    where
      by : ((course_of config whose heard).text ≡ []) ⊎ ((n : ℕ) × ((course_of config whose heard).text ≡ reply_to config WaitOpen ++ keepalives n))
          → ((course_of config whose heard).text ≡ []) ⊎ ((more : List ℕ) × ((course_of config whose heard).text ≡ reply_to config WaitOpen ++ more))
      by (inl none) = inl none
      by (inr m) = inr (keepalives m.0, m.1)

  -- an OPEN that was taken of what the receiving end said is its own: AS numbers have four octets
  pub meets : (sending : Sending) (four : Bool) (octets left said : List ℕ) → CanArrive config whose sending → TookOpen config four octets
      → said ≡ octets ++ left
      → (said ≡ []) ⊎ ((more : List ℕ) × (said ≡ reply_to config WaitOpen ++ more)) → four ≡ true
  meets sending four octets left said can t split form = by form
    where
      here : first_message said ≡ Some (t.message, t.behind ++ left)
      here = ap first_message split ∙ message_stable octets left (t.message, t.behind) t.first

      by : (said ≡ []) ⊎ ((more : List ℕ) × (said ≡ reply_to config WaitOpen ++ more)) → four ≡ true
      by (inl none) = absurd (none-some (t.message, t.behind ++ left) (sym (ap first_message none) ∙ here))
      by (inr m) =
          let body : List ℕ = open_body config.local_as config.hold_time config.local_id in
          let own : Message = record { kind = 1; body = body } in
          let first : first_message said ≡ Some (own, message_text 4 [] ++ m.0) =
          ap first_message (m.1 ∙ append_assoc (message_text 1 body) (message_text 4 []) m.0)
          ∙ text_first 1 body (message_text 4 [] ++ m.0) (omega arith) (omega arith) refl (omega arith) in
          let same : t.message ≡ own = ap (λ (o : Option (Message × List ℕ)). elim o [ None ↦ own | Some f ↦ f.0 ]) (sym here ∙ first) in
          let read : Ok t.found ≡ Ok (own_open config.local_as config.hold_time config.local_id) =
          sym t.read ∙ ap (λ (z : Message). open_of config.local_as z.body) same
          ∙ open_read config.local_as config.hold_time config.local_id can.own.asn.small can.own.hold_time.small can.own.id.small can.own.asn.some
          can.own.hold_time.not_one can.own.hold_time.not_two can.own.id.some in
          t.four_is ∙ ap (λ (r : Result Open MessageFault). elim r [ Ok found ↦ found.four | Err fault ↦ true ]) read

module _ (config : Config) (peer : Peer) (sending : Sending) where
  abbrev established : ℕ → Phase
  established hold = phase Established true hold

  -- of KEEPALIVEs and UPDATEs the receiving end takes the rules' updates
  parts_taken : (hold : ℕ) (parts : List (Option Sent)) → AllByRecursion (ComesBack config peer sending) (rules_in parts)
      → session_by (receiver config peer) (established hold) (woven (text_sent config peer true sending) parts)
      ≡ (map (update_sent config peer sending) (rules_in parts), still (established hold))
  parts_taken hold [] h = machine_waits (receiver config peer) (established hold) [] refl
  parts_taken hold (None ∷ parts) h =
      one_message (receiver config peer) (established hold) (established hold) None 4 [] (woven (text_sent config peer true sending) parts)
      (omega arith) (omega arith) refl (omega arith) refl
      ∙ parts_taken hold parts h
  parts_taken hold (Some sent ∷ parts) h =
      let body : List ℕ = body_by (terms_of config peer true) sending.as_path sent in
      one_message (receiver config peer) (established hold) (established hold) (Some (update_sent config peer sending sent)) 2 body
      (woven (text_sent config peer true sending) parts)
      (omega arith) (omega arith) (update_fits (length body) (body_long config peer sending sent)) (at_most (length body) h.0.short)
      (ap (λ (r : Result Update UpdateFault). updates (established hold) (as_update r)) h.0.read)
      ∙ ap (λ (later : List Update × Last). with_update (Some (update_sent config peer sending sent)) later) (parts_taken hold parts h.1)

  pub least : (n : ℕ) → min n n ≡ n
  least n = omega arith

  -- the announcing end's OPEN
  abbrev pub own_message : Message
  own_message = record { kind = 1; body = open_body peer.asn config.hold_time sending.id }

  -- the receiving end takes it
  pub peer_opens : CanArrive config peer sending → transition_by (receiver config peer) at_start own_message ≡ Ok (phase WaitKeep true config.hold_time, None)
  peer_opens can =
      ap (λ (r : Result Open MessageFault). opened (receiver config peer) r)
      (open_read peer.asn config.hold_time sending.id can.asn.small can.own.hold_time.small can.id.small can.asn.some can.own.hold_time.not_one
      can.own.hold_time.not_two can.id.some)
      ∙ ap (λ (n : ℕ). Ok (phase WaitKeep true n, None)) (least _)

  -- it is the first message
  pub open_first : (rest : List ℕ) → first_message (open_sent config peer sending ++ rest) ≡ Some (own_message, rest)
  open_first rest =
      let fits = open_fits (length (open_body peer.asn config.hold_time sending.id)) refl in
      text_first 1 (open_body peer.asn config.hold_time sending.id) rest (omega arith) (omega arith) fits.0 fits.1

  -- so of what the announcing end says, whichever rules are among it
  pub parts_arrive : (parts : List (Option Sent)) → CanArrive config peer sending → AllByRecursion (ComesBack config peer sending) (rules_in parts)
      → session_from config peer at_start (open_sent config peer sending ++ woven (text_sent config peer true sending) (None ∷ parts))
      ≡ (map (update_sent config peer sending) (rules_in parts), still (established config.hold_time))
  parts_arrive parts can read =
      let machine : Machine = receiver config peer in
      let hold : ℕ = config.hold_time in
      let body : List ℕ = open_body peer.asn hold sending.id in
      let rest : List ℕ = woven (text_sent config peer true sending) parts in
      let fits = open_fits (length body) refl in
      one_message machine at_start (phase WaitKeep true hold) None 1 body (message_text 4 [] ++ rest) (omega arith) (omega arith) fits.0 fits.1 (peer_opens can)
      ∙ one_message machine (phase WaitKeep true hold) (established hold) None 4 [] rest (omega arith) (omega arith) refl (omega arith) refl
      ∙ parts_taken _ _ read

  -- and of all rules
  pub all_arrive : (parts : List (Option Sent)) → CanArrive config peer sending → rules_in parts ≡ sending.rules
      → session_from config peer at_start (open_sent config peer sending ++ woven (text_sent config peer true sending) (None ∷ parts))
      ≡ (map (update_sent config peer sending) sending.rules, still (established config.hold_time))
  all_arrive parts can e =
      parts_arrive _ can (subst (AllByRecursion (ComesBack config peer sending)) (sym e) can.read)
      ∙ ap (λ (r : List Sent). (map (update_sent config peer sending) r, still (established config.hold_time))) e
