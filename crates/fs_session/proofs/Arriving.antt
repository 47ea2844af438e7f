-- What an announcing end says, at the receiving end.
use Rattle.fs_session.proofs.Words.{◌≡◌, ◌≢◌, ℕ, ◌+◌, ◌^◌, ◌<◌, ◌≤◌, true, nat_le, List, [], ◌∷◌, ◌++◌, length, min, Option, Some, None, Result, Ok}
use Rattle.fs_session.proofs.Words.{refl, sym, ap, ◌∙◌, arith, append-nil, map, length-append, flat_map, AllByRecursion, nat_tests, Config, Peer}
use Rattle.fs_session.proofs.Words.{MessageFault, Open, Message, Update, UpdateFault, update_of, attribute_text, long_text, written_attributes}
use Rattle.fs_session.proofs.Words.{big_bytes, WaitKeep, Established, Sent, Sending, ComesBack, said_by, step_by, body_by, update_by, update_sent}
use Rattle.fs_session.proofs.Words.{text_sent, Last, at_start, still, with_update, session_by, session_from, receiver, as_update, Machine, Phase}
use Rattle.fs_session.proofs.Words.{phase, opened, updates, transition_by, terms_of}
use Rattle.fs_session.proofs.SessionSteps.{machine_takes, machine_waits, step_found}
use Rattle.fs_message.{specs.{Header.{allows}, Write.{message_text, open_body}}, proofs.{TextFirst.{text_first}, OpenReadBack.{open_read}}}

-- a message of a text is taken, and the session goes on behind it
pub one_message : (machine : Machine) (now next : Phase) (update : Option Update) (kind : ℕ) (body more : List ℕ) → 1 ≤ kind → kind ≤ 5
    → allows kind (19 + length body) ≡ true → 19 + length body ≤ 4096 → transition_by machine now (record { kind = kind; body = body }) ≡ Ok (next, update)
    → session_by machine now (message_text kind body ++ more) ≡ with_update update (session_by machine next more)
one_message machine now next update kind body more one five right long t =
    let message : Message = record { kind = kind; body = body } in
    let text : List ℕ = message_text kind body ++ [] in
    machine_takes machine now next update (message_text kind body) [] more
    (ap (λ (z : List ℕ). step_by machine now z) (sym (append-nil (message_text kind body)))
    ∙ step_found machine now text (message, []) (Ok (next, update)) (text_first kind body [] one five right long) t)

pub open_fits : (n : ℕ) → n ≡ 42 → (allows 1 (19 + n) ≡ true) × (19 + n ≤ 4096)
open_fits n h = rw h (refl, omega arith)

pub update_fits : (n : ℕ) → 4 ≤ n → allows 2 (19 + n) ≡ true
update_fits n h = grind (arith, nat_tests)

pub at_most : (n : ℕ) → nat_le (19 + n) 4096 ≡ true → 19 + n ≤ 4096
at_most n h = grind (arith, nat_tests)

-- the receiving end takes an UPDATE that is read
update_taken : (config : Config) (peer : Peer) (hold : ℕ) (body : List ℕ) (update : Update) → update_of (terms_of config peer true) body ≡ Ok update
    → transition_by (receiver config peer) (phase Established true hold) (record { kind = 2; body = body }) ≡ Ok (phase Established true hold, Some update)
update_taken config peer hold body update h = ap (λ (r : Result Update UpdateFault). updates (phase Established true hold) (as_update r)) h

-- an UPDATE's body has two lengths
pub body_long : (config : Config) (peer : Peer) (sending : Sending) (sent : Sent) → 4 ≤ length (body_by (terms_of config peer true) sending.as_path sent)
unfolding body_by
body_long config peer sending sent =
    let attributes : List ℕ =
    flat_map attribute_text (written_attributes (terms_of config peer true) (update_by (terms_of config peer true) sending.as_path sent)) in
    let front : List ℕ = long_text [] in
    let first : length front ≡ 2 = refl in
    let behind : length (long_text attributes) ≡ 2 + length attributes = length-append (big_bytes 2 (length attributes)) attributes in
    omega (arith, first, behind, length-append front (long_text attributes ++ []), length-append (long_text attributes) [])

module _ (config : Config) (peer : Peer) (sending : Sending) where
  -- so it takes the UPDATEs of the rules
  rules_taken : (hold : ℕ) (rules : List Sent) → AllByRecursion (ComesBack config peer sending) rules
      → session_by (receiver config peer) (phase Established true hold) (flat_map (text_sent config peer true sending) rules)
      ≡ (map (update_sent config peer sending) rules, still (phase Established true hold))
  rules_taken hold [] h = machine_waits (receiver config peer) (phase Established true hold) [] refl
  rules_taken hold (sent ∷ rules) h =
      let body : List ℕ = body_by (terms_of config peer true) sending.as_path sent in
      let now : Phase = phase Established true hold in
      one_message (receiver config peer) now now (Some (update_sent config peer sending sent)) 2 body (flat_map (text_sent config peer true sending) rules)
      (omega arith) (omega arith) (update_fits (length body) (body_long config peer sending sent)) (at_most (length body) h.0.short)
      (update_taken config peer hold body (update_sent config peer sending sent) h.0.read)
      ∙ ap (λ (later : List Update × Last). with_update (Some (update_sent config peer sending sent)) later) (rules_taken hold rules h.1)

  least : (n : ℕ) → min n n ≡ n
  least n = omega arith

  pub all_arrive : peer.asn < 2 ^ 32 → config.hold_time < 2 ^ 16 → sending.id < 2 ^ 32 → 0 < peer.asn → config.hold_time ≢ 1 → config.hold_time ≢ 2
      → 0 < sending.id → AllByRecursion (ComesBack config peer sending) sending.rules
      → session_from config peer at_start (said_by config peer sending)
      ≡ (map (update_sent config peer sending) sending.rules, still (phase Established true config.hold_time))
  all_arrive small timed named own one two some h =
      let machine : Machine = receiver config peer in
      let hold : ℕ = config.hold_time in
      let body : List ℕ = open_body peer.asn hold sending.id in
      let rest : List ℕ = flat_map (text_sent config peer true sending) sending.rules in
      let fits = open_fits (length body) refl in
      let opening : transition_by machine at_start (record { kind = 1; body = body }) ≡ Ok (phase WaitKeep true hold, None) =
      ap (λ (r : Result Open MessageFault). opened machine r) (open_read peer.asn hold sending.id small timed named own one two some)
      ∙ ap (λ (n : ℕ). Ok (phase WaitKeep true n, None)) (least hold) in
      one_message machine at_start (phase WaitKeep true hold) None 1 body (message_text 4 [] ++ rest) (omega arith) (omega arith) fits.0 fits.1 opening
      ∙ one_message machine (phase WaitKeep true hold) (phase Established true hold) None 4 [] rest (omega arith) (omega arith) refl (omega arith) refl
      ∙ rules_taken hold sending.rules h
