-- What the receiving end takes of texts that stand one behind the other, message by message.
use Rattle.std.specs.List.{AllByRecursion}
use Rattle.fs_attrs.specs.{Update.{update_of}, declared.update.{Terms.{Terms}, UpdateFault.{UpdateFault}}}
use Rattle.fs_speaker.specs.Numbers.{HasOwnNumbers, IsFourOctet}
use Rattle.fs_peering.proofs.Words.{Config, Established, Last, List, Machine, MessageFault, None, Ok, Open, Peer, Phase, Result, Sending, Some}
use Rattle.fs_peering.proofs.Words.{Update, WaitKeep, [], ap, append-nil, append_assoc, arith, as_update, at_start, flat_map, length, machine_waits}
use Rattle.fs_peering.proofs.Words.{map, message_text, min, one_message, open_body, open_fits, open_read, open_sent, opened, phase, receiver, refl}
use Rattle.fs_peering.proofs.Words.{session_by, still, sym, terms_of, transition_by, true, update_fits, updates, ℕ, ◌++◌, ◌+◌, ◌∙◌, ◌∷◌, ◌≡◌, ◌≤◌}

abbrev pub behind : List Update → List Update × Last → List Update × Last
behind taken later = (taken ++ later.0, later.1)

-- From this phase the text is taken as these updates, and leads to that phase, whatever follows.
pub record Leads (machine : Machine) (now : Phase) (text : List ℕ) (taken : List Update) (next : Phase) : Type 0 where
  pub goes : (more : List ℕ) → session_by machine now (text ++ more) ≡ behind taken (session_by machine next more)

-- An UPDATE's body that is read so, on these terms, and fits a message.
pub record IsRead (terms : Terms) (body : List ℕ) (update : Update) : Type 0 where
  pub long : 4 ≤ length body
  pub short : 19 + length body ≤ 4096
  pub read : update_of terms body ≡ Ok update

module _ (machine : Machine) where
  pub leads_none : (now : Phase) → Leads machine now [] [] now
  leads_none now = record { goes = λ more. refl }

  pub leads_then : (a b c : Phase) (text more : List ℕ) (taken later : List Update) → Leads machine a text taken b → Leads machine b more later c
      → Leads machine a (text ++ more) (taken ++ later) c
  leads_then a b c text more taken later f l = record {
    goes = λ rest.
        ap (session_by machine a) (append_assoc text more rest) ∙ f.goes (more ++ rest) ∙ ap (behind taken) (l.goes rest)
        ∙ ap (λ (u : List Update). (u, (session_by machine c rest).1)) (sym (append_assoc taken later (session_by machine c rest).0));
  }

  -- nothing follows
  pub leads_whole : (now next : Phase) (text : List ℕ) (taken : List Update) → Leads machine now text taken next
      → session_by machine now text ≡ (taken, still next)
  leads_whole now next text taken l =
      ap (session_by machine now) (sym (append-nil text)) ∙ l.goes [] ∙ ap (behind taken) (machine_waits machine next [] refl)
      ∙ ap (λ (u : List Update). (u, still next)) (append-nil taken)

module _ (config : Config) (peer : Peer) where
  abbrev machine : Machine
  machine = receiver config peer

  abbrev pub up : Phase
  up = phase Established true config.hold_time

  abbrev pub met : Phase
  met = phase WaitKeep true config.hold_time

  least : (n : ℕ) → min n n ≡ n
  least n = omega arith

  -- the OPEN
  pub leads_open : HasOwnNumbers config → IsFourOctet peer.asn → (sending : Sending) → IsFourOctet sending.id
      → Leads (receiver config peer) at_start (open_sent config peer sending) [] met
  leads_open own asn sending id =
      let body : List ℕ = open_body peer.asn config.hold_time sending.id in
      let fits = open_fits (length body) refl in
      let opening : transition_by machine at_start (record { kind = 1; body = body }) ≡ Ok (met, None) =
      ap (λ (r : Result Open MessageFault). opened machine r)
      (open_read peer.asn config.hold_time sending.id asn.small own.hold_time.small id.small asn.some own.hold_time.not_one own.hold_time.not_two id.some)
      ∙ ap (λ (n : ℕ). Ok (phase WaitKeep true n, None)) (least _) in
      record { goes = λ more. one_message machine at_start met None 1 body more (omega arith) (omega arith) fits.0 fits.1 opening }

  -- a KEEPALIVE
  pub leads_first_alive : Leads (receiver config peer) met (message_text 4 []) [] up
  leads_first_alive = record { goes = λ more. one_message machine met up None 4 [] more (omega arith) (omega arith) refl (omega arith) refl }

  pub leads_alive : Leads (receiver config peer) up (message_text 4 []) [] up
  leads_alive = record { goes = λ more. one_message machine up up None 4 [] more (omega arith) (omega arith) refl (omega arith) refl }

  -- UPDATEs
  leads_update : (body : List ℕ) (update : Update) → IsRead (terms_of config peer true) body update
      → Leads (receiver config peer) up (message_text 2 body) (update ∷ []) up
  leads_update body update is = record {
    goes = λ more. one_message machine up up (Some update) 2 body more (omega arith) (omega arith)
        (update_fits (length body) is.long) is.short (ap (λ (r : Result Update UpdateFault). updates up (as_update r)) is.read);
  }

  pub leads_each : {A : Type 0} (body : A → List ℕ) (update : A → Update) (xs : List A)
      → AllByRecursion (λ x. IsRead (terms_of config peer true) (body x) (update x)) xs
      → Leads (receiver config peer) up (flat_map (λ (x : A). message_text 2 (body x)) xs) (map update xs) up
  leads_each body update [] all = leads_none _ _
  leads_each {A} body update (x ∷ xs) all =
      leads_then _ _ _ _ _ _ _ _ (leads_update (body x) (update x) all.0) (leads_each body update xs all.1)
