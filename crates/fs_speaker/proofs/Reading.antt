-- What the receiving end takes of what an announcing end says, message by message.
use Rattle.fs_speaker.proofs.Words.{◌≡◌, ℕ, zero, suc, ◌+◌, true, List, [], ◌∷◌, ◌++◌, length, min, take, drop, map, Some, None, Result, Ok, Err}
use Rattle.fs_speaker.proofs.Words.{refl, sym, ap, ◌∙◌, subst, arith, append_assoc, append-nil, AllByRecursion, Config, Peer, MessageFault, Open}
use Rattle.fs_speaker.proofs.Words.{message_text, open_body, text_first, open_read, Update, WaitKeep, Established, Closed, Notified, Sent, Sending}
use Rattle.fs_speaker.proofs.Words.{open_sent, step_by, body_by, update_sent, text_sent, Last, at_start, closed, session_by, still, with_update}
use Rattle.fs_speaker.proofs.Words.{receiver, as_update, notice_text, Phase, Machine, phase, opened, notified, updates, transition_by, terms_of}
use Rattle.fs_speaker.proofs.Words.{at_most, body_long, one_message, open_fits, update_fits, machine_stops, machine_waits, step_found, CanArrive}
use Rattle.fs_message.specs.Notice.{notice_of}
use Rattle.fs_attrs.specs.declared.update.UpdateFault.{UpdateFault}
use Rattle.fs_session.specs.Laws.{ComesBack}

pub least : (n : ℕ) → min n n ≡ n
least n = omega arith

-- the first of the rules that are left
one_rule : (P : Sent → Type 0) (n : ℕ) (rules : List Sent) (sent : Sent) (rest : List Sent) → AllByRecursion P rules → drop n rules ≡ sent ∷ rest
    → (take (suc n) rules ≡ take n rules ++ sent ∷ []) × P sent
one_rule P zero [] sent rest all h = absurd cc
one_rule P zero (other ∷ rules) sent rest all h =
    let same : other ≡ sent = cc in
    (ap (λ (s : Sent). s ∷ []) same, subst P same all.0)
one_rule P (suc n) [] sent rest all h = absurd cc
one_rule P (suc n) (other ∷ rules) sent rest all h =
    let r = one_rule P n rules sent rest all.1 h in
    (ap (λ (z : List Sent). other ∷ z) r.0, r.1)

map_joined : (f : Sent → Update) (xs ys : List Sent) → map f (xs ++ ys) ≡ map f xs ++ map f ys
map_joined f [] ys = refl
map_joined f (x ∷ xs) ys = ap (λ (z : List Update). f x ∷ z) (map_joined f xs ys)

-- a front of the first ones is as many of all
pub front_of : (f : Sent → Update) (xs rest : List Update) (k : ℕ) (rules : List Sent) → map f (take k rules) ≡ xs ++ rest → xs ≡ take (length xs) (map f rules)
front_of f [] rest k rules h = refl
front_of f (x ∷ xs) rest zero rules h = absurd cc
front_of f (x ∷ xs) rest (suc k) [] h = absurd cc
front_of f (x ∷ xs) rest (suc k) (sent ∷ rules) h =
    let first : f sent ≡ x = cc in
    let later : map f (take k rules) ≡ xs ++ rest = cc in
    ap (λ (z : Update). z ∷ xs) (sym first) ∙ ap (λ (z : List Update). f sent ∷ z) (front_of f xs rest k rules later)

-- a session that goes on, or that a NOTIFICATION closed
abbrev pub IsCalm : Last → Type 0
IsCalm (still now) = Unit {0}
IsCalm (closed (Notified code subcode)) = Unit {0}
IsCalm (closed other) = ⊥

abbrev behind : List Update → List Update × Last → List Update × Last
behind taken later = (taken ++ later.0, later.1)

-- Of all that it hears an end takes these updates, and is then in this phase.
pub record Hears (machine : Machine) (all : List ℕ) (taken : List Update) (now : Phase) : Type 0 where
  pub goes : (more : List ℕ) → session_by machine at_start (all ++ more) ≡ behind taken (session_by machine now more)

-- And it closes by nothing but a NOTIFICATION.
abbrev pub Calmly : Machine → List ℕ → List Update → Type 0
Calmly machine all taken = ((session_by machine at_start all).0 ≡ taken) × IsCalm (session_by machine at_start all).1

module _ (machine : Machine) where
  calmly : (all : List ℕ) (taken : List Update) (last : Last) → session_by machine at_start all ≡ (taken ++ [], last) → IsCalm last → Calmly machine all taken
  calmly all taken last e c =
      (ap (λ (s : List Update × Last). s.0) e ∙ append-nil taken, subst (λ (l : Last). IsCalm l) (sym (ap (λ (s : List Update × Last). s.1) e)) c)

  pub hears_calmly : (all : List ℕ) (taken : List Update) (now : Phase) → Hears machine all taken now → Calmly machine all taken
  hears_calmly all taken now h =
      calmly all taken (still now) (ap (session_by machine at_start) (sym (append-nil all)) ∙ h.goes []
      ∙ ap (behind taken) (machine_waits machine now [] refl)) tt

  -- nothing more is said
  pub hears_none : (all : List ℕ) (taken : List Update) (now : Phase) → Hears machine all taken now → Hears machine (all ++ []) taken now
  hears_none all taken now h = rw (append-nil all) h

  pub calmly_none : (all : List ℕ) (taken : List Update) → Calmly machine all taken → Calmly machine (all ++ []) taken
  calmly_none all taken c = rw (append-nil all) c

  pub hears_more : (all text : List ℕ) (taken : List Update) (now next : Phase) → Hears machine all taken now
      → ((more : List ℕ) → session_by machine now (text ++ more) ≡ session_by machine next more) → Hears machine (all ++ text) taken next
  hears_more all text taken now next h e = record {
    goes = λ more. ap (session_by machine at_start) (append_assoc all text more) ∙ h.goes (text ++ more) ∙ ap (behind taken) (e more);
  }

  -- a NOTIFICATION
  pub hears_notice : (all : List ℕ) (taken : List Update) (now : Phase) (code subcode : ℕ) → Hears machine all taken now
      → Calmly machine (all ++ notice_text code subcode) taken
  hears_notice all taken now code subcode h =
      let body : List ℕ = code ∷ subcode ∷ [] in
      let text : List ℕ = notice_text code subcode in
      let why : Closed = notified (notice_of body) in
      let shut : session_by machine now text ≡ ([], closed why) =
      ap (session_by machine now) (sym (append-nil text))
      ∙ machine_stops machine now why text []
      (ap (step_by machine now) (sym (append-nil text))
      ∙ step_found machine now (text ++ []) (record { kind = 3; body = body }, []) (Err why)
      (text_first 3 body [] (omega arith) (omega arith) refl (omega arith)) refl) in
      calmly (all ++ text) taken (closed why) (h.goes text ∙ ap (behind taken) shut) tt

module _ (config : Config) (peer : Peer) (sending : Sending) where
  abbrev machine : Machine
  machine = receiver config peer

  abbrev pub up : Phase
  up = phase Established true config.hold_time

  abbrev pub met : Phase
  met = phase WaitKeep true config.hold_time

  -- the updates of so many rules
  abbrev firsts : ℕ → List Update
  firsts appended = map (update_sent config peer sending) (take appended sending.rules)

  abbrev pub Reads : List ℕ → ℕ → Phase → Type 0
  Reads all appended now = Hears (receiver config peer) all (firsts appended) now

  abbrev pub Gives : List ℕ → ℕ → Type 0
  Gives all appended = Calmly (receiver config peer) all (firsts appended)

  -- the OPEN
  pub reads_open : CanArrive config peer sending → Reads (open_sent config peer sending) 0 met
  reads_open can =
      let body : List ℕ = open_body peer.asn config.hold_time sending.id in
      let fits = open_fits (length body) refl in
      let opening : transition_by machine at_start (record { kind = 1; body = body }) ≡ Ok (met, None) =
      ap (λ (r : Result Open MessageFault). opened machine r)
      (open_read peer.asn config.hold_time sending.id can.asn.small can.own.hold_time.small can.id.small can.asn.some can.own.hold_time.not_one
      can.own.hold_time.not_two can.id.some)
      ∙ ap (λ (n : ℕ). Ok (phase WaitKeep true n, None)) (least config.hold_time) in
      record { goes = λ more. one_message machine at_start met None 1 body more (omega arith) (omega arith) fits.0 fits.1 opening }

  -- a KEEPALIVE
  pub reads_first_alive : (all : List ℕ) (appended : ℕ) → Reads all appended met → Reads (all ++ message_text 4 []) appended up
  reads_first_alive all appended r =
      hears_more machine all (message_text 4 []) (firsts appended) met up r
      (λ more. one_message machine met up None 4 [] more (omega arith) (omega arith) refl (omega arith) refl)

  pub reads_alive : (all : List ℕ) (appended : ℕ) → Reads all appended up → Reads (all ++ message_text 4 []) appended up
  reads_alive all appended r =
      hears_more machine all (message_text 4 []) (firsts appended) up up r
      (λ more. one_message machine up up None 4 [] more (omega arith) (omega arith) refl (omega arith) refl)

  -- the UPDATE of the next rule
  pub reads_rule : CanArrive config peer sending → (all : List ℕ) (appended : ℕ) (sent : Sent) (rest : List Sent) → drop appended sending.rules ≡ sent ∷ rest
      → Reads all appended up → Reads (all ++ text_sent config peer true sending sent) (appended + 1) up
  reads_rule can all appended sent rest h r =
      let next = one_rule (ComesBack config peer sending) appended sending.rules sent rest can.read h in
      let body : List ℕ = body_by (terms_of config peer true) sending.as_path sent in
      let text : List ℕ = text_sent config peer true sending sent in
      let update : Update = update_sent config peer sending sent in
      let one : appended + 1 ≡ suc appended = omega arith in
      let all_now : firsts (appended + 1) ≡ firsts appended ++ update ∷ [] =
      ap firsts one ∙ ap (map (update_sent config peer sending)) next.0
      ∙ map_joined (update_sent config peer sending) (take appended sending.rules) (sent ∷ []) in
      record {
        goes = λ more.
            let later : List Update × Last = session_by machine up more in
            let is_taken : session_by machine up (text ++ more) ≡ with_update (Some update) later =
            one_message machine up up (Some update) 2 body more (omega arith) (omega arith) (update_fits (length body) (body_long config peer sending sent))
            (at_most (length body) next.1.short) (ap (λ (q : Result Update UpdateFault). updates up (as_update q)) next.1.read) in
            ap (session_by machine at_start) (append_assoc all text more) ∙ r.goes (text ++ more) ∙ ap (behind (firsts appended)) is_taken
            ∙ ap (λ (u : List Update). (u, later.1)) (sym (append_assoc (firsts appended) (update ∷ []) later.0))
            ∙ ap (λ (u : List Update). behind u later) (sym all_now);
      }
