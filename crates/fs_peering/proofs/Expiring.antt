-- No octets close an end with Hold Timer Expired: only the clock does.
use Rattle.fs_peering.proofs.Words.{Closed, Config, Established, Expires, Fault, Handed, Last, Machine, Message, MessageFault, NoFamily, Open, Peer}
use Rattle.fs_peering.proofs.Words.{Phase, Point, State, Times, Update, UpdateFault, WaitKeep, WaitOpen, at_moment, at_start, bounded_from, closed}
use Rattle.fs_peering.proofs.Words.{closing_of, faulted, fields_fault, first_message, first_over, header_of, is_established, not_taken, notice_of}
use Rattle.fs_peering.proofs.Words.{notified, open_of, opened, parts_of, phase, plays, rest_closes, runs, runs_by, session_by, session_from}
use Rattle.fs_peering.proofs.Words.{shuts, still, taken, taken_in, tick_at, too_many, transition_at, transition_by, updates, wrong_at, ◌≡◌, ◌⊎◌, inl}
use Rattle.fs_peering.proofs.Words.{inr, ◌==◌, ◌||◌, not, ℕ, ◌-◌, nat_lt, List, [], ◌∷◌, ◌++◌, length, drop, get_or, min, Bool, true, false}
use Rattle.fs_peering.proofs.Words.{if◌then◌else◌, Option, Some, None, Result, Ok, Err, refl, ap, sym, ◌∙◌, subst, append_assoc, none-some, same_Some}
use Rattle.fs_peering.proofs.Words.{ran, runs_none, runs_step, going, plays_none, plays_step, opened_by, opens, front_message, Pieces, hears, course}
use Rattle.fs_peering.proofs.Words.{last_update}
use Rattle.fs_peering.proofs.Courses.{Steps, by_pieces, course_more, stays_shut, steps}
use Rattle.fs_peering.proofs.OpenSteps.{Opened, going as made_open, opens_none, opens_step}
use Rattle.std.proofs.lemmas.Bool.{true≢false as never}
use Rattle.byteorder.specs.Endian.{big_number}
use Rattle.fs_message.specs.Capabilities.{Field, are_parameters, capabilities_of}
use Rattle.fs_message.specs.Header.{allows, fault, header_fault, kind_at, kind_wrong, marker_wrong, size_at, size_wrong}
use Rattle.fs_message.specs.Open.{opened as reads_open}
use Rattle.fs_attrs.specs.declared.update.UpdateFault.TheVariants.{List as ListFault, Network, Optional, Memory as NoMemory}
use Rattle.fs_speaker.specs.declared.State.TheVariants.{Closed as IsClosed}

abbrev Made : Type 0
Made = Result (Phase × Option Update) Closed

-- another closing than by the clock
abbrev NotLate : Closed → Type 0
NotLate (Fault code subcode) = (code == 4) ≡ false
NotLate _ = Unit {0}

no_late : (why : Closed) → NotLate why → why ≡ Fault 4 0 → ⊥
no_late why n e = never (subst NotLate e n)

abbrev WrongNot : Option MessageFault → Type 0
WrongNot None = Unit {0}
WrongNot (Some wrong) = NotLate (faulted wrong)

-- so of either of two where it is so of both
either : {A : Type 0} (P : A → Type 0) (b : Bool) (x y : A) → P x → P y → P (if b then x else y)
either P true x y p q = p
either P false x y p q = q

header_not : (header : List ℕ) → WrongNot (header_fault header)
header_not header =
    either WrongNot (marker_wrong header) (Some (fault 1 1)) _ refl (either WrongNot (nat_lt (length header) 18) None _ tt
    (either WrongNot (size_wrong (size_at header)) (Some (fault 1 2)) _ refl
    (either WrongNot (nat_lt (length header) 19) None _ tt
    (either WrongNot (kind_wrong (kind_at header)) (Some (fault 1 3)) _ refl
    (either WrongNot (not (allows (kind_at header) (size_at header))) (Some (fault 1 2)) None refl tt)))))

wrong_not : (octets : List ℕ) → WrongNot (wrong_at octets)
wrong_not octets = header_not (header_of octets)

fields_not : (body : List ℕ) → WrongNot (fields_fault body)
fields_not body =
    either WrongNot (not (get_or body 0 0 == 4)) (Some (fault 2 1)) _ refl
    (either WrongNot (big_number 2 (drop 1 body) == 0) (Some (fault 2 2)) _ refl
    (either WrongNot (big_number 2 (drop 3 body) == 1 || big_number 2 (drop 3 body) == 2) (Some (fault 2 6)) _ refl
    (either WrongNot (big_number 4 (drop 5 body) == 0) (Some (fault 2 3)) _ refl
    (either WrongNot (not (get_or body 9 0 == length body - 10)) (Some (fault 2 4)) None refl tt))))

abbrev OpenNot : Result Open MessageFault → Type 0
OpenNot (Ok found) = Unit {0}
OpenNot (Err wrong) = NotLate (faulted wrong)

reads_not : (expected : ℕ) (body : List ℕ) (capabilities : List Field) → OpenNot (reads_open expected body capabilities)
reads_not expected body capabilities = either OpenNot _ (Err (fault 2 2)) (Ok _) refl tt

open_not : (expected : ℕ) (body : List ℕ) → OpenNot (open_of expected body)
open_not expected body = by (fields_fault body) (fields_not body)
  where
    by : (o : Option MessageFault) → WrongNot o
        → OpenNot (elim o [
          | Some wrong ↦ Err wrong
          | None ↦ if are_parameters (drop 10 body)
              then reads_open expected body (capabilities_of (drop 10 body)) else Err (fault 2 4)
        ])
    by None n =
        either OpenNot (are_parameters (drop 10 body)) _ _ (reads_not _ body (capabilities_of (drop 10 body))) refl
    by (Some wrong) n = n

abbrev MadeNot : Made → Type 0
MadeNot (Ok next) = Unit {0}
MadeNot (Err why) = NotLate why

update_not : (wrong : UpdateFault) → NotLate (closing_of wrong)
update_not ListFault = refl
update_not Network = refl
update_not (Optional why) = refl
update_not NoMemory = tt

updates_not : (now : Phase) (r : Result (Option Update) UpdateFault) → MadeNot (updates now r)
updates_not now (Ok update) = tt
updates_not now (Err wrong) = update_not _

module _ (machine : Machine) where
  opened_not : (r : Result Open MessageFault) → OpenNot r → MadeNot (opened machine r)
  opened_not (Ok found) n = either MadeNot (machine.lacks found) (Err NoFamily)
      (taken (phase WaitKeep found.four (min machine.offer found.hold_time)) None) tt tt
  opened_not (Err wrong) n = n

  at_not : (state : State) (four : Bool) (hold : ℕ) (message : Message) → MadeNot (transition_at machine state four hold message)
  at_not WaitOpen four hold message =
      either MadeNot (message.kind == 1) (opened machine (open_of machine.expected message.body)) not_taken
      (opened_not (open_of machine.expected message.body) (open_not machine.expected message.body)) refl
  at_not WaitKeep four hold message = either MadeNot (message.kind == 4) (taken (phase Established four hold) None) not_taken tt refl
  at_not Established four hold message =
      let now : Phase = phase Established four hold in
      let stays : Made = taken now None in
      let other : Made = if message.kind == 5 then stays else not_taken in
      let alive : Made = if message.kind == 4 then stays else other in
      either MadeNot (message.kind == 2) (updates now (machine.update four message.body)) alive (updates_not now (machine.update four message.body))
      (either MadeNot (message.kind == 4) stays other tt (either MadeNot (message.kind == 5) stays not_taken tt refl))
  at_not IsClosed four hold message = refl

  transition_not : (now : Phase) (message : Message) → MadeNot (transition_by machine now message)
  transition_not now message =
      either MadeNot (message.kind == 3) (Err (notified (notice_of message.body))) (transition_at machine now.state now.four now.hold message) tt
      (at_not now.state now.four now.hold message)

  -- handed over
  abbrev RunsNot : Handed → Type 0
  RunsNot made = made.point.closed ≡ Some (Fault 4 0) → ⊥

  shut_not : (now : Phase) (times : Times) (why : Closed) → NotLate why → RunsNot (shuts machine now times why)
  shut_not now times why n e = no_late _ n (same_Some why (Fault 4 0) e)

  runs_not : (messages : List Message) (now : Phase) (times : Times) (waiting : List ℕ) (wrong : Option MessageFault) → WrongNot wrong
      → RunsNot (runs machine now times messages waiting wrong)
  runs_not [] now times waiting None n = subst RunsNot (sym (runs_none machine now times waiting None)) (λ e. none-some (Fault 4 0) e)
  runs_not [] now times waiting (Some wrong) n = subst RunsNot (sym (runs_none machine now times waiting (Some wrong))) (shut_not now times _ n)
  runs_not (message ∷ messages) now times waiting wrong n =
      subst RunsNot (sym (runs_step machine now times message messages waiting wrong))
      (by (λ next. runs_not _ _ _ _ _ n) (transition_by machine now message) (transition_not now message))
    where
      by : ((next : Phase) → RunsNot (runs machine next (taken_in now.state times) messages waiting wrong)) → (made : Made) → MadeNot made
          → RunsNot (ran machine now times made (λ next. runs machine next (taken_in now.state times) messages waiting wrong))
      by rest (Ok next) m e = rest next.0 e
      by rest (Err why) m e = shut_not now times _ m e

  runs_by_not : (now : Phase) (times : Times) (octets : List ℕ) → RunsNot (runs_by machine now times octets)
  runs_by_not now times octets =
      runs_not _ _ _ _ _ (wrong_not (parts_of first_message octets).1)

  -- as a session
  abbrev LastNot : Last → Type 0
  LastNot (still now) = Unit {0}
  LastNot (closed why) = NotLate why

  rest_not : (now : Phase) (wrong : Option MessageFault) → WrongNot wrong → LastNot (rest_closes now wrong)
  rest_not now None n = tt
  rest_not now (Some wrong) n = n

  plays_not : (messages : List Message) (now : Phase) (wrong : Option MessageFault) → WrongNot wrong → LastNot (plays machine now messages wrong).1
  plays_not [] now wrong n = subst (λ (z : List Update × Last). LastNot z.1) (sym (plays_none machine now wrong)) (rest_not _ _ n)
  plays_not (message ∷ messages) now wrong n =
      subst (λ (z : List Update × Last). LastNot z.1) (sym (plays_step machine now message messages wrong))
      (by (λ next. plays_not _ _ _ n) _ (transition_not now message))
    where
      by : ((next : Phase) → LastNot (plays machine next messages wrong).1) → (made : Made) → MadeNot made
          → LastNot (going made (λ next. plays machine next messages wrong)).1
      by rest (Ok next) m = subst LastNot (sym (last_update next.1 (plays machine next.0 messages wrong))) (rest next.0)
      by rest (Err why) m = m

  session_not : (now : Phase) (octets : List ℕ) → LastNot (session_by machine now octets).1
  session_not now octets = plays_not _ _ _ (wrong_not (parts_of first_message octets).1)

  -- up to where it is established
  opens_not : (parts : List (Message × List ℕ)) (now : Phase) (wrong : Option MessageFault) → WrongNot wrong → LastNot (opens machine now parts wrong).0
  opens_not [] now wrong n = subst (λ (z : Opened). LastNot z.0) (sym (opens_none _ _ _)) (rest_not _ _ n)
  opens_not (found ∷ later) now wrong n =
      subst (λ (z : Opened). LastNot z.0) (sym (opens_step _ _ _ _ _))
      (by (λ next. opens_not _ _ _ n) _ (transition_not now found.0))
    where
      up : (b : Bool) (next : Phase) → LastNot (opens machine next later wrong).0
          → LastNot (if b then (still next, found.1) else opens machine next later wrong).0
      up true next rest = tt
      up false next rest = rest

      by : ((next : Phase) → LastNot (opens machine next later wrong).0) → (made : Made) → MadeNot made
          → LastNot (made_open made found.1 (λ next. opens machine next later wrong)).0
      by rest (Ok next) m = up (is_established next.0.state) _ (rest next.0)
      by rest (Err why) m = m

  opened_by_not : (now : Phase) (octets : List ℕ) → LastNot (opened_by machine now octets).0
  opened_by_not now octets = opens_not _ _ _ (wrong_not (parts_of front_message octets).1)

  last_late : (last : Last) → LastNot last → last ≡ closed (Fault 4 0) → ⊥
  last_late last n e = never (subst LastNot e n)

  pub session_late : (now : Phase) (octets : List ℕ) → (session_by machine now octets).1 ≡ closed (Fault 4 0) → ⊥
  session_late now octets e = last_late _ (session_not _ _) e

  pub opened_late : (now : Phase) (octets : List ℕ) → (opened_by machine now octets).0 ≡ closed (Fault 4 0) → ⊥
  opened_late now octets e = last_late _ (opened_by_not _ _) e

  -- An end that heard pieces and is closed so is closed by the clock, at one of them.
  pub record Expired (heard : Pieces) : Type 0 where
    pub earlier : Pieces
    pub event : ℕ × List ℕ
    pub later : Pieces
    pub split : heard ≡ earlier ++ event ∷ later
    pub lived : (course machine earlier).point.closed ≡ None
    pub due : tick_at (course machine earlier).point.phase.hold (at_moment event.0 (course machine earlier).point.times) ≡ Expires

  abbrev ClosedLate : Pieces → Type 0
  ClosedLate heard = (course machine heard).point.closed ≡ Some (Fault 4 0) → Expired heard

  module _ (heard : Pieces) (event : ℕ × List ℕ) (before : ClosedLate heard) (e : (course machine (heard ++ event ∷ [])).point.closed ≡ Some (Fault 4 0)) where
    abbrev here : Point
    here = (course machine heard).point

    there : (hears machine event here).point.closed ≡ Some (Fault 4 0)
    there = sym (ap (λ (m : Handed). m.point.closed) (course_more machine heard event)) ∙ e

    late_more : Expired (heard ++ event ∷ [])
    late_more = by here.closed refl
      where
        alive : here.closed ≡ None → Steps machine event here ⊎ (tick_at here.phase.hold (at_moment event.0 here.times) ≡ Expires)
            → Expired (heard ++ event ∷ [])
        alive k (inl s) =
            absurd (runs_by_not _ _ _ (sym (ap (λ (p : Point). p.closed) s.point_is) ∙ there))
        alive k (inr due) = record { earlier = heard; event = event; later = []; split = refl; lived = k; due = due }

        by : (c : Option Closed) → here.closed ≡ c → Expired (heard ++ event ∷ [])
        by None k = alive k (steps _ _ _ k)
        by (Some why) k =
            let x = before (k ∙ sym (stays_shut _ _ here _ k) ∙ there) in
            record {
              earlier = x.earlier;
              event = x.event;
              later = x.later ++ event ∷ [];
              split = ap (λ (z : Pieces). z ++ event ∷ []) x.split ∙ append_assoc x.earlier (x.event ∷ x.later) (event ∷ []);
              lived = x.lived;
              due = x.due;
            }

  pub closed_late : (heard : Pieces) → (course machine heard).point.closed ≡ Some (Fault 4 0) → Expired heard
  closed_late heard = by_pieces ClosedLate (λ earlier event before e. late_more earlier event before e) (λ e. absurd (none-some (Fault 4 0) e)) heard

-- with a limit of routes
pub bounded_late : (config : Config) (peer : Peer) (octets : List ℕ) → (bounded_from config peer octets).1 ≡ closed (Fault 4 0) → ⊥
bounded_late config peer octets e = by (first_over peer.max_routes session.0) refl
  where
    session : List Update × Last
    session = session_from config peer at_start octets

    chosen : Option (List Update) → List Update × Last
    chosen o = elim o [ None ↦ session | Some front ↦ (front, closed too_many) ]

    other : closed too_many ≡ closed (Fault 4 0) → ⊥
    other h = cc

    by : (o : Option (List Update)) → first_over peer.max_routes session.0 ≡ o → ⊥
    by None f = session_late _ _ _ (sym (ap (λ (x : Option (List Update)). (chosen x).1) f) ∙ e)
    by (Some front) f = other (sym (ap (λ (x : Option (List Update)). (chosen x).1) f) ∙ e)
