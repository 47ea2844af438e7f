-- A list of events, and one event more.
use Rattle.fs_speaker.proofs.Words.{◌≡◌, ℕ, Bool, true, false, List, [], ◌∷◌, ◌++◌, Option, Some, None, Ok, option_map, unwrap_or, refl, ap, sym, ◌∙◌}
use Rattle.fs_speaker.proofs.Words.{subst, IfSome, Config, Peer, Sending, Closed, Announcing, announcing, open_sent, StartsOpen, fresh, step_by}
use Rattle.fs_speaker.proofs.Words.{waits, sender_of, Live, live, begins, at_start, Machine, Event, Both, both, AreIn, Becomes, SameOnes, flying}
use Rattle.fs_speaker.proofs.Words.{Jointed, jointed, one_more, run_of, IsRun, World, taker_of, teller_of, happens, runs_on, run}
use Rattle.fs_speaker.proofs.Lowest.{sender_told}

pub run_more : (config : Config) (peer : Peer) (sending : Sending) (w : World) (events : List Event) (event : Event)
    → runs_on config peer sending w (events ++ event ∷ []) ≡ happens config peer sending event (runs_on config peer sending w events)
run_more config peer sending w [] event = refl
run_more config peer sending w (first ∷ events) event = run_more config peer sending (happens config peer sending first w) events event

-- the same events make the same world of the same ones
same_world : (old new : Both) (events : List Event) → SameOnes old new → run_of new events ≡ run_of old events
same_world old new events same =
    ap (λ (c : Config). run c new.teller.peer new.teller.sending events) same.0
    ∙ ap (λ (p : Peer). run old.teller.config p new.teller.sending events) same.1
    ∙ ap (λ (s : Sending). run old.teller.config old.teller.peer s events) same.2

-- an event happened
pub one_happened : (old new : Both) (events events' : List Event) (event : Event) (first second first' second' : Option Closed)
    → IsRun old events first second false → events' ≡ events ++ event ∷ []
    → Becomes (λ config peer sending. happens config peer sending event) old new → SameOnes old new
    → first' ≡ new.taker.closed → second' ≡ new.teller.line.closed → IsRun new events' first' second' false
one_happened old new events events' event first second first' second' run_is more becomes same first_is second_is =
    let config : Config = old.teller.config in
    let peer : Peer = old.teller.peer in
    let sending : Sending = old.teller.sending in
    let there : AreIn config peer sending new (run_of old events') =
    subst (λ (w : World). AreIn config peer sending new w) (sym (ap (run config peer sending) more ∙ run_more config peer sending _ events event))
    (becomes config peer sending (run_of old events) (run_is.ends_are refl)) in
    let world : run_of new events' ≡ run_of old events' = same_world old new events' same in
    record {
      ends_are = λ e.
          subst (λ (c : Config). AreIn c new.teller.peer new.teller.sending new (run c new.teller.peer new.teller.sending events')) (sym same.0)
          (subst (λ (p : Peer). AreIn config p new.teller.sending new (run config p new.teller.sending events')) (sym same.1)
          (subst (λ (s : Sending). AreIn config peer s new (run config peer s events')) (sym same.2) there));
      taken_is = there.taken_is ∙ ap (λ (w : World). w.taken) (sym world);
      first_is = first_is ∙ there.first.stands.closed_is ∙ ap (λ (w : World). w.taker.closed) (sym world);
      second_is = second_is ∙ there.second.stands.closed_is ∙ ap (λ (w : World). w.teller.closed) (sym world);
    }

-- a step was refused
pub none_happened : (old new : Both) (events : List Event) (first second : Option Closed) (spent : Bool) → IsRun old events first second spent
    → SameOnes old new → new.taken ≡ old.taken → IsRun new events first second true
none_happened old new events first second spent run_is same kept =
    let world : run_of old events ≡ run_of new events = sym (same_world old new events same) in
    record {
      ends_are = λ e. absurd (cc);
      taken_is = kept ∙ run_is.taken_is ∙ ap (λ (w : World). w.taken) world;
      first_is = run_is.first_is ∙ ap (λ (w : World). w.taker.closed) world;
      second_is = run_is.second_is ∙ ap (λ (w : World). w.teller.closed) world;
    }

joint_of : (old new : Both) (events : List Event) (spent : Bool) → SameOnes old new
    → jointed new.teller.config new.teller.peer new.teller.sending events spent ≡ jointed old.teller.config old.teller.peer old.teller.sending events spent
joint_of old new events spent same =
    ap (λ (c : Config). jointed c new.teller.peer new.teller.sending events spent) same.0
    ∙ ap (λ (p : Peer). jointed old.teller.config p new.teller.sending events spent) same.1
    ∙ ap (λ (s : Sending). jointed old.teller.config old.teller.peer s events spent) same.2

pub same_joint : (old new : Both) (events events' : List Event) (event : Event) (was : Jointed)
    → jointed old.teller.config old.teller.peer old.teller.sending events false ≡ was
    → events' ≡ events ++ event ∷ [] → SameOnes old new → jointed new.teller.config new.teller.peer new.teller.sending events' false ≡ one_more event was
same_joint old new events events' event was e more same =
    joint_of old new events' false same
    ∙ ap (λ (l : List Event). jointed old.teller.config old.teller.peer old.teller.sending l false) more
    ∙ ap (one_more event) e

nothing_waits : (machine : Machine) → step_by machine at_start [] ≡ waits
nothing_waits machine = refl

first_ends : (config : Config) (peer : Peer) (sending : Sending)
    → AreIn config peer sending (both (live config peer fresh) (announcing config peer sending fresh true 0)
    (flying (open_sent config peer sending) [] false) []) (run config peer sending [])
first_ends config peer sending = record {
  first = record {
    config_is = refl;
    peer_is = refl;
    stands = record {
      closed_is = refl;
      open_is =
          λ e. record { waiting_is = refl; phase_is = refl; times_is = refl; waits_is = nothing_waits (taker_of config peer sending) };
    };
  };
  second = record {
    config_is = refl;
    peer_is = refl;
    sending_is = refl;
    started = refl;
    appended_is = refl;
    stands = record {
      closed_is = refl;
      open_is =
          λ e. record { waiting_is = refl; phase_is = refl; times_is = refl; waits_is = nothing_waits (teller_of config peer sending) };
    };
  };
  to_taker_is = refl;
  to_teller_is = refl;
  cut_is = refl;
  taken_is = refl;
}

-- before the first event
pub joint_begins : (config : Config) (peer : Peer) (sending : Sending) (taker : Live) (teller teller' : Announcing) (said : List ℕ) (ends : Both)
    (events : List Event)
    → sender_of config.peers ≡ Some peer → begins config peer.number ≡ Some taker
    → IfSome (sender_of config.peers) (λ (p : Peer). teller ≡ announcing config p sending fresh false 0) → StartsOpen teller teller' [] said (Ok tt)
    → ends ≡ both taker teller' (flying said [] false) [] → events ≡ []
    → (ends.teller ≡ announcing config peer sending fresh true 0) × IsRun ends events None None false
joint_begins config peer sending taker teller teller' said ends events sender begin made starts is none =
    let own : teller ≡ announcing config peer sending fresh false 0 =
    subst (λ (o : Option Peer). IfSome o (λ (p : Peer). teller ≡ announcing config p sending fresh false 0)) sender made in
    let started = subst (λ (t : Announcing). StartsOpen t teller' [] said (Ok tt)) own starts refl in
    let fed : live config peer fresh ≡ taker =
    ap (λ (o : Option Live). unwrap_or o (live config peer fresh))
    (sym (ap (λ (o : Option Peer). option_map (λ (p : Peer). live config p fresh) o) (sender_told config.peers peer sender)) ∙ begin) in
    let new : both (live config peer fresh) (announcing config peer sending fresh true 0) (flying (open_sent config peer sending) [] false) [] ≡ ends =
    ap (λ (t : Live). both t (announcing config peer sending fresh true 0) (flying (open_sent config peer sending) [] false) []) fed
    ∙ ap (λ (t : Announcing). both taker t (flying (open_sent config peer sending) [] false) []) (sym started.0)
    ∙ ap (λ (z : List ℕ). both taker teller' (flying z [] false) []) (sym started.1)
    ∙ sym is in
    let begun : AreIn ends.teller.config ends.teller.peer ends.teller.sending ends (run_of ends events) =
    subst (λ (l : List Event). AreIn ends.teller.config ends.teller.peer ends.teller.sending ends (run_of ends l)) (sym none)
    (subst (λ (b : Both). AreIn b.teller.config b.teller.peer b.teller.sending b (run_of b [])) new (first_ends config peer sending)) in (
      sym (ap (λ (b : Both). b.teller) new),
      record {
        ends_are = λ e. begun;
        taken_is = begun.taken_is;
        first_is = sym (ap (λ (l : List Event). (run_of ends l).taker.closed) none);
        second_is = sym (ap (λ (l : List Event). (run_of ends l).teller.closed) none);
      },
    )
