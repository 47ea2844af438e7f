-- Two joined ends: what each event makes of them, and what a list of events does.
use Rattle.std.specs.Prelude.{ℕ, ◌+◌, ◌==◌, Bool, true, false, if◌then◌else◌, List, [], ◌∷◌, ◌++◌, take, drop, Option, Some, None}
use Rattle.fs_base.specs.declared.config.{Config.{Config}, Peer.{Peer}}
use Rattle.fs_attrs.specs.declared.update.Update.{Update}
use Rattle.fs_session.specs.{declared.sending.Sending.{Sending}, Announcer.{first_text, is_established, open_sent}, Handed.{Point, Handed, hand}}
use Rattle.fs_session.specs.{Sending.{needs_of, text_sent}, Side.{receiver, announcer}, Transition.{Machine}}
use Rattle.fs_speaker.specs.{declared.event.Event.{Event, TheVariants.{Send, Deliver, Tick, Cut}}, End.{first_point, ticked}}

-- Both ends: where each stands, what is in flight to each, how many rules were said, whether the wire is cut, and the
-- updates that the receiving end took.
pub record World : Type 0 where
  pub taker : Point
  pub teller : Point
  pub to_taker : List ℕ
  pub to_teller : List ℕ
  pub appended : ℕ
  pub cut : Bool
  pub taken : List Update

-- what is said goes on the wire, unless it is cut
abbrev pub sent : Bool → List ℕ → List ℕ → List ℕ
sent cut flying said = if cut then flying else flying ++ said

-- the receiving end came to this, and what it answered is in flight
abbrev pub taker_comes : Handed → List ℕ → World → World
taker_comes made flying w = record {
  taker = made.point;
  teller = w.teller;
  to_taker = flying;
  to_teller = sent w.cut w.to_teller made.text;
  appended = w.appended;
  cut = w.cut;
  taken = w.taken ++ made.updates;
}

-- so the announcing end
abbrev pub teller_comes : Handed → List ℕ → World → World
teller_comes made flying w = record {
  taker = w.taker;
  teller = made.point;
  to_taker = sent w.cut w.to_taker made.text;
  to_teller = flying;
  appended = w.appended;
  cut = w.cut;
  taken = w.taken;
}

-- the announcing end said one rule more
abbrev pub says : Option (List ℕ) → World → World
says None w = w
says (Some text) w = record {
  taker = w.taker;
  teller = w.teller;
  to_taker = sent w.cut w.to_taker text;
  to_teller = w.to_teller;
  appended = w.appended + 1;
  cut = w.cut;
  taken = w.taken;
}

abbrev pub cuts : World → World
cuts w = record {
  taker = w.taker;
  teller = w.teller;
  to_taker = [];
  to_teller = [];
  appended = w.appended;
  cut = true;
  taken = w.taken;
}

module _ (config : Config) (peer : Peer) (sending : Sending) where
  abbrev pub taker_of : Machine
  taker_of = receiver config peer

  abbrev pub teller_of : Machine
  teller_of = announcer config (needs_of sending.rules)

  -- the rule that an open, established end says next
  abbrev pub next_said : Point → ℕ → Option (List ℕ)
  next_said teller appended = elim teller.closed [
    | Some why ↦ None
    | None ↦
        if is_established teller.phase.state
        then first_text (text_sent config peer teller.phase.four sending) (drop appended sending.rules)
        else None
  ]

  abbrev pub delivers : ℕ → ℕ → ℕ → World → World
  delivers to count moment w =
      if to == 0 then taker_comes (hand taker_of moment w.taker (take count w.to_taker)) (drop count w.to_taker) w
      else teller_comes (hand teller_of moment w.teller (take count w.to_teller)) (drop count w.to_teller) w

  abbrev pub wakes : ℕ → ℕ → World → World
  wakes end moment w =
      if end == 0 then taker_comes (ticked moment w.taker) w.to_taker w else teller_comes (ticked moment w.teller) w.to_teller w

  -- what an event makes of both ends
  abbrev pub happens : Event → World → World
  happens Send w = says (next_said w.teller w.appended) w
  happens (Deliver to count moment) w = delivers to count moment w
  happens (Tick end moment) w = wakes end moment w
  happens Cut w = cuts w

  -- at first the announcing end's OPEN is in flight
  abbrev pub at_first : World
  at_first = record {
    taker = first_point;
    teller = first_point;
    to_taker = open_sent config peer sending;
    to_teller = [];
    appended = 0;
    cut = false;
    taken = [];
  }

  abbrev pub runs_on : World → List Event → World
  runs_on w [] = w
  runs_on w (event ∷ events) = runs_on (happens event w) events

  -- what these events make of both ends
  abbrev pub run : List Event → World
  run events = runs_on at_first events
