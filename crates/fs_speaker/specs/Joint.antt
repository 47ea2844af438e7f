-- Two joined ends and the events that happened between them.
use Rattle.std.specs.Prelude.{◌≡◌, ℕ, ◌≤◌, ◌==◌, Bool, true, false, if◌then◌else◌, List, [], ◌∷◌, ◌++◌, Option, ⊤}
use Rattle.fs_base.specs.declared.config.{Config.{Config}, Peer.{Peer}}
use Rattle.fs_session.specs.declared.{state.Closed.{Closed}, sending.Sending.{Sending}}
use Rattle.fs_speaker.specs.{declared.event.Event.{Event, TheVariants.{Send, Deliver, Tick, Cut}}, Ends.{Both, AreIn}, World.{World, run}}

-- Whose session it is and what is to be sent, what happened by the steps that were not refused, and whether one was.
pub record Jointed : Type 0 where
  pub config : Config
  pub peer : Peer
  pub sending : Sending
  pub events : List Event
  pub spent : Bool

abbrev pub jointed : Config → Peer → Sending → List Event → Bool → Jointed
jointed config peer sending events spent =
    record { config = config; peer = peer; sending = sending; events = events; spent = spent }

-- the same behind one event more
abbrev pub one_more : Event → Jointed → Jointed
one_more event joint = jointed joint.config joint.peer joint.sending (joint.events ++ event ∷ []) joint.spent

-- what the events made of both ends
abbrev pub world_of : Jointed → World
world_of joint = run joint.config joint.peer joint.sending joint.events

-- the same behind a step that was refused: nothing more happens
abbrev pub refused : Jointed → Jointed
refused joint = jointed joint.config joint.peer joint.sending joint.events true

-- what the events made of these ends
abbrev pub run_of : Both → List Event → World
run_of ends events = run ends.teller.config ends.teller.peer ends.teller.sending events

-- the updates taken, and how both ends had closed, are as the events make them; unless a step was refused, so are the ends
pub record IsRun (ends : Both) (events : List Event) (first second : Option Closed) (spent : Bool) : Type 0 where
  pub ends_are : spent ≡ false → AreIn ends.teller.config ends.teller.peer ends.teller.sending ends (run_of ends events)
  pub taken_is : ends.taken ≡ (run_of ends events).taken
  pub first_is : first ≡ (run_of ends events).taker.closed
  pub second_is : second ≡ (run_of ends events).teller.closed

abbrev pub closed_at : ℕ → World → Option Closed
closed_at end w = if end == 0 then w.taker.closed else w.teller.closed

-- an event names one of the two ends
abbrev pub IsEnd : Event → Type 0
IsEnd Send = ⊤
IsEnd (Deliver to count moment) = to ≤ 1
IsEnd (Tick end moment) = end ≤ 1
IsEnd Cut = ⊤
