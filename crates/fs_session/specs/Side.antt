-- The two ends of a session.
use Rattle.std.specs.Prelude.{◌≡◌, ℕ, Bool, false, not, ◌&&◌, ◌||◌, List, [], ◌∷◌, ◌++◌, Option, Some, None, Result, Ok, Err}
use Rattle.fs_base.specs.declared.config.{Config.{Config}, Peer.{Peer}}
use Rattle.fs_message.specs.{declared.open_.Open.{Open}, Write.{message_text, open_body}}
use Rattle.fs_attrs.specs.{declared.update.{Update.{Update}, UpdateFault.{UpdateFault}}, Update.{update_of}}
use Rattle.fs_session.specs.declared.state.{State.{State, TheVariants.{WaitOpen}}, Closed.{Closed, TheVariants.{Memory, Fault}}}
use Rattle.fs_session.specs.declared.side.{Side.{Side}, Role.{Role, TheVariants.{Receiver, Announcer}}, Needs.{Needs}}
use Rattle.fs_session.specs.Transition.{Machine, terms_of}

-- What the receiving end answers: to an OPEN our OPEN and a KEEPALIVE, to a fault a NOTIFICATION.
abbrev pub reply_to : Config → State → List ℕ
reply_to config WaitOpen =
    message_text 1 (open_body config.local_as config.hold_time config.local_id) ++ message_text 4 []
reply_to config _ = []

-- a NOTIFICATION without data
abbrev pub notice_text : ℕ → ℕ → List ℕ
notice_text code subcode = message_text 3 (code ∷ subcode ∷ [])

abbrev pub at_fault : (ℕ → ℕ → List ℕ) → Closed → List ℕ
at_fault text (Fault code subcode) = text code subcode
at_fault text _ = []

abbrev pub reply_at : Closed → List ℕ
reply_at why = at_fault notice_text why

-- The announcing end answers an OPEN with a KEEPALIVE, since its own OPEN went before, and a fault with nothing.
abbrev pub keepalive_to : State → List ℕ
keepalive_to WaitOpen = message_text 4 []
keepalive_to _ = []

abbrev pub no_farewell : ℕ → ℕ → List ℕ
no_farewell code subcode = []

-- The receiving end needs no family.
abbrev pub lacks_none : Open → Bool
lacks_none found = false

-- An OPEN lacks a family that the announcing end has rules of.
abbrev pub lacks_of : Needs → Open → Bool
lacks_of needs found = (needs.v4 && not found.v4_flow) || (needs.v6 && not found.v6_flow)

abbrev pub as_update : Result Update UpdateFault → Result (Option Update) UpdateFault
as_update (Ok update) = Ok (Some update)
as_update (Err fault) = Err fault

-- the receiving end reads an UPDATE, and the announcing end skips it
abbrev pub reads_update : Config → Peer → Bool → List ℕ → Result (Option Update) UpdateFault
reads_update config peer four body = as_update (update_of (terms_of config peer four) body)

abbrev pub skips_update : Bool → List ℕ → Result (Option Update) UpdateFault
skips_update four body = Ok None

-- The receiving end of a session with a peer.
abbrev pub receiver : Config → Peer → Machine
receiver config peer = record {
  expected = peer.asn;
  offer = config.hold_time;
  lacks = lacks_none;
  update = reads_update config peer;
  answer = reply_to config;
  farewell = notice_text;
}

-- The announcing end, at a peer of the configuration that speaks to us.
abbrev pub announcer : Config → Needs → Machine
announcer config needs = record {
  expected = config.local_as;
  offer = config.hold_time;
  lacks = lacks_of needs;
  update = skips_update;
  answer = keepalive_to;
  farewell = no_farewell;
}

abbrev pub machine_as : Config → Peer → Role → Machine
machine_as config peer Receiver = receiver config peer
machine_as config peer (Announcer needs) = announcer config needs

abbrev pub machine_of : Side → Machine
machine_of side = machine_as side.config.now side.peer side.role

-- a fault is answered as this end answers it, or memory is wanting and nothing is
abbrev pub ClosesAs : Machine → Closed → List ℕ → List ℕ → Closed → Type 0
ClosesAs machine why replies replies' Memory = replies' ≡ replies
ClosesAs machine why replies replies' other = (other ≡ why) × (replies' ≡ replies ++ at_fault machine.farewell other)
