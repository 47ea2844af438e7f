-- What the clock does to a peer's session, to what the peer holds and to the replies.
use Rattle.std.specs.Prelude.{◌≡◌, ℕ, List, [], ◌++◌, Option, Some, None}
use Rattle.fs_message.specs.Write.{message_text}
use Rattle.fs_rules.specs.Table.{Held, without_peer}
use Rattle.fs_speaker.specs.{declared.Closed.{Closed, TheVariants.{Fault}}, Session.{Live}, Side.{notice_text}, Times.{at_moment, written_now, tick_at}}
use Rattle.fs_session.specs.declared.times.{Tick.{Tick, TheVariants.{Quiet, Keeps, Expires}}, Times.{Times}}

-- the same session with other moments
abbrev pub with_times : Times → Live → Live
with_times times session = record session { times = times }

-- Nothing; a KEEPALIVE; or where the hold time has expired the session closes with its NOTIFICATION, and the peer holds
-- nothing any more (RFC 4271, sections 4.4 and 6.5).
abbrev pub TickMakes : Tick → ℕ → Times → Live → Live → Held → Held → (replies replies' : List ℕ) → Type 0
TickMakes Quiet peer times old new table table' replies replies' =
    (new ≡ with_times times old) × ((table' ≡ table) × (replies' ≡ replies))
TickMakes Keeps peer times old new table table' replies replies' =
    (new ≡ with_times (written_now times) old) × ((table' ≡ table) × (replies' ≡ replies ++ message_text 4 []))
TickMakes Expires peer times old new table table' replies replies' =
    (new.closed ≡ Some (Fault 4 0)) × ((table' ≡ without_peer peer table) × (replies' ≡ replies ++ notice_text 4 0))

-- A closed session does nothing.
abbrev pub TicksIn : Option Closed → ℕ → ℕ → Live → Live → Held → Held → (replies replies' : List ℕ) → Type 0
TicksIn (Some why) peer moment old new table table' replies replies' =
    (new ≡ old) × ((table' ≡ table) × (replies' ≡ replies))
TicksIn None peer moment old new table table' replies replies' =
    TickMakes (tick_at old.phase.hold (at_moment moment old.times)) peer (at_moment moment old.times) old new table table'
    replies replies'

abbrev pub TicksSession : ℕ → ℕ → Live → Live → Held → Held → (replies replies' : List ℕ) → Type 0
TicksSession peer moment old new table table' replies replies' =
    TicksIn old.closed peer moment old new table table' replies replies'
