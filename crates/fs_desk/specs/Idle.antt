-- Octets whose messages announce and withdraw nothing.
use Rattle.std.specs.{Prelude.{◌≡◌, ◌⊎◌, ℕ, List, [], ◌++◌, drop, Bool, true, false, Option, Some, None}, List.{AllByRecursion}}
use Rattle.fs_message.specs.Deframer.{pending}
use Rattle.fs_attrs.specs.{declared.update.Update.{Update}, Update.{takes_prefixes, gives_prefixes, takes_rules, gives_rules}}
use Rattle.fs_rules.specs.Table.{held_count}
use Rattle.fs_speaker.specs.Session.{Live, session_from}
use Rattle.fs_desk.specs.declared.watched.Watched.{Watched}

-- the update lists no prefix and no rule
pub record IsIdle (update : Update) : Type 0 where
  pub takes_none : takes_prefixes update ≡ []
  pub gives_none : gives_prefixes update ≡ []
  pub takes_no_rule : takes_rules update ≡ []
  pub gives_no_rule : gives_rules update ≡ []

-- the updates that an open session takes when this piece comes after the octets in hand
abbrev pub completed : Live → List ℕ → List Update
completed session piece =
    (session_from session.config session.peer session.phase (pending session.framing ++ piece)).0

abbrev pub AreIdle : Live → List ℕ → Type 0
AreIdle session piece = AllByRecursion IsIdle (completed session piece)

-- the session hasn't closed, or the peer held nothing
abbrev pub KeepsAll : ℕ → Live → Watched → Type 0
KeepsAll peer session watched = (session.closed ≡ None) ⊎ (held_count peer watched.table ≡ 0)

-- An update that lists nothing leaves the table as it is. Where it closes the session, nothing is noted of a peer that
-- held nothing.
abbrev pub IdlesUpdate : ℕ → Update → Watched → Watched → (open' : Bool) → Type 0
IdlesUpdate peer update watched watched' true = IsIdle update → watched' ≡ watched
IdlesUpdate peer update watched watched' false =
    IsIdle update → held_count peer watched.table ≡ 0 → watched'.changes ≡ watched.changes

-- Where all messages that a piece is to complete list nothing, one leaves the table as it is, and so are those after
-- it; or none is left, or the session closes.
abbrev pub IdlesMessage : ℕ → Live → Live → Watched → Watched → List ℕ → Option ℕ → Type 0
IdlesMessage peer old new watched watched' piece (Some count) =
    old.closed ≡ None → AreIdle old piece → (watched' ≡ watched) × AreIdle new (drop count piece)
IdlesMessage peer old new watched watched' piece None =
    old.closed ≡ None → AreIdle old piece → KeepsAll peer new watched → watched'.changes ≡ watched.changes

abbrev pub IdlesPiece : ℕ → Live → Live → Watched → Watched → List ℕ → Type 0
IdlesPiece peer old new watched watched' piece =
    old.closed ≡ None → AreIdle old piece → KeepsAll peer new watched → watched'.changes ≡ watched.changes
