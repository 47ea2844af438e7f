-- A record as it stands in a dump, field by field (RFC 6396 sections 2, 3 and 4.4), and what it tells.
use Rattle.std.specs.Prelude.{ℕ, List, ◌++◌, Option, Some, None, Bool, true, false, ◌≡◌, ◌≤◌, ◌+◌, ◌*◌, drop, length, max, if◌then◌else◌, ⊤}
use Rattle.byteorder.specs.Endian.{big_number}
use Rattle.fs_base.specs.declared.{config.Peer.{Peer}, prefix.Family.{Family}}
use Rattle.fs_mrt.specs.Peers.{number_at}
use Rattle.fs_mrt.specs.Record.{Said, Spoken, change, message, moment_behind, spoken, time_of}
use Rattle.fs_mrt.specs.{Shape.{address_of, address_size, family_of, shape_of, states_size}, declared.shape.Shape.{Shape as RecordShape}}

-- seconds, type, subtype, and the length of the body
pub record Header : Type 0 where
  pub seconds : List ℕ
  pub kind : List ℕ
  pub subtype : List ℕ
  pub size : List ℕ

abbrev pub header_text : Header → List ℕ
header_text h = h.seconds ++ (h.kind ++ (h.subtype ++ h.size))

-- of a body of so many octets
pub record IsHeader (size : ℕ) (h : Header) : Type 0 where
  pub seconds : length h.seconds ≡ 4
  pub kind : length h.kind ≡ 2
  pub subtype : length h.subtype ≡ 2
  pub room : length h.size ≡ 4
  pub size_is : big_number 4 h.size ≡ size

-- The body of a message or of a change of state: the microseconds, where the type has them; the AS numbers of both ends
-- and the interface's number; the family of the addresses; the peer's address and the local one; and the message, or the
-- old and the new state and octets that aren't read.
pub record Body : Type 0 where
  pub micros : List ℕ
  pub numbers : List ℕ
  pub family : List ℕ
  pub addresses : List ℕ
  pub said : List ℕ

abbrev pub body_text : Body → List ℕ
body_text body = (body.micros ++ (body.numbers ++ body.family)) ++ (body.addresses ++ body.said)

pub record IsBody (shape : RecordShape) (family : Family) (body : Body) : Type 0 where
  pub micros : length body.micros ≡ (if shape.timed then 4 else 0)
  pub numbers : length body.numbers ≡ (if shape.wide then 8 else 4) + 2
  pub family_size : length body.family ≡ 2
  pub family_is : family_of (big_number 2 body.family) ≡ Some family
  pub addresses : length body.addresses ≡ 2 * address_size family
  pub states : states_size shape ≤ length body.said
  pub room : length (body_text body) ≤ 65536

-- a BGP message, whose length stands behind 16 octets (RFC 4271 section 4.1)
pub record IsMessage (octets : List ℕ) : Type 0 where
  pub header : 19 ≤ length octets
  pub size_is : big_number 2 (drop 16 octets) ≡ length octets

-- what a configured peer said is a change of state or a message; of others nobody asks
abbrev pub IsSaidBy : Option ℕ → (is_change : Bool) → List ℕ → Type 0
IsSaidBy None is_change said = ⊤
IsSaidBy (Some peer) true said = ⊤
IsSaidBy (Some peer) false said = IsMessage said

abbrev pub said_of : (is_change : Bool) → List ℕ → Said
said_of true said = change (big_number 2 said) (big_number 2 (drop 2 said))
said_of false said = message said

abbrev pub heard_as : (moment : ℕ) → RecordShape → Option ℕ → List ℕ → Option Spoken
heard_as moment shape None said = None
heard_as moment shape (Some peer) said = Some (spoken peer moment shape.wide (said_of shape.change said))

-- a record of another type, or of a message or a change of state
pub data Entry : Type 0 where
  unread : Header → List ℕ → Entry
  told : Header → RecordShape → Family → Body → Entry

abbrev pub entry_text : Entry → List ℕ
entry_text (unread h body) = header_text h ++ body
entry_text (told h shape family body) = header_text h ++ body_text body

abbrev pub shape_in : Header → Option RecordShape
shape_in h = shape_of (big_number 2 h.kind) (big_number 2 h.subtype)

-- the number of the peer, where it is configured
abbrev pub peer_in : List Peer → Family → Body → Option ℕ
peer_in peers family body = number_at (address_of family body.addresses) peers

-- a record of a message or of a change of state
pub record IsTold (peers : List Peer) (h : Header) (shape : RecordShape) (family : Family) (body : Body) : Type 0 where
  pub header : IsHeader (length (body_text body)) h
  pub shape_is : shape_in h ≡ Some shape
  pub body_is : IsBody shape family body
  pub said_is : IsSaidBy (peer_in peers family body) shape.change body.said

abbrev pub IsEntry : List Peer → Entry → Type 0
IsEntry peers (unread h body) = IsHeader (length body) h × (shape_in h ≡ None)
IsEntry peers (told h shape family body) = IsTold peers h shape family body

-- what a record tells behind one of this moment, where its peer is configured
abbrev pub entry_told : List Peer → (moment : ℕ) → Entry → Option Spoken
entry_told peers moment (unread h body) = None
entry_told peers moment (told h shape family body) =
    heard_as (max moment (time_of shape (big_number 4 h.seconds) body.micros)) shape (peer_in peers family body) body.said

-- and the moment behind it
abbrev pub entry_gives : List Peer → (moment : ℕ) → Entry → Option Spoken × ℕ
entry_gives peers moment entry = (entry_told peers moment entry, moment_behind moment (entry_told peers moment entry))
