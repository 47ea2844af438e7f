-- A record of an MRT dump, as a chain of fields: seconds (four octets), type and subtype (two each), the body's length
-- (four), and the body, all big-endian (RFC 6396 sections 2, 4.4).
use Rattle.std.specs.Prelude.{ℕ, List, ◌++◌, Option, Some, None, Bool, true, false, ◌+◌, ◌-◌, ◌*◌, ◌==◌, ◌&&◌, drop, max, nat_le, if◌then◌else◌}
use Rattle.byteorder.specs.Endian.{big_number}
use Rattle.fs_base.specs.declared.{config.{Address.{Address}, Peer.{Peer}}, prefix.Family.{Family}}
use Rattle.fs_input.specs.{Reads.{whole}, Scan.{Scanner, and, fails, field, gives, needs, skips}}
use Rattle.fs_mrt.specs.Peers.{number_at}
use Rattle.fs_mrt.specs.Shape.{address_of, address_size, family_of, front_size, shape_of, states_size}
use Rattle.fs_mrt.specs.declared.fault.DumpReason.{DumpReason, TheVariants.{Family as WrongFamily, Length, Message as WrongMessage}}
use Rattle.fs_mrt.specs.declared.{«record».{Front.{Front}, Head.{Head}}, shape.Shape.{Shape as RecordShape}}

-- a message, or the old and the new state
pub data Said : Type 0 where
  message : List ℕ → Said
  change : (old new : ℕ) → Said

-- What a record tells of a configured peer. The moment, in nanoseconds since the start of 1970, is the greatest time of
-- the records of configured peers up to and with this one.
pub record Spoken : Type 0 where
  pub peer : ℕ
  pub moment : ℕ
  pub wide : Bool
  pub said : Said

abbrev pub message_behind : (size start : ℕ) → List ℕ → Scanner Said DumpReason
message_behind size start front =
    needs (big_number 2 (drop 16 front) == size) WrongMessage start
    (and (field (size - 18) whole) (λ rest. gives (message (front ++ rest))))

-- A BGP message of so many octets. Its header has 19, of which the length stands behind 16 (RFC 4271 section 4.1).
abbrev pub message_in : ℕ → Scanner Said DumpReason
message_in size place = needs (nat_le 19 size) WrongMessage place (and (field 18 whole) (message_behind size place)) place

abbrev pub states_behind : ℕ → List ℕ → Scanner Said DumpReason
states_behind size states = and (skips (size - 4)) (λ _. gives (change (big_number 2 states) (big_number 2 (drop 2 states))))

-- the old and the new state, and octets that aren't read
abbrev pub states_in : ℕ → Scanner Said DumpReason
states_in size = and (field 4 whole) (states_behind size)

abbrev pub said_in : Bool → ℕ → Scanner Said DumpReason
said_in true size = states_in size
said_in false size = message_in size

abbrev pub spoken : (peer moment : ℕ) → Bool → Said → Spoken
spoken peer moment wide said = record { peer = peer; moment = moment; wide = wide; said = said }

-- what stands behind the addresses, where the peer has this number, or isn't configured
abbrev pub heard_in : (moment size : ℕ) → RecordShape → Option ℕ → Scanner (Option Spoken) DumpReason
heard_in moment size shape None = and (skips size) (λ _. gives None)
heard_in moment size shape (Some peer) = and (said_in shape.change size) (λ said. gives (Some (spoken peer moment shape.wide said)))

-- the octets in front of the message or the states
abbrev pub ends_size : RecordShape → Family → ℕ
ends_size shape family = front_size shape + 2 + 2 * address_size family

abbrev pub said_at : List Peer → (moment size : ℕ) → RecordShape → Address → Scanner (Option Spoken) DumpReason
said_at peers moment size shape address = heard_in moment size shape (number_at address peers)

-- the peer's address and the local one, and so many octets behind them
abbrev pub addressed_in : List Peer → (moment size : ℕ) → RecordShape → Family → Scanner (Option Spoken) DumpReason
addressed_in peers moment size shape family =
    and (field (2 * address_size family) (address_of family)) (said_at peers moment size shape)

abbrev pub ends_in : List Peer → (moment size : ℕ) → RecordShape → Front → Scanner (Option Spoken) DumpReason
ends_in peers moment size shape front =
    addressed_in peers (max moment front.time) (size - ends_size shape front.family) shape front.family

-- nanoseconds
abbrev pub time_of : RecordShape → (seconds : ℕ) → List ℕ → ℕ
time_of shape seconds octets = seconds * 1000000000 + (if shape.timed then big_number 4 octets * 1000 else 0)

-- the peer's AS number
abbrev pub asn_of : RecordShape → List ℕ → ℕ
asn_of shape octets = big_number (if shape.wide then 4 else 2) (drop (if shape.timed then 4 else 0) octets)

abbrev pub front_of : (time asn : ℕ) → Family → Front
front_of time asn family = record { time = time; asn = asn; family = family }

abbrev pub family_in : (spot start size time asn : ℕ) → RecordShape → Option Family → Scanner Front DumpReason
family_in spot start size time asn shape None = fails WrongFamily start
family_in spot start size time asn shape (Some family) =
    needs (nat_le (ends_size shape family + states_size shape) size) Length spot (gives (front_of time asn family))

abbrev pub front_behind : (spot start seconds size : ℕ) → RecordShape → List ℕ → Scanner Front DumpReason
front_behind spot start seconds size shape octets =
    family_in spot (start + front_size shape) size (time_of shape seconds octets) (asn_of shape octets) shape
    (family_of (big_number 2 (drop (front_size shape) octets)))

-- The fields up to the address family. The record's length, which stands at `spot`, is judged before them, and again
-- once the family tells how many octets the addresses have.
abbrev pub front_in : (spot seconds size : ℕ) → RecordShape → Scanner Front DumpReason
front_in spot seconds size shape place =
    needs (nat_le (front_size shape + 2) size && nat_le size 65536) Length spot
    (and (field (front_size shape + 2) whole) (front_behind spot place seconds size shape)) place

-- a body that is read, or one that isn't
abbrev pub body_in : List Peer → (moment spot seconds size : ℕ) → Option RecordShape → Scanner (Option Spoken) DumpReason
body_in peers moment spot seconds size None = and (skips size) (λ _. gives None)
body_in peers moment spot seconds size (Some shape) =
    and (front_in spot seconds size shape) (ends_in peers moment size shape)

-- what is told of the moment of the last record of a configured peer
abbrev pub moment_behind : ℕ → Option Spoken → ℕ
moment_behind moment None = moment
moment_behind moment (Some heard) = heard.moment

-- what a head says whose length stands at this place
abbrev pub head_of : (spot : ℕ) → List ℕ → Head
head_of spot octets = record {
  spot = spot;
  seconds = big_number 4 octets;
  size = big_number 4 (drop 8 octets);
  shape = shape_of (big_number 2 (drop 4 octets)) (big_number 2 (drop 6 octets));
}

abbrev pub headed_in : List Peer → (moment : ℕ) → Head → Scanner (Option Spoken × ℕ) DumpReason
headed_in peers moment head =
    and (body_in peers moment head.spot head.seconds head.size head.shape) (λ heard. gives (heard, moment_behind moment heard))

abbrev pub record_behind : List Peer → (moment start : ℕ) → List ℕ → Scanner (Option Spoken × ℕ) DumpReason
record_behind peers moment start octets = headed_in peers moment (head_of (start + 8) octets)

-- a record behind one of this moment, and the moment behind it
abbrev pub record_in : List Peer → ℕ → Scanner (Option Spoken × ℕ) DumpReason
record_in peers moment place = and (field 12 whole) (record_behind peers moment place) place
