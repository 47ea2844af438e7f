-- Which connection speaks for which peer.
use Rattle.std.specs.{Prelude.{ℕ, List, Bool, false, Option, Some, None, ◌==◌, ◌&&◌, not, find, filter}, List.{list_any}}
use Rattle.fs_base.specs.declared.config.{Address.{Address, TheVariants.{V4, V6}}, Peer.{Peer}}
use Rattle.fs_message.specs.Write.{as_field}
use Rattle.fs_recorder.specs.declared.seats.Seat.{Seat}

-- the seat of this line
abbrev pub seat_of : ℕ → List Seat → Option Seat
seat_of line seats = find (λ (seat : Seat). seat.line == line) seats

-- the seat of this peer
abbrev pub seat_for : ℕ → List Seat → Option Seat
seat_for peer seats = find (λ (seat : Seat). seat.peer == peer) seats

-- the seats of other lines
abbrev pub without : ℕ → List Seat → List Seat
without line seats = filter (λ (seat : Seat). not (seat.line == line)) seats

abbrev pub is_same : Address → Address → Bool
is_same (V4 a) (V4 b) = a == b
is_same (V6 a) (V6 b) = a == b
is_same _ _ = false

abbrev pub is_seated : ℕ → List Seat → Bool
is_seated peer seats = list_any (λ (seat : Seat). seat.peer == peer) seats

-- the first peer that has this address and no seat
abbrev pub free_peer : Address → List Seat → List Peer → Option Peer
free_peer from seats peers = find (λ (peer : Peer). is_same peer.address from && not (is_seated peer.number seats)) peers

-- whether a peer has this address and no seat
abbrev pub is_free : Address → List Seat → Peer → Bool
is_free from seats peer = is_same peer.address from && not (is_seated peer.number seats)

-- the first such peer whose AS is this one as an OPEN's own field has it
abbrev pub free_peer_of : Address → (number : ℕ) → List Seat → List Peer → Option Peer
free_peer_of from number seats peers = find (λ (peer : Peer). is_free from seats peer && (as_field peer.asn == number)) peers

-- that one where an AS was told and there is one, else the first
abbrev pub free_by : Address → (told : Option ℕ) → List Seat → List Peer → Option Peer
free_by from None seats peers = free_peer from seats peers
free_by from (Some number) seats peers =
    elim (free_peer_of from number seats peers) [ None ↦ free_peer from seats peers | Some peer ↦ Some peer ]

-- whether such peers are told apart by that field
abbrev pub are_told_apart : Address → List Seat → List Peer → Bool
are_told_apart from seats peers =
    elim (free_peer from seats peers) [
      | None ↦ false
      | Some first ↦ list_any (λ (peer : Peer). is_free from seats peer && not (as_field peer.asn == as_field first.asn)) peers
    ]

-- the first peer that has this address
abbrev pub first_peer : Address → List Peer → Option Peer
first_peer from peers = find (λ (peer : Peer). is_same peer.address from) peers
