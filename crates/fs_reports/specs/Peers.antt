-- The lines of peers.
use Rattle.std.specs.{Prelude.{ℕ, List, ◌++◌, filter, flat_map, is_some, codes, decimal}, List.{range_with_len}}
use Rattle.fs_base.specs.{Config.{peer_of}, declared.config.Peer.{Peer}}
use Rattle.fs_speaker.specs.declared.State.{State, TheVariants.{WaitOpen, WaitKeep, Established, Closed as IsClosed}}
use Rattle.fs_speaker.specs.declared.Closed.TheVariants.{Fault, Notified, NoFamily, Memory}
use Rattle.fs_speaker.specs.declared.Standing.{Standing, TheVariants.{Down, Live, Ended}}
use Rattle.fs_desk.specs.Desk.{Desked, standing_at_desk}

-- the state of an open session (RFC 4271 section 8.2.2); an open one is never closed
abbrev pub state_name : State → List ℕ
state_name WaitOpen = codes "wait-open"
state_name WaitKeep = codes "wait-keepalive"
state_name Established = codes "established"
state_name IsClosed = codes "closed"

-- a word and the codes of a NOTIFICATION (RFC 4271 section 4.5)
abbrev pub codes_text : List ℕ → ℕ → ℕ → List ℕ
codes_text word code subcode = word ++ (decimal code ++ (codes "/" ++ decimal subcode))

-- a peer's octets close its session by a fault or a NOTIFICATION, and in no other way
abbrev pub standing_text : Standing → List ℕ
standing_text Down = codes "down"
standing_text (Live state) = state_name state
standing_text (Ended (Fault code subcode)) = codes_text (codes "closed ") code subcode
standing_text (Ended (Notified code subcode)) = codes_text (codes "notified ") code subcode
standing_text (Ended NoFamily) = codes "closed"
standing_text (Ended Memory) = codes "closed"

abbrev pub peer_line : ℕ → Standing → List ℕ
peer_line number standing = codes "peer " ++ (decimal number ++ (codes " " ++ (standing_text standing ++ codes "\n")))

-- the numbers below a bound that peers have, each once, by size
unfoldable pub numbers_below : ℕ → List Peer → List ℕ
numbers_below bound peers = filter (λ number. is_some (peer_of number peers)) (range_with_len 0 bound)

-- the numbers of the configured peers, which have sixteen bits
abbrev pub numbers_of : List Peer → List ℕ
numbers_of peers = numbers_below 65536 peers

-- the lines of the peers of these numbers
abbrev pub peers_text : List ℕ → (ℕ → Standing) → List ℕ
peers_text numbers standing = flat_map (λ number. peer_line number (standing number)) numbers

-- the lines of the configured peers, by the sessions that a desk keeps
abbrev pub desk_peers : Desked → List ℕ
desk_peers desk = peers_text (numbers_of desk.config.peers) (standing_at_desk desk)
