-- The configuration that the generator's tape is played under.
use Rattle.std.specs.Prelude.{ℕ, ◌+◌, [], ◌∷◌, true, false, None}
use Rattle.fs_base.specs.declared.config.{Address.TheVariants.{V4}, Config.{Config}, Peer.{Peer}}

-- a peer at 198.51.100.0 and its number
abbrev pub peer_at : (number asn : ℕ) → Peer
peer_at number asn = record { number = number; address = V4 (3325256704 + number); asn = asn; max_routes = None }

-- AS 65000, identifier 192.0.2.254, and three peers, of which the third is internal
abbrev pub three_peers : Config
three_peers = record {
  local_as = 65000;
  local_id = 3221226238;
  allow_no_destination = false;
  empty_path_valid = true;
  hold_time = 0;
  peers = peer_at 1 65001 ∷ peer_at 2 65002 ∷ peer_at 3 65000 ∷ [];
}
