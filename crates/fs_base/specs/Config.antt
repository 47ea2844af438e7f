-- Peers, as the configuration names them.
use Rattle.std.specs.Prelude.{◌==◌, ℕ, Option, List, find}
use Rattle.fs_base.specs.declared.config.Peer.{Peer}

-- the configured peer of that number
abbrev pub peer_of : ℕ → List Peer → Option Peer
peer_of number peers = find (λ peer. peer.number == number) peers
