use Rattle.std.proofs.Common.{◌≡◌, ◌<◌, All, map, take}
use Rattle.fs_reports.proofs.Numbers.{number_of}
use Rattle.fs_reports.proofs.peers.peer_numbers.Given as goal

abbrev pub invariant-loop-peer : goal.invariant-loop-peer
invariant-loop-peer l = record {
  numbers : l.numbers.items ≡ map number_of (take l.peer-index l.peers);
  below : All (λ n. n < 65536) l.numbers.items;
}
