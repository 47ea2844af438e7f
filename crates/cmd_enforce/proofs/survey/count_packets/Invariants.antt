use Rattle.cmd_enforce.proofs.Words.{◌≡◌, ◌≤◌, ◌-◌, IsTrue, None, length}
use Rattle.fs_pcap.specs.Head.{longest_record}
use Rattle.std.specs.List.{AllByRecursion}
use Rattle.cmd_enforce.specs.declared.tally.LinkCount.{LinkCount}
use Rattle.cmd_enforce.specs.{Capture.{coming, own_link}, Survey.{all_noted}}
use Rattle.cmd_enforce.proofs.survey.count_packets.Given as goal

abbrev pub invariant-packets : goal.invariant-packets
invariant-packets g l = record {
  room : longest_record ≤ length l.buffer;
  unended : l.capture.end ≡ None;
  slot : l.capture.slot ≡ l.fn.capture.slot;
  limit : l.capture.limit ≡ l.fn.capture.limit;
  few : l.tally.count ≤ l.capture.place;
  links : AllByRecursion (λ (count : LinkCount). count.packets ≤ l.capture.place) l.tally.links;
  within : l.capture.place ≤ l.capture.limit;
  later : g.F.Files.faults l.fn.files ≤ g.F.Files.faults l.files;
  opened : g.F.Files.opened l.files ≡ g.F.Files.opened l.fn.files;
  link : own_link l.capture.context ≡ own_link l.fn.capture.context;
  ends : IsTrue g.F.Files.tells
      → (coming l.fn.capture (g.F.Files.left l.fn.files l.fn.capture.slot)).1 ≡ (coming l.capture (g.F.Files.left l.files l.fn.capture.slot)).1;
  counts : IsTrue g.F.Files.tells
      → all_noted l.fn.tally (coming l.fn.capture (g.F.Files.left l.fn.files l.fn.capture.slot)).0
      ≡ all_noted l.tally (coming l.capture (g.F.Files.left l.files l.fn.capture.slot)).0;
}

abbrev pub decreases-packets : goal.decreases-packets
decreases-packets g l = l.capture.limit - l.capture.place
