use Rattle.fs_peering.proofs.Words.{is_established, machine_in, ◌≡◌, ◌≤◌, ◌+◌, [], false, length, None, Going, CountsOn, KeepsSettled}
use Rattle.fs_peering.proofs.teller.take.Given as goal

abbrev pub invariant-messages : goal.invariant-messages
invariant-messages l = record {
  same : KeepsSettled l.fn.announcer l.announcer;
  alive : l.fn.announcer.line.closed ≡ None → l.announcer.line.closed ≡ None;
  early : l.hears_on ≡ false → is_established l.fn.announcer.line.phase.state ≡ false → is_established l.announcer.line.phase.state ≡ false;
  going : Going (machine_in l.fn.announcer) l.moment l.fn.announcer.line l.announcer.line l.fn.piece l.rest [] [] l.fn.out.items l.out.items;
  bound : l.needed + length l.rest ≤ length l.fn.piece;
  counts : CountsOn l.hears_on (machine_in l.fn.announcer) l.fn.announcer.line l.announcer.line l.fn.piece l.rest l.needed;
}

abbrev pub decreases-messages : goal.decreases-messages
decreases-messages l = length l.rest
