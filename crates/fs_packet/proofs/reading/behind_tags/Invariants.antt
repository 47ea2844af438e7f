use Rattle.fs_packet.proofs.Tags.{Tagged}
use Rattle.fs_packet.proofs.reading.behind_tags.Given as goal

abbrev pub invariant-loop-tags : goal.invariant-loop-tags
invariant-loop-tags l = Tagged l.octets l.tags l.place

abbrev pub decreases-loop-tags : goal.decreases-loop-tags
decreases-loop-tags l = l.tags
