use Rattle.fs_nlri.proofs.Words.{length, Appends}
use Rattle.fs_nlri.proofs.feed.decode_frames.Given as goal

abbrev pub invariant-frames : goal.invariant-frames
invariant-frames l = Appends l.family l.octets l.rest l.initial.out.items l.out.items

abbrev pub decreases-frames : goal.decreases-frames
decreases-frames l = length l.rest
