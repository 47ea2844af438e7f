use Rattle.fs_nlri.proofs.Again.{canonical_is_frame, canonical_is_own}
use Rattle.fs_nlri.proofs.laws.canonical_is_frame.Goals as goal

pub returns-clause-frame : goal.returns-clause-frame
returns-clause-frame c = canonical_is_frame

pub returns-clause-own : goal.returns-clause-own
returns-clause-own c = canonical_is_own
