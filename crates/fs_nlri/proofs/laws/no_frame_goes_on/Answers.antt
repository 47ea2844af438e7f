use Rattle.fs_nlri.proofs.Again.{no_frame_goes_on}
use Rattle.fs_nlri.proofs.laws.no_frame_goes_on.Goals as goal

pub returns : goal.returns
returns c = no_frame_goes_on
