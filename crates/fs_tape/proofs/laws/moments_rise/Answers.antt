use Rattle.fs_tape.proofs.Rising.{moments_rise}
use Rattle.fs_tape.proofs.laws.moments_rise.Goals as goal

pub returns : goal.returns
returns c = moments_rise
