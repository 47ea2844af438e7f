use Rattle.fs_mrt.proofs.AllHeard.{heard_fits}
use Rattle.fs_mrt.proofs.laws.heard_fits.Goals as goal

pub returns : goal.returns
returns c = heard_fits
