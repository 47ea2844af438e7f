use Rattle.fs_nlri.proofs.OneOutcome.{one_frame_outcome, one_field_outcome}
use Rattle.fs_nlri.proofs.laws.one_outcome.Goals as goal

pub returns-clause-frame : goal.returns-clause-frame
returns-clause-frame c = one_frame_outcome

pub returns-clause-field : goal.returns-clause-field
returns-clause-field c = one_field_outcome
