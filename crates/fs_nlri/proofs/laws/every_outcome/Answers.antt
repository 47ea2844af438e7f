use Rattle.fs_nlri.proofs.Reading.{frame_is, field_is}
use Rattle.fs_nlri.specs.Reading.{frame_at, rules_of}
use Rattle.fs_nlri.proofs.laws.every_outcome.Goals as goal

pub returns-clause-frame : goal.returns-clause-frame
returns-clause-frame c = λ family octets. (frame_at family octets, frame_is family octets)

pub returns-clause-field : goal.returns-clause-field
returns-clause-field c = λ family octets. (rules_of family octets, field_is family octets)
