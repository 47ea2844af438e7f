use Rattle.fs_speaker.proofs.Taking.{takes_delivered}
use Rattle.fs_speaker.proofs.laws.takes_what_was_delivered.Goals as goal

pub returns : goal.returns
returns c = takes_delivered
