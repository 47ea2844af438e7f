use Rattle.fs_speaker.proofs.Unnamed.{takes_none}
use Rattle.fs_speaker.proofs.laws.takes_none_unnamed.Goals as goal

pub returns : goal.returns
returns c = λ config peer sending events un. takes_none config peer sending un events
