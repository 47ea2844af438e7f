use Rattle.fs_speaker.proofs.Fronting.{takes_front}
use Rattle.fs_speaker.proofs.laws.takes_a_front.Goals as goal

pub returns : goal.returns
returns c = λ config peer sending events can. takes_front config peer sending can events
