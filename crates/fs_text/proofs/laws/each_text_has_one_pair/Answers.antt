use Rattle.fs_text.proofs.OnePair.{one_text}
use Rattle.fs_text.proofs.laws.each_text_has_one_pair.Goals as goal

pub returns : goal.returns
returns c = λ rule other actions also is are too given e. one_text rule other actions also is are too given e
