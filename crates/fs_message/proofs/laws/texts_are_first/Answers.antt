use Rattle.fs_message.proofs.TextFirst.{text_first}
use Rattle.fs_message.proofs.laws.texts_are_first.Goals as goal

pub returns : goal.returns
returns c = text_first
