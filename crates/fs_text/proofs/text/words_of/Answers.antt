use Rattle.std.proofs.{Common.{arith}, lemmas.Iterator.{Consumers.{map_from_collect}, Splits.{YieldsList-from_str_split}}}
use Rattle.fs_text.proofs.text.words_of.Goals as goal

pub returns : goal.returns
returns c =
    map_from_collect c.collect.result c.collect.ensures.ran
    (YieldsList-from_str_split 32 c.args.text.now (omega arith) c.split.ensures.text c.split.ensures.has_more c.split.ensures.pattern)
