use Rattle.fs_text.proofs.Listed.{lists_loosely}
use Rattle.fs_text.proofs.values.loose_value.Goals as goal

pub returns-else-kind-le2 : goal.returns-else-kind-le2
returns-else-kind-le2 c = lists_loosely c.args.family c.args.kind c.args.word.now c.loose_list.result c.if-kind-le2.false c.loose_list.ensures
