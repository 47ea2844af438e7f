use Rattle.fs_text.proofs.Wide.{coded}
use Rattle.fs_text.proofs.lists.loose_bits.Goals as goal

pub returns-clause-loose : goal.returns-clause-loose
returns-clause-loose c = coded c.args.digits.now c.code_at.result c.loose_coded.result c.code_at.ensures.value c.loose_coded.ensures.loose
