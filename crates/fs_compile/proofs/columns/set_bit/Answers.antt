use Rattle.fs_compile.proofs.Marking.{set_grows, set_there}
use Rattle.fs_compile.proofs.columns.set_bit.Goals as goal

pub returns-clause-grown : goal.returns-clause-grown
returns-clause-grown c = set_grows c.args.rows.now c.args.word c.args.bit c.requires.0

pub returns-clause-set : goal.returns-clause-set
returns-clause-set c = set_there c.args.rows.now c.args.word c.args.bit c.requires.0 c.requires.1
