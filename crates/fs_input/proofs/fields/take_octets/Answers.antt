use Rattle.fs_input.proofs.Again.{reads_straight}
use Rattle.fs_input.proofs.fields.take_octets.Goals as goal

pub returns-clause-reads : goal.returns-clause-reads
returns-clause-reads g c = reads_straight _ _ c.requires.none (c.take_again.ensures.straight c.requires.none) c.take_again.ensures.reads
