use Rattle.fs_pcapng.proofs.Spelled.{block_takes}
use Rattle.fs_pcapng.proofs.blocks.SectionParts.first_size.Goals as goal

pub returns-clause-takes : goal.returns-clause-takes
returns-clause-takes c = λ state. block_takes state
