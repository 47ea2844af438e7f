use Rattle.fs_mrt.proofs.Written.{record_takes}
use Rattle.fs_mrt.proofs.records.RecordsParts.first_size.Goals as goal

pub returns-clause-takes : goal.returns-clause-takes
returns-clause-takes c = λ state. record_takes c.args._config.now.peers state
