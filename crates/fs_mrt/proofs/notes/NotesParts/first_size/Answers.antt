use Rattle.fs_mrt.proofs.Noted.{note_takes}
use Rattle.fs_mrt.proofs.notes.NotesParts.first_size.Goals as goal

pub returns-clause-takes : goal.returns-clause-takes
returns-clause-takes c = λ state. note_takes c.args._config.now.peers state
