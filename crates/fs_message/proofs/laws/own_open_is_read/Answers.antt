use Rattle.fs_message.proofs.OpenReadBack.{open_read, open_unnamed}
use Rattle.fs_message.proofs.laws.own_open_is_read.Goals as goal

pub returns-clause-read : goal.returns-clause-read
returns-clause-read c = open_read

pub returns-clause-unnamed : goal.returns-clause-unnamed
returns-clause-unnamed c = open_unnamed
