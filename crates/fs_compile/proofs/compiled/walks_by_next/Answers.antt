use Rattle.fs_compile.proofs.Walking.{walks_by_next_law}
use Rattle.fs_compile.proofs.compiled.walks_by_next.Goals as goal

pub returns : goal.returns
returns c = walks_by_next_law
