use Rattle.fs_compile.proofs.Words.{◌≡◌, ◌++◌, drop, all_admitted, actions_of}
use Rattle.fs_compile.proofs.index.shared_actions.Given as goal

abbrev pub invariant-loop-admitted : goal.invariant-loop-admitted
invariant-loop-admitted l = l.actions.items ++ actions_of (all_admitted (drop l.admitted-index l.list)) ≡ actions_of (all_admitted l.list)
