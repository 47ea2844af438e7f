use Rattle.std.specs.String.{string_bytes}
use Rattle.fs_words.proofs.Spaces.{Told}
use Rattle.fs_words.proofs.printing.print_each_action.Given as goal

abbrev pub invariant-loop-action : goal.invariant-loop-action
invariant-loop-action l = Told (string_bytes l.fn.out) (string_bytes l.out) l.actions l.action-index
