use Rattle.std.specs.String.{string_bytes}
use Rattle.fs_words.proofs.Spaces.{Printed}
use Rattle.fs_words.proofs.printing.print_components.Given as goal

abbrev pub invariant-loop-component : goal.invariant-loop-component
invariant-loop-component l = Printed (string_bytes l.fn.out) (string_bytes l.out) l.components l.component-index
