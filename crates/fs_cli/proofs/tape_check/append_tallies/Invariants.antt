use Rattle.fs_cli.proofs.Words.{◌≡◌, ◌++◌}
use Rattle.std.specs.Prelude.{drop, string_bytes}
use Rattle.fs_cli.specs.TapeCheck.{tally_at, tally_lines}
use Rattle.fs_cli.proofs.tape_check.append_tallies.Given as goal

abbrev pub invariant-loop-number : goal.invariant-loop-number
invariant-loop-number l =
    string_bytes l.text ++ tally_lines (drop l.number-index l.numbers) (tally_at l.counts.by_number)
    ≡ string_bytes l.fn.text ++ tally_lines l.numbers (tally_at l.counts.by_number)
