use Rattle.fs_line.proofs.{Words.{take, others_text, entries, numbers_walked}, Outputs.{SentSo, moment}}
use Rattle.fs_line.proofs.line.write_others.Given as goal

abbrev pub invariant-loop-rule : goal.invariant-loop-rule
invariant-loop-rule g l =
    SentSo (moment g.S.Sink l.fn.sink l.fn.output) (moment g.S.Sink l.sink l.output)
    (others_text (numbers_walked (entries (take l.rule-index l.others))))
