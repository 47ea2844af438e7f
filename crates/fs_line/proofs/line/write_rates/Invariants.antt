use Rattle.fs_line.proofs.{Words.{take, rates_text, actions_walked, entries}, Outputs.{SentSo, moment}}
use Rattle.fs_line.proofs.line.write_rates.Given as goal

abbrev pub invariant-loop-rule : goal.invariant-loop-rule
invariant-loop-rule g l =
    SentSo (moment g.S.Sink l.fn.sink l.fn.output) (moment g.S.Sink l.sink l.output)
    (rates_text (actions_walked (entries (take l.rule-index l.walked))))
