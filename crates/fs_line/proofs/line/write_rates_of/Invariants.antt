use Rattle.fs_line.proofs.{Words.{take, rates_text}, Outputs.{SentSo, moment}}
use Rattle.fs_line.proofs.line.write_rates_of.Given as goal

abbrev pub invariant-loop-action : goal.invariant-loop-action
invariant-loop-action g l =
    SentSo (moment g.S.Sink l.fn.sink l.fn.output) (moment g.S.Sink l.sink l.output)
    (rates_text (take l.action-index l.action-items))
