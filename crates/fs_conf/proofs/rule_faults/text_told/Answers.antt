use Rattle.fs_conf.proofs.RulesTelling.{word_within}
use Rattle.fs_conf.proofs.rule_faults.text_told.Goals as goal

pub from_one-requires : goal.from_one-requires
from_one-requires c =
    word_within c.in-Some.text.now c.in-Some-Bad.word (rw c.in-Some-Bad.field-0-is at (rw c.in-Some-Bad.is at c.in_ok-text_fault.ensures).1)
