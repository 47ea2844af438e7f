use Rattle.fs_ranges.proofs.{Words.{◌∙◌, sym, ap, is_syn}, Flags.{syn_is}, ComponentTests.{flags_are}}
use Rattle.fs_ranges.proofs.components.flags_test.Goals as goal

pub returns-then-is_syn : goal.returns-then-is_syn
returns-then-is_syn c = syn_is c.args.list.now c.requires (sym (c.is_syn.ensures ∙ ap is_syn c.pairs.ensures.value) ∙ c.if-is_syn.true)

pub returns : goal.returns
returns c = flags_are c.args.list.now c.in_ok-copy.field-0 c.requires c.in_ok-copy.ensures
