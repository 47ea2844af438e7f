use Rattle.fs_input.proofs.Words.{rules, passes_in}
use Rattle.fs_input.proofs.reading.next_told.Goals as goal

pub parts-preserved : goal.parts-preserved
parts-preserved g c = record {
  room = search rules;
  straight = search rules;
  place = search rules;
  moves = search rules;
  passes = passes_in c.parts.invariant.passes c.advance.ensures.passes;
  coming = search rules;
}

pub returns-in-Ok-Some-Some-clause-passes : goal.returns-in-Ok-Some-Some-clause-passes
returns-in-Ok-Some-Some-clause-passes g c = passes_in c.parts.invariant.passes c.advance.ensures.passes

pub returns-in-Ok-None-clause-passes : goal.returns-in-Ok-None-clause-passes
returns-in-Ok-None-clause-passes g c = passes_in c.parts.invariant.passes c.advance.ensures.passes

pub returns-in-Err-clause-passes : goal.returns-in-Err-clause-passes
returns-in-Err-clause-passes g c = passes_in c.parts.invariant.passes c.advance.ensures.passes
