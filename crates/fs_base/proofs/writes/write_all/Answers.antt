use Rattle.fs_base.proofs.{Words.{rules, take_rest}, Grew.{on_err}, Writing.{writing_more, writing_part, writing_some}}
use Rattle.fs_base.proofs.writes.write_all.Goals as goal

pub returns-in_err-count-clause-err : goal.returns-in_err-count-clause-err
returns-in_err-count-clause-err g c =
    on_err c.from_residual.result (writing_part _ _ _ _ _ c.loop-rest.invariant.writing c.in_err-count.ensures.written)

pub returns-in_err-count-clause-idle : goal.returns-in_err-count-clause-idle
returns-in_err-count-clause-idle g c = λ none. absurd (writing_some _ _ _ _ c.loop-rest.invariant.writing (search rules) none)

pub loop-rest-preserved : goal.loop-rest-preserved
loop-rest-preserved g c = record {
  later = search rules;
  idle = λ none. absurd (writing_some _ _ _ _ c.loop-rest.invariant.writing (search rules) none);
  writing = rw take_rest (writing_more _ _ _ _ _ _ c.loop-rest.invariant.writing c.in_ok-count.ensures.written);
}
