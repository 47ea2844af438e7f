use Rattle.fs_peering.proofs.{Words.{rules, arith, ◌<◌, length, take_rest}, WrittenInParts.{wrote_more}}
use Rattle.fs_peering.proofs.round.write_end.Goals as goal

pub returns-in_err-count-clause-idle : goal.returns-in_err-count-clause-idle
returns-in_err-count-clause-idle g c = λ none.
    let some : 0 < length c.loop-rest.rest.now = search rules in
    let ends = (c.loop-rest.invariant.idle none).0 in
    absurd (let no : ⊥ = omega (arith, some, ends) in no)

pub loop-rest-preserved : goal.loop-rest-preserved
loop-rest-preserved g c = record {
  later = search rules;
  idle = λ none.
      let some : 0 < length c.loop-rest.rest.now = search rules in
      let ends = (c.loop-rest.invariant.idle none).0 in
      absurd (let no : ⊥ = omega (arith, some, ends) in no);
  writing = rw take_rest (wrote_more _ _ _ _ _ _ _ c.loop-rest.invariant.writing c.in_ok-count.ensures.writes);
}
