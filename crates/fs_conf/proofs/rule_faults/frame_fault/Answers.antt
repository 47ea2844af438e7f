use Rattle.fs_conf.proofs.RulesTelling.{begins}
use Rattle.fs_conf.proofs.rule_faults.frame_fault.Goals as goal
use Rattle.fs_conf.proofs.rule_faults.frame_fault.Goals.{in-Ok, in-Err-Bad, in-Err-Memory}

pub returns : goal.returns
returns c =
    elim c.match-decode.branch [
      | in-Ok w ↦ rw w.result-is (begins c.args.family c.args.octets.now w.in-Ok.field-0.1 w.in-Ok.field-0.0 w.in-Ok.ensures.family w.in-Ok.ensures.found)
      | in-Err-Bad w ↦ rw w.result-is (rw w.in-Err-Bad.field-0-is at w.in-Err-Bad.ensures.fault)
      | in-Err-Memory w ↦ rw w.result-is tt
    ]
