use Rattle.fs_conf.proofs.Words.{◌≡◌, ◌+◌, ◌≤◌, drop}
use Rattle.fs_conf.specs.Fault.{position_from, position_of}
use Rattle.fs_conf.proofs.faults.position_of.Given as goal

-- what is left counts on from here, and neither number passes what was counted
abbrev pub invariant-loop-octet : goal.invariant-loop-octet
invariant-loop-octet l =
    (position_of l.before ≡ position_from l.at (drop l.octet-index l.before)) × (l.at.0 ≤ l.octet-index + 1) × (l.at.1 ≤ l.octet-index + 1)
