use Rattle.fs_message.proofs.Words.{◌≡◌, length, gathered}
use Rattle.fs_message.proofs.capabilities.read_capabilities.Given as goal

abbrev pub invariant-loop-capability : goal.invariant-loop-capability
invariant-loop-capability l = gathered l.found l.rest ≡ gathered l.fn.found l.fn.octets

abbrev pub decreases-loop-capability : goal.decreases-loop-capability
decreases-loop-capability l = length l.rest
