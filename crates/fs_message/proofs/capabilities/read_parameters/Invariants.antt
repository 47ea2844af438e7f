use Rattle.fs_message.proofs.Words.{◌≡◌, length, [], found_in, all_gathered}
use Rattle.fs_message.proofs.capabilities.read_parameters.Given as goal

abbrev pub invariant-loop-parameter : goal.invariant-loop-parameter
invariant-loop-parameter l = all_gathered l.found l.rest ≡ all_gathered (found_in []) l.fn.octets

abbrev pub decreases-loop-parameter : goal.decreases-loop-parameter
decreases-loop-parameter l = length l.rest
