use Rattle.std.proofs.Common.{◌≡◌, ◌++◌, take}
use Rattle.std.specs.{Prelude.{flat_map}, String.{string_bytes}}
use Rattle.cmd_convert.specs.Survey.{peer_text}
use Rattle.cmd_convert.proofs.survey_text.push_peers.Given as goal

abbrev pub invariant-loop-count : goal.invariant-loop-count
invariant-loop-count l = string_bytes l.text ≡ string_bytes l.fn.text ++ flat_map peer_text (take l.count-index l.counts)
