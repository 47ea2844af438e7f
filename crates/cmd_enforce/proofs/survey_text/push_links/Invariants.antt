use Rattle.std.proofs.Common.{◌≡◌, ◌++◌, take}
use Rattle.std.specs.{Prelude.{flat_map}, String.{string_bytes}}
use Rattle.cmd_enforce.specs.Survey.{link_line}
use Rattle.cmd_enforce.proofs.survey_text.push_links.Given as goal

abbrev pub invariant-loop-count : goal.invariant-loop-count
invariant-loop-count l = string_bytes l.text ≡ string_bytes l.fn.text ++ flat_map link_line (take l.count-index l.links)
