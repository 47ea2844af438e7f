use Rattle.cmd_enforce.proofs.{Words.{Err, ◌∙◌, Rose, rose_earlier}, Surveying.{begun, surveys_fault, surveys_from, surveys_unbegun}}
use Rattle.cmd_enforce.specs.Survey.{survey_in}
use Rattle.cmd_enforce.proofs.survey.survey_open.Goals as goal

pub returns-in-Ok-2-clause-surveyed : goal.returns-in-Ok-2-clause-surveyed
returns-in-Ok-2-clause-surveyed g c = λ told.
    let capture = c.in-Ok.capture in
    let left = g.F.Files.left c.begin.new.files in
    let before = g.F.Files.left c.args.files.now in
    let new = c.new.ensures in
    let counted = rw c.in-Ok-2.is at (c.in_ok-count_packets-in-Ok.ensures.counts told) in
    surveys_from (survey_in c.args.limit (before 2)) capture (left capture.slot) c.new-tally.result c.count_packets.new.tally
    (begun c.args.limit c.new.result before new.limit new.back new.slot left capture c.in-Ok.ensures.state.slot (c.in-Ok.ensures.begins told))
    c.link.result c.new-tally.ensures (c.link.ensures ∙ c.in_ok-count_packets-in-Ok.ensures.link) counted.0 counted.1

pub returns-in-Ok-clause-surveyed : goal.returns-in-Ok-clause-surveyed
returns-in-Ok-clause-surveyed g c = λ told.
    let capture = c.in-Ok.capture in
    let left = g.F.Files.left c.begin.new.files in
    let before = g.F.Files.left c.args.files.now in
    let new = c.new.ensures in
    let counted = rw c.in-Err-2.is at (c.in_ok-count_packets-in-Ok.ensures.counts told) in
    surveys_fault (survey_in c.args.limit (before 2)) capture (left capture.slot) c.new-tally.result c.count_packets.new.tally
    (begun c.args.limit c.new.result before new.limit new.back new.slot left capture c.in-Ok.ensures.state.slot (c.in-Ok.ensures.begins told))
    c.in-Err-2.fault (Rose (g.F.Files.faults c.begin.new.files) (g.F.Files.faults c.count_packets.new.files))
    (Rose (g.F.Files.faults c.args.files.now) (g.F.Files.faults c.count_packets.new.files))
    counted (λ r. rose_earlier _ _ _ c.in-Ok.ensures.state.later r)

pub returns-clause-surveyed : goal.returns-clause-surveyed
returns-clause-surveyed g c = λ told.
    let new = c.new.ensures in
    surveys_unbegun c.args.limit c.new.result (g.F.Files.left c.args.files.now) new.limit new.back new.slot (g.F.Files.left c.begin.new.files c.new.result.slot)
    c.in-Err.fault (Rose (g.F.Files.faults c.args.files.now) (g.F.Files.faults c.begin.new.files))
    (c.in-Err.ensures.begins told) (λ same. c.in-Err.ensures.state.read (λ i. Err (same i)))
