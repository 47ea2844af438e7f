use Rattle.fs_reports.proofs.Reported.{one_reported}
use Rattle.fs_reports.proofs.report.report_field.Goals as goal

pub frames-preserved : goal.frames-preserved
frames-preserved c =
    one_reported c.args.family c.args.octets.now c.frames.rest.now c.frames.text.items c.append_rule.new.text.items c.frames.number c.in-Ok.taken
    c.in-Ok.rule c.frames.invariant
    c.in-Ok.ensures.family c.in-Ok.ensures.found c.in_ok-append_rule-in-Ok.ensures
