use Rattle.std.proofs.Common.{length}
use Rattle.fs_reports.proofs.Reported.{HasReported}
use Rattle.fs_reports.proofs.report.report_field.Given as goal

abbrev pub invariant-frames : goal.invariant-frames
invariant-frames l = HasReported l.family l.octets l.rest l.text.items l.number

abbrev pub decreases-frames : goal.decreases-frames
decreases-frames l = length l.rest
