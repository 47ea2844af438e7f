use Rattle.fs_cli.proofs.program.report_of.Goals as goal

pub returns-in-Nlri : goal.returns-in-Nlri
returns-in-Nlri c = rw c.in-Nlri.is c.report_on.ensures

pub returns-in-Text : goal.returns-in-Text
returns-in-Text c = rw c.in-Text.is c.report_on_text.ensures
