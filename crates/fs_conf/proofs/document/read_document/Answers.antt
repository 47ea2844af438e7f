use Rattle.fs_conf.proofs.{Words.{table_view}, Documents.{not_utf8, of_document}}
use Rattle.fs_conf.proofs.document.read_document.Goals as goal

pub returns-in_default-clause-refused : goal.returns-in_default-clause-refused
returns-in_default-clause-refused c _ = not_utf8 c.args.octets.now c.in_default.ensures.cases.0

pub returns-in-Ok-table_from_str-clause-ok : goal.returns-in-Ok-table_from_str-clause-ok
returns-in-Ok-table_from_str-clause-ok c =
    let read = c.in-Ok.ensures.cases in
    let tree = table_view c.in-Ok-table_from_str.table in
    of_document c.args.octets.now c.in-Ok.text.now tree read.0 read.1 c.in-Ok-table_from_str.ensures.ok
