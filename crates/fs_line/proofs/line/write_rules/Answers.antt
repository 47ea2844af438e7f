use Rattle.fs_line.proofs.{Words.{numbers_text, entries, numbers_walked}, Walks.{numbers_from}, Outputs.{sends_as, sends_kept, sends_stopped, sends_then}}
use Rattle.fs_line.proofs.line.write_rules.Goals as goal

pub returns-in_err-make_room : goal.returns-in_err-make_room
returns-in_err-make_room g c =
    sends_stopped (numbers_text (numbers_walked (entries c.args.walked.now))) _ c.from_residual.result c.from_residual.ensures.1
    c.in_err-make_room.ensures.sends

pub returns : goal.returns
returns g c =
    sends_as (numbers_from c.args.walked.now c.first-item.result c.in-len1-up.len_at_least c.first-item.is)
    (sends_then (sends_kept c.in_ok-make_room.ensures.sends c.keep_first.ensures.text) c.write_others.ensures)
