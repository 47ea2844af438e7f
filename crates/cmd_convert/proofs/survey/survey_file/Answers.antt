use Rattle.cmd_convert.proofs.{Words.{List, [], End, DumpReason, Rose, rose_earlier}, Surveying.{content_found, from_start, say_said}}
use Rattle.std.proofs.Common.{subst}
use Rattle.fs_mrt.specs.{Notes.{notes_coming, notes_of}, declared.notes.Note.{Note}}
use Rattle.cmd_stages.specs.Refusal.{or_stop}
use Rattle.cmd_stages.specs.declared.refusal.Refusal.TheVariants.{Outside}
use Rattle.cmd_convert.specs.{Survey.{Counts, SaysEnd, content_verdict}, declared.counts.NoteCount.{NoteCount}}
use Rattle.cmd_convert.proofs.survey.survey_file.Goals as goal

pub returns-clause-said : goal.returns-clause-said
returns-clause-said g c = λ told.
    let config = c.args.config.now in
    let left = g.F.Files.left c.open.new.files in
    let found = notes_of config c.args.limit (left 1) in
    let counted = c.in_ok-ended.ensures.counts told in
    let failed = Rose (g.F.Files.faults c.open.new.files) (g.F.Files.faults c.count_notes.new.files) in
    say_said found c.count_notes.new.counts.items c.in_ok-ended.ended c.say_end.result
    (content_verdict config c.args.limit (or_stop Outside (g.F.Files.holds c.args.files.now c.args.dump.now))) failed
    (Rose (g.F.Files.faults c.args.files.now) (g.F.Files.faults c.count_notes.new.files))
    (subst (λ (p : List Note × End DumpReason). Counts [] c.count_notes.new.counts.items p failed c.in_ok-ended.ended)
    (from_start config c.begin-dump.result c.args.limit c.new.result.limit c.new.result.slot c.new.result.back left c.begin-dump.ensures
    c.new.ensures.limit c.new.ensures.back c.new.ensures.slot)
    (subst (λ (l : List NoteCount). Counts l c.count_notes.new.counts.items (notes_coming config c.begin-dump.result (left c.begin-dump.result.slot))
    failed c.in_ok-ended.ended)
    c.new-counts.ensures.items counted))
    (subst (λ (l : List NoteCount). SaysEnd l c.in_ok-ended.ended c.say_end.result) c.as_slice.ensures.value c.say_end.ensures.said)
    (content_found c.args.limit (g.F.Files.holds c.args.files.now) c.args.dump.now config (left 1) (c.in_ok-open.ensures.opened told))
    (λ r. rose_earlier _ _ _ c.in_ok-open.ensures.later r)
