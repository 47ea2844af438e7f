use Rattle.fs_mrt.proofs.{Words.{refl, Option, Some, gives, gives_for, reads_ends, reads_then}, Noted.{speaker_reads}}
use Rattle.fs_mrt.specs.{Notes.{spoke}, declared.notes.Note.{Note}}
use Rattle.fs_mrt.proofs.notes.take_ends.Goals as goal

pub returns-in-Ok-take_heard-clause-reads : goal.returns-in-Ok-take_heard-clause-reads
returns-in-Ok-take_heard-clause-reads g c =
    let note = spoke c.args.shape c.args.front c.in-Ok.address c.number_at-number.result in
    speaker_reads c.args.peers.now c.args.size c.args.shape c.args.front c.number_at-number.result c.ends_size.result c.ends_size.ensures.exact
    c.number_at-number.ensures c.in-Ok.ensures.reads
    (reads_then (λ _. gives (Some note)) (λ (n : Option Note). n) c.in-Ok-take_heard.ensures.reads
    (gives_for (Some note) (λ (n : Option Note). n) (Some note) refl))

pub returns-in-Err-take_heard-clause-reads : goal.returns-in-Err-take_heard-clause-reads
returns-in-Err-take_heard-clause-reads g c =
    let note = spoke c.args.shape c.args.front c.in-Ok.address c.number_at-number.result in
    speaker_reads c.args.peers.now c.args.size c.args.shape c.args.front c.number_at-number.result c.ends_size.result c.ends_size.ensures.exact
    c.number_at-number.ensures c.in-Ok.ensures.reads
    (reads_ends (λ _. gives (Some note)) (λ (n : Option Note). n) c.in-Err-take_heard.ensures.reads)
