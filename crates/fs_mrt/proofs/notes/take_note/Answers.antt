use Rattle.fs_mrt.proofs.Words.{ap, sym, Option, reads_as, reads_then}
use Rattle.fs_mrt.specs.{Notes.{note_body, note_ends}, declared.{notes.Note.{Note}, shape.Shape.{Shape as RecordShape}}}
use Rattle.fs_mrt.proofs.notes.take_note.Goals as goal

pub returns-in-Ok-take_front-clause-reads : goal.returns-in-Ok-take_front-clause-reads
returns-in-Ok-take_front-clause-reads g c =
    let peers = c.args.peers.now in
    let head = c.args.head in
    reads_as (note_body peers c.args.kind c.args.subtype head head.shape)
    (λ octets. ap (λ (s : Option RecordShape). note_body peers c.args.kind c.args.subtype head s c.args.counted.now.taken octets) (sym c.in-Some.is))
    (reads_then (note_ends peers head.size c.in-Some.shape) (λ (n : Option Note). n) c.in-Ok-take_front.ensures.reads c.take_ends.ensures.reads)
