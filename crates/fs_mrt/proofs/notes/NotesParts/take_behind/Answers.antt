use Rattle.fs_mrt.proofs.Words.{rules, arith, ◌≡◌, ◌+◌, ◌-◌, ◌≤◌, ap, ◌∙◌, drop, big_number, reads_as, head_of}
use Rattle.fs_mrt.proofs.Noted.{note_given}
use Rattle.fs_mrt.specs.Notes.{note_headed, note_record}
use Rattle.fs_mrt.proofs.notes.NotesParts.take_behind.Goals as goal

pub returns-clause-reads : goal.returns-clause-reads
returns-clause-reads g c =
    let octets = c.args.octets.now in
    let taken = c.args.counted.now.taken in
    let now = c.args.self.now in
    let held : 12 ≤ taken = c.requires.place in
    let spot : taken - 4 ≡ taken - 12 + 8 = omega (arith, held) in
    let head : c.read_head-head.result ≡ head_of (taken - 12 + 8) octets = c.read_head-head.ensures ∙ ap (λ n. head_of n octets) spot in
    let peers : c.as_slice-peers.result.now ≡ c.args.config.now.peers = search rules in
    let kind : c.read_u16-kind.result ≡ big_number 2 (drop 4 octets) = search rules in
    let subtype : c.read_u16-subtype.result ≡ big_number 2 (drop 6 octets) = search rules in
    reads_as (note_record c.args.config.now.peers now (taken - 12) octets)
    (λ rest i. note_headed (peers i) (kind i) (subtype i) now (head i) taken rest) (note_given now c.take_note.result c.take_note.ensures.reads)
