use Rattle.cmd_convert.proofs.{Words.{◌≡◌, ◌≤◌, ◌∙◌, ℕ, List, IsTrue, End, ap, sym, subst, arith, rules, DumpReason}, Surveying.{few_fit, with_few}}
use Rattle.std.specs.List.{AllByRecursion}
use Rattle.fs_base.specs.Parts.{with_part}
use Rattle.fs_mrt.specs.{Notes.{notes_coming}, declared.notes.Note.{Note}}
use Rattle.cmd_convert.specs.{Survey.{all_noted, with_note}, declared.counts.NoteCount.{NoteCount}}
use Rattle.cmd_convert.proofs.survey.count_notes.Goals as goal

pub records-preserved : goal.records-preserved
records-preserved g c =
    let found = rw c.in-Ok-Some.field-0-is at c.in-Ok-Some.ensures in
    let before = c.records.invariant in
    let grows = found.grows before.unended in
    let slot = c.args.dump.now.slot in
    let config = c.args.config.now in
    let note = c.in-Ok-Some.note in
    let counted : c.add_note.new.counts.items ≡ with_note note c.records.counts.items = c.in_ok-add_note-in-Ok-Some.ensures in
    let moved : IsTrue g.F.Files.tells
    → notes_coming config c.records.dump (g.F.Files.left c.records.files slot)
    ≡ with_part note (notes_coming config c.next.new.self (g.F.Files.left c.next.new.files slot)) =
    λ told.
    subst
    (λ (n : ℕ). notes_coming config c.records.dump (g.F.Files.left c.records.files n)
    ≡ with_part note (notes_coming config c.next.new.self (g.F.Files.left c.next.new.files n)))
    before.slot (found.gives.advances told before.unended) in
    record {
      room = search rules;
      unended = found.gives.ended;
      slot = found.gives.slot_is ∙ before.slot;
      limit = found.gives.limit_is ∙ before.limit;
      few = subst (λ (l : List NoteCount). AllByRecursion (λ (count : NoteCount). count.count ≤ c.next.new.self.place) l)
          (sym counted) (with_few note c.records.dump.place c.next.new.self.place grows.0 c.records.counts.items before.few);
      within = grows.1;
      later = omega (arith, before.later, found.gives.later);
      opened = found.gives.opened ∙ before.opened;
      ends = λ told. before.ends told ∙ ap (λ (p : List Note × End DumpReason). p.1) (moved told);
      counts = λ told.
          before.counts told ∙ ap (λ (p : List Note × End DumpReason). all_noted c.records.counts.items p.0) (moved told)
          ∙ ap (λ (t : List NoteCount). all_noted t (notes_coming config c.next.new.self (g.F.Files.left c.next.new.files slot)).0) (sym counted);
    }

pub add_note-requires : goal.add_note-requires
add_note-requires g c =
    let found = rw c.in-Ok-Some.field-0-is at c.in-Ok-Some.ensures in
    let grows = found.grows c.records.invariant.unended in
    few_fit c.records.dump.place 18446744073709551616
    (omega (arith, grows.0, grows.1, found.gives.limit_is, c.records.invariant.limit, c.requires.fits)) c.records.counts.items c.records.invariant.few
