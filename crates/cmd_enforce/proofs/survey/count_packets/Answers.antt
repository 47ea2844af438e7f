use Rattle.cmd_enforce.proofs.Words.{◌≡◌, ◌≤◌, ◌∙◌, ℕ, List, IsTrue, End, ap, sym, subst, arith, rules, with_part, CaptureReason}
use Rattle.cmd_enforce.proofs.Surveying.{few_fit, with_few}
use Rattle.std.specs.List.{AllByRecursion}
use Rattle.cmd_enforce.specs.{Capture.{Captured, coming, packet_from}, Survey.{Tallied, all_noted, noted}, declared.tally.LinkCount.{LinkCount}}
use Rattle.cmd_enforce.proofs.survey.count_packets.Goals as goal

pub packets-preserved : goal.packets-preserved
packets-preserved g c =
    let found = rw c.in-Ok-Some.field-0-is at c.in-Ok-Some.ensures in
    let before = c.packets.invariant in
    let grows = found.grows before.unended in
    let slot = c.args.capture.now.slot in
    let caught = c.in-Ok-Some.caught in
    let noted_is : c.note.new.self ≡ noted c.packets.tally caught.link caught.time = c.in_ok-note-in-Ok-Some.ensures in
    let moved : IsTrue g.F.Files.tells
    → coming c.packets.capture (g.F.Files.left c.packets.files slot)
    ≡ with_part (packet_from caught c.next.new.into) (coming c.next.new.self (g.F.Files.left c.next.new.files slot)) =
    λ told.
    subst
    (λ (n : ℕ). coming c.packets.capture (g.F.Files.left c.packets.files n)
    ≡ with_part (packet_from caught c.next.new.into) (coming c.next.new.self (g.F.Files.left c.next.new.files n)))
    before.slot (found.gives.advances told before.unended) in
    record {
      room = search rules;
      unended = found.gives.ended;
      slot = found.gives.slot_is ∙ before.slot;
      limit = found.gives.limit_is ∙ before.limit;
      few = omega (arith, before.few, grows.0, ap (λ (t : Tallied). t.count) noted_is);
      links = subst (λ (l : List LinkCount). AllByRecursion (λ (count : LinkCount). count.packets ≤ c.next.new.self.place) l)
          (ap (λ (t : Tallied). t.links) (sym noted_is))
          (with_few caught.link c.packets.capture.place c.next.new.self.place grows.0 c.packets.tally.links before.links);
      within = grows.1;
      later = omega (arith, before.later, found.gives.later);
      opened = found.gives.opened ∙ before.opened;
      link = found.link ∙ before.link;
      ends = λ told. before.ends told ∙ ap (λ (p : List Captured × End CaptureReason). p.1) (moved told);
      counts = λ told.
          before.counts told ∙ ap (λ (p : List Captured × End CaptureReason). all_noted c.packets.tally p.0) (moved told)
          ∙ ap (λ (t : Tallied). all_noted t (coming c.next.new.self (g.F.Files.left c.next.new.files slot)).0) (sym noted_is);
    }

pub note-requires-clause-few : goal.note-requires-clause-few
note-requires-clause-few g c =
    let found = rw c.in-Ok-Some.field-0-is at c.in-Ok-Some.ensures in
    let grows = found.grows c.packets.invariant.unended in
    few_fit c.packets.capture.place 18446744073709551616
    (omega (arith, grows.0, grows.1, found.gives.limit_is, c.packets.invariant.limit, c.requires.fits)) c.packets.tally.links c.packets.invariant.links
