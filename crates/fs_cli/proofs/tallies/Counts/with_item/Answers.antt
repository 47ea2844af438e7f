use Rattle.fs_cli.proofs.{Words.{◌≡◌, ◌==◌, if◌then◌else◌, refl, ap, sym, subst, ◌∙◌}, TapeChecking.{counts_more}}
use Rattle.std.proofs.Common.{◌+◌}
use Rattle.fs_tape.specs.Tape.{Item, item_from}
use Rattle.fs_cli.specs.{TapeCheck.{CountsOf, CountsState, peer_of_item, tally_at, tally_with}, declared.tallies.Tally.{Tally}}
use Rattle.fs_cli.proofs.tallies.Counts.with_item.Goals as goal

pub returns-clause-counts : goal.returns-clause-counts
returns-clause-counts c = λ gone of.
    let item : Item = item_from c.args.item c.args.buffer.now in
    let old : CountsState = record { items = c.self.inside.items; span = c.self.inside.span; by_number = c.self.inside.by_number.items } in
    let new : CountsState = record { items = c.self.inside.items + 1; span = c.span_with.result; by_number = c.set.new.by_number.items } in
    let peer : c.peer_of-peer.result ≡ peer_of_item item = c.peer_of-peer.ensures c.args.buffer.now in
    let tally : c.tally_with-tally.result ≡ tally_with item (tally_at old.by_number (peer_of_item item)) =
    c.tally_with-tally.ensures.counts c.args.buffer.now c.requires.room ∙ ap (tally_with item) (c.tally_at.ensures ∙ ap (tally_at old.by_number) peer) in
    counts_more old new c.args.moment item gone (
      refl,
      c.span_with.ensures,
      λ number.
          c.set.ensures.set number
          ∙ ap (λ p. if number == p then c.tally_with-tally.result else tally_at old.by_number number) peer
          ∙ ap (λ (t : Tally). if number == peer_of_item item then t else tally_at old.by_number number) tally,
    )
    (subst (λ (s : CountsState). CountsOf s gone) (sym c.self.view_is) of)
