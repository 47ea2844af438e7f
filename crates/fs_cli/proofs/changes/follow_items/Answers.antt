use Rattle.std.proofs.Common.{◌≡◌, ◌∙◌, ℕ, refl, sym, subst, arith}
use Rattle.fs_base.specs.{Outside.{Rose}, Parts.{with_part}}
use Rattle.fs_tape.specs.Tape.{timed}
use Rattle.cmd_stages.specs.Items.{to_give}
use Rattle.fs_cli.proofs.Following.{followed_ceased, followed_done, followed_unwritten, following_first, following_more}
use Rattle.fs_cli.proofs.changes.follow_items.Goals as goal

pub items-init : goal.items-init
items-init g c = record {
  unended = c.requires.open;
  slot = refl;
  config = refl;
  files_later = omega (arith);
  sink_later = omega (arith);
  opened = refl;
  stands = c.requires.none.0 ∙ sym c.requires.none.1;
  following = λ told. following_first _ _ _ _ _ c.requires.played c.requires.none.0;
}

pub tell_item-requires : goal.tell_item-requires
tell_item-requires g c = (c.items.player.desk.held, c.items.invariant.stands, rw c.in-Some.is at c.in_ok-moment.ensures.told)

pub items-preserved : goal.items-preserved
items-preserved g c = record {
  unended = rw c.in-Some.is at c.in_ok-moment.ensures.open;
  slot = c.in_ok-moment.ensures.slot ∙ c.items.invariant.slot;
  config = c.in_ok-moment.ensures.config ∙ c.items.invariant.config;
  files_later = omega (arith, c.items.invariant.files_later, c.in_ok-moment.ensures.later);
  sink_later = omega (arith, c.items.invariant.sink_later, c.in_ok-tell_item.ensures.later);
  opened = c.in_ok-moment.ensures.opened ∙ c.items.invariant.opened;
  stands = c.in_ok-tell_item.ensures.stands;
  following = λ told.
      let played = rw c.in-Some.is at (c.in_ok-moment.ensures.played told) in
      following_more _ c.in-Some.moment played.0 c.play_next.new.self.desk c.tell_item.new.acting _
      (c.items.invariant.following told)
      (subst (λ (slot : ℕ). to_give c.items.player (g.F.Files.left c.items.files c.items.player.tape.slot)
      ≡ with_part (timed c.in-Some.moment played.0) (to_give c.play_next.new.self (g.F.Files.left c.play_next.new.files slot)))
      (sym c.in_ok-moment.ensures.slot) played.1)
      played.2 c.in_ok-tell_item.ensures.stands c.in_ok-tell_item.ensures.written;
}

pub items-smaller : goal.items-smaller
items-smaller g c = let grows = rw c.in-Some.is at c.in_ok-moment.ensures.grows in omega (arith, grows.0, grows.1, grows.2)

pub returns-in_err-moment-clause-follows : goal.returns-in_err-moment-clause-follows
returns-in_err-moment-clause-follows g c = λ told.
    followed_ceased (g.F.Files.faults c.args.files.now) (g.F.Files.faults c.items.files)
    (g.F.Files.faults c.play_next.new.files) _ c.in_err-moment.field-0.0 c.from_residual.result
    (c.items.invariant.following told) c.items.invariant.files_later (c.in_err-moment.ensures.played told) c.from_residual.ensures.1

pub returns-in_err-tell_item-clause-follows : goal.returns-in_err-tell_item-clause-follows
returns-in_err-tell_item-clause-follows g c = λ told.
    let played = rw c.in-Some.is at (c.in_ok-moment.ensures.played told) in
    followed_unwritten _ c.in-Some.moment played.0 c.play_next.new.self.desk _
    (Rose (g.F.Files.faults c.args.files.now) (g.F.Files.faults c.play_next.new.files))
    (g.S.Sink.faults c.args.sink.now) (g.S.Sink.faults c.items.sink) (g.S.Sink.faults c.tell_item.new.sink) c.in_err-tell_item.field-0.0
    c.from_residual-in_err-tell_item.result
    (c.items.invariant.following told) played.1 played.2 c.items.invariant.sink_later c.in_err-tell_item.ensures.written
    c.from_residual-in_err-tell_item.ensures.1

pub returns-clause-follows : goal.returns-clause-follows
returns-clause-follows g c = λ told.
    followed_done (c.items.invariant.following told) (rw c.in_default.is at (c.in_ok-moment.ensures.played told)).0
