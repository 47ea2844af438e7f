use Rattle.cmd_stages.proofs.Words.{◌≡◌, ◌∙◌, ℕ, subst, sym, arith, rules, with_part, coming, item_from, nobody, timed}
use Rattle.cmd_stages.proofs.{LookingAhead.{slots_then}, Playing.{playing_more, playing_done, no_moment}}
use Rattle.cmd_stages.proofs.play.play_items.Goals as goal

pub items-preserved : goal.items-preserved
items-preserved g c = record {
  room = search rules;
  unended = rw c.in-Some.is at c.in_ok-item.ensures.open;
  slot = c.in_ok-item.ensures.slot ∙ c.items.invariant.slot;
  limit = c.in_ok-item.ensures.limit ∙ c.items.invariant.limit;
  version = c.in_ok-item.ensures.version ∙ c.items.invariant.version;
  within = (rw c.in-Some.is at c.in_ok-item.ensures.grows).1;
  config = c.in_ok-play_item.ensures.config ∙ c.items.invariant.config;
  later = omega (arith, c.items.invariant.later, c.in_ok-item.ensures.later);
  opened = c.in_ok-item.ensures.opened ∙ c.items.invariant.opened;
  others =
      slots_then g.F.Files.tells g.F.Files.left g.F.Files.holds c.args.tape.now.slot c.items.tape.slot c.args.files.now c.items.files c.next_item.new.files
      c.items.invariant.others c.items.invariant.slot c.in_ok-item.ensures.others;
  playing = λ told.
      playing_more c.args.config.now c.args.tape.now.version _ _ _ c.items.desk c.play_item.new.desk
      (timed c.next_item.new.tape.moment (item_from c.in-Some.item c.next_item.new.buffer)) (c.items.invariant.playing told)
      (subst (λ (slot : ℕ).
      coming c.args.config.now c.items.tape (g.F.Files.left c.items.files c.items.tape.slot)
      ≡ with_part (timed c.next_item.new.tape.moment (item_from c.in-Some.item c.next_item.new.buffer))
      (coming c.args.config.now c.next_item.new.tape (g.F.Files.left c.next_item.new.files slot)))
      (sym c.in_ok-item.ensures.slot) (rw c.in-Some.is at (c.in_ok-item.ensures.gives told)))
      (λ one. no_moment c.items.tape.version c.items.tape.moment c.next_item.new.tape.moment (rw c.in-Some.is at c.in_ok-item.ensures.timed)
      (c.items.invariant.version ∙ one))
      (λ items. c.in_ok-play_item.ensures.played nobody c.args.config.now items);
}

pub returns-clause-played : goal.returns-clause-played
returns-clause-played g c = λ told.
    playing_done c.args.config.now c.args.tape.now.version _ _ c.items.desk (c.items.invariant.playing told)
    (rw c.in_default.is at (c.in_ok-item.ensures.gives told))
