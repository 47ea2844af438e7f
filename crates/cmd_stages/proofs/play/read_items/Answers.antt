use Rattle.cmd_stages.proofs.Words.{◌≡◌, ◌∙◌, ℕ, List, ap, subst, sym, arith, rules, with_part, coming, item_from, timed, End, Timed, TapeReason}
use Rattle.cmd_stages.proofs.LookingAhead.{slots_then}
use Rattle.cmd_stages.proofs.play.read_items.Goals as goal

pub items-preserved : goal.items-preserved
items-preserved g c = record {
  room = search rules;
  unended = rw c.in-Some.is at c.in_ok-_item.ensures.open;
  slot = c.in_ok-_item.ensures.slot ∙ c.items.invariant.slot;
  limit = c.in_ok-_item.ensures.limit ∙ c.items.invariant.limit;
  within = (rw c.in-Some.is at c.in_ok-_item.ensures.grows).1;
  later = omega (arith, c.items.invariant.later, c.in_ok-_item.ensures.later);
  opened = c.in_ok-_item.ensures.opened ∙ c.items.invariant.opened;
  others =
      slots_then g.F.Files.tells g.F.Files.left g.F.Files.holds c.args.tape.now.slot c.items.tape.slot c.args.files.now c.items.files c.next_item.new.files
      c.items.invariant.others c.items.invariant.slot c.in_ok-_item.ensures.others;
  end_is = λ told.
      c.items.invariant.end_is told ∙ ap (λ (r : List Timed × End TapeReason). r.1)
      (subst (λ (slot : ℕ).
      coming c.args.config.now c.items.tape (g.F.Files.left c.items.files c.items.tape.slot)
      ≡ with_part (timed c.next_item.new.tape.moment (item_from c.in-Some._item c.next_item.new.buffer))
      (coming c.args.config.now c.next_item.new.tape (g.F.Files.left c.next_item.new.files slot)))
      (sym c.in_ok-_item.ensures.slot) (rw c.in-Some.is at (c.in_ok-_item.ensures.gives told)));
}

pub returns-clause-read : goal.returns-clause-read
returns-clause-read g c = λ told.
    c.items.invariant.end_is told ∙ ap (λ (r : List Timed × End TapeReason). r.1) (rw c.in_default.is at (c.in_ok-_item.ensures.gives told))
