use Rattle.fs_cli.proofs.{Words.{◌≡◌, ℕ, [], ◌∷◌, ◌++◌, subst, sym, ◌∙◌, arith, rules}, TapeChecking.{counting_done, counting_more}}
use Rattle.fs_base.specs.Parts.{with_part}
use Rattle.fs_tape.specs.Tape.{coming, item_from, timed}
use Rattle.fs_cli.specs.TapeCheck.{CountsOf}
use Rattle.fs_cli.proofs.tape_check.count_items.Goals as goal

pub items-preserved : goal.items-preserved
items-preserved g c = record {
  room = search rules;
  unended = rw c.in-Some.is at c.in_ok-item.ensures.open;
  slot = c.in_ok-item.ensures.slot ∙ c.items.invariant.slot;
  limit = c.in_ok-item.ensures.limit ∙ c.items.invariant.limit;
  within = (rw c.in-Some.is at c.in_ok-item.ensures.grows).1;
  few = let grown = rw c.in-Some.is at c.in_ok-item.ensures.grows in omega (arith, c.items.invariant.few, grown.0, c.with_item-counts.ensures.items);
  later = omega (arith, c.items.invariant.later, c.in_ok-item.ensures.later);
  opened = c.in_ok-item.ensures.opened ∙ c.items.invariant.opened;
  counting = λ told.
      counting_more _ _ _ c.args.nothing c.items.counts c.with_item-counts.result
      (timed c.next_item.new.tape.moment (item_from c.in-Some.item c.next_item.new.buffer)) (c.items.invariant.counting told)
      (subst (λ (slot : ℕ).
      coming c.args.config.now c.items.tape (g.F.Files.left c.items.files c.items.tape.slot)
      ≡ with_part (timed c.next_item.new.tape.moment (item_from c.in-Some.item c.next_item.new.buffer))
      (coming c.args.config.now c.next_item.new.tape (g.F.Files.left c.next_item.new.files slot)))
      (sym c.in_ok-item.ensures.slot) (rw c.in-Some.is at (c.in_ok-item.ensures.gives told)))
      (λ gone of. subst (λ (moment : ℕ).
      CountsOf c.with_item-counts.result (gone ++ timed moment (item_from c.in-Some.item c.next_item.new.buffer) ∷ [])) c.moment.ensures
      (c.with_item-counts.ensures.counts gone of));
}

pub returns-clause-counted : goal.returns-clause-counted
returns-clause-counted g c = λ told.
    counting_done _ _ c.args.nothing c.items.counts (c.items.invariant.counting told) (rw c.in_default.is at (c.in_ok-item.ensures.gives told))
