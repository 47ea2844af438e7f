use Rattle.fs_desk.proofs.Words.{List, map, take, None, subst, sym, refl, ◌∙◌, shown, Shown, Changes, same, taken_of}
use Rattle.fs_desk.proofs.{Idle.{more_than_none}, ChangesJoined.{changes_none, prefixes_more, shown_more}}
use Rattle.fs_desk.proofs.TableChanges.{taken_to}
use Rattle.fs_desk.proofs.apply.withdraw_each.Goals as goal

pub loop-prefix-preserved : goal.loop-prefix-preserved
loop-prefix-preserved g c = record {
  changes =
      let e = shown_more c.args.prefixes.now c.loop-prefix.prefix-index c.prefix-item.result c.loop-prefix-test.true c.prefix-item.is in
      subst (λ (prefixes : List Shown). Changes c.args.peer (taken_of prefixes) same c.args.watched.now.table c.withdraw_unicast_telling.new.self) (sym e)
      (prefixes_more c.args.peer None (map shown (take c.loop-prefix.prefix-index c.args.prefixes.now))
      (shown c.prefix-item.result) _ _ _ c.loop-prefix.invariant.changes
      (taken_to c.args.peer c.prefix-item.result c.loop-prefix.watched.table c.withdraw_unicast_telling.new.self _ refl
      c.withdraw_unicast_telling.ensures.removed));
  told = λ base h. c.withdraw_unicast_telling.ensures.covers base (c.loop-prefix.invariant.told base h);
  idle = λ none.
      absurd (more_than_none (map shown (take c.loop-prefix.prefix-index c.args.prefixes.now)) (shown c.prefix-item.result)
      (sym (shown_more c.args.prefixes.now c.loop-prefix.prefix-index c.prefix-item.result c.loop-prefix-test.true c.prefix-item.is) ∙ none));
}

pub loop-prefix-init : goal.loop-prefix-init
loop-prefix-init g c = record { changes = changes_none c.args.peer c.args.watched.now.table; told = λ base h. h; idle = λ none. refl }
