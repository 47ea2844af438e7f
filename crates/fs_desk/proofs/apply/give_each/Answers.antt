use Rattle.fs_desk.proofs.Words.{List, map, take, Some, subst, sym, refl, ◌∙◌, shown, Shown, Changes, same, given_at}
use Rattle.fs_desk.proofs.{Idle.{more_than_none}, ChangesJoined.{changes_none, prefixes_more, shown_more}}
use Rattle.fs_desk.proofs.TableChanges.{given_to}
use Rattle.fs_desk.proofs.apply.give_each.Goals as goal

pub loop-prefix-preserved : goal.loop-prefix-preserved
loop-prefix-preserved g c = record {
  changes =
      let e = shown_more c.args.prefixes.now c.loop-prefix.prefix-index c.prefix-item.result c.loop-prefix-test.true c.prefix-item.is in
      subst (λ (prefixes : List Shown). Changes c.args.peer (given_at prefixes c.args.path.now) same c.args.watched.now.table
      c.put_unicast_telling.new.self) (sym e)
      (prefixes_more c.args.peer (Some c.args.path.now) (map shown (take c.loop-prefix.prefix-index c.args.prefixes.now))
      (shown c.prefix-item.result) _ _ _ c.loop-prefix.invariant.changes
      (given_to c.args.peer c.prefix-item.result c.args.path.now c.loop-prefix.watched.table c.put_unicast_telling.new.self _ refl
      (rw c.in_ok-share.ensures at c.in_ok-put_unicast_telling.ensures.ok)));
  told = λ base h. c.in_ok-put_unicast_telling.ensures.covers base (c.loop-prefix.invariant.told base h);
  idle = λ none.
      absurd (more_than_none (map shown (take c.loop-prefix.prefix-index c.args.prefixes.now)) (shown c.prefix-item.result)
      (sym (shown_more c.args.prefixes.now c.loop-prefix.prefix-index c.prefix-item.result c.loop-prefix-test.true c.prefix-item.is) ∙ none));
}

pub loop-prefix-init : goal.loop-prefix-init
loop-prefix-init g c = record { changes = changes_none c.args.peer c.args.watched.now.table; told = λ base h. h; idle = λ none. refl }
