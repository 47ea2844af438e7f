use Rattle.fs_rules.proofs.Words.{sym, ap, ◌∙◌, subst, length, arith, is_at, is_some, remove_entry, place_cmp, Covers, IsKept, routes_of, Held}
use Rattle.fs_rules.proofs.Words.{routes_mended, remove_nothing, removes_one}
use Rattle.fs_rules.proofs.{Chosen.{held_of, unicast_changed, keeps_after, agree_taken}, Counting.{counted_taken}}
use Rattle.fs_rules.proofs.Elsewhere.{covers_noted, mends_at, related_elsewhere, swap_told}
use Rattle.fs_rules.proofs.{Prefixes.{held_taken}, Quiet.{stay_right}}
use Rattle.fs_rules.proofs.table.Table.withdraw_unicast_telling.Goals as goal

pub invariant_of-self : goal.invariant_of-self
invariant_of-self g c = subst (λ u. IsKept c.self.inside.config.now u c.self.inside.flows c.self.inside.counts)
    (sym (c.remove_telling.ensures.removed
    ∙ remove_nothing (is_at (place_cmp (record { prefix = c.args.prefix.now; peer = c.args.peer }))) c.self.inside.unicast
    (sym c.remove_telling.ensures.held ∙ ap is_some c.in_default.is))) c.self.invariant

pub mend-requires : goal.mend-requires
mend-requires g c = record {
  earlier = c.self.inside.unicast;
  swapped =
      (swap_told c.args.peer c.args.prefix.now c.self.inside.unicast c.remove_telling.new.self c.remove_telling.ensures.swap c.in-Some.is).swapped;
  right = c.self.invariant.keeps.right;
}

pub invariant_of-self-2 : goal.invariant_of-self-2
invariant_of-self-2 g c = let mends =
    mends_at (swap_told c.args.peer c.args.prefix.now c.self.inside.unicast c.remove_telling.new.self c.remove_telling.ensures.swap c.in-Some.is)
    c.mend.ensures.mends in record {
      keeps = keeps_after c.self.inside.config.now c.args.prefix.now c.self.inside.unicast c.remove_telling.new.self c.self.inside.flows c.mend.new.self
          (agree_taken (record { prefix = c.args.prefix.now; peer = c.args.peer }) c.self.inside.unicast c.remove_telling.new.self
          c.remove_telling.ensures.removed) mends.kept c.self.invariant.keeps;
      counted = counted_taken c.args.peer c.args.prefix.now c.self.inside.unicast c.remove_telling.new.self (routes_of c.self.inside.flows)
          (routes_of c.mend.new.self) c.self.inside.counts c.lower.new.self c.self.invariant.counted c.lower.ensures.counted
          (sym c.remove_telling.ensures.held ∙ ap is_some c.in-Some.is) c.remove_telling.ensures.removed (ap routes_of mends.kept
          ∙ routes_mended c.args.prefix.now c.remove_telling.new.self c.self.inside.config.now c.self.inside.flows);
      held = held_taken c.self.inside.counts c.lower.new.self (is_at (place_cmp (record { prefix = c.args.prefix.now; peer = c.args.peer })))
          c.self.inside.unicast c.remove_telling.new.self c.lower.ensures.stays c.remove_telling.ensures.removed c.self.invariant.held;
      ordered = (swap_told c.args.peer c.args.prefix.now c.self.inside.unicast c.remove_telling.new.self c.remove_telling.ensures.swap
          c.in-Some.is).swapped.ordered;
    }

pub returns-clause-removed : goal.returns-clause-removed
returns-clause-removed g c =
    let mends = mends_at (swap_told c.args.peer c.args.prefix.now c.self.inside.unicast c.remove_telling.new.self c.remove_telling.ensures.swap
    c.in-Some.is) c.mend.ensures.mends in
    unicast_changed (remove_entry (is_at (place_cmp (record { prefix = c.args.prefix.now; peer = c.args.peer })))) c.self.inside.config.now
    c.self.inside.unicast c.remove_telling.new.self c.self.inside.flows c.mend.new.self c.args.self.now c.self.view_is
    c.remove_telling.ensures.removed (ap routes_of mends.kept
    ∙ routes_mended c.args.prefix.now c.remove_telling.new.self c.self.inside.config.now c.self.inside.flows)

pub returns-clause-idle : goal.returns-clause-idle
returns-clause-idle g c = λ e.
    let one = removes_one (is_at (place_cmp (record { prefix = c.args.prefix.now; peer = c.args.peer }))) c.self.inside.unicast
    (sym c.remove_telling.ensures.held ∙ ap is_some c.in-Some.is) in
    let same = ap length (sym c.remove_telling.ensures.removed ∙ ap (λ (held : Held). held.unicast) (e ∙ sym c.self.view_is)) in
    absurd (omega (arith, one, same))

pub returns-clause-covers : goal.returns-clause-covers
returns-clause-covers g c =
    let mends = mends_at (swap_told c.args.peer c.args.prefix.now c.self.inside.unicast c.remove_telling.new.self c.remove_telling.ensures.swap
    c.in-Some.is) c.mend.ensures.mends in
    λ base. covers_noted base c.args.self.now (held_of c.self.inside.config.now c.remove_telling.new.self (routes_of c.mend.new.self))
    c.args.changes.now c.mend.new.changes mends.stays
    (related_elsewhere c.mend.new.changes c.args.prefix.now c.self.inside.config.now c.self.inside.unicast c.remove_telling.new.self
    c.self.inside.flows c.mend.new.self c.args.self.now c.self.view_is
    (agree_taken (record { prefix = c.args.prefix.now; peer = c.args.peer }) c.self.inside.unicast c.remove_telling.new.self
    c.remove_telling.ensures.removed) c.self.invariant.keeps.right
    (ap routes_of mends.kept ∙ routes_mended c.args.prefix.now c.remove_telling.new.self c.self.inside.config.now c.self.inside.flows)
    c.mend.ensures.rules mends.marked)

pub returns-in_default-clause-covers : goal.returns-in_default-clause-covers
returns-in_default-clause-covers g c = λ base. subst (Covers base c.args.changes.now)
    (sym c.self.view_is ∙ ap (λ u. held_of c.self.inside.config.now u (routes_of c.self.inside.flows))
    (sym (c.remove_telling.ensures.removed
    ∙ remove_nothing (is_at (place_cmp (record { prefix = c.args.prefix.now; peer = c.args.peer }))) c.self.inside.unicast
    (sym c.remove_telling.ensures.held ∙ ap is_some c.in_default.is))))

pub returns-clause-quiet : goal.returns-clause-quiet
returns-clause-quiet g c = λ stay.
    (mends_at (swap_told c.args.peer c.args.prefix.now c.self.inside.unicast c.remove_telling.new.self c.remove_telling.ensures.swap c.in-Some.is)
    c.mend.ensures.mends).quiet
    (stay_right c.args.prefix.now c.self.inside.config.now c.self.inside.unicast c.remove_telling.new.self c.self.inside.flows
    (routes_of c.mend.new.self) c.args.self.now c.self.view_is c.self.invariant.keeps.right stay)
