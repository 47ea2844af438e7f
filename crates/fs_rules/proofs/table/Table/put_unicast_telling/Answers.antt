use Rattle.fs_rules.proofs.Words.{sym, ap, subst, ◌∙◌, List, insert_entry, place_cmp, Route, IsKept, routes_of, routes_mended}
use Rattle.fs_rules.proofs.{Chosen.{held_of, unicast_changed, keeps_after, agree_put}, Counting.{counted_as, counted_put, fresh_swap}}
use Rattle.fs_rules.proofs.Elsewhere.{covers_noted, mends_at, related_elsewhere, swap_told}
use Rattle.fs_rules.proofs.{Prefixes.{kept_still, held_put}, Quiet.{stay_right}}
use Rattle.fs_rules.proofs.table.Table.put_unicast_telling.Goals as goal

pub invariant_of-self : goal.invariant_of-self
invariant_of-self g c = kept_still c.self.inside.config.now c.self.inside.unicast c.self.inside.flows c.self.inside.counts c.reserve.new.self
    c.reserve.ensures.same c.reserve.ensures.stays c.self.invariant

pub invariant_of-self-in_err-swap : goal.invariant_of-self-in_err-swap
invariant_of-self-in_err-swap g c =
    subst (λ (u : List Route). IsKept c.self.inside.config.now u c.self.inside.flows c.reserve.new.self) (sym c.in_err-swap.ensures.err)
    (kept_still c.self.inside.config.now c.self.inside.unicast c.self.inside.flows c.self.inside.counts c.reserve.new.self c.reserve.ensures.same
    c.reserve.ensures.stays c.self.invariant)

pub invariant_of-self-in_default : goal.invariant_of-self-in_default
invariant_of-self-in_default g c =
    subst (λ (u : List Route). IsKept c.self.inside.config.now u c.self.inside.flows c.reserve.new.self)
    (sym (c.in_ok-swap.ensures.told.0 c.in_default.is))
    (kept_still c.self.inside.config.now c.self.inside.unicast c.self.inside.flows c.self.inside.counts c.reserve.new.self c.reserve.ensures.same
    c.reserve.ensures.stays c.self.invariant)

pub mend-requires : goal.mend-requires
mend-requires g c = record {
  earlier = c.self.inside.unicast;
  swapped =
      (swap_told c.args.peer c.args.prefix c.self.inside.unicast c.put_telling.new.self c.in_ok-swap.ensures.swap c.in-Some.is).swapped;
  right =
      c.self.invariant.keeps.right;
}

pub invariant_of-self-2 : goal.invariant_of-self-2
invariant_of-self-2 g c =
    let s = swap_told c.args.peer c.args.prefix c.self.inside.unicast c.put_telling.new.self c.in_ok-swap.ensures.swap c.in-Some.is in
    let mends = mends_at s c.mend.ensures.mends in
    let fresh = fresh_swap c.args.peer c.args.prefix c.in-Some.swap c.self.inside.unicast c.put_telling.new.self c.is_none-is_new.result s
    c.is_none-is_new.ensures in record {
      keeps = keeps_after c.self.inside.config.now c.args.prefix c.self.inside.unicast c.put_telling.new.self c.self.inside.flows c.mend.new.self
          (agree_put (record { prefix = c.args.prefix; peer = c.args.peer }) c.args.path c.self.inside.unicast c.put_telling.new.self
          c.in_ok-swap.ensures.ok) mends.kept c.self.invariant.keeps;
      counted = counted_put c.args.peer c.args.prefix c.args.path c.self.inside.unicast c.put_telling.new.self (routes_of c.self.inside.flows)
          (routes_of c.mend.new.self) c.reserve.new.self c.raise_at.new.self _ c.self.invariant.ordered
          (counted_as c.self.inside.unicast (routes_of c.self.inside.flows) c.self.inside.counts c.reserve.new.self c.reserve.ensures.same
          c.self.invariant.counted)
          c.raise_at.ensures.counted fresh c.in_ok-swap.ensures.ok (ap routes_of mends.kept
          ∙ routes_mended c.args.prefix c.put_telling.new.self c.self.inside.config.now c.self.inside.flows);
      held = held_put c.self.inside.counts c.raise_at.new.self c.args.peer c.args.prefix c.args.path c.self.inside.unicast c.put_telling.new.self _
          (λ p d h. c.raise_at.ensures.stays p d (c.reserve.ensures.stays p d h)) c.raise_at.ensures.listed fresh c.in_ok-swap.ensures.ok c.self.invariant.held;
      ordered = s.swapped.ordered;
    }

pub returns-clause-ok : goal.returns-clause-ok
returns-clause-ok g c =
    let mends = mends_at (swap_told c.args.peer c.args.prefix c.self.inside.unicast c.put_telling.new.self c.in_ok-swap.ensures.swap c.in-Some.is)
    c.mend.ensures.mends in
    unicast_changed (λ u. insert_entry place_cmp u (record { prefix = c.args.prefix; peer = c.args.peer }) c.args.path) c.self.inside.config.now
    c.self.inside.unicast c.put_telling.new.self c.self.inside.flows c.mend.new.self c.args.self.now c.self.view_is c.in_ok-swap.ensures.ok
    (ap routes_of mends.kept ∙ routes_mended c.args.prefix c.put_telling.new.self c.self.inside.config.now c.self.inside.flows)

pub returns-clause-covers : goal.returns-clause-covers
returns-clause-covers g c =
    let mends = mends_at (swap_told c.args.peer c.args.prefix c.self.inside.unicast c.put_telling.new.self c.in_ok-swap.ensures.swap c.in-Some.is)
    c.mend.ensures.mends in
    λ base. covers_noted base c.args.self.now (held_of c.self.inside.config.now c.put_telling.new.self (routes_of c.mend.new.self)) c.args.changes.now
    c.mend.new.changes mends.stays
    (related_elsewhere c.mend.new.changes c.args.prefix c.self.inside.config.now c.self.inside.unicast c.put_telling.new.self c.self.inside.flows
    c.mend.new.self c.args.self.now c.self.view_is
    (agree_put (record { prefix = c.args.prefix; peer = c.args.peer }) c.args.path c.self.inside.unicast c.put_telling.new.self
    c.in_ok-swap.ensures.ok) c.self.invariant.keeps.right
    (ap routes_of mends.kept ∙ routes_mended c.args.prefix c.put_telling.new.self c.self.inside.config.now c.self.inside.flows) c.mend.ensures.rules
    mends.marked)

pub returns-clause-quiet : goal.returns-clause-quiet
returns-clause-quiet g c = λ stay.
    (mends_at (swap_told c.args.peer c.args.prefix c.self.inside.unicast c.put_telling.new.self c.in_ok-swap.ensures.swap c.in-Some.is)
    c.mend.ensures.mends).quiet
    (stay_right c.args.prefix c.self.inside.config.now c.self.inside.unicast c.put_telling.new.self c.self.inside.flows
    (routes_of c.mend.new.self) c.args.self.now c.self.view_is c.self.invariant.keeps.right stay)
