use Rattle.fs_rules.proofs.Words.{ℕ, List, ◌≡◌, ap, ap₂, sym, subst, ◌∙◌, not, Path, Kept, IsKept, put_route, is_key, is_to, with_flow, routes_of, put_kept}
use Rattle.fs_rules.proofs.Words.{has_key, keeps-put, routes-put, any-routes, IsRule}
use Rattle.fs_rules.proofs.{Chosen.{flows_changed, held_of}, Counting.{counted_as, counted_put_flow}, Elsewhere.{put_elsewhere}}
use Rattle.fs_rules.proofs.Prefixes.{held_still, kept_still}
use Rattle.fs_rules.proofs.table.Table.put_flow_telling.Goals as goal

pub invariant_of-self : goal.invariant_of-self
invariant_of-self g c =
    kept_still c.self.inside.config.now c.self.inside.unicast c.self.inside.flows c.self.inside.counts c.reserve.new.self c.reserve.ensures.same
    c.reserve.ensures.stays c.self.invariant

pub invariant_of-self-in_err-is_new : goal.invariant_of-self-in_err-is_new
invariant_of-self-in_err-is_new g c =
    subst (λ (ks : List Kept). IsKept c.self.inside.config.now c.self.inside.unicast ks c.reserve.new.self) (sym c.in_err-is_new.ensures.err)
    (kept_still c.self.inside.config.now c.self.inside.unicast c.self.inside.flows c.self.inside.counts c.reserve.new.self c.reserve.ensures.same
    c.reserve.ensures.stays c.self.invariant)

pub invariant_of-self-2 : goal.invariant_of-self-2
invariant_of-self-2 g c = record {
  keeps = rw c.in_ok-is_new.ensures.ok
      (rw c.in_ok-k.ensures (keeps-put c.self.inside.config.now c.self.inside.unicast _ c.self.inside.flows c.validate-validity.ensures.validity
      c.self.invariant.keeps));
  counted = counted_put_flow c.self.inside.unicast _ (routes_of c.self.inside.flows) _ c.reserve.new.self c.raise.new.self c.in_ok-is_new.is_new
      c.self.invariant.keeps.sorted
      (counted_as c.self.inside.unicast (routes_of c.self.inside.flows) c.self.inside.counts c.reserve.new.self c.reserve.ensures.same c.self.invariant.counted)
      c.raise.ensures.counted
      (subst (λ (k : Kept). c.in_ok-is_new.is_new ≡ not (has_key k.route.rule k.route.peer c.self.inside.flows)) c.in_ok-k.ensures
      c.in_ok-is_new.ensures.fresh ∙ ap not (any-routes (is_key c.args.rule c.args.peer) c.self.inside.flows))
      (ap routes_of (subst (λ (k : Kept). c.put.new.self ≡ put_kept k c.self.inside.flows) c.in_ok-k.ensures c.in_ok-is_new.ensures.ok)
      ∙ routes-put _ c.self.inside.flows);
  held = held_still c.self.inside.counts c.raise.new.self c.self.inside.unicast (λ p d h. c.raise.ensures.stays p d (c.reserve.ensures.stays p d h))
      c.self.invariant.held;
  ordered = c.self.invariant.ordered;
}

pub returns-clause-ok : goal.returns-clause-ok
returns-clause-ok g c = flows_changed (put_route _) c.self.inside.config.now c.self.inside.unicast c.self.inside.flows c.put.new.self _ c.self.view_is
    (ap routes_of (subst (λ (k : Kept). c.put.new.self ≡ put_kept k c.self.inside.flows) c.in_ok-k.ensures c.in_ok-is_new.ensures.ok)
    ∙ routes-put _ c.self.inside.flows)
    ∙ ap₂ (λ (path : Path) (actions : List (List ℕ)). with_flow c.args.peer c.args.rule path actions c.args.self.now) c.in_ok-share.ensures
    c.in_ok-share-2.ensures

pub returns-clause-elsewhere : goal.returns-clause-elsewhere
returns-clause-elsewhere g c =
    λ touched t. put_elsewhere touched c.self.inside.config.now c.self.inside.unicast _ c.self.inside.flows
    (routes_of c.put.new.self) c.args.self.now c.self.view_is
    (ap routes_of (subst (λ (k : Kept). c.put.new.self ≡ put_kept k c.self.inside.flows) c.in_ok-k.ensures c.in_ok-is_new.ensures.ok)
    ∙ routes-put _ c.self.inside.flows)
    (subst (λ (k : Kept). IsRule k.route.rule) c.in_ok-k.ensures c.put.ensures.rule) c.put.ensures.rules t

pub returns-clause-covers : goal.returns-clause-covers
returns-clause-covers g c = λ base h.
    c.note.ensures.covers base c.args.self.now (held_of c.self.inside.config.now c.self.inside.unicast (routes_of c.put.new.self)) h
    (returns-clause-elsewhere g c (is_to c.of-change.result.family c.of-change.result.destination) c.of-change.ensures.place)
