use Rattle.fs_rules.proofs.Words.{◌≡◌, ap, sym, ◌∙◌, true≢false, not, ◌==◌, arith, nat_tests, Held, without_peer_unicast, without_peer_flows}
use Rattle.fs_rules.proofs.Words.{routes_of, keeps-filter, routes-filter}
use Rattle.fs_rules.proofs.Chosen.{flows_changed}
use Rattle.fs_rules.proofs.Counting.{counted_as, counted_lost, holds_none, with_same_flows}
use Rattle.fs_rules.proofs.Prefixes.{held_still, held_others}
use Rattle.fs_rules.proofs.table.Table.lose_flows.Goals as goal

pub returns-then-of-eq0-clause-removed : goal.returns-then-of-eq0-clause-removed
returns-then-of-eq0-clause-removed c = c.self.view_is
    ∙ with_same_flows c.args.peer c.self.inside.config.now c.self.inside.unicast (routes_of c.self.inside.flows) c.args.self.now c.self.view_is
    (sym (c.self.invariant.counted c.args.peer) ∙ sym (c.clear_prefixes.ensures.same c.args.peer) ∙ sym c.of.ensures
    ∙ grind (arith, nat_tests, c.if-of-eq0.true))

pub invariant_of-self : goal.invariant_of-self
invariant_of-self c = record {
  keeps = c.self.invariant.keeps;
  counted = counted_as c.self.inside.unicast (routes_of c.self.inside.flows) c.self.inside.counts c.clear_prefixes.new.self
      c.clear_prefixes.ensures.same c.self.invariant.counted;
  held = held_others c.self.inside.counts c.clear_prefixes.new.self c.args.peer c.self.inside.unicast c.clear_prefixes.ensures.stays none c.self.invariant.held;
  ordered = c.self.invariant.ordered;
} where
  none : without_peer_unicast c.args.peer c.self.inside.unicast ≡ c.self.inside.unicast
  none = ap (λ (held : Held). without_peer_unicast c.args.peer held.unicast) c.self.view_is ∙ c.requires
      ∙ sym (ap (λ (held : Held). held.unicast) c.self.view_is)

pub invariant_of-self-2 : goal.invariant_of-self-2
invariant_of-self-2 c = record {
  keeps = rw c.forget.ensures (keeps-filter c.self.inside.config.now c.self.inside.unicast (λ r. not (r.peer == c.args.peer)) c.self.inside.flows
      c.self.invariant.keeps);
  counted = counted_lost c.args.peer c.self.inside.unicast (routes_of c.self.inside.flows) _ c.clear_prefixes.new.self c.clear.new.self none
      (counted_as c.self.inside.unicast (routes_of c.self.inside.flows) c.self.inside.counts c.clear_prefixes.new.self c.clear_prefixes.ensures.same
      c.self.invariant.counted) c.clear.ensures.counted
      (ap routes_of c.forget.ensures ∙ routes-filter (λ r. not (r.peer == c.args.peer)) c.self.inside.flows);
  held = held_still c.clear_prefixes.new.self c.clear.new.self c.self.inside.unicast c.clear.ensures.stays
      (held_others c.self.inside.counts c.clear_prefixes.new.self c.args.peer c.self.inside.unicast c.clear_prefixes.ensures.stays none
      c.self.invariant.held);
  ordered = c.self.invariant.ordered;
} where
  none : without_peer_unicast c.args.peer c.self.inside.unicast ≡ c.self.inside.unicast
  none = ap (λ (held : Held). without_peer_unicast c.args.peer held.unicast) c.self.view_is ∙ c.requires
      ∙ sym (ap (λ (held : Held). held.unicast) c.self.view_is)

pub returns-clause-removed : goal.returns-clause-removed
returns-clause-removed c = flows_changed (without_peer_flows c.args.peer) c.self.inside.config.now c.self.inside.unicast c.self.inside.flows
    c.forget.new.self c.args.self.now c.self.view_is (ap routes_of c.forget.ensures
    ∙ routes-filter (λ r. not (r.peer == c.args.peer)) c.self.inside.flows)

pub returns-clause-told : goal.returns-clause-told
returns-clause-told c = (
  (λ e. absurd (true≢false e)),
  (λ e. let same : without_peer_flows c.args.peer (routes_of c.self.inside.flows) ≡ routes_of c.self.inside.flows =
      sym (ap routes_of c.forget.ensures ∙ routes-filter (λ r. not (r.peer == c.args.peer)) c.self.inside.flows)
      ∙ ap (λ (held : Held). held.flows) (e ∙ sym c.self.view_is) in
      let count : c.of.result ≡ 0 = c.of.ensures ∙ c.clear_prefixes.ensures.same c.args.peer ∙ c.self.invariant.counted c.args.peer
      ∙ holds_none c.args.peer c.self.inside.unicast (routes_of c.self.inside.flows) none same in
      absurd (c.if-of-eq0.false count)),
) where
  none : without_peer_unicast c.args.peer c.self.inside.unicast ≡ c.self.inside.unicast
  none = ap (λ (held : Held). without_peer_unicast c.args.peer held.unicast) c.self.view_is ∙ c.requires
      ∙ sym (ap (λ (held : Held). held.unicast) c.self.view_is)
