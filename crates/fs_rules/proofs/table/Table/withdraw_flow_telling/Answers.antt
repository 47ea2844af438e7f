use Rattle.fs_rules.proofs.Words.{ap, sym, subst, ◌∙◌, not, Covers, is_key, is_to, without_route, has_route, routes_of, keeps-filter, routes-filter, any-routes}
use Rattle.fs_rules.proofs.{Chosen.{flows_changed, held_of}, Counting.{counted_without_flow}, Elsewhere.{taken_elsewhere, without_nothing}}
use Rattle.fs_rules.proofs.Prefixes.{held_still}
use Rattle.fs_rules.proofs.table.Table.withdraw_flow_telling.Goals.{then-held, else-held}
use Rattle.fs_rules.proofs.table.Table.withdraw_flow_telling.Goals as goal

pub invariant_of-self : goal.invariant_of-self
invariant_of-self c = record {
  keeps = rw c.take-held.ensures.taken
      (keeps-filter c.self.inside.config.now c.self.inside.unicast (λ r. not (is_key c.args.rule.now.rule c.args.peer r)) c.self.inside.flows
      c.self.invariant.keeps);
  counted = counted_without_flow c.self.inside.unicast c.args.rule.now.rule c.args.peer (routes_of c.self.inside.flows) _ c.self.inside.counts
      c.lower.new.self c.take-held.result c.self.invariant.keeps.sorted c.self.invariant.counted c.lower.ensures.counted
      (c.take-held.ensures.held ∙ any-routes (is_key c.args.rule.now.rule c.args.peer) c.self.inside.flows)
      (ap routes_of c.take-held.ensures.taken ∙ routes-filter (λ r. not (is_key c.args.rule.now.rule c.args.peer r)) c.self.inside.flows);
  held = held_still c.self.inside.counts c.lower.new.self c.self.inside.unicast c.lower.ensures.stays c.self.invariant.held;
  ordered = c.self.invariant.ordered;
}

pub returns-clause-removed : goal.returns-clause-removed
returns-clause-removed c = flows_changed (without_route c.args.rule.now.rule c.args.peer) c.self.inside.config.now c.self.inside.unicast
    c.self.inside.flows c.take-held.new.self c.args.self.now c.self.view_is (ap routes_of c.take-held.ensures.taken
    ∙ routes-filter (λ r. not (is_key c.args.rule.now.rule c.args.peer r)) c.self.inside.flows)

pub returns-clause-held : goal.returns-clause-held
returns-clause-held c = c.take-held.ensures.held ∙ any-routes (is_key c.args.rule.now.rule c.args.peer) c.self.inside.flows
    ∙ ap (λ h. has_route c.args.rule.now.rule c.args.peer h.flows) c.self.view_is

pub returns-clause-elsewhere : goal.returns-clause-elsewhere
returns-clause-elsewhere c =
    λ touched t. taken_elsewhere touched c.self.inside.config.now c.self.inside.unicast c.args.rule.now.rule c.args.peer c.self.inside.flows
    (routes_of c.take-held.new.self) c.args.self.now c.self.view_is
    (ap routes_of c.take-held.ensures.taken ∙ routes-filter (λ r. not (is_key c.args.rule.now.rule c.args.peer r)) c.self.inside.flows)
    c.take-held.ensures.rule c.take-held.ensures.rules t

pub returns-clause-covers : goal.returns-clause-covers
returns-clause-covers c =
    let now = held_of c.self.inside.config.now c.self.inside.unicast (routes_of c.take-held.new.self) in
    elim c.if-held.branch [
      | then-held w ↦ rw w.changes-is (λ base h. w.note.ensures.covers base c.args.self.now now h
          (returns-clause-elsewhere c (is_to w.of.result.family w.of.result.destination) w.of.ensures.place))
      | else-held w ↦ rw w.changes-is (λ base. subst (Covers base c.args.changes.now) (sym (without_nothing c.args.rule.now.rule c.args.peer
          c.args.self.now now (returns-clause-removed c) (sym (returns-clause-held c) ∙ w.if-held.false))))
    ]
