use Rattle.fs_rules.proofs.Words.{◌≡◌, ap, sym, ◌∙◌, true≢false, subst, arith, nat_tests, Covers, Held, held_count, without_peer_flows}
use Rattle.fs_rules.proofs.Words.{without_peer_unicast}
use Rattle.fs_rules.proofs.Counting.{with_same, gone_twice}
use Rattle.fs_rules.proofs.table.Table.lose_telling.Goals as goal

pub returns-then-of-eq0-clause-removed : goal.returns-then-of-eq0-clause-removed
returns-then-of-eq0-clause-removed g c = with_same c.args.peer c.args.self.now
    (sym (ap (held_count c.args.peer) c.self.view_is) ∙ sym (c.self.invariant.counted c.args.peer) ∙ sym c.of.ensures
    ∙ grind (arith, nat_tests, c.if-of-eq0.true))

pub lose_flows-requires : goal.lose_flows-requires
lose_flows-requires g c = subst (λ (held : Held). without_peer_unicast c.args.peer held.unicast ≡ held.unicast) (sym c.lose_unicast.ensures.removed)
    (gone_twice c.args.peer c.args.self.now.unicast)

pub returns-then-lose_flows-clause-covers : goal.returns-then-lose_flows-clause-covers
returns-then-lose_flows-clause-covers g c = λ base h. c.note_all.ensures base c.lose_flows.new.self

pub returns-else-lose_flows-clause-covers : goal.returns-else-lose_flows-clause-covers
returns-else-lose_flows-clause-covers g c =
    λ base h. subst (Covers base c.lose_unicast.new.changes) (sym (c.lose_flows.ensures.told.0 c.if-lose_flows.false))
    (c.lose_unicast.ensures.covers base h)

pub returns-then-lose_flows-clause-quiet : goal.returns-then-lose_flows-clause-quiet
returns-then-lose_flows-clause-quiet g c = λ none stay.
    let flows = ap (λ (held : Held). held.flows) c.lose_unicast.ensures.removed in
    let same = ap (without_peer_flows c.args.peer) flows ∙ none ∙ sym flows in
    absurd (true≢false (sym c.if-lose_flows.true
    ∙ c.lose_flows.ensures.told.1 (c.lose_flows.ensures.removed ∙ ap (λ rs. record c.lose_unicast.new.self { flows = rs }) same)))
