use Rattle.fs_flows.proofs.Words.{◌++◌, sym, ap, ◌∙◌, filter, list_any, V4, V6, is_key, is_other_key}
use Rattle.fs_flows.proofs.Along.{listed_left}
use Rattle.fs_flows.proofs.BothFamilies.{rules_each, rules_of, filtered, take_first, take_second, held_first, held_second, sorted_first}
use Rattle.fs_flows.proofs.BothFamilies.{sorted_second}
use Rattle.fs_flows.proofs.flows.Flows.take.Goals as goal

pub take-requires-clause-sorted : goal.take-requires-clause-sorted
take-requires-clause-sorted c = sorted_first c.self.inside.v4 c.self.inside.v6 c.args.self.now c.self.view_is c.requires

pub take-requires-clause-rules : goal.take-requires-clause-rules
take-requires-clause-rules c = rules_of V4 c.self.inside.v4 c.self.invariant.0.first

pub take-requires-in-V6-clause-sorted : goal.take-requires-in-V6-clause-sorted
take-requires-in-V6-clause-sorted c = sorted_second c.self.inside.v4 c.self.inside.v6 c.args.self.now c.self.view_is c.requires

pub take-requires-in-V6-clause-rules : goal.take-requires-in-V6-clause-rules
take-requires-in-V6-clause-rules c = rules_of V6 c.self.inside.v6 c.self.invariant.0.second

pub invariant_of-self : goal.invariant_of-self
invariant_of-self c = (
  record {
    first = filtered (is_other_key c.args.rule.now c.args.peer) V4 c.self.inside.v4 c.take.new.self c.take.ensures.taken
        c.self.invariant.0.first;
    second = c.self.invariant.0.second;
  },
  record {
    first = listed_left c.self.inside.listed (is_other_key c.args.rule.now c.args.peer) c.self.inside.v4 c.take.new.self c.take.ensures.taken
        c.self.invariant.1.first;
    second = c.self.invariant.1.second;
  },
)

pub invariant_of-self-in-V6 : goal.invariant_of-self-in-V6
invariant_of-self-in-V6 c = (
  record {
    first = c.self.invariant.0.first;
    second =
        filtered (is_other_key c.args.rule.now c.args.peer) V6 c.self.inside.v6 c.take-in-V6.new.self c.take-in-V6.ensures.taken c.self.invariant.0.second;
  },
  record {
    first = c.self.invariant.1.first;
    second =
        listed_left c.self.inside.listed (is_other_key c.args.rule.now c.args.peer) c.self.inside.v6 c.take-in-V6.new.self c.take-in-V6.ensures.taken
        c.self.invariant.1.second;
  },
)

pub returns-in-V4-clause-taken : goal.returns-in-V4-clause-taken
returns-in-V4-clause-taken c = ap (λ ks. ks ++ c.self.inside.v6) c.take.ensures.taken
    ∙ take_first c.args.rule.now c.args.peer c.self.inside.v4 c.self.inside.v6 (sym c.family.ensures ∙ c.in-V4.is) c.self.invariant.0
    ∙ ap (filter (is_other_key c.args.rule.now c.args.peer)) c.self.view_is

pub returns-in-V4-clause-held : goal.returns-in-V4-clause-held
returns-in-V4-clause-held c = c.take.ensures.held
    ∙ held_first c.args.rule.now c.args.peer c.self.inside.v4 c.self.inside.v6 (sym c.family.ensures ∙ c.in-V4.is) c.self.invariant.0
    ∙ ap (list_any (λ k. is_key c.args.rule.now c.args.peer k.route)) c.self.view_is

pub returns-in-V6-clause-taken : goal.returns-in-V6-clause-taken
returns-in-V6-clause-taken c = ap (λ ks. c.self.inside.v4 ++ ks) c.take-in-V6.ensures.taken
    ∙ take_second c.args.rule.now c.args.peer c.self.inside.v4 c.self.inside.v6 (sym c.family.ensures ∙ c.in-V6.is) c.self.invariant.0
    ∙ ap (filter (is_other_key c.args.rule.now c.args.peer)) c.self.view_is

pub returns-in-V6-clause-held : goal.returns-in-V6-clause-held
returns-in-V6-clause-held c = c.take-in-V6.ensures.held
    ∙ held_second c.args.rule.now c.args.peer c.self.inside.v4 c.self.inside.v6 (sym c.family.ensures ∙ c.in-V6.is) c.self.invariant.0
    ∙ ap (list_any (λ k. is_key c.args.rule.now c.args.peer k.route)) c.self.view_is

pub returns-in-V4-clause-rules : goal.returns-in-V4-clause-rules
returns-in-V4-clause-rules c = rules_each c.self.inside.v4 c.self.inside.v6 c.args.self.now c.self.view_is c.self.invariant.0

pub returns-in-V6-clause-rules : goal.returns-in-V6-clause-rules
returns-in-V6-clause-rules c = rules_each c.self.inside.v4 c.self.inside.v6 c.args.self.now c.self.view_is c.self.invariant.0
