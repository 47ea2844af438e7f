use Rattle.fs_flows.proofs.Words.{Bool, not, ◌++◌, sym, ap, ◌∙◌, V4, V6, IsSound, has_key, put_kept, IsListed}
use Rattle.fs_flows.proofs.{Along.{listed_still}, Apart.{ok_weaker, ok_along}}
use Rattle.fs_flows.proofs.BothFamilies.{rules_each, each_now, put_first, put_second, held_first, held_second, sorted_first, sorted_second}
use Rattle.fs_flows.proofs.flows.Flows.put.Goals as goal

pub put-requires-clause-sorted : goal.put-requires-clause-sorted
put-requires-clause-sorted c = sorted_first c.self.inside.v4 c.self.inside.v6 c.args.self.now c.self.view_is c.requires

pub put-requires-in-V6-clause-sorted : goal.put-requires-in-V6-clause-sorted
put-requires-in-V6-clause-sorted c = sorted_second c.self.inside.v4 c.self.inside.v6 c.args.self.now c.self.view_is c.requires

pub invariant_of-self : goal.invariant_of-self
invariant_of-self c = (
  record {
    first = each_now (IsSound V4) c.args.k c.self.inside.v4 c.put.new.self c.put.result
        (record { family = sym c.family.ensures ∙ c.in-V4.is; rule = c.put.ensures.rule }) c.self.invariant.0.first c.put.ensures.ok c.put.ensures.err;
    second = c.self.invariant.0.second;
  },
  record {
    first = each_now (IsListed c.note.new.self) c.args.k c.self.inside.v4 c.put.new.self c.put.result c.note.ensures.noted
        (listed_still c.self.inside.listed c.note.new.self c.note.ensures.stays c.self.inside.v4 c.self.invariant.1.first) c.put.ensures.ok
        c.put.ensures.err;
    second = listed_still c.self.inside.listed c.note.new.self c.note.ensures.stays c.self.inside.v6 c.self.invariant.1.second;
  },
)

pub invariant_of-self-in-V6 : goal.invariant_of-self-in-V6
invariant_of-self-in-V6 c = (
  record {
    first = c.self.invariant.0.first;
    second =
        each_now (IsSound V6) c.args.k c.self.inside.v6 c.put-in-V6.new.self c.put-in-V6.result
        (record { family = sym c.family.ensures ∙ c.in-V6.is; rule = c.put-in-V6.ensures.rule }) c.self.invariant.0.second c.put-in-V6.ensures.ok
        c.put-in-V6.ensures.err;
  },
  record {
    first = listed_still c.self.inside.listed c.note.new.self c.note.ensures.stays c.self.inside.v4 c.self.invariant.1.first;
    second = each_now (IsListed c.note.new.self) c.args.k c.self.inside.v6 c.put-in-V6.new.self c.put-in-V6.result c.note.ensures.noted
        (listed_still c.self.inside.listed c.note.new.self c.note.ensures.stays c.self.inside.v6 c.self.invariant.1.second) c.put-in-V6.ensures.ok
        c.put-in-V6.ensures.err;
  },
)

pub returns-in-V4-clause-ok : goal.returns-in-V4-clause-ok
returns-in-V4-clause-ok c = ok_weaker _ _ c.put.result (λ e. ap (λ ks. ks ++ c.self.inside.v6) e
    ∙ put_first c.args.k c.self.inside.v4 c.self.inside.v6 (record { family = sym c.family.ensures ∙ c.in-V4.is; rule = c.put.ensures.rule })
    c.self.invariant.0 ∙ ap (put_kept c.args.k) c.self.view_is) c.put.ensures.ok

pub returns-in-V6-clause-ok : goal.returns-in-V6-clause-ok
returns-in-V6-clause-ok c = ok_weaker _ _ c.put-in-V6.result (λ e. ap (λ ks. c.self.inside.v4 ++ ks) e
    ∙ put_second c.args.k c.self.inside.v4 c.self.inside.v6 (record { family = sym c.family.ensures ∙ c.in-V6.is; rule = c.put-in-V6.ensures.rule })
    c.self.invariant.0 ∙ ap (put_kept c.args.k) c.self.view_is) c.put-in-V6.ensures.ok

pub returns-in-V4-clause-fresh : goal.returns-in-V4-clause-fresh
returns-in-V4-clause-fresh c =
    ok_along (λ (is_new : Bool). is_new) _ _ c.put.result
    (ap not (held_first c.args.k.route.rule c.args.k.route.peer c.self.inside.v4 c.self.inside.v6 (sym c.family.ensures ∙ c.in-V4.is) c.self.invariant.0
    ∙ ap (has_key c.args.k.route.rule c.args.k.route.peer) c.self.view_is)) c.put.ensures.fresh

pub returns-in-V6-clause-fresh : goal.returns-in-V6-clause-fresh
returns-in-V6-clause-fresh c =
    ok_along (λ (is_new : Bool). is_new) _ _ c.put-in-V6.result
    (ap not (held_second c.args.k.route.rule c.args.k.route.peer c.self.inside.v4 c.self.inside.v6 (sym c.family.ensures
    ∙ c.in-V6.is) c.self.invariant.0 ∙ ap (has_key c.args.k.route.rule c.args.k.route.peer) c.self.view_is)) c.put-in-V6.ensures.fresh

pub returns-in-V4-clause-rules : goal.returns-in-V4-clause-rules
returns-in-V4-clause-rules c = rules_each c.self.inside.v4 c.self.inside.v6 c.args.self.now c.self.view_is c.self.invariant.0

pub returns-in-V6-clause-rules : goal.returns-in-V6-clause-rules
returns-in-V6-clause-rules c = rules_each c.self.inside.v4 c.self.inside.v6 c.args.self.now c.self.view_is c.self.invariant.0
