use Rattle.fs_flows.proofs.Words.{◌≡◌, true, false, sym, ◌∙◌, ap, length, filter, ◌==◌, is_at, set_value, remove_entry, prefix_cmp, AreSorted}
use Rattle.fs_flows.proofs.Words.{routes_of, is_other_key}
use Rattle.fs_flows.proofs.{PuttingInGroups.{each_lookup}, TakingFromGroups.{taken_some, taken_all, taken_none}}
use Rattle.fs_flows.proofs.groups.take_at.Goals as goal

pub returns-in_default-clause-taken : goal.returns-in_default-clause-taken
returns-in_default-clause-taken c = ap (λ m. m.entries) c.get_mut.follows.holds-at-none
    ∙ taken_none c.args.destination.now (is_other_key c.args.rule.now c.args.peer) c.args.groups.now.entries (sym c.in_default.ensures.value)

pub returns-then-is_empty-clause-taken : goal.returns-then-is_empty-clause-taken
returns-then-is_empty-clause-taken c = c.remove.ensures.entries
    ∙ ap (remove_entry (is_at (prefix_cmp c.args.destination.now))) ((c.get_mut.follows.holds c.take-held.new.self).0
    ∙ ap (set_value (is_at (prefix_cmp c.args.destination.now)) c.args.groups.now.entries) c.take-held.ensures.taken)
    ∙ taken_all c.args.destination.now (is_other_key c.args.rule.now c.args.peer) c.args.groups.now.entries c.in-Some.group.now
    (sym c.in-Some.ensures.value) none where
      none : (length (filter (is_other_key c.args.rule.now c.args.peer) c.in-Some.group.now) == 0) ≡ true
      none = ap (λ ks. length ks == 0) (sym c.take-held.ensures.taken) ∙ sym c.is_empty.ensures ∙ c.if-is_empty.true

pub returns-else-is_empty-clause-taken : goal.returns-else-is_empty-clause-taken
returns-else-is_empty-clause-taken c = (c.get_mut.follows.holds c.take-held.new.self).0
    ∙ ap (set_value (is_at (prefix_cmp c.args.destination.now)) c.args.groups.now.entries) c.take-held.ensures.taken
    ∙ taken_some c.args.destination.now (is_other_key c.args.rule.now c.args.peer) c.args.groups.now.entries c.in-Some.group.now
    (sym c.in-Some.ensures.value) some where
      some : (length (filter (is_other_key c.args.rule.now c.args.peer) c.in-Some.group.now) == 0) ≡ false
      some = ap (λ ks. length ks == 0) (sym c.take-held.ensures.taken) ∙ sym c.is_empty.ensures ∙ c.if-is_empty.false

pub take-held-requires : goal.take-held-requires
take-held-requires c = each_lookup (λ ks. AreSorted (routes_of ks)) (is_at (prefix_cmp c.args.destination.now)) c.args.groups.now.entries
    c.in-Some.group.now c.requires (sym c.in-Some.ensures.value)
