use Rattle.fs_flows.proofs.Words.{◌≡◌, true, false, sym, ◌∙◌, ap, length, filter, ◌==◌, is_at, set_value, remove_entry, prefix_cmp, is_of_other}
use Rattle.fs_flows.proofs.TakingFromGroups.{taken_some, taken_all, taken_none}
use Rattle.fs_flows.proofs.groups.forget_at.Goals as goal

pub returns-in_default : goal.returns-in_default
returns-in_default c = ap (λ m. m.entries) c.get_mut.follows.holds-at-none
    ∙ taken_none c.args.destination.now (is_of_other c.args.peer) c.args.groups.now.entries (sym c.in_default.ensures.value)

pub returns-then-is_empty : goal.returns-then-is_empty
returns-then-is_empty c = c.remove.ensures.entries
    ∙ ap (remove_entry (is_at (prefix_cmp c.args.destination.now))) ((c.get_mut.follows.holds c.forget.new.self).0
    ∙ ap (set_value (is_at (prefix_cmp c.args.destination.now)) c.args.groups.now.entries) c.forget.ensures)
    ∙ taken_all c.args.destination.now (is_of_other c.args.peer) c.args.groups.now.entries c.in-Some.group.now (sym c.in-Some.ensures.value) none where
      none : (length (filter (is_of_other c.args.peer) c.in-Some.group.now) == 0) ≡ true
      none = ap (λ ks. length ks == 0) (sym c.forget.ensures) ∙ sym c.is_empty.ensures ∙ c.if-is_empty.true

pub returns-else-is_empty : goal.returns-else-is_empty
returns-else-is_empty c = (c.get_mut.follows.holds c.forget.new.self).0
    ∙ ap (set_value (is_at (prefix_cmp c.args.destination.now)) c.args.groups.now.entries) c.forget.ensures
    ∙ taken_some c.args.destination.now (is_of_other c.args.peer) c.args.groups.now.entries c.in-Some.group.now (sym c.in-Some.ensures.value) some where
      some : (length (filter (is_of_other c.args.peer) c.in-Some.group.now) == 0) ≡ false
      some = ap (λ ks. length ks == 0) (sym c.forget.ensures) ∙ sym c.is_empty.ensures ∙ c.if-is_empty.false
