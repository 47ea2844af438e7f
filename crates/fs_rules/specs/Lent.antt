-- What the table lends of its routes.
use Rattle.std.specs.{Prelude.{ℕ, ◌≡◌, List, [], ◌∷◌, ◌++◌, map, filter}, List.{AllByRecursion}, Ordering.{nat_cmp, ordering_then}}
use Rattle.std.specs.declared.cmp.Ordering.{Ordering, TheVariants.{Less}}
use Rattle.fs_base.specs.declared.prefix.Family.{Family}
use Rattle.fs_nlri.specs.Parts.{Ruled}
use Rattle.fs_order.specs.Comparison.{rule_cmp}
use Rattle.fs_validate.specs.{Validity.{validity}, declared.{route.FlowRoute.{FlowRoute}, validity.Validity.{Validity}}}
use Rattle.fs_flows.specs.Table.{Held, is_of_family}
use Rattle.fs_rules.specs.declared.lent.{Admitted.{Admitted}, HeldFlow.{HeldFlow}, LentRule.{LentRule}}

-- an admitted rule: with the peer and the actions of its most preferred valid route
pub record Listed : Type 0 where
  pub rule : Ruled
  pub peer : ℕ
  pub actions : List (List ℕ)

abbrev pub listed : FlowRoute → Listed
listed r = record { rule = r.rule; peer = r.peer; actions = r.actions }

abbrev pub shown_admitted : Admitted → Listed
shown_admitted a = record { rule = a.rule.now; peer = a.peer; actions = a.actions.now }

abbrev pub shown_lent : LentRule → Listed
shown_lent a = record { rule = a.rule.now; peer = a.peer; actions = a.actions.now }

abbrev pub all_admitted : List LentRule → List Listed
all_admitted list = map shown_lent list

-- elements that show these are added at the end
abbrev pub Adds : {A B : Type 0} → (shown : A → B) → (more : List B) → (old new : List A) → Type 0
Adds shown more old new = map shown new ≡ map shown old ++ more

-- a held flow route with its validity over all held unicast routes
pub record Judged : Type 0 where
  pub rule : Ruled
  pub peer : ℕ
  pub validity : Validity

abbrev pub judged : Held → FlowRoute → Judged
judged held r = record { rule = r.rule; peer = r.peer; validity = validity held.unicast held.config r }

abbrev pub shown_held : HeldFlow → Judged
shown_held h = record { rule = h.rule.now; peer = h.peer; validity = h.validity }

-- the held flow routes of a family, in the order of rules, then by peer
abbrev pub held_flows : Family → Held → List Judged
held_flows family held = map (judged held) (filter (is_of_family family) held.flows)

-- by rule, then by peer
abbrev pub judged_cmp : Judged → Judged → Ordering
judged_cmp a b = ordering_then (rule_cmp a.rule b.rule) (nat_cmp a.peer b.peer)

-- each is before those after it
abbrev pub AreRising : List Judged → Type 0
AreRising [] = Unit {0}
AreRising (j ∷ js) = AllByRecursion (λ k. judged_cmp j k ≡ Less) js × AreRising js
