-- What the validities of kept routes tell.
use Rattle.std.specs.Prelude.{ℕ, Option, map, option_map, slice_get, List}
use Rattle.fs_base.specs.declared.prefix.Family.{Family}
use Rattle.fs_validate.specs.declared.route.FlowRoute.{FlowRoute}
use Rattle.fs_flows.specs.{Kept.{Kept}, Group.{routes_of, chosen}}
use Rattle.fs_rules.specs.Lent.{Listed, listed, Judged}

abbrev pub judgement : Kept → Judged
judgement k = record { rule = k.route.rule; peer = k.route.peer; validity = k.validity }

-- an admitted rule, as it is lent
abbrev pub listing : Kept → Listed
listing k = listed k.route

-- what is shown of each admitted rule
abbrev pub shown_chosen : {T : Type 0} → (FlowRoute → T) → Family → List Kept → List T
shown_chosen shows family kept = map (λ k. shows k.route) (chosen family kept)

abbrev pub nth_listing : Family → List Kept → ℕ → Option Listed
nth_listing family kept n = option_map listing (slice_get (chosen family kept) n)

abbrev pub judgements : List Kept → List Judged
judgements kept = map judgement kept

abbrev pub routes_chosen : Family → List Kept → List FlowRoute
routes_chosen family kept = routes_of (chosen family kept)
