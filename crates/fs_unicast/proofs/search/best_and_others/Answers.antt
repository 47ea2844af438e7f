use Rattle.fs_unicast.proofs.Words.{◌∙◌, sym, ap, best_at, best_match_of, others_under, covered_before}
use Rattle.fs_unicast.proofs.Fronts.{behind, goes_over, longest_over, no_cover, none_left, none_under, nothing_over, strictly}
use Rattle.fs_unicast.proofs.Ranges.{best_at_longest}
use Rattle.fs_unicast.specs.Search.{neighbour_of}
use Rattle.fs_unicast.proofs.search.best_and_others.Goals as goal

pub returns-in_default-clause-best : goal.returns-in_default-clause-best
returns-in_default-clause-best c = let held = c.paths-held.result.now.entries in let d = c.args.prefix.now in
    rw (sym c.paths-held.ensures)
    (no_cover d c.first_under.result held c.first_under.ensures c.in_default.ensures.first)

pub returns-in_default-clause-others : goal.returns-in_default-clause-others
returns-in_default-clause-others c = let held = c.paths-held.result.now.entries in let d = c.args.prefix.now in
    rw (sym c.paths-held.ensures)
    (none_left d c.first_under.result held c.first_under.ensures c.in_default.ensures.first
    c.args.local_as (neighbour_of c.args.local_as (best_match_of held d)))

pub returns-then-covers-clause-best : goal.returns-then-covers-clause-best
returns-then-covers-clause-best c = c.in-Some.ensures.best
    ∙ best_at_longest c.paths-held.result.now.entries c.args.prefix.now c.in-Some.first
    (longest_over c.args.prefix.now c.first_under.result c.paths-held.result.now.entries c.first_under.ensures c.in-Some.first c.in-Some.ensures.first
    (sym c.covers.ensures ∙ c.if-covers.true))
    ∙ ap (λ rs. best_match_of rs c.args.prefix.now) c.paths-held.ensures

pub returns-then-covers-clause-others : goal.returns-then-covers-clause-others
returns-then-covers-clause-others c = let held = c.paths-held.result.now.entries in let d = c.args.prefix.now in
    rw (sym c.paths-held.ensures)
    (none_under d c.first_under.result held c.first_under.ensures c.in-Some.first c.in-Some.ensures.first
    (covered_before c.in-Some.first d (sym c.covers.ensures ∙ c.if-covers.true)) c.args.local_as (neighbour_of c.args.local_as (best_match_of held d)))

pub returns-then-covers-2-clause-others : goal.returns-then-covers-2-clause-others
returns-then-covers-2-clause-others c = c.others_from-others.ensures
    ∙ ap (others_under c.args.routes.now c.args.prefix.now c.args.local_as)
    (c.neighbour_of-asn.ensures ∙ ap (neighbour_of c.args.local_as) (c.best_match-longest.ensures
    ∙ ap (λ rs. best_match_of rs c.args.prefix.now) c.paths-held.ensures))

pub best_over-requires : goal.best_over-requires
best_over-requires c = goes_over c.args.prefix.now c.first_under.result c.paths-held.result.now.entries c.first_under.ensures c.in-Some.first
    c.in-Some.ensures.first
    (sym c.covers-2.ensures ∙ c.if-covers-2.false) c.in-Some-common.both c.in-Some-common.ensures.over.0 c.in-Some-common.ensures.longest

pub returns-in-Some-common-clause-others : goal.returns-in-Some-common-clause-others
returns-in-Some-common-clause-others c = let held = c.paths-held.result.now.entries in let d = c.args.prefix.now in
    rw (sym c.paths-held.ensures)
    (none_under d c.first_under.result held c.first_under.ensures c.in-Some.first c.in-Some.ensures.first
    (behind d c.first_under.result held c.first_under.ensures c.in-Some.first c.in-Some.ensures.first
    (sym c.covers-2.ensures ∙ c.if-covers-2.false)) c.args.local_as (neighbour_of c.args.local_as (best_match_of held d)))

pub returns-in-None-clause-best : goal.returns-in-None-clause-best
returns-in-None-clause-best c = let held = c.paths-held.result.now.entries in let d = c.args.prefix.now in
    rw (sym c.paths-held.ensures)
    (nothing_over d c.first_under.result held c.first_under.ensures c.in-Some.first c.in-Some.ensures.first
    (sym c.covers-2.ensures ∙ c.if-covers-2.false) (c.common.ensures.none.0 c.in-None.is))

pub returns-in-None-clause-others : goal.returns-in-None-clause-others
returns-in-None-clause-others c = let held = c.paths-held.result.now.entries in let d = c.args.prefix.now in
    rw (sym c.paths-held.ensures)
    (none_under d c.first_under.result held c.first_under.ensures c.in-Some.first c.in-Some.ensures.first
    (behind d c.first_under.result held c.first_under.ensures c.in-Some.first c.in-Some.ensures.first
    (sym c.covers-2.ensures ∙ c.if-covers-2.false)) c.args.local_as (neighbour_of c.args.local_as (best_match_of held d)))

pub others_from-others-requires-clause-best : goal.others_from-others-requires-clause-best
others_from-others-requires-clause-best c = c.in-Some.ensures.best ∙ ap (λ rs. best_at rs c.in-Some.first) c.paths-held.ensures

pub others_from-others-requires-clause-under : goal.others_from-others-requires-clause-under
others_from-others-requires-clause-under c =
    strictly c.args.prefix.now c.in-Some.first (sym c.covers-2.ensures ∙ c.if-covers-2.true) (sym c.covers.ensures ∙ c.if-covers.false)
