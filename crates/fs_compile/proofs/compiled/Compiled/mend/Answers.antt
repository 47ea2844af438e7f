use Rattle.fs_compile.proofs.Words.{List, ◌∷◌, ◌+◌, sym, ap, subst, ◌∙◌, drop, arith, drop_all, drop_more, AllByRecursion, Listed, all_admitted}
use Rattle.fs_compile.proofs.Words.{admitted, Change, IsOfFamily, spans_of, AreTo, target_of, admitted_in, all_of_family}
use Rattle.fs_compile.proofs.MatcherMending.{Mends, made_all, mends_first, mends_kept, mends_next, mends_own, mends_stand, noted_item}
use Rattle.fs_buckets.proofs.ListMending.{listed_to, own_here, own_item, to_here}
use Rattle.fs_compile.proofs.compiled.Compiled.mend.Goals as goal

pub loop-place-init : goal.loop-place-init
loop-place-init c = subst (λ (ps : List Change). Mends c.args.changes.now ps c.args.table.now c.args.self.now c.args.self.now)
    (sym c.places-places.ensures.places)
    (mends_first c.args.changes.now c.requires.0 c.args.table.now c.args.self.now c.requires.1 c.requires.2
    (c.requires.3 (sym c.are_all.ensures ∙ c.if-are_all.false)))

pub replace-requires-clause-each : goal.replace-requires-clause-each
replace-requires-clause-each c = subst (AllByRecursion (IsOfFamily c.place-item.result.family))
    (sym (ap all_admitted c.deref.ensures.value ∙ c.in_ok-list.ensures.list
    ∙ listed_to c.place-item.result.family c.place-item.result.destination c.args.table.now))
    (own_here c.place-item.result.family c.place-item.result.destination (admitted_in c.args.table.now c.place-item.result.family)
    (all_of_family c.place-item.result.family (admitted c.place-item.result.family c.args.table.now) (c.admitted_to.ensures.rules c.place-item.result.family)))

pub replace-requires-clause-there : goal.replace-requires-clause-there
replace-requires-clause-there c = subst (λ (rs : List Listed). AreTo (target_of c.place-item.result.destination) (spans_of rs))
    (sym (ap all_admitted c.deref.ensures.value ∙ c.in_ok-list.ensures.list
    ∙ listed_to c.place-item.result.family c.place-item.result.destination c.args.table.now))
    (to_here c.place-item.result.family c.place-item.result.destination (admitted_in c.args.table.now c.place-item.result.family)
    (own_item c.places-places.result.now c.args.changes.now.places c.loop-place.place-index c.place-item.result c.places-places.ensures.places
    c.loop-place-test.true c.place-item.is c.places-places.ensures.own)
    (all_of_family c.place-item.result.family (admitted c.place-item.result.family c.args.table.now) (c.admitted_to.ensures.rules c.place-item.result.family)))

pub loop-place-preserved : goal.loop-place-preserved
loop-place-preserved c = mends_next c.args.changes.now c.place-item.result (drop (c.loop-place.place-index + 1) c.places-places.result.now)
    c.args.table.now c.args.self.now c.loop-place.self c.replace.new.self (all_admitted c.deref.result.now)
    (own_item c.places-places.result.now c.args.changes.now.places c.loop-place.place-index c.place-item.result c.places-places.ensures.places
    c.loop-place-test.true c.place-item.is c.places-places.ensures.own)
    (noted_item c.args.changes.now c.places-places.result.now c.loop-place.place-index c.place-item.result c.places-places.ensures.places
    c.loop-place-test.true c.place-item.is)
    c.admitted_to.ensures.rules c.admitted_to.ensures.admitted (ap all_admitted c.deref.ensures.value ∙ c.in_ok-list.ensures.list) c.in_ok-replace.ensures
    (subst (λ (ps : List Change). Mends c.args.changes.now ps c.args.table.now c.args.self.now c.loop-place.self)
    (drop_more c.places-places.result.now c.loop-place.place-index c.place-item.result c.loop-place-test.true
    ∙ ap (λ (x : Change). x ∷ drop (c.loop-place.place-index + 1) c.places-places.result.now) (sym c.place-item.is))
    c.loop-place.invariant)

pub returns-then-are_all-clause-kept : goal.returns-then-are_all-clause-kept
returns-then-are_all-clause-kept c =
    made_all c.args.changes.now (admitted_in c.args.table.now) c.args.self.now c.in_ok-self.field-0 (sym c.are_all.ensures
    ∙ c.if-are_all.true) c.in_ok-self.ensures.stands

pub returns-clause-stands : goal.returns-clause-stands
returns-clause-stands c = mends_stand c.args.changes.now c.args.table.now c.args.self.now c.loop-place.self
    (subst (λ (ps : List Change). Mends c.args.changes.now ps c.args.table.now c.args.self.now c.loop-place.self)
    (drop_all c.loop-place.place-index c.places-places.result.now (omega (arith, c.loop-place-test.false))) c.loop-place.invariant)

pub returns-clause-own : goal.returns-clause-own
returns-clause-own c = mends_own c.args.changes.now c.args.table.now c.args.self.now c.loop-place.self
    (subst (λ (ps : List Change). Mends c.args.changes.now ps c.args.table.now c.args.self.now c.loop-place.self)
    (drop_all c.loop-place.place-index c.places-places.result.now (omega (arith, c.loop-place-test.false))) c.loop-place.invariant)

pub returns-clause-kept : goal.returns-clause-kept
returns-clause-kept c = mends_kept c.args.changes.now c.args.table.now c.args.self.now c.loop-place.self
    (subst (λ (ps : List Change). Mends c.args.changes.now ps c.args.table.now c.args.self.now c.loop-place.self)
    (drop_all c.loop-place.place-index c.places-places.result.now (omega (arith, c.loop-place-test.false))) c.loop-place.invariant)
