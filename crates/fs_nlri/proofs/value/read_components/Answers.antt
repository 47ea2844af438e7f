use Rattle.fs_nlri.proofs.{Words.{both_ways, parts_of}, ValueSteps.{finished, no_type, not_above, bad_body, more}}
use Rattle.fs_nlri.proofs.value.read_components.Goals as goal

pub returns-then-not-has_type-clause-fault : goal.returns-then-not-has_type-clause-fault
returns-then-not-has_type-clause-fault c =
    rw c.bad.ensures (no_type c.args.family c.args.octets.now c.loop-rest.rest.now c.loop-rest.last
    (parts_of c.loop-rest.components.items) c.loop-rest.invariant c.in-len1-up.len_at_least
    (λ known. both_ways c.has_type.result c.if-not-has_type.true (c.has_type.ensures.1 known)))

pub returns-then-kind-last-clause-fault : goal.returns-then-kind-last-clause-fault
returns-then-kind-last-clause-fault c =
    rw c.bad-then-kind-last.ensures
    (not_above c.args.family c.args.octets.now c.loop-rest.rest.now c.loop-rest.last (parts_of c.loop-rest.components.items) c.loop-rest.invariant
    c.in-len1-up.len_at_least
    (c.has_type.ensures.0 c.if-not-has_type.false) c.if-kind-last.true)

pub loop-rest-preserved : goal.loop-rest-preserved
loop-rest-preserved c =
    more c.args.family c.args.octets.now c.loop-rest.rest.now c.loop-rest.last c.in-Ok.taken c.loop-rest.components.items _ c.in-Ok.component
    c.loop-rest.invariant c.in-len1-up.len_at_least
    c.if-kind-last.false c.in_ok-push-in-Ok.ensures.items c.in-Ok.ensures.kind c.in-Ok.ensures.found

pub returns-in-Err-clause-fault : goal.returns-in-Err-clause-fault
returns-in-Err-clause-fault c =
    rw c.after.ensures (bad_body c.args.family c.args.octets.now c.loop-rest.rest.now c.loop-rest.last
    (parts_of c.loop-rest.components.items) c.in-Err.fault c.loop-rest.invariant c.in-len1-up.len_at_least
    c.if-kind-last.false c.in-Err.ensures.fault)

pub returns-clause-found : goal.returns-clause-found
returns-clause-found c =
    rw c.shrink_to_fit.ensures.items
    (finished c.args.family c.args.octets.now c.loop-rest.rest.now c.loop-rest.last (parts_of c.loop-rest.components.items) c.loop-rest.invariant
    c.in_default.len_below)
