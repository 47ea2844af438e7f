use Rattle.fs_nlri.proofs.{Words.{arith, err_from_is_err_and, octets_from, parts_of}, Frames.{frame_found, frame_bad, frame_rule}}
use Rattle.fs_nlri.proofs.frame.read_frame.Goals as goal

pub returns-in_err-components-clause-fault : goal.returns-in_err-components-clause-fault
returns-in_err-components-clause-fault c =
    let p = err_from_is_err_and c.from_residual.result c.from_residual.ensures.1 in
    rw (p.1, p.2) (frame_bad c.args.family c.args.octets.now c.in-Some.head c.in-Some.length c.in_err-components.field-0.0 c.in-Some.ensures.found
    c.if-behind-length.false c.in_err-components.ensures.fault)

pub invariant_of-result : goal.invariant_of-result
invariant_of-result c =
    frame_rule c.args.family c.args.octets.now c.in-Some.head c.in-Some.length (parts_of c.in_ok-components.components.items)
    (octets_from c.args.octets.now (λ i. omega (arith, c.type_inv.octets i))) c.in-Some.ensures.found c.if-behind-length.false c.in_ok-components.ensures.found

pub returns-clause-found : goal.returns-clause-found
returns-clause-found c =
    frame_found c.args.family c.args.octets.now c.in-Some.head c.in-Some.length (parts_of c.in_ok-components.components.items) c.in-Some.ensures.found
    c.if-behind-length.false c.in_ok-components.ensures.found
