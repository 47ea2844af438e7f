use Rattle.fs_attrs.proofs.Words.{ℕ, ◌<◌, Err, subst, sym, arith, All-from_get_or, IsOctets, UpdateFault, ReadsAs, flow_routes}
use Rattle.fs_attrs.proofs.FieldOutcome.{flow_found, flow_bad}
use Rattle.fs_attrs.proofs.routes.read_flow.Goals as goal

pub returns-in-Ok : goal.returns-in-Ok
returns-in-Ok c =
    let small : IsOctets c.args.octets.now = All-from_get_or (λ (x : ℕ). x < 256) c.args.octets.now 0 (λ i lt. omega (arith, c.type_inv.octets i)) in
    flow_found c.args.family c.args.octets.now c.in-Ok.rules small c.in-Ok.ensures.ok

pub returns-in-Err : goal.returns-in-Err
returns-in-Err c =
    let small : IsOctets c.args.octets.now = All-from_get_or (λ (x : ℕ). x < 256) c.args.octets.now 0 (λ i lt. omega (arith, c.type_inv.octets i)) in
    let wanted = flow_bad c.args.family c.args.octets.now c.in-Err.fault small c.in-Err.ensures.err in
    subst (λ (why : UpdateFault). ReadsAs (Err why) (flow_routes c.args.family c.args.octets.now)) (sym c.fault_of_field.ensures) wanted
