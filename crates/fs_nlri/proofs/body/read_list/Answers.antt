use Rattle.std.proofs.lemmas.Result.{err_from_is_err_and}
use Rattle.fs_nlri.proofs.BodyReaders.{list_bad}
use Rattle.fs_nlri.proofs.body.read_list.Goals as goal

pub returns-in_err-list-clause-fault : goal.returns-in_err-list-clause-fault
returns-in_err-list-clause-fault g c =
    let p = err_from_is_err_and c.from_residual.result c.from_residual.ensures.1 in
    rw (p.1, p.2) (list_bad g.K.OfKind.KIND c.args.widths.now c.args.bits c.args.octets.now c.in_err-list.field-0.0 (c.in_err-list.ensures.fault c.requires))
