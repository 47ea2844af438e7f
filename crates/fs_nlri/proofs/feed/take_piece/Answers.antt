use Rattle.fs_nlri.proofs.{Words.{◌++◌, err_from_is_err_and}, Fed.{stops_at_once}}
use Rattle.fs_nlri.proofs.feed.take_piece.Goals as goal

pub returns-in_err-extend_from_slice-clause-err : goal.returns-in_err-extend_from_slice-clause-err
returns-in_err-extend_from_slice-clause-err c =
    let p = err_from_is_err_and c.from_residual.result c.from_residual.ensures.1 in
    rw (p.1, p.2) (stops_at_once c.args.family (c.args.held.now.items ++ c.args.piece.now) c.args.out.now.items)
