use Rattle.fs_ops.proofs.{Words.{take, arith, subst, octets_from, octets_take, Kind, IsNormal}, Normal.{spelled_normal}}
use Rattle.fs_ops.proofs.list.OperatorList.decode_within.Goals as goal

pub new-requires : goal.new-requires
new-requires g c =
    subst (λ (kind : Kind). IsNormal kind c.in_ok-list.list) c.KIND.ensures
    (spelled_normal c.KIND.result c.args.widths.now (take c.in_ok-list.taken c.args.octets.now) c.in_ok-list.list
    (octets_take c.in_ok-list.taken c.args.octets.now (octets_from c.args.octets.now (λ i. omega (arith, c.type_inv.octets i)))) c.in_ok-list.ensures.found)
