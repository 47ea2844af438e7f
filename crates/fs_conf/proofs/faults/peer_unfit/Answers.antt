use Rattle.fs_conf.proofs.Words.{◌∙◌, refl, codes, address_of, as_number, limit_in, number_in, peer_keys, written, table_view, Members}
use Rattle.fs_conf.proofs.Judging.{five_in_turn, judged_by, or_shown}
use Rattle.fs_conf.specs.{Fault.{judged, unfit_shown, unknown}, declared.faults.Kind.TheVariants.{Integer, Text}}
use Rattle.fs_conf.proofs.faults.peer_unfit.Goals as goal

pub returns : goal.returns
returns c =
    let members : Members = table_view c.args.table.now in
    or_shown unfit_shown c.or-4.result c.or-3.result c.judged-4.result _ _ c.or-4.ensures
    (or_shown unfit_shown c.or-3.result c.or-2.result c.judged-3.result _ _ c.or-3.ensures
    (or_shown unfit_shown c.or-2.result c.or.result c.judged-2.result _ _ c.or-2.ensures
    (or_shown unfit_shown c.or.result c.unknown.result c.judged.result _ _ c.or.ensures c.unknown.ensures
    (c.judged.ensures ∙ judged_by (codes "number") Integer (number_in 1 65535) members _ _ c.is_some-number.ensures c.number_at.ensures.value))
    (c.judged-2.ensures ∙ judged_by (codes "address") Text (written address_of) members _ _ c.has_address-address.ensures refl))
    (c.judged-3.ensures ∙ judged_by (codes "as") Integer as_number members _ _ c.is_some-asn.ensures c.number_at-2.ensures.value))
    (c.judged-4.ensures ∙ judged_by (codes "max_routes") Integer limit_in members _ _ c.is_some-limit.ensures c.limit_at.ensures)
    ∙ five_in_turn (unknown peer_keys members) (judged (codes "number") Integer (number_in 1 65535) members)
    (judged (codes "address") Text (written address_of) members) (judged (codes "as") Integer as_number members)
    (judged (codes "max_routes") Integer limit_in members)
