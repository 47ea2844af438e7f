use Rattle.fs_conf.proofs.Words.{false, true, ◌∙◌, codes, as_number, config_keys, flag_or, hold_time_in, identifier, table_view, Members}
use Rattle.fs_conf.proofs.Judging.{judged_by, or_shown, six_in_turn}
use Rattle.fs_conf.specs.{Fault.{judged, unfit_shown, unknown}, declared.faults.Kind.TheVariants.{Boolean, Integer, Text}}
use Rattle.fs_conf.proofs.faults.document_unfit.Goals as goal

pub returns : goal.returns
returns c =
    let members : Members = table_view c.args.table.now in
    or_shown unfit_shown c.or-5.result c.or-4.result c.judged-5.result _ _ c.or-5.ensures
    (or_shown unfit_shown c.or-4.result c.or-3.result c.judged-4.result _ _ c.or-4.ensures
    (or_shown unfit_shown c.or-3.result c.or-2.result c.judged-3.result _ _ c.or-3.ensures
    (or_shown unfit_shown c.or-2.result c.or.result c.judged-2.result _ _ c.or-2.ensures
    (or_shown unfit_shown c.or.result c.unknown.result c.judged.result _ _ c.or.ensures c.unknown.ensures
    (c.judged.ensures ∙ judged_by (codes "local_as") Integer as_number members _ _ c.is_some-asn.ensures c.number_at.ensures.value))
    (c.judged-2.ensures ∙ judged_by (codes "local_id") Text identifier members _ _ c.is_some-id.ensures c.identifier_at.ensures))
    (c.judged-3.ensures ∙ judged_by (codes "allow_no_destination") Boolean (flag_or false) members _ _ c.is_some-allows.ensures c.flag_at.ensures))
    (c.judged-4.ensures ∙ judged_by (codes "empty_path_valid") Boolean (flag_or true) members _ _ c.is_some-valid.ensures c.flag_at-2.ensures))
    (c.judged-5.ensures ∙ judged_by (codes "hold_time") Integer hold_time_in members _ _ c.is_some-hold_time.ensures c.hold_time_at.ensures)
    ∙ six_in_turn (unknown config_keys members) (judged (codes "local_as") Integer as_number members)
    (judged (codes "local_id") Text identifier members) (judged (codes "allow_no_destination") Boolean (flag_or false) members)
    (judged (codes "empty_path_valid") Boolean (flag_or true) members) (judged (codes "hold_time") Integer hold_time_in members)
