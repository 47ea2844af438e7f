use Rattle.fs_conf.proofs.{Words.{◌∙◌, codes, ipv4_of, file_keys, written, table_view, Members}, Judging.{judged_by, or_shown}, RulesJudging.{two_in_turn}}
use Rattle.fs_conf.specs.{Fault.{judged, unfit_shown, unknown}, declared.faults.Kind.TheVariants.{Text}}
use Rattle.fs_conf.proofs.rule_faults.file_unfit.Goals as goal

pub returns : goal.returns
returns c =
    let members : Members = table_view c.args.table.now in
    or_shown unfit_shown c.or.result c.unknown.result c.judged.result _ _ c.or.ensures c.unknown.ensures
    (c.judged.ensures ∙ judged_by (codes "id") Text (written ipv4_of) members _ _ c.is_some-id.ensures c.address_at.ensures)
    ∙ two_in_turn (unknown file_keys members) (judged (codes "id") Text (written ipv4_of) members)
