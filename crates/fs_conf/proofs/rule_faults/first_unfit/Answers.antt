use Rattle.fs_conf.proofs.Words.{◌∙◌, refl, codes, get_member, actions_in, family_of, rule_keys, written, table_view, Members}
use Rattle.fs_conf.proofs.{Judging.{judged_by, or_shown}, RulesJudging.{four_in_turn}}
use Rattle.fs_conf.specs.{Fault.{judged, unfit_shown, unknown}, RuleFault.{nlri_check, rule_in}, declared.faults.Kind.TheVariants.{Text}}
use Rattle.fs_conf.proofs.rule_faults.first_unfit.Goals as goal

pub returns : goal.returns
returns c = λ family rule actions.
    let members : Members = table_view c.args.table.now in
    or_shown unfit_shown c.or-3.result c.or-2.result c.judged-3.result _ _ c.or-3.ensures
    (or_shown unfit_shown c.or-2.result c.or.result c.judged-2.result _ _ c.or-2.ensures
    (or_shown unfit_shown c.or.result c.unknown.result c.judged.result _ _ c.or.ensures c.unknown.ensures
    (c.judged.ensures ∙ judged_by (codes "family") Text (written family_of) members _ (written family_of (get_member (codes "family") members)) family refl))
    (c.judged-2.ensures ∙ judged_by (codes "nlri") Text (rule_in (written family_of (get_member (codes "family") members))) members _
    (rule_in (written family_of (get_member (codes "family") members)) (get_member (codes "nlri") members)) rule refl))
    (c.judged-3.ensures ∙ judged_by (codes "actions") Text actions_in members _ (actions_in (get_member (codes "actions") members)) actions refl)
    ∙ four_in_turn (unknown rule_keys members) (judged (codes "family") Text (written family_of) members) (nlri_check members)
    (judged (codes "actions") Text actions_in members)
