use Rattle.fs_conf.proofs.Words.{◌∙◌, refl, codes, get_member, sent_of_text, text_keys, written, table_view, Members}
use Rattle.fs_conf.proofs.{Judging.{judged_by, or_shown}, RulesJudging.{two_in_turn}}
use Rattle.fs_conf.specs.{Fault.{judged, unfit_shown, unknown}, declared.faults.Kind.TheVariants.{Text}}
use Rattle.fs_conf.proofs.rule_faults.text_unfit.Goals as goal

pub returns : goal.returns
returns c =
    let members : Members = table_view c.args.table.now in
    or_shown unfit_shown c.or.result c.unknown.result c.judged.result _ _ c.or.ensures c.unknown.ensures
    (c.judged.ensures ∙ judged_by (codes "text") Text (written sent_of_text) members _ (written sent_of_text (get_member (codes "text") members))
    c.in_ok-text.ensures refl)
    ∙ two_in_turn (unknown text_keys members) (judged (codes "text") Text (written sent_of_text) members)
