use Rattle.fs_conf.proofs.Words.{Family, Option, ap, ◌∙◌, codes, get_member, is_some, table_view, Members}
use Rattle.fs_conf.specs.RuleFault.{rule_in}
use Rattle.fs_conf.proofs.rule_faults.octets_unfit.Goals as goal

pub returns : goal.returns
returns c =
    let members : Members = table_view c.args.table.now in
    c.first_unfit.ensures (c.is_some.ensures ∙ ap (λ (o : Option Family). is_some o) c.family_at-family.ensures)
    (c.in_ok-rule.ensures ∙ ap (λ (o : Option Family). is_some (rule_in o (get_member (codes "nlri") members))) c.family_at-family.ensures)
    c.in_ok-actions.ensures
