use Rattle.fs_shadow.proofs.Words.{◌≡◌, IfOk, List, sym, ap, subst, ◌∙◌, Listed, all_admitted, AreInOrder, report_of}
use Rattle.fs_rules.specs.Table.{admitted}
use Rattle.fs_buckets.proofs.Nesting.{all_of_family, nesting}
use Rattle.fs_shadow.proofs.reporting.report.Goals as goal

pub report_of-requires : goal.report_of-requires
report_of-requires c = subst AreInOrder (sym (ap all_admitted c.deref.ensures.value ∙ c.in_ok-list.ensures.list)) (record {
  family = c.args.family;
  each = all_of_family c.args.family (admitted c.args.family c.args.table.now) c.in_ok-list.ensures.rules;
  nesting = nesting c.args.family (admitted c.args.family c.args.table.now) c.in_ok-list.ensures.rules c.in_ok-list.ensures.admitted.ordered;
})

pub returns : goal.returns
returns c = subst (λ (rs : List Listed). IfOk c.report_of.result (λ pairs. pairs.items ≡ report_of rs)) (ap all_admitted c.deref.ensures.value
    ∙ c.in_ok-list.ensures.list) c.report_of.ensures
