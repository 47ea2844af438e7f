use Rattle.fs_shadow.{proofs.Words.{◌≡◌, ◌++◌, ◌∙◌, ap, flat_map, covered_line, report_of}, specs.Text.{family_lines}}
use Rattle.std.specs.Prelude.{map}
use Rattle.fs_base.specs.declared.prefix.Family.TheVariants.{V4, V6}
use Rattle.fs_rules.specs.{Lent.{listed}, Table.{Held, admitted}}
use Rattle.fs_shadow.proofs.text.shadow_text.Goals as goal

pub returns-clause-text : goal.returns-clause-text
returns-clause-text c =
    c.in_ok-append_lines-2.ensures
    ∙ (λ i. c.in_ok-append_lines.ensures i ++ flat_map (covered_line V6) (of_six i))
    ∙ (λ i. (c.new-text.ensures.items i ++ flat_map (covered_line V4) (of_four i)) ++ family_lines V6 c.args.desk.now.held)
  where
    of_four : c.deref.result.now ≡ report_of (map listed (admitted V4 c.args.desk.now.held))
    of_four = c.deref.ensures.value ∙ c.in_ok-report.ensures ∙ ap (λ (held : Held). report_of (map listed (admitted V4 held))) c.table-table.ensures.table

    of_six : c.deref-2.result.now ≡ report_of (map listed (admitted V6 c.args.desk.now.held))
    of_six = c.deref-2.ensures.value ∙ c.in_ok-report-2.ensures ∙ ap (λ (held : Held). report_of (map listed (admitted V6 held))) c.table-table.ensures.table

pub returns-clause-told : goal.returns-clause-told
returns-clause-told c = λ config items played. returns-clause-text c
