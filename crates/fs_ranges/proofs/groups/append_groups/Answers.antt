use Rattle.fs_ranges.proofs.Words.{◌+◌, ◌-◌, ◌^◌, ◌++◌, ◌∷◌, [], ◌||◌, not, drop, get_or, arith, sym, subst, ap, ◌∙◌, at_drop_all, at_drop_more}
use Rattle.fs_ranges.proofs.Words.{on_ok_weaker, All, compares, answers, IsRange, contains}
use Rattle.fs_ranges.proofs.Grouping.{all_missed, every_range, no_range, one_pair}
use Rattle.fs_ranges.proofs.groups.append_groups.Goals as goal

pub loop-operator-init : goal.loop-operator-init
loop-operator-init c = record {
  numbers = λ n below. all_missed c.push.new.self.items c.args.held.now.items c.args.pairs.now n c.requires.first
      (c.in_ok-push.ensures.items ∙ ap (λ l. l ++ (0, 2 ^ 64 - 1) ∷ []) c.requires.missed) c.requires.held below;
  missed = subst (All IsRange) (sym (c.in_ok-push.ensures.items ∙ ap (λ l. l ++ (0, 2 ^ 64 - 1) ∷ []) c.requires.missed)) every_range;
  held = subst (All IsRange) (sym c.requires.held) no_range;
}

pub loop-operator-preserved : goal.loop-operator-preserved
loop-operator-preserved c = record {
  numbers = λ n below.
      one_pair (get_or c.args.pairs.now c.loop-operator.operator-index (0, 0)) (drop (c.loop-operator.operator-index + 1) c.args.pairs.now) n
      c.loop-operator.missed.items c.loop-operator.held.items c.end_group.new.missed.items c.append_missed.new.missed.items
      c.end_group.new.held.items (c.in_ok-end_group.ensures.numbers n below) (c.in_ok-append_missed.ensures.numbers n below)
      ∙ sym (at_drop_more (λ ps. contains c.loop-operator.held.items n || answers (compares n) (not (contains c.loop-operator.missed.items n)) ps)
      c.args.pairs.now c.loop-operator.operator-index (0, 0) (omega arith))
      ∙ c.loop-operator.invariant.numbers n below;
  missed = c.in_ok-append_missed.ensures.ranges c.in_ok-end_group.ensures.missed;
  held = c.in_ok-end_group.ensures.held c.loop-operator.invariant.held;
}

pub returns-clause-numbers : goal.returns-clause-numbers
returns-clause-numbers c =
    on_ok_weaker c.append_gaps.result
    (λ f n below.
    f n below
    ∙ sym (at_drop_all (λ ps. contains c.loop-operator.held.items n || answers (compares n) (not (contains c.loop-operator.missed.items n)) ps)
    c.args.pairs.now c.loop-operator.operator-index (omega arith))
    ∙ c.loop-operator.invariant.numbers n below)
    c.append_gaps.ensures.numbers

pub returns-clause-ranges : goal.returns-clause-ranges
returns-clause-ranges c = on_ok_weaker c.append_gaps.result (λ f. f c.loop-operator.invariant.held) c.append_gaps.ensures.ranges
