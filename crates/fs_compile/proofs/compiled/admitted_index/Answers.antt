use Rattle.fs_compile.proofs.Words.{List, IfOk, sym, ap, subst, ◌∙◌, AllByRecursion, Listed, all_admitted, admitted, IsIndexOf, IsOfFamily, spans_of}
use Rattle.fs_compile.proofs.Words.{AreNesting, all_of_family, nesting}
use Rattle.fs_compile.proofs.MatcherMending.{if_ok}
use Rattle.fs_compile.proofs.compiled.admitted_index.Goals as goal

pub of-requires-clause-each : goal.of-requires-clause-each
of-requires-clause-each c = subst (AllByRecursion (IsOfFamily c.args.family)) (sym (ap all_admitted c.deref.ensures.value ∙ c.in_ok-list.ensures.list))
    (all_of_family c.args.family (admitted c.args.family c.args.table.now) c.in_ok-list.ensures.rules)

pub of-requires-clause-nesting : goal.of-requires-clause-nesting
of-requires-clause-nesting c = subst (λ (rs : List Listed). AreNesting (spans_of rs)) (sym (ap all_admitted c.deref.ensures.value ∙ c.in_ok-list.ensures.list))
    (nesting c.args.family (admitted c.args.family c.args.table.now) c.in_ok-list.ensures.rules c.in_ok-list.ensures.admitted.ordered)

pub returns-clause-index : goal.returns-clause-index
returns-clause-index c = subst (λ (rs : List Listed). IfOk c.of.result (IsIndexOf c.args.family rs)) (ap all_admitted c.deref.ensures.value
    ∙ c.in_ok-list.ensures.list) c.of.ensures

pub returns-clause-own : goal.returns-clause-own
returns-clause-own c = if_ok c.of.result (all_of_family c.args.family (admitted c.args.family c.args.table.now) c.in_ok-list.ensures.rules)
