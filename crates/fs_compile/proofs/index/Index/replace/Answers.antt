use Rattle.fs_compile.proofs.Words.{List, sym, subst, ◌∙◌, AllByRecursion, all_admitted, IsIndexOf, IsOfFamily, spans_of, AreNesting, nothing_nests}
use Rattle.fs_rules.specs.declared.lent.LentRule.{LentRule}
use Rattle.fs_compile.proofs.index.Index.replace.Goals as goal

pub of-requires-clause-each : goal.of-requires-clause-each
of-requires-clause-each c = subst (λ (ls : List LentRule). AllByRecursion (IsOfFamily c.args.place.family) (all_admitted ls))
    (sym (c.deref.ensures.value ∙ c.new-none.ensures.items)) tt

pub of-requires-clause-nesting : goal.of-requires-clause-nesting
of-requires-clause-nesting c =
    subst (λ (ls : List LentRule). AreNesting (spans_of (all_admitted ls))) (sym (c.deref.ensures.value ∙ c.new-none.ensures.items)) nothing_nests

pub replaced-requires-clause-some : goal.replaced-requires-clause-some
replaced-requires-clause-some c =
    (c.requires.some.0, subst (IsIndexOf c.args.place.family c.requires.some.0) (sym c.replace-index.ensures.value) c.requires.some.1)
