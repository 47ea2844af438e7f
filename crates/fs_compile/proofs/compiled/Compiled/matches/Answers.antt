use Rattle.fs_compile.proofs.Words.{sym, subst, Family, IsIndexOf}
use Rattle.fs_compile.proofs.compiled.Compiled.matches.Goals as goal

pub returns-clause-matches : goal.returns-clause-matches
returns-clause-matches c = λ rules stands. record {
  facts = c.of.ensures.facts;
  rules_are = subst (IsIndexOf c.args.view.now.family (rules c.args.view.now.family)) (sym c.of.ensures.index)
      (subst (λ (family : Family). IsIndexOf family (rules family) c.index.result.now) c.family.ensures (c.index.ensures rules stands));
}
