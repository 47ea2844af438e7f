use Rattle.fs_compile.proofs.{Words.{◌≤◌, ◌+◌, length, subst, arith, Family, IsIndexOf}, Indexing.{none_behind}}
use Rattle.fs_compile.proofs.compiled.Compiled.next.Goals as goal

pub returns-then-n-len-clause-next : goal.returns-then-n-len-clause-next
returns-then-n-len-clause-next g c = λ rules stands.
    none_behind c.args.view.now (rules c.args.view.now.family) c.index-index.result.now c.args.view.now.family (c.args.n + 1)
    (subst (λ (family : Family). IsIndexOf family (rules family) c.index-index.result.now) c.family.ensures (c.index-index.ensures rules stands)) past where
      past : length c.index-index.result.now.rules ≤ c.args.n + 1
      past = let l = c.len.ensures in let t = c.if-n-len.true in omega (arith, l, t)
