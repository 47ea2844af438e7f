use Rattle.std.proofs.Common.{arith}
use Rattle.fs_compile.proofs.Indexing.{most_rules, no_more_rules}
use Rattle.fs_compile.proofs.compiled.Compiled.most.Goals as goal

pub returns-clause-most : goal.returns-clause-most
returns-clause-most c = λ rules stands.
    no_more_rules rules c.args.self.now c.max.result stands (let most = c.max.ensures in let v4 = c.len.ensures in let v6 = c.len-2.ensures in
    omega (arith, most, v4, v6))

pub returns-clause-exact : goal.returns-clause-exact
returns-clause-exact c = λ rules stands.
    most_rules rules c.args.self.now c.max.result stands (let most = c.max.ensures in let v4 = c.len.ensures in let v6 = c.len-2.ensures in
    omega (arith, most, v4, v6))
