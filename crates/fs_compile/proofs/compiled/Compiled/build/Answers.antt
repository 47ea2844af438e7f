use Rattle.fs_compile.specs.Matcher.{admitted_in}
use Rattle.fs_buckets.proofs.ListMending.{own_both}
use Rattle.fs_compile.proofs.compiled.Compiled.build.Goals as goal

pub returns-clause-own : goal.returns-clause-own
returns-clause-own c = own_both (admitted_in c.args.table.now) c.in_ok-admitted_index.ensures.own c.in_ok-admitted_index-2.ensures.own
