use Rattle.fs_compile.proofs.Words.{◌<◌, ◌^◌, List, length, sym, subst, arith, Fast, AreFilters, AreSound}
use Rattle.fs_compile.proofs.index.Index.of.Goals as goal

pub invariant_of-result : goal.invariant_of-result
invariant_of-result c = (
  subst (AreSound c.in_ok-buckets.buckets) (sym c.in_ok-rules.ensures.size) c.in_ok-buckets.ensures.sound,
  few,
  subst (λ (rules : List Fast). AreFilters rules c.in_ok-filters.filters) c.deref.ensures.value c.in_ok-filters.ensures,
) where
  few : length c.in_ok-rules.rules.items < 2 ^ 32
  few = let size = c.in_ok-rules.ensures.size in omega (arith, size, c.in_ok-buckets.ensures.sound.few)
