use Rattle.fs_unicast.specs.Search.{AreCoversOver}
use Rattle.fs_unicast.proofs.search.best_over.Given as goal

abbrev pub invariant-loop-first : goal.invariant-loop-first
invariant-loop-first l = AreCoversOver l.routes.entries l.prefix l.low

abbrev pub decreases-loop-first : goal.decreases-loop-first
decreases-loop-first l = l.low.length
