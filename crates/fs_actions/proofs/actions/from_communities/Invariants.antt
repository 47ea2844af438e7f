use Rattle.fs_actions.proofs.Insertion.{Gathered}
use Rattle.fs_actions.proofs.actions.from_communities.Given as goal

abbrev pub invariant-loop-community : goal.invariant-loop-community
invariant-loop-community l = Gathered l.communities l.community-index l.list.items
