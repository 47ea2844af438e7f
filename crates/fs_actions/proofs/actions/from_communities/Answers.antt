use Rattle.std.proofs.Common.{[], sym, arith}
use Rattle.fs_actions.proofs.Insertion.{gathered_none, gathered_one}
use Rattle.fs_actions.proofs.actions.from_communities.Goals as goal

pub loop-community-init : goal.loop-community-init
loop-community-init c = rw c.in_ok-list.ensures (gathered_none c.as_chunks.result.0.now)

pub loop-community-preserved : goal.loop-community-preserved
loop-community-preserved c =
    rw c.in_ok-insert.ensures.ok (gathered_one c.as_chunks.result.0.now c.loop-community.community-index c.loop-community.list.items []
    c.in-Some.action (omega arith) (sym c.in-Some.ensures.value) c.in-Some.ensures.action c.loop-community.invariant)
