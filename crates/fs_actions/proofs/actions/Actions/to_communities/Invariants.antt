use Rattle.fs_actions.proofs.Words.{◌≡◌, ◌++◌, take, concat}
use Rattle.fs_actions.proofs.actions.Actions.to_communities.Given as goal

-- the octets of the actions so far were appended
abbrev pub invariant-loop-action : goal.invariant-loop-action
invariant-loop-action l = l.out.items ≡ l.initial.out.items ++ concat (take l.action-index l.action-items)
