use Rattle.fs_actions.proofs.Words.{◌≡◌, drop, filter_map, slice_get, limit_of}
use Rattle.fs_actions.proofs.actions.Actions.rate.Given as goal

-- the rate that is sought has this number among what is left
abbrev pub invariant-loop-action : goal.invariant-loop-action
invariant-loop-action l = slice_get (filter_map limit_of (drop l.action-index l.action-items)) l.left ≡ slice_get (filter_map limit_of l.self) l.n
