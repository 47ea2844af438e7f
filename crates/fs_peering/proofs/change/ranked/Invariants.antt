use Rattle.fs_peering.proofs.Words.{◌≡◌, ◌||◌, length}
use Rattle.std.specs.{List.{list_any}, Ordering.{is_eq}}
use Rattle.fs_nlri.specs.Parts.{Ruled}
use Rattle.fs_order.specs.Comparison.{rule_cmp}
use Rattle.fs_peering.specs.Change.{has_rule}
use Rattle.fs_peering.proofs.change.ranked.Given as goal

-- a rule is kept or among those left where it is one of them
abbrev pub invariant-loop-rest : goal.invariant-loop-rest
invariant-loop-rest l =
    (rule : Ruled) → (has_rule l.kept rule || list_any (λ other. is_eq (rule_cmp rule other.rule)) l.rest)
    ≡ list_any (λ other. is_eq (rule_cmp rule other.rule)) l.rules

abbrev pub decreases-loop-rest : goal.decreases-loop-rest
decreases-loop-rest l = length l.rest
