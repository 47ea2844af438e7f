-- How many flow routes of a table are related to a prefix, after calls that put routes.
use Rattle.std.specs.Prelude.{ℕ, ◌+◌, ◌≤◌, Option, List, filter, length, if◌then◌else◌}
use Rattle.fs_base.specs.declared.prefix.Prefix.{Prefix}
use Rattle.fs_rules.specs.Table.{Held, has_related, related_count, related_sum}

-- one route more, to that destination
abbrev pub HasOneMore : Held → Held → Option Prefix → Type 0
HasOneMore old new destination =
    (p : Prefix) → related_count p new.flows
    ≤ related_count p old.flows + (if has_related p destination then 1 else 0)

-- no more routes are related to a prefix than destinations of the list
abbrev pub IsCountedBy : Held → List (Option Prefix) → Type 0
IsCountedBy held destinations =
    (p : Prefix) → related_count p held.flows ≤ length (filter (has_related p) destinations)

-- what the loss of peer 1 takes at most
abbrev pub loss_of : Held → ℕ
loss_of held = related_sum 1 held.unicast held.flows
