-- The admitted rules of a family, and rules of one destination put anew among others.
use Rattle.std.specs.{Prelude.{ℕ, ◌++◌, Option, List, filter, map}, List.{AllByRecursion}, Ordering.{is_gt, is_lt}}
use Rattle.fs_base.specs.declared.prefix.Family.{Family, TheVariants.{V4, V6}}
use Rattle.fs_rules.specs.{Lent.{Listed, listed}, Table.{Held, admitted}}
use Rattle.fs_buckets.specs.Destinations.{IsOfFamily, span_of, place_by}

-- the admitted rules of each family in order
abbrev pub admitted_in : Held → Family → List Listed
admitted_in held family = map listed (admitted family held)

-- the rules with these in the place of those that have this destination
abbrev pub replaced : (target : Option (ℕ × ℕ)) → (news rules : List Listed) → List Listed
replaced target news rules =
    filter (λ r. is_lt (place_by target (span_of r.rule))) rules
    ++ (news ++ filter (λ r. is_gt (place_by target (span_of r.rule))) rules)

-- the rules of one family put in the place of those that it has
abbrev pub put_in : Family → List Listed → (Family → List Listed) → Family → List Listed
put_in V4 news rules V4 = news
put_in V4 news rules V6 = rules V6
put_in V6 news rules V4 = rules V4
put_in V6 news rules V6 = news

-- each rule is one of its family
abbrev pub AreOwn : (Family → List Listed) → Type 0
AreOwn rules = (family : Family) → AllByRecursion (IsOfFamily family) (rules family)
