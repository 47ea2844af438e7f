-- What a compiled matcher stands for, and the walk that is taken with it (RFC 8955 sections 5.1 and 7.3).
use Rattle.std.specs.{Prelude.{ℕ, ◌≡◌, ◌+◌, ◌||◌, Bool, true, Option, Some, None, List, [], ◌∷◌, drop, get_or, if◌then◌else◌}, List.{AllByRecursion, AllZip}}
use Rattle.fs_base.specs.declared.prefix.Family.{Family, TheVariants.{V4, V6}}
use Rattle.fs_packet.specs.Fields.{Viewed}
pub use Rattle.fs_buckets.specs.Mending.{admitted_in}
use Rattle.fs_ranges.specs.declared.Fast.{Fast}
use Rattle.fs_rules.specs.{Changes.{Noted, is_noted}, Lent.{Listed}, Walk.{first_from, goes_on, walk_from}}
use Rattle.fs_compile.specs.{declared.compiled.Compiled.{Compiled}, Index.{AreKept, IsIndexOf}}

-- it stands for these rules of each family, which are numbered from 0
pub record StandsForLists (rules : Family → List Listed) (compiled : Compiled) : Type 0 where
  pub v4 : IsIndexOf V4 (rules V4) compiled.v4
  pub v6 : IsIndexOf V6 (rules V6) compiled.v6

-- what the rules of a family were compiled to, in order
abbrev pub compiled_in : Compiled → Family → List Fast
compiled_in compiled V4 = compiled.v4.rules
compiled_in compiled V6 = compiled.v6.rules

-- it stands for rules of which these were put anew among the others
pub record ArePut (news : List Listed) (rules all : Family → List Listed) (old new : Compiled) : Type 0 where
  pub stands : StandsForLists all new
  pub kept : (family : Family) → AreKept news (rules family) (all family) (compiled_in old family) (compiled_in new family)

-- Each rule's compiled form is one of those before, but where the rule was noted: whatever held of all still holds of it.
abbrev pub AreMadeWhereNoted : Noted → (rules : Family → List Listed) → (old new : Compiled) → Type 0
AreMadeWhereNoted noted rules old new =
    (family : Family) (holds : Fast → Bool)
    → AllByRecursion (λ fast. holds fast ≡ true) (compiled_in old family)
    → AllZip (λ r fast. (is_noted noted r.rule || holds fast) ≡ true) (rules family) (compiled_in new family)

-- the least number from n on of a rule that matches the packet
abbrev pub next_from : ℕ → Viewed → List Listed → Option ℕ
next_from n view rules = first_from n view (drop n rules)

-- Where a search found nothing the walk is over; else it has the rule found and, where its terminal bit is set, goes on
-- behind it.
abbrev pub WalksOn : Viewed → List Listed → Option ℕ → List (ℕ × List (List ℕ)) → Type 0
WalksOn view rules None walk = walk ≡ []
WalksOn view rules (Some k) walk =
    (r : Listed)
    → walk
    ≡ (k + 1, (get_or rules k r).actions)
    ∷ (if goes_on (get_or rules k r).actions then walk_from (k + 2) view (drop (k + 1) rules) else [])

-- the walk from any number on goes by the search from there
abbrev pub WalksByNext : Type 0
WalksByNext =
    (view : Viewed) (rules : List Listed) (n : ℕ)
    → WalksOn view rules (next_from n view rules) (walk_from (n + 1) view (drop n rules))
