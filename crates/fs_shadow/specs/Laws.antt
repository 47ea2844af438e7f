-- What it means for packets that a rule contains another.
use Rattle.std.specs.{Prelude.{◌≡◌, ◌≢◌, ℕ, ◌+◌, ◌<◌, true, false, Some, List}, List.{AllByRecursion, slice_get}}
use Rattle.fs_nlri.specs.Parts.{Ruled}
use Rattle.fs_packet.specs.{Fields.{Viewed}, Matching.{is_match}}
use Rattle.fs_rules.specs.{Lent.{Listed}, Walk.{goes_on, walk_of}}
use Rattle.fs_ranges.specs.Facts.{IsSmall}
use Rattle.fs_shadow.specs.{Contains.{contains}, Reporting.{report_of}}

-- where rule a contains rule b, a matches each packet that b matches
abbrev pub ContainedMatches : Type 0
ContainedMatches =
    (a b : Ruled) (view : Viewed)
    → IsSmall view
    → contains a b ≡ true
    → is_match b view ≡ true
    → is_match a view ≡ true

-- The rule of this number from 0 isn't in the packet's walk over the rules, where they are numbered from 1.
abbrev pub NeverWalks : List Listed → Viewed → ℕ → Type 0
NeverWalks rules view number = AllByRecursion (λ entry. entry.0 ≢ number + 1) (walk_of view rules)

-- a rule that the report names is in the walk of no packet
abbrev pub CoveredNeverWalks : Type 0
CoveredNeverWalks =
    (rules : List Listed) (view : Viewed)
    → IsSmall view
    → AllByRecursion (λ pair. NeverWalks rules view pair.0) (report_of rules)

-- nor is one that an earlier rule whose terminal bit is clear contains
abbrev pub ConfirmedNeverWalks : Type 0
ConfirmedNeverWalks =
    (rules : List Listed) (view : Viewed) (earlier later : ℕ) (a b : Listed)
    → IsSmall view
    → earlier < later
    → slice_get rules earlier ≡ Some a
    → slice_get rules later ≡ Some b
    → goes_on a.actions ≡ false
    → contains a.rule b.rule ≡ true
    → NeverWalks rules view later
