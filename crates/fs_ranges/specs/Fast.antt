-- What a compiled rule says of a packet, and which rule it stands for.
use Rattle.std.specs.{Prelude.{◌≡◌, ℕ, ◌≤◌, ◌<◌, ◌==◌, Bool, ◌&&◌, List, length}, List.{list_all}}
use Rattle.fs_base.specs.Bits.{afi_of}
use Rattle.fs_nlri.specs.Parts.{Part, Ruled}
use Rattle.fs_packet.specs.{Fields.{Viewed}, Matching.{is_match, part_matches}}
use Rattle.fs_ranges.specs.declared.{field.Field.TheVariants.{Zero}, fast.Fast.{Fast}, ranges.Ranges.{Ranges}, tests.Test.{Test}}
use Rattle.fs_ranges.specs.{Facts.{Facts, IsSmall, facts_of, number_of}, Ranges.{bounds_at, field_at, ranges_hold}, Tests.{passes}}

-- the four ranges hold, and the tests behind are passed
abbrev pub all_pass : Facts → Ranges → List Test → Bool
all_pass facts ranges tests = ranges_hold facts ranges && list_all (passes facts) tests

abbrev pub holds_of_facts : Facts → Fast → Bool
holds_of_facts facts fast =
    (afi_of fast.family == afi_of facts.view.family) && all_pass facts fast.ranges fast.tests.items

unfoldable pub facts_hold : Facts → Fast → Bool
facts_hold facts fast = holds_of_facts facts fast

unfoldable pub fast_holds : Viewed → Fast → Bool
fast_holds view fast = facts_hold (facts_of view) fast

-- it holds of exactly the packets that the rule matches
abbrev pub StandsFor : Ruled → Fast → Type 0
StandsFor rule fast = (view : Viewed) → IsSmall view → fast_holds view fast ≡ is_match rule view

-- they are passed by exactly the packets that all components match
abbrev pub AreTestsOf : List Part → Ranges → List Test → Type 0
AreTestsOf parts ranges tests = (view : Viewed)
    → IsSmall view
    → all_pass (facts_of view) ranges tests ≡ list_all (part_matches view) parts

-- there are four places, and no range stands in one from the number on
pub record AreFree (used : ℕ) (ranges : Ranges) : Type 0 where
  pub fields : length ranges.fields ≡ 4
  pub bounds : length ranges.bounds ≡ 4
  pub free : (k : ℕ) → used ≤ k → k < 4 → (field_at ranges k ≡ Zero) × (bounds_at ranges k ≡ (0, 0))

-- one test more
abbrev pub IsPut : Test → (ranges : Ranges) → (tests : List Test) → (new : Ranges) → (more : List Test) → Type 0
IsPut test ranges tests new more = (facts : Facts)
    → number_of facts Zero ≡ 0
    → all_pass facts new more ≡ (all_pass facts ranges tests && passes facts test)
