-- What a component takes in, as it is compared with many others, and which component it stands for.
use Rattle.std.specs.Prelude.{◌≡◌, ℕ, ◌-◌, ◌*◌, ◌%◌, ◌^◌, ◌<◌, ◌==◌, Bool, true, false, ◌&&◌, ◌||◌, nat_lt, Option, Some, None, List, if◌then◌else◌}
use Rattle.std.specs.List.{AllZip}
use Rattle.fs_ops.specs.Evaluation.{compares, holds}
use Rattle.fs_base.specs.{Bits.{cleared}, Prefix.{covers}}
use Rattle.fs_nlri.specs.{Parts.{Body, V4Body, V6Body, ListBody, Part}, Sound.{IsSoundBody}}
use Rattle.fs_ranges.specs.Spans.{contains}
use Rattle.fs_shadow.specs.declared.{extents.{Extent.{Extent, TheVariants.{V4, V6, Numbers, Bits}}, Measure.{Measure}}, prefixes.Known.{Known}}
use Rattle.fs_shadow.specs.Contains.{all_below, are_same_pairs, implies, may_lie_in, tests_bits}

-- the bits that the outer prefix knows are known by the inner one too, and are the same
abbrev pub bits_lie_in : (inner outer : Known) → Bool
bits_lie_in inner outer =
    if outer.length == 0 then true
    else if nat_lt outer.offset inner.offset || nat_lt inner.length outer.length then false
    else cleared 128 (outer.length - outer.offset) (inner.pattern * 2 ^ (outer.offset - inner.offset) % 2 ^ 128)
    == outer.pattern

abbrev pub extent_lies_in : (inner outer : Extent) → Bool
extent_lies_in (V4 inner) (V4 outer) = covers outer inner
extent_lies_in (V6 inner) (V6 outer) = bits_lie_in inner outer
extent_lies_in (Numbers inner) (Numbers outer) = all_below (2 ^ 64) (λ n. implies (contains inner n) (contains outer n))
extent_lies_in (Bits inner) (Bits outer) = are_same_pairs inner outer
extent_lies_in _ _ = false

abbrev pub measure_lies_in : (inner outer : Measure) → Bool
measure_lies_in inner outer = may_lie_in inner.kind outer.kind && extent_lies_in inner.extent outer.extent

-- the ranges are of the numbers that the list holds of
abbrev pub AreSpansOf : Body → List (ℕ × ℕ) → Type 0
AreSpansOf (ListBody pairs) spans = (n : ℕ) → n < 2 ^ 64 → contains spans n ≡ holds (compares n) pairs
AreSpansOf body spans = ⊥

-- what stands behind the type, and which tests the type has
abbrev pub IsExtentOf : Part → Extent → Type 0
IsExtentOf part (V4 prefix) = (part.body ≡ V4Body prefix.family prefix.length prefix.bits) × IsSoundBody part.body
IsExtentOf part (V6 known) = (part.body ≡ V6Body known.length known.offset known.pattern) × IsSoundBody part.body
IsExtentOf part (Numbers spans) = AreSpansOf part.body spans × (tests_bits part.kind ≡ false)
IsExtentOf part (Bits pairs) = (part.body ≡ ListBody pairs) × (tests_bits part.kind ≡ true)

-- no more than one number is taken in
abbrev pub TakesOne : Extent → Type 0
TakesOne (Numbers spans) = (n k : ℕ) → n < 2 ^ 64 → k < 2 ^ 64 → contains spans n ≡ true → contains spans k ≡ true → n ≡ k
TakesOne extent = ⊥

-- the number is one that is taken in
abbrev pub TakesIn : Extent → ℕ → Type 0
TakesIn (Numbers spans) n = (n < 2 ^ 64) × (contains spans n ≡ true)
TakesIn extent n = ⊥

-- what is told of its numbers is so
pub record IsTold (measure : Measure) : Type 0 where
  pub single : measure.single ≡ true → TakesOne measure.extent
  pub held : (n : ℕ) → measure.held ≡ Some n → TakesIn measure.extent n

abbrev pub number_or_none : Option ℕ → ℕ
number_or_none None = 0
number_or_none (Some number) = number

-- the one number that is taken in, where it is known; else 0
abbrev pub key_in : Measure → ℕ
key_in measure = if measure.single then number_or_none measure.held else 0

-- one of its numbers is known, if it takes in numbers
abbrev pub has_probe : Extent → Option ℕ → Bool
has_probe (Numbers spans) None = false
has_probe extent held = true

abbrev pub is_probed : Measure → Bool
is_probed measure = has_probe measure.extent measure.held

pub record IsMeasureOf (part : Part) (measure : Measure) : Type 0 where
  pub kind : measure.kind ≡ part.kind
  pub extent : IsExtentOf part measure.extent
  pub told : IsTold measure

-- each of its component
abbrev pub AreMeasuresOf : List Part → List Measure → Type 0
AreMeasuresOf parts measures = AllZip IsMeasureOf parts measures
