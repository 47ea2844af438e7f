-- What a component tests, as the code lends it, and when that lies in what another tests.
use Rattle.std.specs.Prelude.{◌≡◌, Bool, true, false}
use Rattle.fs_nlri.specs.{Component.{body_of}, Parts.{ListBody, Part}, Sound.{IsSoundBody}}
use Rattle.fs_shadow.specs.declared.tested.Tested.{Tested, TheVariants.{Prefix, Number, Bits}}
use Rattle.fs_shadow.specs.Contains.{are_same_pairs, body_lies_in, numbers_lie_in, tests_bits}

-- what stands behind the type, and which tests the type has
abbrev pub IsTested : Part → Tested → Type 0
IsTested part (Prefix form) = part.body ≡ body_of form
IsTested part (Number list) = (part.body ≡ ListBody list.now) × (tests_bits part.kind ≡ false)
IsTested part (Bits list) = (part.body ≡ ListBody list.now) × (tests_bits part.kind ≡ true)

-- a prefix is in normal form
abbrev pub IsSound : Tested → Type 0
IsSound (Prefix form) = IsSoundBody (body_of form)
IsSound (Number list) = Unit {0}
IsSound (Bits list) = Unit {0}

abbrev pub tested_lies_in : (inner outer : Tested) → Bool
tested_lies_in (Prefix inner) (Prefix outer) = body_lies_in 1 (body_of inner) (body_of outer)
tested_lies_in (Number inner) (Number outer) = numbers_lie_in inner.now outer.now
tested_lies_in (Bits inner) (Bits outer) = are_same_pairs inner.now outer.now
tested_lies_in _ _ = false
