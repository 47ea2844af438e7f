-- A wire that may have stopped telling.
use Rattle.std.proofs.Common.{◌≡◌, ℕ, List, [], ◌++◌, ◌<◌, Bool, true, false, Some, None, Ok, length, take, drop, min, sym, ◌∙◌, ap, arith}
use Rattle.std.proofs.lemmas.{List.{length-drop, take-append-drop}, Grind.{common_steps}}
use Rattle.std.specs.Prelude.{if◌then◌else◌}
use Rattle.fs_outside.specs.{Files.{ReadTakes}, Wire.{Told, WireEnds}}

-- what a step did is told where the wire tells
pub told_kept : (b : Bool) (step : WireEnds → WireEnds → Type 0) (before now : WireEnds) → step before now
    → Told step (if b then Some before else None) (if b then Some now else None)
told_kept true step before now s = s
told_kept false step before now s = tt

none_of : (xs : List ℕ) → length xs ≡ 0 → xs ≡ []
none_of xs none = grind (arith, common_steps)

-- a read that gave as much as there is, as there is room for, and as is allowed
pub takes_some : (E : Type 0) (old new into : List ℕ) (n most : ℕ) → 0 < most → n ≡ min (length old) (min (length into) most)
    → take n into ≡ take n old → new ≡ drop n old → ReadTakes {E = E} old new (Ok n) into
takes_some E old new into n most some counted copied left = (
  sym (ap (λ (front : List ℕ). front ++ new) copied ∙ ap (λ (rest : List ℕ). take n old ++ rest) left ∙ take-append-drop n old),
  λ none room. none_of new (ap length left ∙ length-drop n old ∙ omega (arith, counted, some, none, room)),
)
