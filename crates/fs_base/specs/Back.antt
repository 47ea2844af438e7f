-- Octets that were put back, as they are kept: behind zeros, which no octet is read from.
use Rattle.std.specs.Prelude.{ℕ, List, ◌++◌, ◌≡◌, ◌≤◌, ◌-◌, length, take, drop, replicate}
use Rattle.std.proofs.{Common.{ap, sym, ◌∙◌, arith}, lemmas.List.{length-drop, take-append-drop}}

pub record IsBack (octets : List ℕ) (from : ℕ) : Type 0 where
  pub within : from ≤ 4
  pub held : length octets ≡ 4
  pub zeros : take from octets ≡ replicate from 0

-- That they say all of how they are kept.

pub from_again : {octets : List ℕ} {from : ℕ} → IsBack octets from → 4 - length (drop from octets) ≡ from
from_again {octets} {from} h = omega (arith, h.within, h.held, length-drop from octets)

pub octets_again : {octets : List ℕ} {from : ℕ} → IsBack octets from
    → replicate (4 - length (drop from octets)) 0 ++ drop from octets ≡ octets
octets_again {octets} {from} h =
    ap (λ n. replicate n 0 ++ drop from octets) (from_again h)
    ∙ ap (λ (front : List ℕ). front ++ drop from octets) (sym h.zeros)
    ∙ take-append-drop from octets
