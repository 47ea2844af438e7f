-- Which addresses a prefix has: those from its lowest to its highest.
use Rattle.fs_base.proofs.Words.{ℕ, ◌≡◌, ◌+◌, ◌-◌, ◌*◌, ◌^◌, ◌<◌, ◌≤◌, ap, subst, sym, pow_pos, arith, ◌↔◌, Prefix, width_of, cleared, last_address}
use Rattle.fs_base.proofs.{Blocks.{IsBlock, block_inside, block_meeting}, Covers.{block}}

-- an address is a block of its own
pub one_address : (w a : ℕ) → a < 2 ^ w → IsBlock w w a
one_address w a below = record { short = omega arith; count = a; spelled = spelled; within = within } where
  alone : 2 ^ (w - w) ≡ 1
  alone = let none : w - w ≡ 0 = omega arith in ap (λ k. 2 ^ k) none

  spelled : a ≡ a * 2 ^ (w - w)
  spelled = let once : a ≡ a * 1 = omega arith in subst (λ k. a ≡ a * k) (sym alone) once

  within : a + 2 ^ (w - w) ≤ 2 ^ w
  within = omega (arith, alone)

-- the last address of a prefix is one less than the end of its block, which isn't empty
pub last_end : (p : Prefix) → last_address p + 1 ≡ p.bits + 2 ^ (width_of p.family - p.length)
last_end p = let some : 0 < 2 ^ (width_of p.family - p.length) = pow_pos (width_of p.family - p.length) in omega arith

-- An address has the first bits of a prefix exactly where it isn't below its lowest address nor above its highest.
pub address_range : (p : Prefix) (a : ℕ) → a < 2 ^ width_of p.family
    → (cleared (width_of p.family) p.length a ≡ p.bits) ↔ ((p.bits ≤ a) × (a ≤ last_address p))
address_range p a below = (inside, meeting) where
  own : IsBlock (width_of p.family) (width_of p.family) a
  own = one_address (width_of p.family) a below

  alone : 2 ^ (width_of p.family - width_of p.family) ≡ 1
  alone = let none : width_of p.family - width_of p.family ≡ 0 = omega arith in ap (λ k. 2 ^ k) none

  inside : cleared (width_of p.family) p.length a ≡ p.bits → (p.bits ≤ a) × (a ≤ last_address p)
  inside first =
      let found : (p.bits ≤ a) × (a + 2 ^ (width_of p.family - width_of p.family) ≤ p.bits + 2 ^ (width_of p.family - p.length)) =
      block_inside (width_of p.family) p.length p.bits (width_of p.family) a (block p) own p.short first in
      (found.0, omega (arith, found.1, alone))

  meeting : (p.bits ≤ a) × (a ≤ last_address p) → cleared (width_of p.family) p.length a ≡ p.bits
  meeting h =
      let low : p.bits < a + 2 ^ (width_of p.family - width_of p.family) = omega (arith, alone, h.0) in
      let high : a < p.bits + 2 ^ (width_of p.family - p.length) = omega (arith, h.1, last_end p) in
      block_meeting (width_of p.family) p.length p.bits (width_of p.family) a (block p) own p.short low high
