use Rattle.fs_pcapng.proofs.Words.{◌≡◌, ℕ, List, ◌≤◌, ◌+◌, take, drop, length, refl, subst, arith, length-drop, take_all, le_true, number, Endian}
use Rattle.fs_pcapng.proofs.Words.{Scanner, fitting, option_behind, padded, value_in, NgReason, Frame, Cursor}

-- What a packet's block tells, passed field by field.

-- a number that is read of what stands behind the first octets, all that is left
pub behind_all : (n m : ℕ) (octets : List ℕ) → length octets ≤ n + m → take m (drop n octets) ≡ drop n octets
behind_all n m octets most = take_all m (drop n octets) (let l = length-drop n octets in omega (arith, l, most))

-- a captured length that fits
pub fits : {A : Type 0} (frame : Frame) (fixed captured place : ℕ) (next : Scanner A NgReason)
    → captured ≤ 262144 → fixed + padded captured ≤ frame.total → (at : ℕ) (octets : List ℕ)
    → next at octets ≡ fitting frame fixed captured place next at octets
fits frame fixed captured place next few room at octets = rw (le_true captured 262144 few, le_true (fixed + padded captured) frame.total room) refl

module _ (order : Endian) (now : Cursor) (place code size : ℕ) (head : List ℕ) (code_is : code ≡ number order 2 head)
    (size_is : size ≡ number order 2 (drop 2 head)) where
  -- an option whose value fits
  pub value_fits : 4 + padded size ≤ now.left → (at : ℕ) (octets : List ℕ) → value_in now code size at octets ≡ option_behind order now place head at octets
  value_fits room at octets =
      let r : 4 + padded (number order 2 (drop 2 head)) ≤ now.left = subst (λ n. 4 + padded n ≤ now.left) size_is room in
      rw (code_is, size_is, le_true (4 + padded (number order 2 (drop 2 head))) now.left r) refl
