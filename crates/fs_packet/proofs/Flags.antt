-- One number serves TCP flag values of either width.
use Rattle.fs_packet.proofs.Words.{◌≡◌, ℕ, ◌-◌, ◌<◌, ◌%◌, ◌^◌, List, [], ◌∷◌, Bool, true, false, not, ◌==◌, if◌then◌else◌, refl, sym, ap, ◌∙◌, arith}
use Rattle.fs_packet.proofs.Words.{bit_and, subst, AllByRecursion, list_all, eqb-true, groups_of, has_bit, holds, masks, onto_group, IsSoundBody}
use Rattle.fs_packet.proofs.Words.{tcp_flags}
use Rattle.std.proofs.{lemmas.Nat.{and_assoc, and_comm, and_mask}, Math.Nat.{mod-eq_of_lt}}
use Rattle.fs_base.proofs.Lists.{all_on, any_on}
use Rattle.fs_ops.specs.{Operator.{joins, meant_bits, width_of}, OperatorList.{AreNormal}}
use Rattle.fs_nlri.specs.Parts.{ListBody}

-- each value fits its width
abbrev pub AreWide : List (ℕ × ℕ) → Type 0
AreWide pairs = AllByRecursion (λ pair. pair.1 < 256 ^ width_of pair.0) pairs

wide_pairs : (bits : ℕ) (pairs : List (ℕ × ℕ)) → AreNormal bits pairs → AreWide pairs
wide_pairs bits [] h = tt
wide_pairs bits (pair ∷ []) h = (h.0.fits, tt)
wide_pairs bits (pair ∷ next ∷ pairs) h = (h.0.fits, wide_pairs bits (next ∷ pairs) h.2)

pub sound_is_wide : (pairs : List (ℕ × ℕ)) → IsSoundBody (ListBody pairs) → AreWide pairs
sound_is_wide pairs h = wide_pairs (meant_bits h.0) pairs h.1.normal

each_onto : (P : ℕ × ℕ → Type 0) (pair : ℕ × ℕ) (groups : List (List (ℕ × ℕ))) → P pair → AllByRecursion (AllByRecursion P) groups
    → AllByRecursion (AllByRecursion P) (onto_group pair groups)
each_onto P pair [] p h = ((p, tt), tt)
each_onto P pair (group ∷ groups) p h = ((p, h.0), h.1)

each_group : (P : ℕ × ℕ → Type 0) (pairs : List (ℕ × ℕ)) → AllByRecursion P pairs → AllByRecursion (AllByRecursion P) (groups_of pairs)
each_group P [] h = tt
each_group P (pair ∷ []) h = (h, tt)
each_group P (pair ∷ next ∷ pairs) h = at (joins next.0) (each_group P (next ∷ pairs) h.1)
  where
    at : (b : Bool) → AllByRecursion (AllByRecursion P) (groups_of (next ∷ pairs))
        → AllByRecursion (AllByRecursion P) (if b then onto_group pair (groups_of (next ∷ pairs)) else (pair ∷ []) ∷ groups_of (next ∷ pairs))
    at true rest = each_onto P pair (groups_of (next ∷ pairs)) h.0 rest
    at false rest = ((h.0, tt), rest)

groups_same : (f g : ℕ × ℕ → Bool) (groups : List (List (ℕ × ℕ))) → AllByRecursion (AllByRecursion (λ x. f x ≡ g x)) groups
    → AllByRecursion (λ group. list_all f group ≡ list_all g group) groups
groups_same f g [] h = tt
groups_same f g (group ∷ groups) h = (all_on f g group h.0, groups_same f g groups h.1)

-- tests that agree on the pairs
pub holds_same : (f g : ℕ × ℕ → Bool) (pairs : List (ℕ × ℕ)) → AllByRecursion (λ x. f x ≡ g x) pairs → holds f pairs ≡ holds g pairs
holds_same f g pairs h = any_on (list_all f) (list_all g) (groups_of pairs) (groups_same f g (groups_of pairs) (each_group (λ x. f x ≡ g x) pairs h))

-- a value of at most k bits sees no more of a number
low_bits : (k number value : ℕ) → value < 2 ^ k → bit_and (bit_and number (2 ^ k - 1)) value ≡ bit_and number value
low_bits k number value h = and_assoc value number (2 ^ k - 1) ∙ ap (bit_and number) (and_comm (2 ^ k - 1) value ∙ and_mask value k ∙ mod-eq_of_lt h)

masks_same : (a b : ℕ) (pair : ℕ × ℕ) → bit_and a pair.1 ≡ bit_and b pair.1 → masks a pair ≡ masks b pair
masks_same a b pair e =
    let said : ℕ → Bool = λ bits. (if has_bit pair.0 2 then not (if has_bit pair.0 1 then bits == pair.1 else not (bits == 0))
    else (if has_bit pair.0 1 then bits == pair.1 else not (bits == 0))) in
    ap said e

one_pair : (octets : ℕ) (pair : ℕ × ℕ) → pair.1 < 256 ^ width_of pair.0 → masks (tcp_flags octets pair) pair ≡ masks (bit_and octets 0xfff) pair
one_pair octets pair h = at (width_of pair.0 == 1) refl
  where
    at : (b : Bool) → (width_of pair.0 == 1) ≡ b → masks (if b then octets % 2 ^ 8 else octets % 2 ^ 12) pair ≡ masks (bit_and octets 0xfff) pair
    at true e =
        let one : width_of pair.0 ≡ 1 = eqb-true (width_of pair.0) 1 e in
        let small : pair.1 < 256 ^ 1 = subst (λ (k : ℕ). pair.1 < 256 ^ k) one h in
        masks_same (octets % 2 ^ 8) (bit_and octets 0xfff) pair
        (ap (λ (n : ℕ). bit_and n pair.1) (sym (and_mask octets 8)) ∙ low_bits 8 octets pair.1 (omega arith) ∙ sym (low_bits 12 octets pair.1 (omega arith)))
    at false e = ap (λ (n : ℕ). masks n pair) (sym (and_mask octets 12))

each_pair : (octets : ℕ) (pairs : List (ℕ × ℕ)) → AreWide pairs
    → AllByRecursion (λ pair. masks (tcp_flags octets pair) pair ≡ masks (bit_and octets 0xfff) pair) pairs
each_pair octets [] h = tt
each_pair octets (pair ∷ pairs) h = (one_pair octets pair h.0, each_pair octets pairs h.1)

pub flags_same : (octets : ℕ) (pairs : List (ℕ × ℕ)) → AreWide pairs
    → holds (λ pair. masks (tcp_flags octets pair) pair) pairs ≡ holds (masks (bit_and octets 0xfff)) pairs
flags_same octets pairs h = holds_same (λ pair. masks (tcp_flags octets pair) pair) (masks (bit_and octets 0xfff)) pairs (each_pair octets pairs h)
