-- Unicast prefixes as UPDATE spells them (RFC 4271, section 4.3; RFC 4760, section 5). A prefix is seen as its
-- family, its bits and its length.
use Rattle.std.specs.Prelude.{ℕ, ◌==◌, Bool, ◌&&◌, nat_le, if◌then◌else◌, List, [], ◌∷◌, length, take, drop, Option, Some, None}
use Rattle.fs_base.specs.{declared.prefix.Family.{Family}, Bits.{width_of}, Parts.{parts_of}}
use Rattle.fs_nlri.specs.Spelling.{octets_for, first_bits}

abbrev pub Shown : Type 0
Shown = Family × ℕ × ℕ

abbrev pub shown_as : Family → ℕ → ℕ → Shown
shown_as family bits len = (family, bits, len)

-- A length, and the least octets that hold so many bits; bits past the length are cleared.
abbrev pub first_prefix : Family → List ℕ → Option (Shown × List ℕ)
first_prefix family [] = None
first_prefix family (len ∷ rest) =
    if nat_le len (width_of family) && nat_le (octets_for len) (length rest)
    then Some (shown_as family (first_bits (width_of family) len (take (octets_for len) rest)) len, drop (octets_for len) rest) else None

abbrev pub prefixes_of : Family → List ℕ → List Shown
prefixes_of family octets = (parts_of (first_prefix family) octets).0

abbrev pub are_prefixes : Family → List ℕ → Bool
are_prefixes family octets = length (parts_of (first_prefix family) octets).1 == 0

-- the prefixes of a field, or None where one is malformed
abbrev pub all_prefixes : Family → List ℕ → Option (List Shown)
all_prefixes family octets = if are_prefixes family octets then Some (prefixes_of family octets) else None
