-- The octets that are written for a list in normal form: they say the list, and are as many as any that say it.
use Rattle.fs_ops.proofs.Words.{◌≡◌, ℕ, suc, ◌+◌, ◌^◌, ◌<◌, ◌≤◌, ◌==◌, false, List, [], ◌∷◌, ◌++◌, length, map, bit_and, refl, ap, sym, subst, ◌∙◌}
use Rattle.fs_ops.proofs.Words.{arith, Contains, length-append, AllByRecursion, append-nil, and_le_r, and_comm, and_assoc, and-not, eqb-true}
use Rattle.fs_ops.proofs.Words.{not-false, big_number, big_bytes, length-bytes_high_first, big_number-reads_back, Kind, Numeric, Bitmask, meant_bits}
use Rattle.fs_ops.proofs.Words.{first_bits, width_code, width_of, joins, Written, octets_of, text, IsPair, IsList, said, all_said, Spells}
use Rattle.fs_ops.proofs.Words.{pair_octets, canonical, IsNormalPair, AreNormal, IsNormal, first_joins}
use Rattle.fs_ops.proofs.Normal.{first_normal, IsMask, meant_mask, first_mask, masked_width, masked_code}

-- each value has one of these widths
abbrev pub AreAllowed : List ℕ → List (ℕ × ℕ) → Type 0
AreAllowed widths pairs = AllByRecursion (λ (pair : ℕ × ℕ). Contains widths (width_code pair.0)) pairs

abbrev pub written_of : ℕ × ℕ → Written
written_of pair = record { operator = pair.0; value = big_bytes (width_of pair.0) pair.1 }

text_written : (pairs : List (ℕ × ℕ)) → text (map written_of pairs) ≡ canonical pairs
text_written [] = refl
text_written (pair ∷ pairs) = ap (λ (l : List ℕ). (pair.0 ∷ big_bytes (width_of pair.0) pair.1) ++ l) (text_written pairs)

written_pair : (bits : ℕ) (widths : List ℕ) (pair : ℕ × ℕ) → IsNormalPair bits pair → Contains widths (width_code pair.0) → IsPair widths (written_of pair)
written_pair bits widths pair normal allowed = record { allowed = allowed; size = length-bytes_high_first (width_of pair.0) pair.1 }

written_list : (bits : ℕ) (widths : List ℕ) (pairs : List (ℕ × ℕ)) → AreNormal bits pairs → AreAllowed widths pairs → IsList widths (map written_of pairs)
written_list bits widths [] normal allowed = absurd normal
written_list bits widths (pair ∷ []) normal allowed = (written_pair bits widths pair normal.0 allowed.0, normal.1)
written_list bits widths (pair ∷ next ∷ pairs) normal allowed =
    (written_pair bits widths pair normal.0 allowed.0, normal.1, written_list bits widths (next ∷ pairs) normal.2 allowed.1)

number_back : (bits : ℕ) (pair : ℕ × ℕ) → IsNormalPair bits pair
    → big_number (length (big_bytes (width_of pair.0) pair.1)) (big_bytes (width_of pair.0) pair.1) ≡ pair.1
number_back bits pair normal =
    ap (λ (n : ℕ). big_number n (big_bytes (width_of pair.0) pair.1)) (length-bytes_high_first (width_of pair.0) pair.1)
    ∙ ap (λ (l : List ℕ). big_number (width_of pair.0) l) (sym (append-nil (big_bytes (width_of pair.0) pair.1)))
    ∙ big_number-reads_back (width_of pair.0) pair.1 [] normal.fits

said_back : (bits mask : ℕ) (pair : ℕ × ℕ) → IsNormalPair bits pair → bit_and pair.0 mask ≡ pair.0 → said mask (written_of pair) ≡ pair
said_back bits mask pair normal clear =
    ap (λ (n : ℕ). let p : ℕ × ℕ = (n, big_number (length (big_bytes (width_of pair.0) pair.1)) (big_bytes (width_of pair.0) pair.1)) in p) clear
    ∙ ap (λ (n : ℕ). let p : ℕ × ℕ = (pair.0, n) in p) (number_back bits pair normal)

all_back : (bits mask : ℕ) (pair : ℕ × ℕ) (pairs : List (ℕ × ℕ)) → AreNormal bits (pair ∷ pairs) → bit_and pair.0 mask ≡ pair.0
    → said mask (written_of pair) ∷ map (said bits) (map written_of pairs) ≡ pair ∷ pairs
all_back bits mask pair [] normal clear = ap (λ (p : ℕ × ℕ). p ∷ []) (said_back bits mask pair normal.0 clear)
all_back bits mask pair (next ∷ pairs) normal clear =
    ap (λ (p : ℕ × ℕ). p ∷ map (said bits) (map written_of (next ∷ pairs))) (said_back bits mask pair normal.0 clear)
    ∙ ap (λ (l : List (ℕ × ℕ)). pair ∷ l) (all_back bits bits next pairs normal.2 (first_normal bits next pairs normal.2).clear)

pub small_bits : (kind : Kind) → meant_bits kind < 256
small_bits Numeric = omega arith
small_bits Bitmask = omega arith

-- without its AND bit the first operator loses nothing more
first_back : (kind : Kind) (operator : ℕ) → bit_and operator (meant_bits kind) ≡ operator → joins operator ≡ false
    → bit_and operator (first_bits kind) ≡ operator
first_back kind operator clear first =
    let small : operator < 2 ^ 8 = let le : bit_and operator (meant_bits kind) ≤ meant_bits kind = and_le_r operator (meant_bits kind) in
    let lt : meant_bits kind < 256 = small_bits kind in omega arith in
    let none : bit_and operator 64 ≡ 0 = eqb-true (bit_and operator 64) 0 (not-false (bit_and operator 64 == 0) first) in
    let split : bit_and 191 operator + bit_and 64 operator ≡ operator = and-not 8 64 operator (omega arith) small in
    let without : bit_and operator 191 ≡ operator = let left : bit_and 64 operator ≡ 0 = and_comm 64 operator ∙ none in
    let e : bit_and operator 191 ≡ bit_and 191 operator = and_comm operator 191 in omega arith in
    sym (and_assoc 191 operator (meant_bits kind)) ∙ ap (λ (n : ℕ). bit_and n 191) clear ∙ without

means_back : (kind : Kind) (pairs : List (ℕ × ℕ)) → AreNormal (meant_bits kind) pairs → first_joins pairs ≡ false → all_said kind (map written_of pairs) ≡ pairs
means_back kind [] normal first = absurd normal
means_back kind (pair ∷ pairs) normal first =
    all_back (meant_bits kind) (first_bits kind) pair pairs normal (first_back kind pair.0 (first_normal (meant_bits kind) pair pairs normal).clear first)

-- the octets that are written for a list in normal form say it
pub canonical_spells : (kind : Kind) (widths : List ℕ) (pairs : List (ℕ × ℕ)) → IsNormal kind pairs → AreAllowed widths pairs
    → Spells kind widths (canonical pairs) pairs
canonical_spells kind widths pairs normal allowed = record {
  written = map written_of pairs;
  whole = written_list (meant_bits kind) widths pairs normal.normal allowed;
  spelled = text_written pairs;
  means = sym (means_back kind pairs normal.normal normal.first);
}

-- a list that octets say has the widths that are allowed
allowed_later : (widths : List ℕ) (bits mask : ℕ) (pair : Written) (pairs : List Written) → IsMask bits bits → IsMask bits mask → IsList widths (pair ∷ pairs)
    → AreAllowed widths (said mask pair ∷ map (said bits) pairs)
allowed_later widths bits mask pair [] meant is whole = (subst (Contains widths) (sym (masked_code bits mask pair.operator is)) whole.0.allowed, tt)
allowed_later widths bits mask pair (next ∷ pairs) meant is whole =
    (subst (Contains widths) (sym (masked_code bits mask pair.operator is)) whole.0.allowed, allowed_later widths bits bits next pairs meant meant whole.2)

all_allowed : (kind : Kind) (widths : List ℕ) (written : List Written) → IsList widths written → AreAllowed widths (all_said kind written)
all_allowed kind widths [] whole = absurd whole
all_allowed kind widths (pair ∷ pairs) whole = allowed_later widths (meant_bits kind) (first_bits kind) pair pairs (meant_mask kind) (first_mask kind) whole

pub spelled_allowed : (kind : Kind) (widths octets : List ℕ) (pairs : List (ℕ × ℕ)) → Spells kind widths octets pairs → AreAllowed widths pairs
spelled_allowed kind widths octets pairs spells = subst (AreAllowed widths) (sym spells.means) (all_allowed kind widths spells.written spells.whole)

-- all octets that say a list are as many
said_size : (widths : List ℕ) (bits mask : ℕ) (pair : Written) → IsMask bits mask → IsPair widths pair
    → length (pair_octets (said mask pair)) ≡ length (octets_of pair)
said_size widths bits mask pair is whole =
    let operator : ℕ = bit_and pair.operator mask in
    let number : ℕ = big_number (length pair.value) pair.value in
    let size : length (big_bytes (width_of (bit_and pair.operator mask)) (big_number (length pair.value) pair.value)) ≡ length pair.value =
    length-bytes_high_first (width_of (bit_and pair.operator mask)) (big_number (length pair.value) pair.value)
    ∙ masked_width bits mask pair.operator is ∙ sym whole.size in
    ap suc size

joined_size : (a b c d : List ℕ) → length a ≡ length b → length c ≡ length d → length (a ++ c) ≡ length (b ++ d)
joined_size a b c d heads tails = omega (arith, length-append a c, length-append b d)

later_size : (widths : List ℕ) (bits mask : ℕ) (pair : Written) (pairs : List Written) → IsMask bits bits → IsMask bits mask → IsList widths (pair ∷ pairs)
    → length (canonical (said mask pair ∷ map (said bits) pairs)) ≡ length (text (pair ∷ pairs))
later_size widths bits mask pair [] meant is whole =
    joined_size (pair_octets (said mask pair)) (octets_of pair) [] [] (said_size widths bits mask pair is whole.0) refl
later_size widths bits mask pair (next ∷ pairs) meant is whole =
    joined_size (pair_octets (said mask pair)) (octets_of pair) (canonical (map (said bits) (next ∷ pairs))) (text (next ∷ pairs))
    (said_size widths bits mask pair is whole.0) (later_size widths bits bits next pairs meant meant whole.2)

all_size : (kind : Kind) (widths : List ℕ) (written : List Written) → IsList widths written → length (canonical (all_said kind written)) ≡ length (text written)
all_size kind widths [] whole = absurd whole
all_size kind widths (pair ∷ pairs) whole = later_size widths (meant_bits kind) (first_bits kind) pair pairs (meant_mask kind) (first_mask kind) whole

pub canonical_size : (kind : Kind) (widths octets : List ℕ) (pairs : List (ℕ × ℕ)) → Spells kind widths octets pairs → length (canonical pairs) ≡ length octets
canonical_size kind widths octets pairs spells =
    ap (λ (l : List (ℕ × ℕ)). length (canonical l)) spells.means ∙ all_size kind widths spells.written spells.whole ∙ ap length spells.spelled

-- clearing bits of the values changes neither widths nor the count of octets
pub kept_allowed : (widths : List ℕ) (kept : ℕ) (pairs : List (ℕ × ℕ)) → AreAllowed widths pairs
    → AreAllowed widths (map (λ (pair : ℕ × ℕ). (pair.0, bit_and pair.1 kept)) pairs)
kept_allowed widths kept [] allowed = tt
kept_allowed widths kept (pair ∷ pairs) allowed = (allowed.0, kept_allowed widths kept pairs allowed.1)

pub kept_size : (kept : ℕ) (pairs : List (ℕ × ℕ)) → length (canonical (map (λ (pair : ℕ × ℕ). (pair.0, bit_and pair.1 kept)) pairs)) ≡ length (canonical pairs)
kept_size kept [] = refl
kept_size kept (pair ∷ pairs) =
    let size : length (big_bytes (width_of pair.0) (bit_and pair.1 kept)) ≡ length (big_bytes (width_of pair.0) pair.1) =
    length-bytes_high_first (width_of pair.0) (bit_and pair.1 kept) ∙ sym (length-bytes_high_first (width_of pair.0) pair.1) in
    let heads : length (pair_octets (pair.0, bit_and pair.1 kept)) ≡ length (pair_octets pair) = ap suc size in
    joined_size (pair_octets (pair.0, bit_and pair.1 kept)) (pair_octets pair) (canonical (map (λ (p : ℕ × ℕ). (p.0, bit_and p.1 kept)) pairs))
    (canonical pairs) heads (kept_size kept pairs)
