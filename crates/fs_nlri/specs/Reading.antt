-- The rules of a field of flow specification NLRI (RFC 8955, section 4; RFC 8956, section 3), or the reason and the
-- place of the fault of its first faulty frame. Each word answers what stands at the front with the number of its
-- octets, or a reason and a place that counts from the front. That this is the one outcome which the grammar of flow
-- rules gives is a law (`rules_are_the_outcome` of `fs_attrs`).
use Rattle.std.specs.Prelude.{ℕ, suc, zero, ◌+◌, ◌-◌, ◌*◌, ◌==◌, Bool, true, false, not, bit_and, nat_lt, if◌then◌else◌, List, [], ◌∷◌, length, take}
use Rattle.std.specs.Prelude.{drop, Option, Some, None, Result, Ok, Err}
use Rattle.std.specs.List.{list_any}
use Rattle.byteorder.specs.Endian.{big_number}
use Rattle.fs_base.specs.declared.prefix.Family.{Family, TheVariants.{V4}}
use Rattle.fs_ops.specs.{declared.kind.Kind.{Kind}, Operator.{counted_bits, ends, width_code, width_of}}
use Rattle.fs_nlri.specs.declared.fault.Reason.{Reason, TheVariants.{Cut, NoType, Order, PrefixLength, Offset, Width, Length}}
use Rattle.fs_nlri.specs.Forms.{Form, V4Form, V6Form, ListForm, form_of, kept_bits}
use Rattle.fs_nlri.specs.{Parts.{Body, V4Body, V6Body, ListBody, Part, part, Ruled, ruled}, Spelling.{octets_for, first_bits}, Making.{is_range}}

-- a prefix of IPv4
abbrev pub v4_at : List ℕ → Result (Body × ℕ) (Reason × ℕ)
v4_at [] = Err (Cut, 0)
v4_at (len ∷ tail) =
    if nat_lt 32 len then Err (PrefixLength, 0)
    else if nat_lt (length tail) (octets_for len) then Err (Cut, 1 + length tail)
    else Ok (V4Body V4 len (first_bits 32 len (take (octets_for len) tail)), 1 + octets_for len)

-- the bits of an IPv6 prefix from an offset on
abbrev pub pattern_at : (len offset : ℕ) → List ℕ → Result (Body × ℕ) (Reason × ℕ)
pattern_at len offset tail =
    if nat_lt (length tail) (octets_for (len - offset)) then Err (Cut, 2 + length tail)
    else Ok (V6Body len offset (first_bits 128 (len - offset) (take (octets_for (len - offset)) tail)), 2 + octets_for (len - offset))

abbrev pub offset_at : ℕ → List ℕ → Result (Body × ℕ) (Reason × ℕ)
offset_at len [] = Err (Cut, 1)
offset_at len (offset ∷ tail) = if is_range len offset then pattern_at len offset tail else Err (Offset, 1)

-- a prefix of IPv6
abbrev pub v6_at : List ℕ → Result (Body × ℕ) (Reason × ℕ)
v6_at [] = Err (Cut, 0)
v6_at (len ∷ tail) = if nat_lt 128 len then Err (PrefixLength, 0) else offset_at len tail

-- an operator, with the bits of it that count, and its value
abbrev pub pair_at : Kind → Bool → ℕ → List ℕ → ℕ × ℕ
pair_at kind first operator tail = (bit_and operator (counted_bits kind first), big_number (width_of operator) (take (width_of operator) tail))

abbrev pub with_pair : ℕ × ℕ → ℕ → Result (List (ℕ × ℕ) × ℕ) (Reason × ℕ) → Result (List (ℕ × ℕ) × ℕ) (Reason × ℕ)
with_pair pair count (Ok later) = Ok (pair ∷ later.0, count + later.1)
with_pair pair count (Err bad) = Err (bad.0, count + bad.1)

-- Pairs to the first operator with the end bit, whose values have the widths allowed; so many pairs at most.
unfoldable pub pairs_at : Kind → List ℕ → Bool → ℕ → List ℕ → Result (List (ℕ × ℕ) × ℕ) (Reason × ℕ)
pairs_at kind widths first zero octets = Err (Cut, 0)
pairs_at kind widths first (suc most) [] = Err (Cut, 0)
pairs_at kind widths first (suc most) (operator ∷ tail) =
    if not (list_any (λ width. width == width_code operator) widths) then Err (Width, 0)
    else if nat_lt (length tail) (width_of operator) then Err (Cut, 1 + length tail)
    else if ends operator then Ok (pair_at kind first operator tail ∷ [], 1 + width_of operator)
    else with_pair (pair_at kind first operator tail) (1 + width_of operator) (pairs_at kind widths false most (drop (width_of operator) tail))

abbrev pub list_body : Option ℕ → Result (List (ℕ × ℕ) × ℕ) (Reason × ℕ) → Result (Body × ℕ) (Reason × ℕ)
list_body bits (Ok found) = Ok (ListBody (kept_bits bits found.0), found.1)
list_body bits (Err bad) = Err bad

-- what stands behind the type of a component
abbrev pub body_at : Form → List ℕ → Result (Body × ℕ) (Reason × ℕ)
body_at V4Form octets = v4_at octets
body_at V6Form octets = v6_at octets
body_at (ListForm kind widths bits) octets = list_body bits (pairs_at kind widths true (suc (length octets)) octets)

abbrev pub behind_type : Result (Body × ℕ) (Reason × ℕ) → Result (Body × ℕ) (Reason × ℕ)
behind_type (Ok found) = Ok found
behind_type (Err bad) = Err (bad.0, 1 + bad.1)

-- a component: a type that the family has, above the last one, and what stands behind it
abbrev pub typed_at : Option Form → (last kind : ℕ) → List ℕ → Result (Body × ℕ) (Reason × ℕ)
typed_at None last kind tail = Err (NoType, 0)
typed_at (Some form) last kind tail = if nat_lt last kind then behind_type (body_at form tail) else Err (Order, 0)

abbrev pub with_component : Part → ℕ → Result (List Part) (Reason × ℕ) → Result (List Part) (Reason × ℕ)
with_component component count (Ok later) = Ok (component ∷ later)
with_component component count (Err bad) = Err (bad.0, count + bad.1)

-- the components that the octets are, so many at most
unfoldable pub components_of : Family → ℕ → ℕ → List ℕ → Result (List Part) (Reason × ℕ)
components_of family zero last octets = Ok []
components_of family (suc most) last [] = Ok []
components_of family (suc most) last (kind ∷ tail) = elim (typed_at (form_of family kind) last kind tail) [
  | Ok found ↦ with_component (part kind found.0) (1 + found.1) (components_of family most kind (drop found.1 tail))
  | Err bad ↦ Err bad
]

abbrev pub components_in : Family → List ℕ → Result (List Part) (Reason × ℕ)
components_in family octets = components_of family (suc (length octets)) 0 octets

-- the number of the octets that say a length, and the length; numbers that are no octets say none
abbrev pub long_length : ℕ → List ℕ → Option (ℕ × ℕ)
long_length first [] = None
long_length first (second ∷ tail) =
    if nat_lt first 256 then (if nat_lt second 256 then Some (2, (first - 240) * 256 + second) else None) else None

abbrev pub length_at : List ℕ → Option (ℕ × ℕ)
length_at [] = None
length_at (first ∷ tail) = if nat_lt first 240 then Some (1, first) else long_length first tail

abbrev pub framed : Family → ℕ → Result (List Part) (Reason × ℕ) → Result (Ruled × ℕ) (Reason × ℕ)
framed family count (Ok components) = Ok (ruled family components, count)
framed family count (Err bad) = Err bad

-- a value of this length behind so many octets
abbrev pub sized_at : Family → (head len : ℕ) → List ℕ → Result (Ruled × ℕ) (Reason × ℕ)
sized_at family head len octets =
    if nat_lt (length (drop head octets)) len then Err (Length, length octets)
    else framed family (head + len) (components_in family (take len (drop head octets)))

-- a frame; the place of a fault counts from the value
abbrev pub frame_at : Family → List ℕ → Result (Ruled × ℕ) (Reason × ℕ)
frame_at family octets = elim (length_at octets) [ None ↦ Err (Length, length octets) | Some found ↦ sized_at family found.0 found.1 octets ]

abbrev pub with_rule : Ruled → Result (List Ruled) (Reason × ℕ) → Result (List Ruled) (Reason × ℕ)
with_rule rule (Ok later) = Ok (rule ∷ later)
with_rule rule (Err bad) = Err bad

-- the frames that the octets are, so many at most
unfoldable pub frames_of : Family → ℕ → List ℕ → Result (List Ruled) (Reason × ℕ)
frames_of family zero octets = Ok []
frames_of family (suc most) [] = Ok []
frames_of family (suc most) (octet ∷ tail) = elim (frame_at family (octet ∷ tail)) [
  | Ok found ↦ with_rule found.0 (frames_of family most (drop found.1 (octet ∷ tail)))
  | Err bad ↦ Err bad
]

-- The rules of a field of frames, or the reason and the place of its first fault.
unfoldable pub rules_of : Family → List ℕ → Result (List Ruled) (Reason × ℕ)
rules_of family octets = frames_of family (suc (length octets)) octets
