-- What a list of components makes: a rule, or the first cause why there is none.
use Rattle.std.specs.Prelude.{◌≡◌, ℕ, ◌-◌, ◌≤◌, List, [], ◌∷◌, length, map, Option, Some, None, Result, Ok, Err, Bool, true, false, nat_le, nat_lt}
use Rattle.std.specs.Prelude.{◌==◌, ◌&&◌, ◌||◌, if◌then◌else◌}
use Rattle.std.specs.List.{AllByRecursion, list_all}
use Rattle.fs_base.specs.{declared.prefix.Family.{Family, TheVariants.{V4}}, Bits.{cleared}}
use Rattle.fs_ops.specs.OperatorList.{IsNormal}
use Rattle.fs_nlri.specs.declared.fault.RuleFault.{RuleFault, TheVariants.{NotOfFamily, Order, TooLong, Memory}}
use Rattle.fs_nlri.specs.Forms.{Form, V4Form, V6Form, ListForm, form_of, kept_bits, all_allowed}
use Rattle.fs_nlri.specs.{Parts.{Body, V4Body, V6Body, ListBody, Part, Ruled, part, ruled}, Rule.{canonical_value}}

-- the length and the offset that a V6Body may have
abbrev pub is_range : (len offset : ℕ) → Bool
is_range len offset = nat_le len 128 && (nat_lt offset len || ((len == 0) && (offset == 0)))

-- what stands behind the type is of a form that the family gives the type
abbrev pub body_given : Form → Body → Bool
body_given V4Form (V4Body V4 len bits) = true
body_given V6Form (V6Body len offset pattern) = is_range len offset
body_given (ListForm kind widths bits) (ListBody pairs) = all_allowed widths pairs
body_given _ _ = false

abbrev pub given_at : Option Form → Body → Bool
given_at None body = false
given_at (Some form) body = body_given form body

abbrev pub part_given : Family → Part → Bool
part_given family part = given_at (form_of family part.kind) part.body

abbrev pub all_given : Family → List Part → Bool
all_given family parts = list_all (part_given family) parts

abbrev pub rises : ℕ → List Part → Bool
rises last [] = true
rises last (part ∷ parts) = nat_lt last part.kind && rises part.kind parts

-- the first cause why there is no rule, but for the size
abbrev pub fault_in : Family → List Part → Option RuleFault
fault_in family parts = if all_given family parts then (if rises 0 parts then None else Some Order) else Some NotOfFamily

-- the bits that normal form clears
abbrev pub cleared_body : Form → Body → Body
cleared_body V6Form (V6Body len offset pattern) = V6Body len offset (cleared 128 (len - offset) pattern)
cleared_body (ListForm kind widths bits) (ListBody pairs) = ListBody (kept_bits bits pairs)
cleared_body _ body = body

abbrev pub cleared_at : Option Form → Body → Body
cleared_at None body = body
cleared_at (Some form) body = cleared_body form body

abbrev pub cleared_part : Family → Part → Part
cleared_part family given = part given.kind (cleared_at (form_of family given.kind) given.body)

abbrev pub cleared_parts : Family → List Part → List Part
cleared_parts family parts = map (cleared_part family) parts

-- the rule of the components, or the first cause why there is none
abbrev pub rule_of : Family → List Part → Result Ruled RuleFault
rule_of family parts =
    if all_given family parts then
    (if rises 0 parts then
    (if nat_le (length (canonical_value (cleared_parts family parts))) 4095 then Ok (ruled family (cleared_parts family parts)) else Err TooLong)
    else Err Order)
    else Err NotOfFamily

-- what is answered where memory is there
abbrev pub Makes : Result Ruled RuleFault → Result Ruled RuleFault → Type 0
Makes (Err Memory) wanted = Unit {0}
Makes result wanted = result ≡ wanted

-- What a component holds by its types alone: the lists are in normal form, and a prefix has no bits past its length.
abbrev pub IsTypedBody : Form → Body → Type 0
IsTypedBody V4Form (V4Body family len bits) = (len ≤ 32) × (bits ≡ cleared 32 len bits)
IsTypedBody (ListForm kind widths bits) (ListBody pairs) = IsNormal kind pairs
IsTypedBody _ _ = Unit {0}

abbrev pub IsTypedAt : Option Form → Body → Type 0
IsTypedAt None body = Unit {0}
IsTypedAt (Some form) body = IsTypedBody form body

abbrev pub IsTyped : Family → Part → Type 0
IsTyped family part = IsTypedAt (form_of family part.kind) part.body

abbrev pub AreTyped : Family → List Part → Type 0
AreTyped family parts = AllByRecursion (IsTyped family) parts
