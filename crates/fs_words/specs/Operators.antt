-- The words of lists of operators and values (RFC 8955 section 4.2.1).
use Rattle.std.specs.Prelude.{ℕ, ◌^◌, ◌==◌, List, [], ◌∷◌, ◌++◌, bit_and, nat_lt, if◌then◌else◌, codes, decimal, flat_map}
use Rattle.fs_ops.specs.{declared.kind.Kind.{Kind, TheVariants.{Numeric, Bitmask}}, Operator.{joins, width_code, width_of}}
use Rattle.fs_words.specs.Figures.{octets_text}

-- the bits less, greater, equal as a sign: ! is never, * is always
abbrev pub number_sign : ℕ → List ℕ
number_sign relation =
    if relation == 0 then codes "!"
    else if relation == 1 then codes "="
    else if relation == 2 then codes ">"
    else if relation == 3 then codes ">="
    else if relation == 4 then codes "<"
    else if relation == 5 then codes "<="
    else if relation == 6 then codes "!="
    else codes "*"

-- the bits NOT, match as a sign
abbrev pub mask_sign : ℕ → List ℕ
mask_sign relation =
    if relation == 0 then codes "~"
    else if relation == 1 then codes "="
    else if relation == 2 then codes "!~"
    else codes "!="

abbrev pub sign : Kind → ℕ → List ℕ
sign Numeric operator = number_sign (bit_and operator 7)
sign Bitmask operator = mask_sign (bit_and operator 3)

-- the code of the least width that holds the value
abbrev pub least_code : ℕ → ℕ
least_code value =
    if nat_lt value (2 ^ 8) then 0 else if nat_lt value (2 ^ 16) then 1 else if nat_lt value (2 ^ 32) then 2 else 3

-- a width in octets, by its code
abbrev pub width_text : ℕ → List ℕ
width_text code =
    if code == 0 then codes ":1" else if code == 1 then codes ":2" else if code == 2 then codes ":4" else codes ":8"

-- the width is written exactly where it isn't the least
abbrev pub width_word : (value code : ℕ) → List ℕ
width_word value code = if code == least_code value then [] else width_text code

-- a number in decimal and its width; bits in hexadecimal, two digits for each octet
abbrev pub operand_text : Kind → ℕ → ℕ → List ℕ
operand_text Numeric operator value = decimal value ++ width_word value (width_code operator)
operand_text Bitmask operator value = octets_text (width_of operator) value

abbrev pub pair_text : Kind → ℕ × ℕ → List ℕ
pair_text kind pair = sign kind pair.0 ++ operand_text kind pair.0 pair.1

-- & is AND, and a comma is OR
abbrev pub joiner : ℕ → List ℕ
joiner operator = if joins operator then codes "&" else codes ","

abbrev pub joined_text : Kind → ℕ × ℕ → List ℕ
joined_text kind pair = joiner pair.0 ++ pair_text kind pair

abbrev pub list_text : Kind → List (ℕ × ℕ) → List ℕ
list_text kind [] = []
list_text kind (pair ∷ pairs) = pair_text kind pair ++ flat_map (joined_text kind) pairs
