-- The texts of addresses: dotted IPv4, and the forms 1 and 2 of IPv6 (RFC 4291, section 2.2).
use Rattle.std.specs.Prelude.{ℕ, ◌+◌, ◌-◌, ◌==◌, nat_lt, nat_le, ◌&&◌, if◌then◌else◌, List, [], ◌∷◌, ◌++◌, length, take, drop, replicate, codes}
use Rattle.std.specs.Prelude.{Option, Some, None, option_map, option_and_then}
use Rattle.std.specs.{Char.{is_digit}, Fmt.{decimal}, Int.{w32, w128, from_be_bytes}, List.{list_all, list_any}, Net.Addr.{octets_of}}
use Rattle.std.specs.Str.{bytes_eq, Parse.{digits_value}}
use Rattle.fs_base.specs.declared.config.Address.{Address, TheVariants.{V4, V6}}

-- the code of a full stop, and of a colon
abbrev pub dot : ℕ
dot = 46

abbrev pub colon : ℕ
colon = 58

-- one more octet at the front of the first field
abbrev pub begin_field : ℕ → List (List ℕ) → List (List ℕ)
begin_field octet [] = (octet ∷ []) ∷ []
begin_field octet (field ∷ fields) = (octet ∷ field) ∷ fields

-- the fields of a text, between the separators: one more than it has separators
abbrev pub fields_of : ℕ → List ℕ → List (List ℕ)
fields_of separator [] = [] ∷ []
fields_of separator (octet ∷ text) =
    if octet == separator then [] ∷ fields_of separator text
    else begin_field octet (fields_of separator text)

-- what each field says, where each says something
abbrev pub each_of : (List ℕ → Option ℕ) → List (List ℕ) → Option (List ℕ)
each_of read [] = Some []
each_of read (field ∷ fields) =
    option_and_then (λ n. option_map (λ numbers. n ∷ numbers) (each_of read fields)) (read field)

-- these numbers, where they are so many
abbrev pub exactly : ℕ → List ℕ → Option (List ℕ)
exactly count numbers = if length numbers == count then Some numbers else None

-- a decimal number from 0 to 255 without leading zeros: its text is the one that the number has
abbrev pub decimal_octet : List ℕ → Option ℕ
decimal_octet text =
    let n = digits_value 10 text in
    if nat_lt n 256 && bytes_eq text (decimal n) then Some n else None

-- dotted IPv4: four decimal numbers with dots between them, the highest octet first
abbrev pub ipv4_octets_of : List ℕ → Option (List ℕ)
ipv4_octets_of text = option_and_then (exactly 4) (each_of decimal_octet (fields_of dot text))

abbrev pub ipv4_of : List ℕ → Option ℕ
ipv4_of text = option_map (from_be_bytes w32) (ipv4_octets_of text)

-- one 16-bit piece of an IPv6 address: one to four hexadecimal digits, of either case
abbrev pub group_of : List ℕ → Option ℕ
group_of text =
    if nat_lt 0 (length text) && nat_le (length text) 4 && list_all (λ octet. is_digit octet 16) text
    then Some (digits_value 16 text)
    else None

-- groups with colons between them; none in an empty text
abbrev pub groups_of : List ℕ → Option (List ℕ)
groups_of [] = Some []
groups_of (octet ∷ text) = each_of group_of (fields_of colon (octet ∷ text))

-- what stands before the first `::`, and behind it
abbrev pub around_double_colon : List ℕ → Option (List ℕ × List ℕ)
around_double_colon [] = None
around_double_colon (octet ∷ text) =
    if bytes_eq (take 2 (octet ∷ text)) (codes "::") then Some ([], drop 1 text)
    else option_map (λ sides. (octet ∷ sides.0, sides.1)) (around_double_colon text)

-- `::` stands for one group of zeros or more, so that there are eight groups
abbrev pub with_zeros : List ℕ → List ℕ → Option (List ℕ)
with_zeros head tail =
    if nat_lt (length head + length tail) 8
    then Some (head ++ replicate (8 - length head - length tail) 0 ++ tail)
    else None

abbrev pub ipv6_form_2 : List ℕ × List ℕ → Option (List ℕ)
ipv6_form_2 sides =
    option_and_then (λ head. option_and_then (with_zeros head) (groups_of sides.1)) (groups_of sides.0)

-- form 1 is eight groups, form 2 groups on either side of `::`
abbrev pub ipv6_by_form : List ℕ → Option (List ℕ × List ℕ) → Option (List ℕ)
ipv6_by_form text None = option_and_then (exactly 8) (groups_of text)
ipv6_by_form text (Some sides) = ipv6_form_2 sides

abbrev pub ipv6_groups_of : List ℕ → Option (List ℕ)
ipv6_groups_of text = ipv6_by_form text (around_double_colon text)

abbrev pub ipv6_of : List ℕ → Option ℕ
ipv6_of text = option_map (λ groups. from_be_bytes w128 (octets_of groups)) (ipv6_groups_of text)

-- the address that a text writes. Only dotted IPv4 has dots.
abbrev pub address_of : List ℕ → Option Address
address_of text =
    if list_any (λ octet. octet == dot) text then option_map V4 (ipv4_of text)
    else option_map V6 (ipv6_of text)
