-- Link types of captures, by the numbers that captures give them.
use Rattle.std.specs.Prelude.{ℕ, ◌==◌, if◌then◌else◌, Option, Some, None}
use Rattle.fs_base.specs.declared.link.Link.{Link, TheVariants.{Ethernet, Raw, Cooked, CookedTwo, V4, V6}}

-- Ethernet, raw IP, Linux cooked, Linux cooked version 2, raw IPv4, raw IPv6
abbrev pub link_of : ℕ → Option Link
link_of number =
    if number == 1 then Some Ethernet
    else if number == 101 then Some Raw
    else if number == 113 then Some Cooked
    else if number == 276 then Some CookedTwo
    else if number == 228 then Some V4
    else if number == 229 then Some V6
    else None

abbrev pub link_number : Link → ℕ
link_number Ethernet = 1
link_number Raw = 101
link_number Cooked = 113
link_number CookedTwo = 276
link_number V4 = 228
link_number V6 = 229
