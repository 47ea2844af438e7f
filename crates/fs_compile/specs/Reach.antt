-- Which rules a search for a packet may test: those whose destination covers the packet's, and those that have none.
use Rattle.std.specs.{Prelude.{ℕ, ◌==◌, ◌+◌, Bool, true, Option, Some, None, List, drop}, List.{count_by}}
use Rattle.fs_base.specs.{declared.{prefix.Family.{Family}, config.Address.{Address}}, Bits.{width_of, cleared}}
use Rattle.fs_nlri.specs.{Parts.{Ruled}, Rule.{destination_of}}
use Rattle.fs_packet.specs.Fields.{Viewed}
use Rattle.fs_rules.specs.Lent.{Listed}
use Rattle.fs_buckets.specs.Addresses.{number_of}

-- The address begins with the bits of the destination, which is a family, bits and a length. Without one each does.
abbrev pub covers_address : Option (Family × ℕ × ℕ) → Address → Bool
covers_address None address = true
covers_address (Some d) address = cleared (width_of d.0) d.2 (number_of address) == d.1

-- the rule's destination covers the packet's, or it has none (of IPv6 none with offset 0)
abbrev pub reaches : Viewed → Ruled → Bool
reaches view rule = covers_address (destination_of rule) view.destination

-- how many of the rules these are
abbrev pub reaching : Viewed → List Listed → ℕ
reaching view rules = count_by (λ r. reaches view r.rule) rules

-- of those from a number on
abbrev pub reaching_from : ℕ → Viewed → List Listed → ℕ
reaching_from n view rules = reaching view (drop n rules)

-- of those behind what a search found; none where it found nothing
abbrev pub reaching_behind : Option ℕ → Viewed → List Listed → ℕ
reaching_behind None view rules = 0
reaching_behind (Some n) view rules = reaching_from (n + 1) view rules
