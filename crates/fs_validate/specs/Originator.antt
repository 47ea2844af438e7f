-- Who brought a route into the network (RFC 9117 section 4.1).
use Rattle.std.specs.{Prelude.{ℕ, ◌==◌, Bool, false, Option, Some, None, List, option_map}, List.{list_all}}
use Rattle.fs_base.specs.{declared.{config.{Address.{Address, TheVariants.{V4, V6}}, Config.{Config}}, path.{Path.{Path}, Segment.{Segment}}}, Config.{peer_of}}

-- RFC 9117 section 4.1: the ORIGINATOR_ID where there is one, else the address of the peer
abbrev pub originator_or : Option ℕ → Option Address → Option Address
originator_or (Some id) address = Some (V4 id)
originator_or None address = address

abbrev pub originator_of : Config → ℕ × Path → Option Address
originator_of config r = originator_or r.1.originator (option_map (λ p. p.address) (peer_of r.0 config.peers))

-- an identifier is the IPv4 address with the same bits
abbrev pub same_address : Address → Address → Bool
same_address (V4 a) (V4 b) = a == b
same_address (V6 a) (V6 b) = a == b
same_address _ _ = false

abbrev pub same_originator : Option Address → Option Address → Bool
same_originator (Some a) (Some b) = same_address a b
same_originator _ _ = false

-- RFC 9117 section 4.1, rule b.2: the AS_PATH is empty or has only AS_CONFED_SEQUENCEs
abbrev pub is_local : List Segment → Bool
is_local segments = list_all (λ s. s.form == 3) segments
