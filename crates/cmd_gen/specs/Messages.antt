-- The messages of the generator's tape, as octets (RFC 4271 section 4).
use Rattle.std.specs.Prelude.{ℕ, ◌+◌, List, [], ◌∷◌, ◌++◌, length}
use Rattle.byteorder.specs.Endian.{big_bytes}
use Rattle.fs_message.specs.Write.{message_text}
use Rattle.cmd_gen.specs.declared.message.Message.{Message, TheVariants.{Wide, Net, Rule, Withdrawal}}

-- the AS of a peer, and its address, which is its identifier too
abbrev pub asn_of : ℕ → ℕ
asn_of peer = 65000 + peer

abbrev pub address_of : ℕ → List ℕ
address_of peer = 198 ∷ 51 ∷ 100 ∷ peer ∷ []

abbrev pub keepalive : List ℕ
keepalive = message_text 4 []

-- an OPEN: version 4, the AS, a hold time of 180 seconds, the identifier, and one parameter with the four-octet AS as
-- its capability (RFC 6793 section 3)
abbrev pub open_of : ℕ → List ℕ
open_of peer =
    message_text 1 ((4 ∷ big_bytes 2 (asn_of peer)) ++ (big_bytes 2 180 ++ (address_of peer
    ++ ((8 ∷ 2 ∷ 6 ∷ 65 ∷ 4 ∷ []) ++ big_bytes 4 (asn_of peer)))))

-- an UPDATE: withdrawn prefixes, attributes, and prefixes, the first two behind their lengths
abbrev pub update_text : (withdrawn attributes prefixes : List ℕ) → List ℕ
update_text withdrawn attributes prefixes =
    message_text 2 (big_bytes 2 (length withdrawn) ++ (withdrawn
    ++ (big_bytes 2 (length attributes) ++ (attributes ++ prefixes))))

-- an attribute: its flags, its type, and its value behind its length
abbrev pub attribute : (flags kind : ℕ) → List ℕ → List ℕ
attribute flags kind value = flags ∷ kind ∷ length value ∷ value

-- the route comes from within the AS
abbrev pub origin : List ℕ
origin = attribute 64 1 (0 ∷ [])

-- one sequence of one number, the peer's AS
abbrev pub as_path : ℕ → List ℕ
as_path peer = attribute 64 2 (2 ∷ 1 ∷ big_bytes 4 (asn_of peer))

abbrev pub next_hop : ℕ → List ℕ
next_hop peer = attribute 64 3 (address_of peer)

-- 10.x.0.0/16
abbrev pub wide : ℕ → List ℕ
wide x = 16 ∷ 10 ∷ x ∷ []

-- 10.x.y.0/24
abbrev pub net : ℕ → ℕ → List ℕ
net x y = 24 ∷ 10 ∷ x ∷ y ∷ []

-- the flow rule of UDP to this port of 10.x.y.0/24, in its frame (RFC 8955 section 4)
abbrev pub rule_of : (x y port : ℕ) → List ℕ
rule_of x y port = 12 ∷ 1 ∷ net x y ++ ((3 ∷ 129 ∷ 17 ∷ []) ++ (5 ∷ 145 ∷ big_bytes 2 port))

-- an IPv4 flow rule is given, without a next hop (RFC 4760 section 3)
abbrev pub reaches : List ℕ → List ℕ
reaches rule = attribute 128 14 ((0 ∷ 1 ∷ 133 ∷ 0 ∷ 0 ∷ []) ++ rule)

-- a rate of no bytes (RFC 8955 section 7.1)
abbrev pub drops : List ℕ
drops = attribute 192 16 (128 ∷ 6 ∷ 0 ∷ 0 ∷ 0 ∷ 0 ∷ 0 ∷ 0 ∷ [])

-- a peer announces a prefix
abbrev pub announcement : ℕ → List ℕ → List ℕ
announcement peer prefix = update_text [] (origin ++ (as_path peer ++ next_hop peer)) prefix

-- a peer withdraws a prefix
abbrev pub withdrawal : List ℕ → List ℕ
withdrawal prefix = update_text prefix [] []

-- a peer announces a rule that drops
abbrev pub rule_announcement : ℕ → List ℕ → List ℕ
rule_announcement peer rule = update_text [] (reaches rule ++ (origin ++ (as_path peer ++ drops))) []

-- the octets of a message of the tape
abbrev pub octets_of : Message → List ℕ
octets_of (Wide octets) = octets
octets_of (Net octets) = octets
octets_of (Rule octets) = octets
octets_of (Withdrawal octets) = octets
