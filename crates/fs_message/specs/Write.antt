-- What is written of messages (RFC 4271, section 4).
use Rattle.std.specs.Prelude.{◌≡◌, ℕ, ◌+◌, nat_lt, if◌then◌else◌, List, [], ◌∷◌, ◌++◌, length, replicate, Result, MatchResult}
use Rattle.byteorder.specs.Endian.{big_bytes}

-- all of the text is appended, or memory is wanting and nothing is
abbrev pub AppendsWhole : {E : Type 0} → Result (Unit {0}) E → (old new text : List ℕ) → Type 0
AppendsWhole result old new text = MatchResult result (λ _. new ≡ old ++ text) (λ _. new ≡ old)

-- The text of a message (RFC 4271, section 4.1).
abbrev pub message_text : ℕ → List ℕ → List ℕ
message_text kind body = replicate 16 255 ++ (big_bytes 2 (19 + length body) ++ (kind ∷ body))

-- The AS of an OPEN's own field: AS_TRANS where it needs four octets (RFC 6793, section 4.1).
abbrev pub as_field : ℕ → ℕ
as_field asn = if nat_lt 65535 asn then 23456 else asn

abbrev pub family_text : ℕ → ℕ → List ℕ
family_text afi safi = 1 ∷ 4 ∷ 0 ∷ afi ∷ 0 ∷ safi ∷ []

-- The body of our own OPEN: version 4, the AS, the hold time that is offered, the identifier, and one parameter that
-- names IPv4 and IPv6, each with unicast and flow specification routes, and the four-octet AS.
abbrev pub open_body : ℕ → ℕ → ℕ → List ℕ
open_body asn hold_time id =
    (4 ∷ big_bytes 2 (as_field asn)) ++ (big_bytes 2 hold_time ++ (big_bytes 4 id ++ ((32 ∷ 2 ∷ 30 ∷ []) ++
    (family_text 1 1 ++ (family_text 1 133 ++ (family_text 2 1 ++ (family_text 2 133 ++ (65 ∷ 4 ∷ big_bytes 4 asn))))))))
