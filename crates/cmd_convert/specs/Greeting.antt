-- The messages that are made up where a session begins in the middle of a dump (RFC 4271 sections 4.2 and 4.4).
use Rattle.std.specs.Prelude.{ℕ, Bool, true, false, List, [], ◌∷◌, ◌++◌, length}
use Rattle.byteorder.specs.Endian.{big_bytes}
use Rattle.fs_message.specs.Write.{as_field, message_text}

-- where AS numbers have four octets, one parameter with the capability that says so (RFC 6793 section 3)
abbrev pub parameters : ℕ → Bool → List ℕ
parameters asn true = 2 ∷ 6 ∷ 65 ∷ 4 ∷ big_bytes 4 asn
parameters asn false = []

-- an OPEN: version 4, the AS, a hold time of 0, the identifier 0.0.0.1, and the parameters
abbrev pub made_open : ℕ → Bool → List ℕ
made_open asn wide =
    message_text 1 ((4 ∷ big_bytes 2 (as_field asn)) ++ (big_bytes 2 0 ++ (big_bytes 4 1
    ++ (length (parameters asn wide) ∷ parameters asn wide))))

-- an OPEN and a KEEPALIVE
abbrev pub greeting : ℕ → Bool → List ℕ
greeting asn wide = made_open asn wide ++ message_text 4 []
