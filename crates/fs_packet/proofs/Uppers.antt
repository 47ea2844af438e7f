-- What the protocol says of the upper layer's header.
use Rattle.fs_packet.proofs.Words.{◌≡◌, refl, ap, ◌∙◌, ℕ, ◌==◌, Bool, true, false, Option, Some, None, if◌then◌else◌, unwrap_or, Upper, icmp_number}
use Rattle.fs_packet.proofs.Words.{protocol_of, upper_of}
use Rattle.fs_packet.specs.declared.fields.Upper.TheVariants.{Tcp, Udp, Icmp, Other}
use Rattle.fs_base.specs.declared.prefix.Family.{Family}

abbrev by : (tcp udp icmp : Bool) → Upper
by tcp udp icmp = if tcp then Tcp else (if udp then Udp else (if icmp then Icmp else Other))

kept_by : (a b c : Bool) (n : ℕ) → protocol_of (by a b c) n ≡ Some n
kept_by true b c n = refl
kept_by false true c n = refl
kept_by false false true n = refl
kept_by false false false n = refl

-- the number that stands beside what it says is the protocol
pub number_kept : (family : Family) (n : ℕ) → protocol_of (upper_of family (Some n)) n ≡ Some n
number_kept family n = kept_by (n == 6) (n == 17) (n == icmp_number family) n

-- the same of a number that stands in place of one that isn't known
pub protocol_kept : (family : Family) (protocol : Option ℕ) (n : ℕ) → n ≡ unwrap_or protocol 0 → protocol_of (upper_of family protocol) n ≡ protocol
protocol_kept family None n h = refl
protocol_kept family (Some p) n h = ap (λ (number : ℕ). protocol_of (upper_of family (Some p)) number) h ∙ number_kept family p
