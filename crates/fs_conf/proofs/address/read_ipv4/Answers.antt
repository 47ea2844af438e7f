-- std's parser reads the grammar that `ipv4_octets_of` decides.
use Rattle.fs_conf.proofs.Words.{◌≡◌, ℕ, List, Option, Some, None, refl, sym, ipv4_bits, IsIpv4Text, ipv4_of, ipv4_octets_of}
use Rattle.fs_conf.proofs.DottedText.{ipv4_octets_of_complete, ipv4_octets_of_sound}
use Rattle.std.specs.declared.net.ipv4_addr.Ipv4Addr.{Ipv4Addr}
use Rattle.fs_conf.proofs.address.read_ipv4.Goals as goal

ipv4_of-address : (text : List ℕ) (address : Ipv4Addr) → IsIpv4Text text address → ipv4_of text ≡ Some (ipv4_bits address)
unfolding ipv4_bits
ipv4_of-address text address h = rw (ipv4_octets_of_complete text address.octets h)

by_octets : (text : List ℕ) (found : Option (List ℕ)) → ipv4_octets_of text ≡ found → ((address : Ipv4Addr) → ¬ (IsIpv4Text text address)) → ipv4_of text ≡ None
by_octets text None e h = rw e
by_octets text (Some octets) e h = absurd (h (record { octets = octets }) (ipv4_octets_of_sound text octets e))

pub returns-in-Ok : goal.returns-in-Ok
returns-in-Ok c = rw c.to_bits.ensures (sym (ipv4_of-address c.args.text.now c.in-Ok.address c.in-Ok.ensures.value))

pub returns-in-Err : goal.returns-in-Err
returns-in-Err c = sym (by_octets c.args.text.now (ipv4_octets_of c.args.text.now) refl c.in-Err.ensures.value)
