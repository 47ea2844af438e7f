-- Of a text without a dot std's parser reads the grammar that `ipv6_groups_of` decides.
use Rattle.fs_conf.proofs.Words.{◌≡◌, ℕ, List, Option, Some, None, refl, sym, ipv6_bits, IsIpv6Text, dot, ipv6_of, ipv6_groups_of}
use Rattle.fs_conf.proofs.{ColonText.{ipv6_groups_of_complete, ipv6_groups_of_sound}, Separated.{Lacks, Lacks-from_list_any}}
use Rattle.std.specs.declared.net.ipv6_addr.Ipv6Addr.{Ipv6Addr}
use Rattle.fs_conf.proofs.address.read_ipv6.Goals as goal

ipv6_of-address : (text : List ℕ) (address : Ipv6Addr) → Lacks dot text → IsIpv6Text text address → ipv6_of text ≡ Some (ipv6_bits address)
unfolding ipv6_bits
ipv6_of-address text address lacks h = rw (ipv6_groups_of_complete text address.segments lacks h)

by_groups : (text : List ℕ) (found : Option (List ℕ)) → ipv6_groups_of text ≡ found → ((address : Ipv6Addr) → ¬ (IsIpv6Text text address)) → ipv6_of text ≡ None
by_groups text None e h = rw e
by_groups text (Some groups) e h = absurd (h (record { segments = groups }) (ipv6_groups_of_sound text groups e))

pub returns-in-Ok : goal.returns-in-Ok
returns-in-Ok c =
    let lacks = Lacks-from_list_any dot c.args.text.now c.requires in
    rw c.to_bits.ensures (sym (ipv6_of-address c.args.text.now c.in-Ok.address lacks c.in-Ok.ensures.value))

pub returns-in-Err : goal.returns-in-Err
returns-in-Err c = sym (by_groups c.args.text.now (ipv6_groups_of c.args.text.now) refl c.in-Err.ensures.value)
