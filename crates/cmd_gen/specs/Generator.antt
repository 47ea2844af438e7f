-- The generator's tape and packets. Peers 1 and 2 come up and open their sessions; then come as many UPDATEs as the seed
-- says, and for the capture as many packets. Each of these takes the next two numbers.
use Rattle.std.specs.Prelude.{ℕ, zero, suc, ◌+◌, ◌/◌, ◌%◌, ◌==◌, List, [], ◌∷◌, ◌++◌, if◌then◌else◌}
use Rattle.byteorder.specs.Endian.{big_bytes}
use Rattle.fs_tape.specs.Tape.{Item, came_up, received}
use Rattle.cmd_gen.specs.Draws.{pair_behind}
use Rattle.cmd_gen.specs.Messages.{announcement, keepalive, net, open_of, rule_announcement, rule_of, wide, withdrawal}
use Rattle.cmd_gen.specs.declared.pair.Pair.{Pair}

-- what the two numbers choose: the peer, the octets of addresses, and the destination port
abbrev pub peer_of : Pair → ℕ
peer_of pair = 1 + pair.first % 2

abbrev pub x_of : Pair → ℕ
x_of pair = pair.second % 16

abbrev pub y_of : Pair → ℕ
y_of pair = (pair.second / 16) % 16

abbrev pub host_of : Pair → ℕ
host_of pair = pair.first % 256

abbrev pub port_of : Pair → ℕ
port_of pair = (pair.second / 256) % 1024

-- the UPDATE of a step: a wide prefix is announced, or a prefix under it, or a rule, or the prefix is withdrawn
abbrev pub update_by : ℕ → Pair → List ℕ
update_by step pair =
    if step == 0 then announcement (peer_of pair) (wide (x_of pair))
    else if step == 1 then announcement (peer_of pair) (net (x_of pair) (y_of pair))
    else if step == 2 then rule_announcement (peer_of pair) (rule_of (x_of pair) (y_of pair) (port_of pair))
    else withdrawal (net (x_of pair) (y_of pair))

abbrev pub update_of : Pair → List ℕ
update_of pair = update_by ((pair.first / 2) % 4) pair

abbrev pub step_of : Pair → Item
step_of pair = received (peer_of pair) (update_of pair)

-- a peer comes up and sends its OPEN and a KEEPALIVE
abbrev pub opening : ℕ → List Item
opening peer = came_up peer ∷ received peer (open_of peer) ∷ received peer keepalive ∷ []

-- the first steps, so many of them
unfoldable pub steps : (seed count : ℕ) → List Item
steps seed zero = []
steps seed (suc count) = steps seed count ++ step_of (pair_behind seed count) ∷ []

abbrev pub tape_of_seed : ℕ → List Item
tape_of_seed seed = (opening 1 ++ opening 2) ++ steps seed seed

-- A packet of IPv4 with UDP (RFC 791 section 3.1, RFC 768): 28 octets, time to live 64, no checksums, from
-- 203.0.113.1 port 40000 to 10.x.y.host.
abbrev pub packet_of : Pair → List ℕ
packet_of pair =
    (69 ∷ 0 ∷ 0 ∷ 28 ∷ 0 ∷ 0 ∷ 0 ∷ 0 ∷ 64 ∷ 17 ∷ 0 ∷ 0 ∷ [])
    ++ ((203 ∷ 0 ∷ 113 ∷ 1 ∷ []) ++ ((10 ∷ x_of pair ∷ y_of pair ∷ host_of pair ∷ [])
    ++ (big_bytes 2 40000 ++ (big_bytes 2 (port_of pair) ++ (0 ∷ 8 ∷ 0 ∷ 0 ∷ [])))))

-- the first packets, so many of them: their numbers come behind those of the tape
unfoldable pub packets : (seed count : ℕ) → List (List ℕ)
packets seed zero = []
packets seed (suc count) = packets seed count ++ packet_of (pair_behind seed (seed + count)) ∷ []

abbrev pub packets_of_seed : ℕ → List (List ℕ)
packets_of_seed seed = packets seed seed
