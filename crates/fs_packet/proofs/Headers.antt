-- The tests of a network header, one by one.
use Rattle.fs_packet.proofs.Words.{◌≡◌, ℕ, ◌/◌, ◌<◌, ◌≤◌, List, length, drop, slice_index, Option, Some, Ok, Err, sym, subst, ◌∙◌, arith, false, not}
use Rattle.fs_packet.proofs.Words.{◌==◌, ◌&&◌, if◌then◌else◌, nat_tests, le-ltb, V4, V6, number_at, last_field, protocol_at, viewed, v4_fragment}
use Rattle.fs_packet.proofs.Words.{v4_size, v4_transport, v4_view, v6_chain, v6_fragment, v6_length, v6_view, Short, Version, Header, Length}
use Rattle.fs_base.proofs.NumberTests.{not_zero}

same_number : (a b : ℕ) → a ≡ b → not (a == b) ≡ false
same_number a b h = grind (arith, nat_tests)

-- an IPv4 header that passes all tests
pub v4_read : (packet : List ℕ) (len fragment : ℕ) (transport : List ℕ) → 0 < length packet → slice_index packet 0 / 16 ≡ 4 → 20 ≤ v4_size packet
    → v4_size packet ≤ length packet → len ≡ number_at 2 packet 2 → v4_size packet ≤ len
    → fragment ≡ v4_fragment (number_at 2 packet 6) → transport ≡ v4_transport packet
    → Ok (viewed V4 packet len (Some (slice_index packet 9)) fragment transport) ≡ v4_view packet
v4_read packet len fragment transport some version low held e counted f t =
    let total : v4_size packet ≤ number_at 2 packet 2 = subst (λ (n : ℕ). v4_size packet ≤ n) e counted in
    (λ i. Ok (viewed V4 packet (e i) (Some (slice_index packet 9)) (f i) (t i)))
    ∙ sym (λ i. if not_zero (length packet) some i then Err Short
    else (if same_number (slice_index packet 0 / 16) 4 version i then Err Version
    else (if le-ltb (v4_size packet) 20 low i then Err Header
    else (if le-ltb (length packet) (v4_size packet) held i then Err Short
    else (if le-ltb (number_at 2 packet 2) (v4_size packet) total i then Err Length
    else Ok (viewed V4 packet (number_at 2 packet 2) (Some (slice_index packet 9)) (v4_fragment (number_at 2 packet 6)) (v4_transport packet)))))))

-- an IPv6 header that passes all tests
pub v6_read : (packet : List ℕ) (len : ℕ) (protocol : Option ℕ) (fragment : ℕ) (transport : List ℕ) → 0 < length packet
    → slice_index packet 0 / 16 ≡ 6 → 40 ≤ length packet
    → ((number_at 2 packet 4 == 0) && (slice_index packet 6 == 0)) ≡ false → len ≡ v6_length packet → protocol ≡ protocol_at (v6_chain packet).1
    → fragment ≡ v6_fragment (last_field 0 (v6_chain packet).0) → transport ≡ drop 1 (v6_chain packet).1
    → Ok (viewed V6 packet len protocol fragment transport) ≡ v6_view packet
v6_read packet len protocol fragment transport some version held small e p f t =
    (λ i. Ok (viewed V6 packet (e i) (p i) (f i) (t i)))
    ∙ sym (λ i. if not_zero (length packet) some i then Err Short
    else (if same_number (slice_index packet 0 / 16) 6 version i then Err Version
    else (if le-ltb (length packet) 40 held i then Err Short
    else (if small i then Err Length
    else Ok (viewed V6 packet (v6_length packet) (protocol_at (v6_chain packet).1) (v6_fragment (last_field 0 (v6_chain packet).0))
    (drop 1 (v6_chain packet).1))))))
