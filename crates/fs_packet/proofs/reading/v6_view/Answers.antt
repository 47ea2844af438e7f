use Rattle.fs_packet.proofs.Words.{ℕ, List, Option, Ok, ◌+◌, ◌==◌, ◌&&◌, slice_index, drop, ap, sym, ◌∙◌, arith, V6, protocol_of, viewed, Upper}
use Rattle.fs_packet.proofs.Words.{chain_of, last_field, protocol_at, held_from, v6_fragment}
use Rattle.fs_packet.proofs.{Headers.{v6_read}, Uppers.{protocol_kept}}
use Rattle.fs_packet.proofs.reading.v6_view.Goals as goal

pub returns : goal.returns
returns c =
    let packet = c.args.packet.now in
    let held = c.held_from.ensures ∙ ap (λ (n : ℕ). held_from 40 (40 + n) c.args.packet.now) c.number_at-payload.ensures in
    let chain = ap (λ (octets : List ℕ). chain_of (slice_index c.args.packet.now 6) octets) held in
    let kept = ap (λ (upper : Upper). protocol_of upper c.unwrap_or.result) c.upper_of.ensures
    ∙ protocol_kept V6 c.walk-chain.result.protocol c.unwrap_or.result c.unwrap_or.ensures in
    (λ i. Ok (viewed V6 packet (40 + c.number_at-payload.result) (kept i) c.v6_fragment.result c.walk-chain.result.behind.now))
    ∙ v6_read packet (40 + c.number_at-payload.result) c.walk-chain.result.protocol c.v6_fragment.result c.walk-chain.result.behind.now
    (omega arith) c.if-first-ne6.false c.if-packet-lt40.false
    ((λ i. (sym c.number_at-payload.ensures i == 0) && (slice_index c.args.packet.now 6 == 0)) ∙ sym c.if-is_jumbogram.ensures)
    (ap (λ (n : ℕ). 40 + n) c.number_at-payload.ensures)
    (c.walk-chain.ensures.protocol ∙ ap (λ (found : List (Option ℕ) × List ℕ). protocol_at found.1) chain)
    (c.v6_fragment.ensures.value ∙ ap v6_fragment (c.walk-chain.ensures.field ∙ ap (λ (found : List (Option ℕ) × List ℕ). last_field 0 found.0) chain))
    (c.walk-chain.ensures.behind ∙ ap (λ (found : List (Option ℕ) × List ℕ). drop 1 found.1) chain)
