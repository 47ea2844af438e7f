use Rattle.fs_packet.proofs.Words.{[], Ok, slice_index, ap, ◌∙◌, arith, if◌then◌else◌, V4, protocol_of, viewed, Upper, held_from, v4_fragment}
use Rattle.fs_packet.proofs.Words.{v4_size, v4_starts}
use Rattle.fs_packet.proofs.{Headers.{v4_read}, Uppers.{number_kept}}
use Rattle.fs_packet.proofs.reading.v4_view.Goals as goal

pub returns : goal.returns
returns c =
    let kept = ap (λ (upper : Upper). protocol_of upper (slice_index c.args.packet.now 9)) c.upper_of.ensures
    ∙ number_kept V4 (slice_index c.args.packet.now 9) in
    (λ i. Ok (viewed V4 c.args.packet.now c.into.result (kept i) c.v4_fragment.result c.v4_transport.result.now))
    ∙ v4_read c.args.packet.now c.into.result c.v4_fragment.result c.v4_transport.result.now (omega arith) c.if-first-ne4.false c.if-size-lt20.false
    c.if-packet-size.false
    (c.into.ensures ∙ c.number_at-length.ensures) (rw c.into.ensures c.if-length-size.false) (c.v4_fragment.ensures.value
    ∙ ap v4_fragment c.number_at-field.ensures)
    (c.v4_transport.ensures ∙ (λ i. if v4_starts (c.number_at-field.ensures i)
    then held_from (v4_size c.args.packet.now) (c.number_at-length.ensures i) c.args.packet.now else []))
