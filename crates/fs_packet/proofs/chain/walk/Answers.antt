use Rattle.fs_packet.proofs.{Words.{ap, sym, ◌∙◌, drop, protocol_at}, Walks.{walked, walking_more}}
use Rattle.fs_packet.proofs.chain.walk.Goals as goal

pub loop-header-preserved : goal.loop-header-preserved
loop-header-preserved c =
    rw c.unwrap_or-field.ensures (walking_more c.args.number c.args.octets.now c.loop-header.next c.loop-header.rest.now c.loop-header.field
    c.in-Some.header.field c.in-Some.header.next c.in-Some.header.behind.now (sym c.in-Some.ensures.header) c.loop-header.invariant)

pub returns-clause-protocol : goal.returns-clause-protocol
returns-clause-protocol c =
    let end = walked c.args.number c.args.octets.now c.loop-header.next c.loop-header.rest.now c.loop-header.field
    (sym c.in_default.ensures.header) c.loop-header.invariant in
    c.protocol.ensures ∙ ap protocol_at end.0

pub returns-clause-field : goal.returns-clause-field
returns-clause-field c =
    (walked c.args.number c.args.octets.now c.loop-header.next c.loop-header.rest.now c.loop-header.field
    (sym c.in_default.ensures.header) c.loop-header.invariant).1

pub returns-clause-behind : goal.returns-clause-behind
returns-clause-behind c =
    let end = walked c.args.number c.args.octets.now c.loop-header.next c.loop-header.rest.now c.loop-header.field
    (sym c.in_default.ensures.header) c.loop-header.invariant in
    ap (drop 1) end.0
