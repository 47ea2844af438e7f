use Rattle.cmd_gen.proofs.Words.{◌≡◌, ◌∙◌, ◌+◌, ap, sym, subst, arith, is_dropped, is_passed, behind_pair, behind_pairs, pair_behind, packet_of}
use Rattle.cmd_gen.proofs.Words.{HasRoom}
use Rattle.cmd_gen.proofs.Generating.{counted_after, counted_none, few_more, packet_is, packet_state}
use Rattle.fs_base.specs.declared.link.Link.TheVariants.{Raw}
use Rattle.fs_packet.specs.Reading.{view_of}
use Rattle.cmd_gen.proofs.command.count_packets.Goals as goal

pub packets-init : goal.packets-init
packets-init c = record {
  draws = let same : c.args.count ≡ c.args.count + 0 = omega arith in c.requires.seed ∙ ap (behind_pairs c.args.count) same;
  room = c.requires.room;
  passed = λ admitted stands. counted_none (λ octets. is_passed admitted (view_of Raw octets)) c.args.count;
  dropped = λ admitted stands. counted_none (λ octets. is_dropped admitted (view_of Raw octets)) c.args.count;
  passed_few = omega arith;
  dropped_few = omega arith;
}

pub packets-preserved : goal.packets-preserved
packets-preserved c =
    let some = c.requires.sound in
    record {
      draws = c.pair.ensures.state ∙ ap behind_pair c.packets.invariant.draws ∙ sym (packet_state c.args.count c.packets.counter);
      room = subst (HasRoom c.args.rules.now) (sym c.with-tally.ensures.room) c.packets.invariant.room;
      passed = λ admitted stands.
          counted_after (λ octets. is_passed admitted (view_of Raw octets)) c.args.count c.packets.counter _ _ _ drawn
          (c.packets.invariant.passed admitted stands) (c.with-tally.ensures.passed admitted stands);
      dropped = λ admitted stands.
          counted_after (λ octets. is_dropped admitted (view_of Raw octets)) c.args.count c.packets.counter _ _ _ drawn
          (c.packets.invariant.dropped admitted stands) (c.with-tally.ensures.dropped admitted stands);
      passed_few = few_more _ _ _ _ c.packets.invariant.passed_few (c.with-tally.ensures.passed some.0 some.1);
      dropped_few = few_more _ _ _ _ c.packets.invariant.dropped_few (c.with-tally.ensures.dropped some.0 some.1);
    }
  where
    drawn : c.packet-packet.result ≡ packet_of (pair_behind c.args.count (c.args.count + c.packets.counter))
    drawn = packet_is c.pair.result c.packet-packet.result c.packets.draws.state c.args.count c.packets.counter c.packet-packet.ensures
        c.pair.ensures.pair c.packets.invariant.draws
