use Rattle.cmd_enforce.proofs.Words.{◌≡◌, ◌∙◌, inl, ℕ, le_trans, refl, subst, sym, arith, rules, [], done, coming, packet_from, Rose, until, Stands}
use Rattle.cmd_enforce.proofs.Words.{Ceases, IsOfCapture, admitted_rules, HasRoom, answered_err, match_err, rose_earlier}
use Rattle.cmd_enforce.proofs.AtMoments.{awaits, followed_ceased, followed_held, followed_left, followed_more, followed_read, followed_stopped}
use Rattle.cmd_enforce.proofs.AtMoments.{followed_wanting, leaves_as, number_fits, packet_wants_none, read_on}
use Rattle.cmd_enforce.proofs.judge.judge_on.Goals as goal

pub returns-in_err-walked-clause-judged : goal.returns-in_err-walked-clause-judged
returns-in_err-walked-clause-judged g c = λ told work same_config s f.
    match_err _ _ c.from_residual.result c.from_residual.ensures.1 (λ refusal same. rw same (followed_wanting _ _ f (inl refl)))

pub packets-init : goal.packets-init
packets-init g c = record {
  reads = c.requires.reads;
  limit = refl;
  start = omega arith;
  number = c.requires.number;
  walks = λ lists stands family. omega (arith, c.most.ensures.most lists stands family, c.in_ok-walked.ensures.capacity);
  files_later = omega arith;
  sink_later = omega arith;
  opened = refl;
  judged = λ told work s f same_config. (s, f);
}

pub packets-preserved : goal.packets-preserved
packets-preserved g c =
    let grows = rw c.in-Some.is at c.in_ok-caught.ensures.grows in
    let times = rw c.in-Some.is at c.in_ok-caught.ensures.times in
    record {
      reads = record {
        room = search rules;
        slot = c.in_ok-caught.ensures.slot ∙ c.packets.invariant.reads.slot;
        unended = rw c.in-Some.is at c.in_ok-caught.ensures.open;
        within = grows.1;
        fits = omega (arith, c.in_ok-caught.ensures.limit, c.packets.invariant.reads.fits);
      };
      limit = c.in_ok-caught.ensures.limit ∙ c.packets.invariant.limit;
      start = omega (arith, c.packets.invariant.start, grows.0);
      number = omega (arith, c.packets.invariant.number, grows.0, c.in_ok-leave.ensures.number, c.in_ok-judge_packet.ensures.number);
      walks = subst (HasRoom c.args.following.now.rules) (sym c.in_ok-judge_packet.ensures.room) c.packets.invariant.walks;
      files_later = omega (arith, c.packets.invariant.files_later, c.in_ok-caught.ensures.later);
      sink_later = omega (arith, c.packets.invariant.sink_later, c.in_ok-leave.ensures.later, c.in_ok-judge_packet.ensures.later);
      opened = c.in_ok-caught.ensures.opened ∙ c.packets.invariant.opened;
      judged = λ told work s f same_config.
          let player = c.args.following.now.player in
          let packet = packet_from c.in-Some.caught c.next_packet.new.buffer in
          let left = g.F.Files.left c.packets.files in
          let behind = g.F.Files.left c.next_packet.new.files in
          let before = c.packets.invariant.judged told work s f same_config in
          let waits = awaits work.items player c.packets.capture.moment c.next_packet.new.capture.moment c.packets.capture.slot 1 left behind
          c.packets.invariant.reads.slot refl (c.in_ok-caught.ensures.others told).others times.1 before.0 in
          let later = subst (λ (n : ℕ). Stands work.items n player (behind 1)) times.0 waits in (
            waits,
            followed_more c.same_routes.ensures _ packet player.desk.held
                (followed_left (g.S.Sink.written c.leave.new.sink) c.leave.new.self.output c.leave.new.self.number before.1
                c.in_ok-leave.ensures.sends.ok c.in_ok-leave.ensures.number)
                (read_on c.packets.capture c.next_packet.new.capture packet c.packets.capture.slot left behind c.packets.invariant.reads.slot
                (rw c.in-Some.is at (c.in_ok-caught.ensures.gives told)))
                (leaves_as _ _ (until c.in-Some.caught.moment work.items) player.desk.held same_config
                (c.is_due.ensures.still c.if-is_due.false work.items (behind 1) later))
                (c.in_ok-judge_packet.ensures.sends (admitted_rules player.desk.held) c.requires.stands).ok c.in_ok-judge_packet.ensures.number,
          );
    }

pub judge_packet-requires-clause-fits : goal.judge_packet-requires-clause-fits
judge_packet-requires-clause-fits g c =
    let grows = rw c.in-Some.is at c.in_ok-caught.ensures.grows in
    number_fits c.leave.new.self.number c.next_packet.new.capture.place c.next_packet.new.capture.limit c.args.capture.now.limit
    (omega (arith, c.packets.invariant.number, c.in_ok-leave.ensures.number, grows.0)) grows.1 (c.in_ok-caught.ensures.limit
    ∙ c.packets.invariant.limit) c.requires.reads.fits

pub returns-in_err-caught-clause-possible : goal.returns-in_err-caught-clause-possible
returns-in_err-caught-clause-possible g c =
    answered_err IsOfCapture c.from_residual-in_err-caught.result c.in_err-caught.field-0.0 c.from_residual-in_err-caught.ensures.1
    c.in_err-caught.ensures.possible.0

pub returns-in_err-caught-clause-early : goal.returns-in_err-caught-clause-early
returns-in_err-caught-clause-early g c =
    packet_wants_none c.from_residual-in_err-caught.result c.in_err-caught.field-0.0 c.from_residual-in_err-caught.ensures.1
    c.in_err-caught.ensures.possible

pub returns-in_err-caught-clause-judged : goal.returns-in_err-caught-clause-judged
returns-in_err-caught-clause-judged g c = λ told work same_config s f.
    let failed = Rose (g.F.Files.faults c.packets.files) (g.F.Files.faults c.next_packet.new.files) in
    match_err _ _ c.from_residual-in_err-caught.result c.from_residual-in_err-caught.ensures.1 (λ refusal same.
    rw same (followed_ceased _ _ _ _ _ c.in_err-caught.field-0.0
    (followed_left (g.S.Sink.written c.leave.new.sink) c.leave.new.self.output c.leave.new.self.number
    (c.packets.invariant.judged told work s f same_config).1 c.in_ok-leave.ensures.sends.ok c.in_ok-leave.ensures.number)
    c.packets.invariant.files_later
    (subst (λ (n : ℕ). Ceases (coming c.packets.capture (g.F.Files.left c.packets.files n)) failed c.in_err-caught.field-0.0)
    c.packets.invariant.reads.slot (c.in_err-caught.ensures.gives told))))

pub returns-then-is_due-clause-found : goal.returns-then-is_due-clause-found
returns-then-is_due-clause-found g c =
    let grows = rw c.in-Some.is at c.in_ok-caught.ensures.grows in
    let times = rw c.in-Some.is at c.in_ok-caught.ensures.times in (
      rw c.in-Some.is at c.in_ok-caught.ensures.open,
      omega (arith, c.packets.invariant.start, grows.0),
      grows.1,
      omega (arith, c.packets.invariant.number, c.in_ok-leave.ensures.number, grows.0),
      grows.2,
      times.0,
      sym c.is_due.ensures.due ∙ c.if-is_due.true,
    )

pub returns-then-is_due-clause-judged : goal.returns-then-is_due-clause-judged
returns-then-is_due-clause-judged g c = λ told work same_config s f.
    let packet = packet_from c.in-Some.caught c.next_packet.new.buffer in
    let left = g.F.Files.left c.packets.files in
    let behind = g.F.Files.left c.next_packet.new.files in
    let before = c.packets.invariant.judged told work s f same_config in
    let times = rw c.in-Some.is at c.in_ok-caught.ensures.times in (
      awaits work.items c.args.following.now.player c.packets.capture.moment c.next_packet.new.capture.moment c.packets.capture.slot 1 left behind
          c.packets.invariant.reads.slot refl (c.in_ok-caught.ensures.others told).others times.1 before.0,
      followed_read _
          (read_on c.packets.capture c.next_packet.new.capture packet c.packets.capture.slot left behind c.packets.invariant.reads.slot
          (rw c.in-Some.is at (c.in_ok-caught.ensures.gives told)))
          (followed_left (g.S.Sink.written c.leave.new.sink) c.leave.new.self.output c.leave.new.self.number before.1 c.in_ok-leave.ensures.sends.ok
          c.in_ok-leave.ensures.number),
    )

pub returns-in_err-judge_packet-clause-judged : goal.returns-in_err-judge_packet-clause-judged
returns-in_err-judge_packet-clause-judged g c = λ told work same_config s f.
    let player = c.args.following.now.player in
    let packet = packet_from c.in-Some.caught c.next_packet.new.buffer in
    let left = g.F.Files.left c.packets.files in
    let behind = g.F.Files.left c.next_packet.new.files in
    let before = c.packets.invariant.judged told work s f same_config in
    let times = rw c.in-Some.is at c.in_ok-caught.ensures.times in
    let waits = awaits work.items player c.packets.capture.moment c.next_packet.new.capture.moment c.packets.capture.slot 1 left behind
    c.packets.invariant.reads.slot refl (c.in_ok-caught.ensures.others told).others times.1 before.0 in
    let later = subst (λ (n : ℕ). Stands work.items n player (behind 1)) times.0 waits in
    let sent = c.in_err-judge_packet.ensures.sends (admitted_rules player.desk.held) c.requires.stands in
    match_err _ _ c.from_residual-in_err-judge_packet.result c.from_residual-in_err-judge_packet.ensures.1 (λ refusal same.
    rw same (followed_stopped c.same_routes.ensures _ _ _ packet player.desk.held _ _ _
    (followed_left (g.S.Sink.written c.leave.new.sink) c.leave.new.self.output c.leave.new.self.number before.1 c.in_ok-leave.ensures.sends.ok
    c.in_ok-leave.ensures.number)
    (read_on c.packets.capture c.next_packet.new.capture packet c.packets.capture.slot left behind c.packets.invariant.reads.slot
    (rw c.in-Some.is at (c.in_ok-caught.ensures.gives told)))
    (leaves_as _ _ (until c.in-Some.caught.moment work.items) player.desk.held same_config
    (c.is_due.ensures.still c.if-is_due.false work.items (behind 1) later))
    sent.err.0 (rose_earlier _ _ _ (le_trans c.packets.invariant.sink_later c.in_ok-leave.ensures.later) sent.err.1)))

pub returns-in_default-clause-judged : goal.returns-in_default-clause-judged
returns-in_default-clause-judged g c = λ told work same_config s f. (
  tt,
  followed_read _
      (subst (λ (n : ℕ). coming c.packets.capture (g.F.Files.left c.packets.files n) ≡ ([], done)) c.packets.invariant.reads.slot
      (rw c.in_default.is at (c.in_ok-caught.ensures.gives told)))
      (followed_left (g.S.Sink.written c.leave.new.sink) c.leave.new.self.output c.leave.new.self.number
      (c.packets.invariant.judged told work s f same_config).1 c.in_ok-leave.ensures.sends.ok c.in_ok-leave.ensures.number),
)

pub returns-in_err-leave-clause-judged : goal.returns-in_err-leave-clause-judged
returns-in_err-leave-clause-judged g c = λ told work same_config s f.
    match_err _ _ c.from_residual-in_err-leave.result c.from_residual-in_err-leave.ensures.1 (λ refusal same.
    rw same (followed_held _ _ _ _ _ _ _ (c.packets.invariant.judged told work s f same_config).1
    c.in_err-leave.ensures.sends.err.0 c.packets.invariant.sink_later c.in_err-leave.ensures.sends.err.1))
