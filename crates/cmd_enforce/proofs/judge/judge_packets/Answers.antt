use Rattle.cmd_enforce.proofs.Words.{◌≡◌, ◌∙◌, ◌∷◌, inl, inr, ap, refl, sym, arith, rules, le_trans, with_part, coming, packet_from, until, status_of}
use Rattle.cmd_enforce.proofs.Words.{answered_err, match_err, rose_earlier, IsOfPackets, admitted_rules, judging}
use Rattle.cmd_enforce.proofs.AtMoments.{breaks_wider, capture_apart, followed_done, followed_first, followed_more, followed_stopped}
use Rattle.cmd_enforce.proofs.AtMoments.{followed_unplayed, followed_wanting, leaves_as, never_due, number_fits, rose_back, six_of, stands_at}
use Rattle.cmd_enforce.proofs.judge.judge_packets.Goals as goal

pub changes-init : goal.changes-init
changes-init g c = record {
  reads = c.requires.reads;
  number = omega (arith, c.requires.first);
  tape = c.requires.tape;
  ends = c.requires.ends;
  config = refl;
  compiled = c.requires.compiled;
  still = λ none. (refl, refl, refl, refl, none);
  files_later = omega arith;
  sink_later = omega arith;
  opened = refl;
  judged = λ told items s. (s, followed_first _ c.args.following.now.player.desk.held c.args.lines.now.number c.requires.first);
}

pub changes-preserved : goal.changes-preserved
changes-preserved g c =
    let found = rw c.in-Some.is at c.in_ok-caught.ensures.found in
    record {
      reads = record {
        room = search rules;
        slot = c.in_ok-caught.ensures.slot ∙ c.changes.invariant.reads.slot;
        unended = found.0;
        within = found.2;
        fits = omega (arith, c.in_ok-caught.ensures.limit, c.changes.invariant.reads.fits);
      };
      number = omega (arith, found.3, c.in_ok-judge_packet.ensures.number);
      tape = c.in_ok-follow.ensures.slot ∙ c.changes.invariant.tape;
      ends = c.in_ok-follow.ensures.ends c.changes.invariant.ends;
      config = c.in_ok-follow.ensures.config ∙ c.changes.invariant.config;
      compiled = c.in_ok-follow.ensures.compiled;
      still = λ none. never_due c.changes.following.player.ahead c.changes.following.player.tape.moment c.in-Some.caught.moment
          (c.changes.invariant.still none).4 found.6;
      files_later = omega (arith, c.changes.invariant.files_later, c.in_ok-caught.ensures.files_later, c.in_ok-follow.ensures.later);
      sink_later = omega (arith, c.changes.invariant.sink_later, c.in_ok-caught.ensures.sink_later, c.in_ok-judge_packet.ensures.later);
      opened = c.in_ok-follow.ensures.opened ∙ c.in_ok-caught.ensures.opened ∙ c.changes.invariant.opened;
      judged = λ told items s.
          let player = c.changes.following.player in
          let caught = c.in-Some.caught in
          let packet = packet_from caught c.judge_on.new.buffer in
          let stays = (c.in_ok-follow.ensures.others told).others 2 (capture_apart player.tape.slot c.changes.invariant.tape) in
          let work = judging c.args.following.now.player.desk.config items (coming c.args.capture.now (g.F.Files.left c.args.files.now 2))
          (g.S.Sink.written c.args.sink.now) c.args.lines.now.output in
          let before = c.changes.invariant.judged told items s in
          let on = rw c.in-Some.is at (c.in_ok-caught.ensures.judged told work (sym c.changes.invariant.config) before.0 before.1) in
          let played = c.in_ok-follow.ensures.played told items
          (stands_at items c.judge_on.new.capture.moment caught.moment player (g.F.Files.left c.judge_on.new.files) 1 player.tape.slot found.5
          (sym c.changes.invariant.tape) on.0) in (
            stands_at items caught.moment c.judge_on.new.capture.moment c.follow.new.self.player (g.F.Files.left c.follow.new.files) player.tape.slot
                1 (sym found.5) c.changes.invariant.tape played.0,
            followed_more c.same_routes.ensures _ packet c.follow.new.self.player.desk.held on.1
                (ap (λ octets. with_part packet (coming c.judge_on.new.capture octets)) (sym stays))
                (leaves_as _ _ (until caught.moment items) c.follow.new.self.player.desk.held (sym c.changes.invariant.config) played.1)
                (c.in_ok-judge_packet.ensures.sends (admitted_rules c.follow.new.self.player.desk.held) c.in_ok-follow.ensures.compiled.stands).ok
                c.in_ok-judge_packet.ensures.number,
          );
    }

pub judge_packet-requires-clause-fits : goal.judge_packet-requires-clause-fits
judge_packet-requires-clause-fits g c =
    let found = rw c.in-Some.is at c.in_ok-caught.ensures.found in
    number_fits _ _ _ _ found.3 found.2 c.in_ok-caught.ensures.limit c.changes.invariant.reads.fits

pub returns-in_err-caught-clause-possible : goal.returns-in_err-caught-clause-possible
returns-in_err-caught-clause-possible g c =
    let p = c.in_err-caught.ensures.possible in
    answered_err IsOfPackets c.from_residual.result c.in_err-caught.field-0.0 c.from_residual.ensures.1 (p.0, p.2, p.3)

pub returns-in_err-caught-clause-ends : goal.returns-in_err-caught-clause-ends
returns-in_err-caught-clause-ends g c =
    match_err _ _ c.from_residual.result c.from_residual.ensures.1
    (λ refusal same four. absurd (c.in_err-caught.ensures.possible.1 (sym (ap status_of same) ∙ four)))

pub returns-in_err-caught-clause-early : goal.returns-in_err-caught-clause-early
returns-in_err-caught-clause-early g c = λ none six.
    let same = c.changes.invariant.still none in
    let kept = c.in_err-caught.ensures.early (six_of c.from_residual.result c.in_err-caught.field-0.0 c.from_residual.ensures.1 six) in
    (kept.0 ∙ same.0, kept.1 ∙ same.1, kept.2 ∙ same.2, kept.3 ∙ same.3)

pub returns-in_err-caught-clause-judged : goal.returns-in_err-caught-clause-judged
returns-in_err-caught-clause-judged g c = λ told items s.
    let work = judging c.args.following.now.player.desk.config items (coming c.args.capture.now (g.F.Files.left c.args.files.now 2))
    (g.S.Sink.written c.args.sink.now) c.args.lines.now.output in
    let before = c.changes.invariant.judged told items s in
    let failed = rose_back _ _ _ _ _ _ c.changes.invariant.files_later c.changes.invariant.sink_later in
    match_err _ _ c.from_residual.result c.from_residual.ensures.1 (λ refusal same.
    rw same (breaks_wider _ _ _ _ _ failed (c.in_err-caught.ensures.judged told work (sym c.changes.invariant.config) before.0 before.1)))

pub returns-in_err-follow-clause-possible : goal.returns-in_err-follow-clause-possible
returns-in_err-follow-clause-possible g c =
    let p = c.in_err-follow.ensures.possible in
    answered_err IsOfPackets c.from_residual-in_err-follow.result c.in_err-follow.field-0.0 c.from_residual-in_err-follow.ensures.1 (p.0, p.2, p.3)

pub returns-in_err-follow-clause-ends : goal.returns-in_err-follow-clause-ends
returns-in_err-follow-clause-ends g c =
    match_err _ _ c.from_residual-in_err-follow.result c.from_residual-in_err-follow.ensures.1
    (λ refusal same four. rw same (c.in_err-follow.ensures.ends c.changes.invariant.ends))

pub returns-in_err-follow-clause-early : goal.returns-in_err-follow-clause-early
returns-in_err-follow-clause-early g c = λ none six. never_due _ _ _ (c.changes.invariant.still none).4 (rw c.in-Some.is at c.in_ok-caught.ensures.found).6

pub returns-in_err-follow-clause-judged : goal.returns-in_err-follow-clause-judged
returns-in_err-follow-clause-judged g c = λ told items s.
    let work = judging c.args.following.now.player.desk.config items (coming c.args.capture.now (g.F.Files.left c.args.files.now 2))
    (g.S.Sink.written c.args.sink.now) c.args.lines.now.output in
    let player = c.changes.following.player in
    let found = rw c.in-Some.is at c.in_ok-caught.ensures.found in
    let before = c.changes.invariant.judged told items s in
    let on = rw c.in-Some.is at (c.in_ok-caught.ensures.judged told work (sym c.changes.invariant.config) before.0 before.1) in
    let played = c.in_err-follow.ensures.played told items
    (stands_at items c.judge_on.new.capture.moment c.in-Some.caught.moment player (g.F.Files.left c.judge_on.new.files) 1 player.tape.slot found.5
    (sym c.changes.invariant.tape) on.0) in
    let same_octets = (c.in_err-follow.ensures.others told).others 2 (capture_apart player.tape.slot c.changes.invariant.tape) in
    match_err _ _ c.from_residual-in_err-follow.result c.from_residual-in_err-follow.ensures.1 (λ refusal same.
    rw same (followed_unplayed _ _ _ _ _ c.in_err-follow.field-0.0 on.1
    (inr (
      packet_from c.in-Some.caught c.judge_on.new.buffer,
      ap (λ octets. packet_from c.in-Some.caught c.judge_on.new.buffer ∷ (coming c.judge_on.new.capture octets).0) (sym same_octets),
    ))
    (le_trans c.changes.invariant.files_later c.in_ok-caught.ensures.files_later) played))

pub returns-in_err-walked-clause-ends : goal.returns-in_err-walked-clause-ends
returns-in_err-walked-clause-ends g c =
    match_err _ _ c.from_residual-in_err-walked.result c.from_residual-in_err-walked.ensures.1 (λ refusal same four. inl same)

pub returns-in_err-walked-clause-early : goal.returns-in_err-walked-clause-early
returns-in_err-walked-clause-early g c = λ none six. never_due _ _ _ (c.changes.invariant.still none).4 (rw c.in-Some.is at c.in_ok-caught.ensures.found).6

pub returns-in_err-walked-clause-judged : goal.returns-in_err-walked-clause-judged
returns-in_err-walked-clause-judged g c = λ told items s.
    let work = judging c.args.following.now.player.desk.config items (coming c.args.capture.now (g.F.Files.left c.args.files.now 2))
    (g.S.Sink.written c.args.sink.now) c.args.lines.now.output in
    let before = c.changes.invariant.judged told items s in
    let on = rw c.in-Some.is at (c.in_ok-caught.ensures.judged told work (sym c.changes.invariant.config) before.0 before.1) in
    let same_octets = (c.in_ok-follow.ensures.others told).others 2 (capture_apart c.changes.following.player.tape.slot c.changes.invariant.tape) in
    match_err _ _ c.from_residual-in_err-walked.result c.from_residual-in_err-walked.ensures.1 (λ refusal same.
    rw same (followed_wanting _ _ on.1
    (inr (
      packet_from c.in-Some.caught c.judge_on.new.buffer,
      ap (λ octets. packet_from c.in-Some.caught c.judge_on.new.buffer ∷ (coming c.judge_on.new.capture octets).0) (sym same_octets),
    ))))

pub returns-in_err-judge_packet-clause-ends : goal.returns-in_err-judge_packet-clause-ends
returns-in_err-judge_packet-clause-ends g c =
    match_err _ _ c.from_residual-in_err-judge_packet.result c.from_residual-in_err-judge_packet.ensures.1
    (λ refusal same four. let one : 1 ≡ 4 = sym (ap status_of same) ∙ four in absurd cc)

pub returns-in_err-judge_packet-clause-judged : goal.returns-in_err-judge_packet-clause-judged
returns-in_err-judge_packet-clause-judged g c = λ told items s.
    let work = judging c.args.following.now.player.desk.config items (coming c.args.capture.now (g.F.Files.left c.args.files.now 2))
    (g.S.Sink.written c.args.sink.now) c.args.lines.now.output in
    let player = c.changes.following.player in
    let caught = c.in-Some.caught in
    let packet = packet_from caught c.judge_on.new.buffer in
    let stays = (c.in_ok-follow.ensures.others told).others 2 (capture_apart player.tape.slot c.changes.invariant.tape) in
    let found = rw c.in-Some.is at c.in_ok-caught.ensures.found in
    let before = c.changes.invariant.judged told items s in
    let on = rw c.in-Some.is at (c.in_ok-caught.ensures.judged told work (sym c.changes.invariant.config) before.0 before.1) in
    let played = c.in_ok-follow.ensures.played told items
    (stands_at items c.judge_on.new.capture.moment caught.moment player (g.F.Files.left c.judge_on.new.files) 1 player.tape.slot found.5
    (sym c.changes.invariant.tape) on.0) in
    let sent = c.in_err-judge_packet.ensures.sends (admitted_rules c.follow.new.self.player.desk.held) c.in_ok-follow.ensures.compiled.stands in
    match_err _ _ c.from_residual-in_err-judge_packet.result c.from_residual-in_err-judge_packet.ensures.1 (λ refusal same.
    rw same (followed_stopped c.same_routes.ensures _ _ _ packet c.follow.new.self.player.desk.held _ _ _ on.1
    (ap (λ octets. with_part packet (coming c.judge_on.new.capture octets)) (sym stays))
    (leaves_as _ _ (until caught.moment items) c.follow.new.self.player.desk.held (sym c.changes.invariant.config) played.1)
    sent.err.0 (rose_earlier _ _ _ (le_trans c.changes.invariant.sink_later c.in_ok-caught.ensures.sink_later) sent.err.1)))

pub returns-clause-judged : goal.returns-clause-judged
returns-clause-judged g c = λ told items s.
    let work = judging c.args.following.now.player.desk.config items (coming c.args.capture.now (g.F.Files.left c.args.files.now 2))
    (g.S.Sink.written c.args.sink.now) c.args.lines.now.output in
    let before = c.changes.invariant.judged told items s in
    let on = rw c.in_default.is at (c.in_ok-caught.ensures.judged told work (sym c.changes.invariant.config) before.0 before.1) in
    followed_done on.1 refl
