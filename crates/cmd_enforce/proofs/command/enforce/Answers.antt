use Rattle.cmd_enforce.proofs.Words.{◌≡◌, ◌⊎◌, inl, inr, ◌∙◌, ℕ, List, [], ap, refl, subst, sym, le_trans, IsOpenOrDone, Rose, Grew-refl, Grew-trans}
use Rattle.cmd_enforce.proofs.Words.{Grew, arith, opened_due, openings_of, refused_at, coming, recorded, Found, EnforcesSo, capture_stage, answered_err}
use Rattle.cmd_enforce.proofs.Words.{ends_early, accepted_stage, either_rose, rose_earlier}
use Rattle.cmd_enforce.proofs.Enforcing.{all_to_come, answers_opened, answers_so, config_ends, found_in, is_second, never_tape, none_judged}
use Rattle.cmd_enforce.proofs.Enforcing.{tape_ends, unfinished_so, whole_played, wrote_none, wrote_under}
use Rattle.cmd_enforce.proofs.AtMoments.{packet_no_tape, packet_wants_none, unplayed_no_tape}
use Rattle.cmd_enforce.proofs.command.enforce.Goals as goal

pub returns-in_err-config-clause-enforces : goal.returns-in_err-config-clause-enforces
returns-in_err-config-clause-enforces g c = λ told.
    let words = c.args.names.now in
    config_ends c.args.limit (g.F.Files.holds c.args.files.now) words.config.now words.tape.now words.capture.now _ _ _ c.from_residual.result
    c.in_err-config.field-0.0
    c.from_residual.ensures.1 (c.in_err-config.ensures.reaches told) (λ r. inl r)

pub returns-in_err-whole-clause-enforces : goal.returns-in_err-whole-clause-enforces
returns-in_err-whole-clause-enforces g c = λ told.
    let words = c.args.names.now in
    tape_ends c.args.limit (g.F.Files.holds c.args.files.now) (g.F.Files.holds c.load_config.new.files) words.config.now words.tape.now
    words.capture.now _ _ _ _
    c.from_residual-in_err-whole.result c.in_err-whole.field-0.0 c.from_residual-in_err-whole.ensures.1
    (c.in_ok-config.ensures.reaches told) (c.in_ok-config.ensures.holds told) (c.in_err-whole.ensures.read told)
    (λ r. inl (rose_earlier _ _ _ c.in_ok-config.ensures.later r))

pub returns-in_err-capture-clause-enforces : goal.returns-in_err-capture-clause-enforces
returns-in_err-capture-clause-enforces g c = λ told.
    let words = c.args.names.now in
    let w = c.in_ok-whole.ensures.read told in
    let files = (Rose (g.F.Files.faults c.args.files.now) (g.F.Files.faults c.open_capture.new.files)) in
    let sink = (Rose (g.S.Sink.faults c.args.sink.now) (g.S.Sink.faults c.args.sink.now)) in
    let written = g.S.Sink.written c.args.sink.now in
    answered_err (EnforcesSo c.args.limit (g.F.Files.holds c.args.files.now) words.config.now words.tape.now words.capture.now (files ⊎ sink) written written)
    c.from_residual-in_err-capture.result c.in_err-capture.field-0.0 c.from_residual-in_err-capture.ensures.1
    (answers_so c.args.limit (g.F.Files.holds c.args.files.now) (g.F.Files.holds c.read_whole.new.files) words.config.now words.tape.now
    words.capture.now _ _ _ _
    (c.in_ok-config.ensures.reaches told) (c.in_ok-config.ensures.holds told) (c.in_ok-whole.ensures.others told).names w
    (none_judged _ _ _ _ _ _ c.in_err-capture.field-0.0 (c.in_err-capture.ensures.opened told)
    (λ r. inl (rose_earlier _ _ _ (le_trans c.in_ok-config.ensures.later c.in_ok-whole.ensures.later) r))))

pub judge_capture-requires-clause-tape : goal.judge_capture-requires-clause-tape
judge_capture-requires-clause-tape g c = (rw c.in-Some.is at c.in_ok-whole.ensures.ended).slot_is

pub judge_capture-requires-clause-ends : goal.judge_capture-requires-clause-ends
judge_capture-requires-clause-ends g c =
    let ended = rw c.in-Some.is at c.in_ok-whole.ensures.ended in
    subst (IsOpenOrDone c.in-Some.player.tape) (sym ended.none_ahead) ended.done_is

pub returns-in-Some-clause-enforces : goal.returns-in-Some-clause-enforces
returns-in-Some-clause-enforces g c = λ told.
    let words = c.args.names.now in
    let w = c.in_ok-whole.ensures.read told in
    answers_so c.args.limit (g.F.Files.holds c.args.files.now) (g.F.Files.holds c.read_whole.new.files) words.config.now words.tape.now
    words.capture.now _ _ _ _
    (c.in_ok-config.ensures.reaches told) (c.in_ok-config.ensures.holds told) (c.in_ok-whole.ensures.others told).names w
    (answers_opened (c.in_ok-capture.ensures.opened told) (rw c.in-Some.is at c.in_ok-whole.ensures.ended).config_is
    (c.judge_capture.ensures.judges told w.items
    (whole_played w c.in-Some.is (g.F.Files.left c.open_capture.new.files 1)))
    (either_rose _ _ _ _ (le_trans (le_trans c.in_ok-config.ensures.later c.in_ok-whole.ensures.later) c.in_ok-capture.ensures.later)))

pub returns-in-Some-clause-still : goal.returns-in-Some-clause-still
returns-in-Some-clause-still g c = λ told four.
    let w = c.in_ok-whole.ensures.read told in
    never_tape _ w.items (recorded (coming c.in_ok-capture.capture (g.F.Files.left c.open_capture.new.files 2))) _ _ _ _
    (c.judge_capture.ensures.judges told w.items
    (whole_played w c.in-Some.is (g.F.Files.left c.open_capture.new.files 1))) four

pub returns-in-Some-clause-unwritten : goal.returns-in-Some-clause-unwritten
returns-in-Some-clause-unwritten g c = λ told six none.
    (c.judge_capture.ensures.unwritten (rw c.in-Some.is at c.in_ok-whole.ensures.ended).none_ahead six).0

pub returns-clause-enforces : goal.returns-clause-enforces
returns-clause-enforces g c = λ told.
    let words = c.args.names.now in
    let w = c.in_ok-whole.ensures.read told in
    let holds = (c.in_ok-capture.ensures.others told).names ∙ (c.in_ok-whole.ensures.others told).names in
    let still : g.F.Files.left c.begin.new.files 2 ≡ g.F.Files.left c.open_capture.new.files 2 =
    (c.in_ok-player-in-None.ensures.others told).others 2 (λ same. absurd cc) in
    answers_so c.args.limit (g.F.Files.holds c.args.files.now) (g.F.Files.holds c.read_whole.new.files) words.config.now words.tape.now
    words.capture.now _ _ _ _
    (c.in_ok-config.ensures.reaches told) (c.in_ok-config.ensures.holds told) (c.in_ok-whole.ensures.others told).names w
    (answers_opened (c.in_ok-capture.ensures.opened told
    ∙ ap (λ (octets : List ℕ). Found (recorded (coming c.in_ok-capture.capture octets))) (sym still)) c.in_ok-player-in-None.ensures.config
    (c.judge_capture-in-None.ensures.judges told w.items
    (c.in_ok-player-in-None.ensures.begun told w.items (found_in (sym holds) w) (is_second (sym holds) w c.in-None.is)))
    (either_rose _ _ _ _ (le_trans (le_trans (le_trans c.in_ok-config.ensures.later c.in_ok-whole.ensures.later) c.in_ok-capture.ensures.later)
    c.in_ok-player-in-None.ensures.later)))

pub returns-clause-unwritten : goal.returns-clause-unwritten
returns-clause-unwritten g c = λ told six none.
    absurd (none (is_second (c.in_ok-config.ensures.holds told) (c.in_ok-whole.ensures.read told) c.in-None.is))

pub returns-clause-still : goal.returns-clause-still
returns-clause-still g c = λ told four.
    let w = c.in_ok-whole.ensures.read told in
    let holds = (c.in_ok-capture.ensures.others told).names ∙ (c.in_ok-whole.ensures.others told).names in
    never_tape _ w.items (recorded (coming c.in_ok-capture.capture (g.F.Files.left c.begin.new.files 2))) _ _ _ _
    (c.judge_capture-in-None.ensures.judges told w.items
    (c.in_ok-player-in-None.ensures.begun told w.items
    (found_in (sym holds) w) (is_second (sym holds) w c.in-None.is))) four

pub returns-in_err-config-clause-unopened : goal.returns-in_err-config-clause-unopened
returns-in_err-config-clause-unopened g c = λ told four. record { count = 1; front = c.in_err-config.ensures.opens; few = omega arith }

pub returns-in_err-whole-clause-unopened : goal.returns-in_err-whole-clause-unopened
returns-in_err-whole-clause-unopened g c = λ told four.
    record { count = 2; front = Grew-trans _ _ _ _ _ c.in_ok-config.ensures.opens c.in_err-whole.ensures.opens; few = omega arith }

pub returns-in_err-capture-clause-unopened : goal.returns-in_err-capture-clause-unopened
returns-in_err-capture-clause-unopened g c = λ told four.
    packet_no_tape c.from_residual-in_err-capture.result c.in_err-capture.field-0.0 c.from_residual-in_err-capture.ensures.1
    c.in_err-capture.ensures.possible four

pub returns-in_err-player-in-None-clause-unopened : goal.returns-in_err-player-in-None-clause-unopened
returns-in_err-player-in-None-clause-unopened g c = λ told four.
    let w = c.in_ok-whole.ensures.read told in
    let holds = (c.in_ok-capture.ensures.others told).names ∙ (c.in_ok-whole.ensures.others told).names in
    unplayed_no_tape c.from_residual-in_err-player-in-None.result c.in_err-player-in-None.field-0.0 c.from_residual-in_err-player-in-None.ensures.1
    (c.in_err-player-in-None.ensures.begun told w.items (found_in (sym holds) w) (is_second (sym holds) w c.in-None.is)) four

pub returns-in-Some-clause-unopened : goal.returns-in-Some-clause-unopened
returns-in-Some-clause-unopened g c = λ told four.
    let w = c.in_ok-whole.ensures.read told in
    never_tape _ w.items (recorded (coming c.in_ok-capture.capture (g.F.Files.left c.open_capture.new.files 2))) _ _ _ _
    (c.judge_capture.ensures.judges told w.items
    (whole_played w c.in-Some.is (g.F.Files.left c.open_capture.new.files 1))) four

pub returns-clause-unopened : goal.returns-clause-unopened
returns-clause-unopened g c = λ told four.
    let w = c.in_ok-whole.ensures.read told in
    let holds = (c.in_ok-capture.ensures.others told).names ∙ (c.in_ok-whole.ensures.others told).names in
    never_tape _ w.items (recorded (coming c.in_ok-capture.capture (g.F.Files.left c.begin.new.files 2))) _ _ _ _
    (c.judge_capture-in-None.ensures.judges told w.items
    (c.in_ok-player-in-None.ensures.begun told w.items
    (found_in (sym holds) w) (is_second (sym holds) w c.in-None.is))) four

pub returns-in_err-config-clause-wanting : goal.returns-in_err-config-clause-wanting
returns-in_err-config-clause-wanting g c = λ told six.
    inl (
      record { count = 1; front = c.in_err-config.ensures.opens; few = omega arith },
      (c.in_err-config.ensures.others told).others 2 (λ same. absurd cc),
      Grew-refl (g.S.Sink.written c.args.sink.now),
    )

pub returns-in_err-whole-clause-wanting : goal.returns-in_err-whole-clause-wanting
returns-in_err-whole-clause-wanting g c = λ told six.
    inl (
      record { count = 2; front = Grew-trans _ _ _ _ _ c.in_ok-config.ensures.opens c.in_err-whole.ensures.opens; few = omega arith },
      (c.in_err-whole.ensures.others told).others 2 (λ same. absurd cc) ∙ (c.in_ok-config.ensures.others told).others 2 (λ same. absurd cc),
      Grew-refl (g.S.Sink.written c.args.sink.now),
    )

pub returns-in_err-capture-clause-wanting : goal.returns-in_err-capture-clause-wanting
returns-in_err-capture-clause-wanting g c = λ told six.
    packet_wants_none c.from_residual-in_err-capture.result c.in_err-capture.field-0.0 c.from_residual-in_err-capture.ensures.1
    c.in_err-capture.ensures.possible six

pub returns-in-Some-clause-wanting : goal.returns-in-Some-clause-wanting
returns-in-Some-clause-wanting g c = λ told six.
    let words = c.args.names.now in
    let stage = capture_stage c.args.limit (g.F.Files.holds c.read_whole.new.files) words.capture.now in
    let w = c.in_ok-whole.ensures.read told in
    let kept = c.judge_capture.ensures.unwritten (rw c.in-Some.is at c.in_ok-whole.ensures.ended).none_ahead six in
    let same : g.F.Files.left c.judge_capture.new.files 2 ≡ g.F.Files.left c.open_capture.new.files 2 =
    ap (λ f. g.F.Files.left f 2) kept.1 in
    inr (unfinished_so c.args.limit (g.F.Files.holds c.args.files.now) (g.F.Files.holds c.read_whole.new.files) words.config.now words.tape.now
    words.capture.now _ _ _ c.in_ok-capture.capture
    (c.in_ok-config.ensures.reaches told) (c.in_ok-config.ensures.holds told) (c.in_ok-whole.ensures.others told).names w
    (wrote_none _ _ _ _ _ _ (all_to_come stage c.in_ok-capture.capture _ _ (c.in_ok-capture.ensures.opened told) same)
    (subst (λ s. Grew (g.S.Sink.written c.args.sink.now) (g.S.Sink.written s) []) (sym kept.0) (Grew-refl (g.S.Sink.written c.args.sink.now))))
    (λ first. refl))

pub returns-in_err-player-in-None-clause-wanting : goal.returns-in_err-player-in-None-clause-wanting
returns-in_err-player-in-None-clause-wanting g c = λ told six.
    let words = c.args.names.now in
    let stage = capture_stage c.args.limit (g.F.Files.holds c.read_whole.new.files) words.capture.now in
    let w = c.in_ok-whole.ensures.read told in
    let same : g.F.Files.left c.begin.new.files 2 ≡ g.F.Files.left c.open_capture.new.files 2 =
    (c.in_err-player-in-None.ensures.others told).others 2 (λ same. absurd cc) in
    inr (unfinished_so c.args.limit (g.F.Files.holds c.args.files.now) (g.F.Files.holds c.read_whole.new.files) words.config.now words.tape.now
    words.capture.now _ _ _ c.in_ok-capture.capture
    (c.in_ok-config.ensures.reaches told) (c.in_ok-config.ensures.holds told) (c.in_ok-whole.ensures.others told).names w
    (wrote_none _ _ _ _ _ _ (all_to_come stage c.in_ok-capture.capture _ _ (c.in_ok-capture.ensures.opened told) same)
    (Grew-refl (g.S.Sink.written c.args.sink.now)))
    (λ first. refl))

pub returns-clause-wanting : goal.returns-clause-wanting
returns-clause-wanting g c = λ told six.
    let words = c.args.names.now in
    let stage = capture_stage c.args.limit (g.F.Files.holds c.read_whole.new.files) words.capture.now in
    let w = c.in_ok-whole.ensures.read told in
    let holds = (c.in_ok-capture.ensures.others told).names ∙ (c.in_ok-whole.ensures.others told).names in
    let still : g.F.Files.left c.begin.new.files 2 ≡ g.F.Files.left c.open_capture.new.files 2 =
    (c.in_ok-player-in-None.ensures.others told).others 2 (λ same. absurd cc) in
    inr (unfinished_so c.args.limit (g.F.Files.holds c.args.files.now) (g.F.Files.holds c.read_whole.new.files) words.config.now words.tape.now
    words.capture.now _ _ _ c.judge_capture-in-None.new.capture
    (c.in_ok-config.ensures.reaches told) (c.in_ok-config.ensures.holds told) (c.in_ok-whole.ensures.others told).names w
    (wrote_under c.in_ok-player-in-None.ensures.config (sym (all_to_come stage c.in_ok-capture.capture _ _ (c.in_ok-capture.ensures.opened told) still))
    (c.judge_capture-in-None.ensures.wanting told six w.items
    (c.in_ok-player-in-None.ensures.begun told w.items (found_in (sym holds) w) (is_second (sym holds) w c.in-None.is))))
    (λ first. absurd (first (is_second (c.in_ok-config.ensures.holds told) w c.in-None.is))))

pub returns-in_err-config-clause-opens : goal.returns-in_err-config-clause-opens
returns-in_err-config-clause-opens g c =
    let words = c.args.names.now in
    refused_at (openings_of words.config.now words.tape.now words.capture.now) 1 (omega (arith)) _ _ c.from_residual.result c.in_err-config.field-0.0
    c.from_residual.ensures.1
    c.in_err-config.ensures.opens (λ three. omega (arith))

pub returns-in_err-whole-clause-opens : goal.returns-in_err-whole-clause-opens
returns-in_err-whole-clause-opens g c =
    let words = c.args.names.now in
    refused_at (openings_of words.config.now words.tape.now words.capture.now) 2 (omega (arith)) _ _ c.from_residual-in_err-whole.result
    c.in_err-whole.field-0.0 c.from_residual-in_err-whole.ensures.1
    (Grew-trans _ _ _ _ _ c.in_ok-config.ensures.opens c.in_err-whole.ensures.opens) (λ three. absurd (c.in_err-whole.ensures.possible.0 three))

pub returns-in_err-capture-clause-opens : goal.returns-in_err-capture-clause-opens
returns-in_err-capture-clause-opens g c =
    let words = c.args.names.now in
    refused_at (openings_of words.config.now words.tape.now words.capture.now) 3 (omega (arith)) _ _ c.from_residual-in_err-capture.result
    c.in_err-capture.field-0.0 c.from_residual-in_err-capture.ensures.1
    (Grew-trans _ _ _ _ _ (Grew-trans _ _ _ _ _ c.in_ok-config.ensures.opens c.in_ok-whole.ensures.opens) c.in_err-capture.ensures.opens)
    (λ three. absurd (c.in_err-capture.ensures.possible.0.0 three))

pub returns-in_err-player-in-None-clause-opens : goal.returns-in_err-player-in-None-clause-opens
returns-in_err-player-in-None-clause-opens g c =
    let words = c.args.names.now in
    refused_at (openings_of words.config.now words.tape.now words.capture.now) 4 (omega (arith)) _ _ c.from_residual-in_err-player-in-None.result
    c.in_err-player-in-None.field-0.0 c.from_residual-in_err-player-in-None.ensures.1
    (Grew-trans _ _ _ _ _ (Grew-trans _ _ _ _ _ (Grew-trans _ _ _ _ _ c.in_ok-config.ensures.opens c.in_ok-whole.ensures.opens)
    c.in_ok-capture.ensures.opens) c.in_err-player-in-None.ensures.opens) (λ three. absurd (c.in_err-player-in-None.ensures.possible.0 three))

pub returns-in-Some-clause-opens : goal.returns-in-Some-clause-opens
returns-in-Some-clause-opens g c =
    let words = c.args.names.now in
    opened_due (openings_of words.config.now words.tape.now words.capture.now) 3 (omega (arith)) _ _ _ _
    (Grew-trans _ _ _ _ _ (Grew-trans _ _ _ _ _ c.in_ok-config.ensures.opens c.in_ok-whole.ensures.opens) c.in_ok-capture.ensures.opens)
    c.judge_capture.ensures.opened (omega (arith))
    (λ three. absurd (c.judge_capture.ensures.possible.0 three))

pub returns-clause-opens : goal.returns-clause-opens
returns-clause-opens g c =
    let words = c.args.names.now in
    opened_due (openings_of words.config.now words.tape.now words.capture.now) 4 (omega (arith)) _ _ _ _
    (Grew-trans _ _ _ _ _ (Grew-trans _ _ _ _ _ (Grew-trans _ _ _ _ _ c.in_ok-config.ensures.opens c.in_ok-whole.ensures.opens)
    c.in_ok-capture.ensures.opens) c.in_ok-player-in-None.ensures.opens) c.judge_capture-in-None.ensures.opened (omega (arith))
    (λ three. absurd (c.judge_capture-in-None.ensures.possible.0 three))

pub returns-in_err-player-in-None-clause-enforces : goal.returns-in_err-player-in-None-clause-enforces
returns-in_err-player-in-None-clause-enforces g c = λ told.
    let words = c.args.names.now in
    let w = c.in_ok-whole.ensures.read told in
    let holds = (c.in_ok-capture.ensures.others told).names ∙ (c.in_ok-whole.ensures.others told).names in
    let files = (Rose (g.F.Files.faults c.args.files.now) (g.F.Files.faults c.begin.new.files)) in
    let sink = (Rose (g.S.Sink.faults c.args.sink.now) (g.S.Sink.faults c.args.sink.now)) in
    let written = g.S.Sink.written c.args.sink.now in
    answered_err (EnforcesSo c.args.limit (g.F.Files.holds c.args.files.now) words.config.now words.tape.now words.capture.now (files ⊎ sink) written written)
    c.from_residual-in_err-player-in-None.result c.in_err-player-in-None.field-0.0 c.from_residual-in_err-player-in-None.ensures.1
    (inl (ends_early (accepted_stage c.args.limit (g.F.Files.holds c.args.files.now) words.config.now words.tape.now) _ _ written
    c.in_err-player-in-None.field-0.0
    (inr (c.in_err-player-in-None.ensures.begun told w.items (found_in (sym holds) w) (is_second (sym holds) w c.in-None.is)))
    (λ r. inl (rose_earlier _ _ _ (le_trans (le_trans c.in_ok-config.ensures.later c.in_ok-whole.ensures.later) c.in_ok-capture.ensures.later) r))))
