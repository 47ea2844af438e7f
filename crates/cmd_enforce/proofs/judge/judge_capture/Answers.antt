use Rattle.cmd_enforce.proofs.Words.{◌≡◌, ◌∙◌, inr, ap, le_refl, refl, subst, sym, Grew-refl, PlayerState, Stands, answered, Memory, answered_err}
use Rattle.cmd_enforce.proofs.Words.{finished_by, rose_earlier, IsCompiled, IsOfPackets}
use Rattle.cmd_enforce.proofs.Enforcing.{answers_under, memory_of_packets, moments_finished, none_by_memory, outside_of_packets, rose_wider}
use Rattle.cmd_enforce.proofs.Enforcing.{wrote_judged, wrote_none, wrote_under}
use Rattle.cmd_enforce.proofs.AtMoments.{stands_at}
use Rattle.cmd_enforce.proofs.judge.judge_capture.Goals as goal

pub returns-in_err-buffer-clause-judges : goal.returns-in_err-buffer-clause-judges
returns-in_err-buffer-clause-judges g c = λ told items s. none_by_memory c.from_residual.result c.from_residual.ensures.1

pub returns-in_err-lines-clause-judges : goal.returns-in_err-lines-clause-judges
returns-in_err-lines-clause-judges g c = λ told items s. none_by_memory c.from_residual-in_err-lines.result c.from_residual-in_err-lines.ensures.1

pub returns-in_err-following-clause-judges : goal.returns-in_err-following-clause-judges
returns-in_err-following-clause-judges g c = λ told items s. none_by_memory c.from_residual-in_err-following.result c.from_residual-in_err-following.ensures.1

pub returns-clause-judges : goal.returns-clause-judges
returns-clause-judges g c = λ told items s.
    let begun = c.judge_packets-judged.ensures.judged told items
    (subst (λ (p : PlayerState). Stands items c.args.capture.now.moment p (g.F.Files.left c.args.files.now 1)) (sym c.in_ok-following.ensures.same)
    (stands_at items 0 c.args.capture.now.moment c.args.player (g.F.Files.left c.args.files.now) 1 1 (sym c.requires.moment) refl s)) in
    answers_under (ap (λ (p : PlayerState). p.desk.config) c.in_ok-following.ensures.same)
    (moments_finished _ _ _ _ _ c.judge_packets-judged.result c.finish.result c.in_ok-lines.ensures.0 begun c.finish.ensures.finishes _
    (rose_wider _ _ _ _ _ _ (le_refl (g.F.Files.faults c.args.files.now)) c.finish.ensures.later)
    (λ r. inr (rose_earlier _ _ _ c.judge_packets-judged.ensures.sink_later r)))

pub returns-clause-possible : goal.returns-clause-possible
returns-clause-possible g c =
    finished_by IsOfPackets _ _ _ _ _ c.finish.result c.finish.ensures.finishes c.judge_packets-judged.ensures.possible outside_of_packets

pub returns-clause-unwritten : goal.returns-clause-unwritten
returns-clause-unwritten g c = λ none six.
    let due = finished_by (λ n. n ≡ 6 → answered c.judge_packets-judged.result ≡ 6) _ _ _ _ _ c.finish.result c.finish.ensures.finishes (λ e. e)
    (λ e. absurd cc) six in
    let kept = c.judge_packets-judged.ensures.early (ap (λ (p : PlayerState). p.ahead) c.in_ok-following.ensures.same ∙ none) due in
    (c.finish.ensures.idle (kept.3 ∙ c.in_ok-lines.ensures.0) ∙ kept.0, kept.1, kept.2)

pub returns-in_err-buffer-clause-wanting : goal.returns-in_err-buffer-clause-wanting
returns-in_err-buffer-clause-wanting g c = λ told six items s. wrote_none _ _ _ _ _ _ refl (Grew-refl (g.S.Sink.written c.args.sink.now))

pub returns-in_err-lines-clause-wanting : goal.returns-in_err-lines-clause-wanting
returns-in_err-lines-clause-wanting g c = λ told six items s. wrote_none _ _ _ _ _ _ refl (Grew-refl (g.S.Sink.written c.args.sink.now))

pub returns-in_err-following-clause-wanting : goal.returns-in_err-following-clause-wanting
returns-in_err-following-clause-wanting g c = λ told six items s. wrote_none _ _ _ _ _ _ refl (Grew-refl (g.S.Sink.written c.args.sink.now))

pub returns-clause-wanting : goal.returns-clause-wanting
returns-clause-wanting g c = λ told six items s.
    let begun = c.judge_packets-judged.ensures.judged told items
    (subst (λ (p : PlayerState). Stands items c.args.capture.now.moment p (g.F.Files.left c.args.files.now 1)) (sym c.in_ok-following.ensures.same)
    (stands_at items 0 c.args.capture.now.moment c.args.player (g.F.Files.left c.args.files.now) 1 1 (sym c.requires.moment) refl s)) in
    wrote_under (ap (λ (p : PlayerState). p.desk.config) c.in_ok-following.ensures.same) refl
    (wrote_judged _ _ _ _ _ c.judge_packets-judged.result c.finish.result c.in_ok-lines.ensures.0 begun c.finish.ensures.finishes six)

pub judge_packets-judged-requires-clause-compiled : goal.judge_packets-judged-requires-clause-compiled
judge_packets-judged-requires-clause-compiled g c =
    subst (λ (p : PlayerState). IsCompiled p.desk.held c.in_ok-following.following.rules)
    (sym c.in_ok-following.ensures.same) c.in_ok-following.ensures.compiled

pub returns-in_err-lines-clause-possible : goal.returns-in_err-lines-clause-possible
returns-in_err-lines-clause-possible g c =
    answered_err IsOfPackets c.from_residual-in_err-lines.result Memory c.from_residual-in_err-lines.ensures.1 memory_of_packets
