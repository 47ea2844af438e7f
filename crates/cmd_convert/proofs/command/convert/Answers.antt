use Rattle.cmd_convert.proofs.Words.{◌≡◌, ◌⊎◌, inl, le_trans, refl, Rose, coming, answered_err, finished_by, rose_earlier, ConvertsSo, IsOfDump}
use Rattle.cmd_convert.proofs.Words.{text_from, ◌≢◌, Grew-trans, arith, config_then, opened_due, refused_at, rules}
use Rattle.cmd_convert.proofs.Ending.{dump_ends, finished, never_quiet, outside_quiet, read_verdict}
use Rattle.cmd_convert.proofs.command.convert.Goals as goal

pub returns-in_err-dump-clause-converts : goal.returns-in_err-dump-clause-converts
returns-in_err-dump-clause-converts g c = λ told.
    answered_err (λ n. ConvertsSo c.args.limit (g.F.Files.holds c.args.files.now) c.args.names.now.config.now c.args.names.now.dump.now
    (Rose (g.F.Files.faults c.args.files.now) (g.F.Files.faults c.open_dump.new.files)
    ⊎ Rose (g.S.Sink.faults c.args.sink.now) (g.S.Sink.faults c.args.sink.now)) (g.S.Sink.written c.args.sink.now)
    (g.S.Sink.written c.args.sink.now) n)
    c.from_residual-in_err-dump.result c.in_err-dump.field-0.0 c.from_residual-in_err-dump.ensures.1
    (dump_ends c.args.limit (g.F.Files.holds c.args.files.now) c.args.names.now.config.now c.args.names.now.dump.now c.in_ok-config.config
    (g.F.Files.holds c.load_config.new.files) (Rose (g.F.Files.faults c.load_config.new.files) (g.F.Files.faults c.open_dump.new.files)) _
    (g.S.Sink.written c.args.sink.now) c.in_err-dump.field-0.0
    (c.in_ok-config.ensures.reaches told) (c.in_ok-config.ensures.holds told) (c.in_err-dump.ensures.opened told)
    (λ r. inl (rose_earlier _ _ _ c.in_ok-config.ensures.later r)))

pub returns-clause-quiet : goal.returns-clause-quiet
returns-clause-quiet g c =
    finished_by (λ n. (n ≡ 3) ⊎ (n ≡ 6) → c.finish.new.sink ≡ c.args.sink.now) _ _ _ _ _ c.finish.result c.finish.ensures.finishes
    (never_quiet _ c.convert_dump-converted.ensures.possible) (outside_quiet 1 refl)

pub returns-clause-possible : goal.returns-clause-possible
returns-clause-possible g c =
    finished_by IsOfDump _ _ _ _ _ c.finish.result c.finish.ensures.finishes c.convert_dump-converted.ensures.possible.0 (
      λ e. absurd cc,
      λ e. absurd cc,
      λ e. absurd cc,
    )

pub returns-clause-converts : goal.returns-clause-converts
returns-clause-converts g c = λ told.
    let all = coming c.in_ok-making.making.config c.in_ok-dump.dump (g.F.Files.left c.open_dump.new.files c.in_ok-dump.dump.slot) in
    finished c.args.limit (g.F.Files.holds c.args.files.now) (g.F.Files.holds c.load_config.new.files) c.args.names.now.config.now
    c.args.names.now.dump.now c.in_ok-config.config
    all.1 (text_from c.in_ok-making.making all.0) c.in_ok-making.making.pending c.convert_dump-converted.new.making.pending
    (g.S.Sink.written c.args.sink.now) (g.S.Sink.written c.convert_dump-converted.new.sink) (g.S.Sink.written c.finish.new.sink)
    (g.F.Files.faults c.args.files.now) (g.F.Files.faults c.open_dump.new.files) (g.F.Files.faults c.convert_dump-converted.new.files)
    (g.S.Sink.faults c.args.sink.now) (g.S.Sink.faults c.convert_dump-converted.new.sink) (g.S.Sink.faults c.finish.new.sink)
    c.convert_dump-converted.result c.finish.result
    (c.in_ok-config.ensures.reaches told) (c.in_ok-config.ensures.holds told)
    (read_verdict c.in_ok-making.making.config c.in_ok-config.config c.args.limit (g.F.Files.holds c.load_config.new.files) c.args.names.now.dump.now
    (g.F.Files.left c.open_dump.new.files) c.in_ok-dump.dump c.in_ok-making.making.lives
    c.in_ok-making.ensures.config (c.in_ok-dump.ensures.opened told) c.in_ok-dump.ensures.begun c.in_ok-making.ensures.lives)
    c.in_ok-making.ensures.pending (c.convert_dump-converted.ensures.made told)
    (le_trans c.in_ok-config.ensures.later c.in_ok-dump.ensures.later) c.convert_dump-converted.ensures.sink_later c.finish.ensures.later
    c.finish.ensures.finishes

pub returns-in_err-config-clause-opens : goal.returns-in_err-config-clause-opens
returns-in_err-config-clause-opens g c =
    let both = config_then 1 c.args.names.now.config.now c.args.names.now.dump.now in
    refused_at both 1 (omega (arith)) _ _ c.from_residual.result c.in_err-config.field-0.0 c.from_residual.ensures.1
    c.in_err-config.ensures.opens (λ three. omega (arith))

pub returns-in_err-dump-clause-opens : goal.returns-in_err-dump-clause-opens
returns-in_err-dump-clause-opens g c =
    let both = config_then 1 c.args.names.now.config.now c.args.names.now.dump.now in
    refused_at both 2 (omega (arith)) _ _ c.from_residual-in_err-dump.result c.in_err-dump.field-0.0 c.from_residual-in_err-dump.ensures.1
    (Grew-trans _ _ _ _ _ c.in_ok-config.ensures.opens c.in_err-dump.ensures.opens) (λ three. absurd (c.in_err-dump.ensures.possible.1 three))

pub returns-in_err-making-clause-opens : goal.returns-in_err-making-clause-opens
returns-in_err-making-clause-opens g c =
    let both = config_then 1 c.args.names.now.config.now c.args.names.now.dump.now in
    opened_due both 2 (omega (arith)) _ _ _ _ (Grew-trans _ _ _ _ _ c.in_ok-config.ensures.opens c.in_ok-dump.ensures.opens) refl (omega (arith)) (search rules)

pub returns-in_err-buffer-clause-opens : goal.returns-in_err-buffer-clause-opens
returns-in_err-buffer-clause-opens g c =
    let both = config_then 1 c.args.names.now.config.now c.args.names.now.dump.now in
    opened_due both 2 (omega (arith)) _ _ _ _ (Grew-trans _ _ _ _ _ c.in_ok-config.ensures.opens c.in_ok-dump.ensures.opens) refl (omega (arith)) (search rules)

pub returns-clause-opens : goal.returns-clause-opens
returns-clause-opens g c =
    let both = config_then 1 c.args.names.now.config.now c.args.names.now.dump.now in
    opened_due both 2 (omega (arith)) _ _ _ _ (Grew-trans _ _ _ _ _ c.in_ok-config.ensures.opens c.in_ok-dump.ensures.opens)
    c.convert_dump-converted.ensures.opened (omega (arith))
    (λ three. absurd (finished_by (λ n. n ≢ 3) _ _ _ _ _ c.finish.result c.finish.ensures.finishes c.convert_dump-converted.ensures.possible.1
    (λ e. absurd cc) three))
