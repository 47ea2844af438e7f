use Rattle.fs_line.proofs.{Words.{line_of, entries}, Outputs.{sends_as, sends_kept, sends_stopped, sends_then}, Parts.{line_parts}}
use Rattle.fs_line.proofs.line.write_long_line.Goals as goal

pub returns-in_err-make_room : goal.returns-in_err-make_room
returns-in_err-make_room g c =
    sends_stopped (line_of c.args.number (entries c.args.walked.now)) _ c.from_residual.result c.from_residual.ensures.1 c.in_err-make_room.ensures.sends

pub returns-in_err-write_rules : goal.returns-in_err-write_rules
returns-in_err-write_rules g c =
    sends_as (line_parts c.args.number (entries c.args.walked.now))
    (sends_then (sends_kept c.in_ok-make_room.ensures.sends c.keep_verdict.ensures.text)
    (sends_stopped _ _ c.from_residual-in_err-write_rules.result c.from_residual-in_err-write_rules.ensures.1 c.in_err-write_rules.ensures))

pub returns-in_err-make_room-2 : goal.returns-in_err-make_room-2
returns-in_err-make_room-2 g c =
    sends_as (line_parts c.args.number (entries c.args.walked.now))
    (sends_then (sends_kept c.in_ok-make_room.ensures.sends c.keep_verdict.ensures.text)
    (sends_then c.in_ok-write_rules.ensures
    (sends_stopped _ _ c.from_residual-in_err-make_room-2.result c.from_residual-in_err-make_room-2.ensures.1 c.in_err-make_room-2.ensures.sends)))

pub returns-in_err-write_rates : goal.returns-in_err-write_rates
returns-in_err-write_rates g c =
    sends_as (line_parts c.args.number (entries c.args.walked.now))
    (sends_then (sends_kept c.in_ok-make_room.ensures.sends c.keep_verdict.ensures.text)
    (sends_then c.in_ok-write_rules.ensures
    (sends_then (sends_kept c.in_ok-make_room-2.ensures.sends c.keep_effects.ensures.text)
    (sends_stopped _ _ c.from_residual-in_err-write_rates.result c.from_residual-in_err-write_rates.ensures.1 c.in_err-write_rates.ensures))))

pub returns : goal.returns
returns g c =
    sends_as (line_parts c.args.number (entries c.args.walked.now))
    (sends_then (sends_kept c.in_ok-make_room.ensures.sends c.keep_verdict.ensures.text)
    (sends_then c.in_ok-write_rules.ensures
    (sends_then (sends_kept c.in_ok-make_room-2.ensures.sends c.keep_effects.ensures.text)
    (sends_then c.in_ok-write_rates.ensures c.put.ensures.sends))))
