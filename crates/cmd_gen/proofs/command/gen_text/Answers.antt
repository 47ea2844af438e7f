use Rattle.cmd_gen.proofs.{Words.{◌≡◌, ℕ, List, IfOk, subst, admitted_rules}, Generating.{line_is}}
use Rattle.cmd_enforce.proofs.Walking.{stands_for}
use Rattle.cmd_gen.proofs.command.gen_text.Goals as goal

pub count_packets-tally-requires-clause-sound : goal.count_packets-tally-requires-clause-sound
count_packets-tally-requires-clause-sound c = (admitted_rules c.args.table.now, stands_for c.args.table.now c.in_ok-rules.rules c.in_ok-rules.ensures.stands)

pub returns : goal.returns
returns c =
    let stands = stands_for c.args.table.now c.in_ok-rules.rules c.in_ok-rules.ensures.stands in
    subst (λ (line : List ℕ). IfOk c.gen_line.result (λ text. text.items ≡ line))
    (line_is c.args.count c.count.result c.count_packets-tally.result.passed c.count_packets-tally.result.dropped c.args.table.now c.count.ensures.count
    (c.count_packets-tally.ensures.passed (admitted_rules c.args.table.now) stands)
    (c.count_packets-tally.ensures.dropped (admitted_rules c.args.table.now) stands)) c.gen_line.ensures
