use Rattle.cmd_stages.proofs.Words.{◌≤◌, ℕ, List, arith, length, subst, sym, with_items, with_items_is, longest_payload, IsReady, Stands}
use Rattle.cmd_stages.proofs.Stages.{match_err}
use Rattle.cmd_stages.proofs.LookingAhead.{begun, player_with, ready_ahead, slots_then, stands_begun, unbegun, with_room}
use Rattle.cmd_stages.proofs.player.Player.begin.Goals as goal

pub returns-in_err-ahead-clause-begun : goal.returns-in_err-ahead-clause-begun
returns-in_err-ahead-clause-begun g c = λ told items e v.
    match_err _ _ c.from_residual-in_err-ahead.result c.from_residual-in_err-ahead.ensures.1 (λ refusal same.
    unbegun (begun c.args.config.now c.args.limit (g.F.Files.holds c.args.files.now) c.args.name.now (g.F.Files.left c.open_tape.new.files) items
    c.in_ok-tape.tape e (c.in_ok-tape.ensures.opened told) c.in_ok-tape.ensures.state.slot_is)
    (g.F.Files.faults c.args.files.now) (g.F.Files.faults c.open_tape.new.files) (g.F.Files.faults c.next_item.new.files) refusal
    c.in_ok-tape.ensures.later (rw same (c.in_err-ahead.ensures.gives told)))

pub returns-in_err-ahead-clause-others : goal.returns-in_err-ahead-clause-others
returns-in_err-ahead-clause-others g c =
    slots_then g.F.Files.tells g.F.Files.left g.F.Files.holds 1 c.in_ok-tape.tape.slot c.args.files.now c.open_tape.new.files c.next_item.new.files
    c.in_ok-tape.ensures.others c.in_ok-tape.ensures.state.slot_is c.in_err-ahead.ensures.others

pub invariant_of-result : goal.invariant_of-result
invariant_of-result g c =
    let room : longest_payload ≤ length c.next_item.new.buffer = omega (arith, c.in_ok-buffer.ensures.len) in
    with_room c.in_ok-ahead.ahead (longest_payload ≤ length (with_items c.in_ok-buffer.buffer c.next_item.new.buffer).items)
    (IsReady c.next_item.new.tape c.in_ok-desk.desk.config)
    (subst (λ (l : List ℕ). longest_payload ≤ length l) (sym (with_items_is c.in_ok-buffer.buffer c.next_item.new.buffer (omega arith))) room)
    (ready_ahead c.in_ok-ahead.ahead c.next_item.new.tape c.in_ok-tape.tape.place c.args.config.now c.in_ok-desk.desk.config
    c.in_ok-desk.ensures.played.config_is
    c.in_ok-ahead.ensures.known c.in_ok-ahead.ensures.open c.in_ok-ahead.ensures.grows)

pub returns-clause-begun : goal.returns-clause-begun
returns-clause-begun g c = λ told items e v.
    subst (λ (l : List ℕ). Stands items 0 (player_with c.next_item.new.tape c.in_ok-ahead.ahead l c.in_ok-desk.desk) (g.F.Files.left c.next_item.new.files 1))
    (sym (with_items_is c.in_ok-buffer.buffer c.next_item.new.buffer (omega arith)))
    (stands_begun (begun c.args.config.now c.args.limit (g.F.Files.holds c.args.files.now) c.args.name.now (g.F.Files.left c.open_tape.new.files) items
    c.in_ok-tape.tape e (c.in_ok-tape.ensures.opened told) c.in_ok-tape.ensures.state.slot_is) (g.F.Files.left c.next_item.new.files)
    (player_with c.next_item.new.tape c.in_ok-ahead.ahead c.next_item.new.buffer c.in_ok-desk.desk)
    v (c.in_ok-ahead.ensures.gives told) c.in_ok-ahead.ensures.version c.in_ok-desk.ensures.played)

pub returns-clause-others : goal.returns-clause-others
returns-clause-others g c =
    slots_then g.F.Files.tells g.F.Files.left g.F.Files.holds 1 c.in_ok-tape.tape.slot c.args.files.now c.open_tape.new.files c.next_item.new.files
    c.in_ok-tape.ensures.others c.in_ok-tape.ensures.state.slot_is c.in_ok-ahead.ensures.others
