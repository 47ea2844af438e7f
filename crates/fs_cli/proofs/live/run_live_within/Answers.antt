use Rattle.std.proofs.Common.{ℕ, refl, subst}
use Rattle.fs_cli.specs.{Live.{KeepPromises, RecordPromises, beside}, Program.{objects}}
use Rattle.fs_cli.proofs.Living.{keep_of, keep_only, others_only, record_of, record_only}
use Rattle.fs_cli.proofs.live.run_live_within.Goals as goal

pub returns-in-Some-Record : goal.returns-in-Some-Record
returns-in-Some-Record g c =
    let w = beside g.G.Gate c.args.gate.now c.record_sessions.new.gate
    (objects g.F.Files g.S.Sink g.W.Wire g.C.Clock c.args.files.now c.record_sessions.new.files c.args.sink.now c.record_sessions.new.sink
    c.args.wire.now c.args.wire.now c.args.clock.now c.args.clock.now) in
    record_only c.args.limit w _ _ c.in-Some-Record.order.config.now c.in-Some-Record.order.address.now
    (rw c.in-Some-Record.field-0-is at c.in-Some-Record.ensures.shown)
    (subst (λ (limit : ℕ). RecordPromises limit w c.in-Some-Record.order.config.now c.answer_of.result)
    (rw c.in-Some-Record.field-0-is at c.in-Some-Record.ensures.limit)
    (record_of c.in-Some-Record.order.limit w c.in-Some-Record.order.config.now _ _ c.answer_of.ensures.answered c.record_sessions.ensures.possible
    c.record_sessions.ensures.opens refl refl c.record_sessions.ensures.unused c.record_sessions.ensures.stopped c.record_sessions.ensures.ends
    c.record_sessions.ensures.records))

pub returns-in-Some-Keep : goal.returns-in-Some-Keep
returns-in-Some-Keep g c =
    let w = beside g.G.Gate c.args.gate.now c.keep_rules.new.gate
    (objects g.F.Files g.S.Sink g.W.Wire g.C.Clock c.args.files.now c.keep_rules.new.files c.args.sink.now c.keep_rules.new.sink
    c.args.wire.now c.args.wire.now c.args.clock.now c.args.clock.now) in
    keep_only c.args.limit w _ _ c.in-Some-Keep.order.config.now c.in-Some-Keep.order.rules.now c.in-Some-Keep.order.address.now
    (rw c.in-Some-Keep.field-0-is at c.in-Some-Keep.ensures.shown)
    (subst (λ (limit : ℕ). KeepPromises limit w c.in-Some-Keep.order.config.now c.in-Some-Keep.order.rules.now c.in-Some-Keep.order.address.now
    c.answer_of-in-Some-Keep.result) (rw c.in-Some-Keep.field-0-is at c.in-Some-Keep.ensures.limit)
    (keep_of c.in-Some-Keep.order.limit w c.in-Some-Keep.order.config.now c.in-Some-Keep.order.rules.now c.in-Some-Keep.order.address.now _ _
    c.answer_of-in-Some-Keep.ensures.answered c.keep_rules.ensures.possible
    c.keep_rules.ensures.opens refl refl c.keep_rules.ensures.unused c.keep_rules.ensures.stopped c.keep_rules.ensures.ends
    c.keep_rules.ensures.keeps))

pub returns-in-None : goal.returns-in-None
returns-in-None g c =
    others_only c.args.limit
    (beside g.G.Gate c.args.gate.now c.args.gate.now
    (objects g.F.Files g.S.Sink g.W.Wire g.C.Clock c.args.files.now c.run_within.new.files c.args.sink.now c.run_within.new.sink
    c.args.wire.now c.run_within.new.wire c.args.clock.now c.run_within.new.clock))
    _ _ c.in-None.ensures.shown c.run_within.ensures refl
