use Rattle.fs_flows.proofs.{Words.{ap, inl, inr, refl, sym, ◌∙◌, true≢false, arith, progress}, Mending.{mends_found, mends_missing, right_left, right_stays}}
use Rattle.fs_flows.proofs.search.mark_group.Goals as goal

pub returns-in_default : goal.returns-in_default
returns-in_default g c = mends_missing c.args.unicast.now c.args.config.now c.args.destination.now c.args.groups.now.entries _ c.args.changes.now
    c.args.steps.now (sym c.in_default.ensures.value) (ap (λ m. m.entries) c.get_mut.follows.holds-at-none)

pub returns-then-retest : goal.returns-then-retest
returns-then-retest g c = mends_found c.args.unicast.now c.args.config.now c.args.destination.now c.prefix-prefix.result c.in-Some.group.now c.retest.new.self
    (progress c.args.groups.now.entries c.args.changes.now c.args.steps.now) (progress _ c.note.new.self c.retest.new.steps) c.in-Some.ensures.ordered
    (sym c.in-Some.ensures.value)
    (c.get_mut.follows.holds c.retest.new.self).0 c.retest.ensures.retested c.prefix-prefix.ensures c.note.ensures.stays
    (inl (λ rule h d. c.note.ensures.noted rule (c.at.ensures.place rule h d)))
    (λ r. absurd (true≢false (sym c.if-retest.true ∙ c.retest.ensures.told.1 r)))
    (omega (arith, c.keeps_validities.ensures.later, c.retest.ensures.later))
    (omega (arith, c.keeps_validities.ensures.steps, c.retest.ensures.step, c.retest.ensures.steps))

pub returns-else-retest : goal.returns-else-retest
returns-else-retest g c = mends_found c.args.unicast.now c.args.config.now c.args.destination.now c.prefix-prefix.result c.in-Some.group.now c.retest.new.self
    (progress c.args.groups.now.entries c.args.changes.now c.args.steps.now) (progress _ c.args.changes.now c.retest.new.steps)
    c.in-Some.ensures.ordered (sym c.in-Some.ensures.value)
    (c.get_mut.follows.holds c.retest.new.self).0 c.retest.ensures.retested c.prefix-prefix.ensures (λ rule h. h)
    (inr (c.retest.ensures.told.0 c.if-retest.false)) (λ _. refl) (omega (arith, c.keeps_validities.ensures.later, c.retest.ensures.later))
    (omega (arith, c.keeps_validities.ensures.steps, c.retest.ensures.step, c.retest.ensures.steps))

pub returns-then-keeps_validities : goal.returns-then-keeps_validities
returns-then-keeps_validities g c =
    let right = right_left c.args.unicast.now c.args.config.now c.args.swap.now c.args.destination.now c.prefix-prefix.result
    c.args.groups.now.entries c.in-Some.group.now c.requires (sym c.in-Some.ensures.value) c.prefix-prefix.ensures
    (c.keeps_validities.ensures.judged c.if-keeps_validities.true) in
    mends_found c.args.unicast.now c.args.config.now c.args.destination.now c.prefix-prefix.result c.in-Some.group.now c.in-Some.group.now
    (progress c.args.groups.now.entries c.args.changes.now c.args.steps.now) (progress _ c.args.changes.now c.keeps_validities.new.steps)
    c.in-Some.ensures.ordered (sym c.in-Some.ensures.value)
    (c.get_mut.follows.holds c.in-Some.group.now).0
    (right_stays c.args.unicast.now c.args.config.now c.prefix-prefix.result c.in-Some.group.now right) c.prefix-prefix.ensures (λ rule h. h)
    (inr right) (λ _. refl) c.keeps_validities.ensures.later (omega (arith, c.keeps_validities.ensures.steps))
