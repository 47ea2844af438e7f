use Rattle.fs_input.proofs.Words.{rules, arith, ◌≡◌, ◌∙◌, refl, ◌+◌, ◌-◌, ◌<◌, ◌++◌, length, take, drop, take-append-le, length-take, with_part}
use Rattle.fs_input.proofs.Words.{records_to_come, passes_in}
use Rattle.fs_input.proofs.AdvancingRecords.{short_advances, cut_advances}
use Rattle.fs_input.proofs.Records.{held_of_taken, wrong_comes, short_comes, cut_comes, record_comes}
use Rattle.fs_input.specs.declared.head.Found.{Found}
use Rattle.fs_base.proofs.Filled.{fills_straight, none_left}
use Rattle.fs_input.proofs.record.advance.Goals as goal

pub returns-in-Wrong-clause-advances : goal.returns-in-Wrong-clause-advances
returns-in-Wrong-clause-advances g c = λ told.
    let filled = fills_straight _ _ _ _ _ _ _ _ c.requires.none c.in-Ok.ensures.back (c.in-Ok.ensures.filled told) in
    let place : c.fill.new.counted.taken - c.in-Ok.count ≡ c.args.counted.now.taken = omega (arith, c.in-Ok.ensures.taken) in
    rw place (wrong_comes g.H.Heads.format c.args.counted.now c.args.heads.now (g.F.Files.left c.args.files.now c.args.counted.now.slot) _
    c.in-Ok.count c.in-Wrong.reason c.in-Wrong.offset
    (record { head = c.fill.new.into; filled = filled; sized = search rules; says = c.in-Wrong.ensures.exact }))

pub returns-in-Partial-clause-advances : goal.returns-in-Partial-clause-advances
returns-in-Partial-clause-advances g c = λ told.
    let filled = fills_straight _ _ _ _ _ _ _ _ c.requires.none c.in-Ok.ensures.back (c.in-Ok.ensures.filled told) in
    let n = g.H.Heads.format.head_size c.args.heads.now in
    let short : c.in-Ok.count < n = omega (
      arith,
      c.in-Partial.ensures.within,
      c.in-Ok.ensures.bound,
      c.head_size-size.ensures.exact,
      length-take c.in-Ok.count c.fill.new.into,
    ) in
    rw (c.stopped.ensures, c.cut.ensures, c.in-Ok.ensures.passes.limit)
    (short_advances g.H.Heads.format.cut _ _ c.args.counted.now.taken c.in-Ok.count c.fill.new.counted.taken c.args.counted.now.limit
    (short_comes g.H.Heads.format c.args.counted.now c.args.heads.now (g.F.Files.left c.args.files.now c.args.counted.now.slot) _ c.in-Ok.count
    (record { head = c.fill.new.into; filled = filled; sized = search rules; says = c.in-Partial.ensures.exact }) short)
    c.in-Ok.ensures.taken)

pub returns-then-count-size-clause-advances : goal.returns-then-count-size-clause-advances
returns-then-count-size-clause-advances g c = λ told.
    let filled = fills_straight _ _ _ _ _ _ _ _ c.requires.none c.in-Ok.ensures.back (c.in-Ok.ensures.filled told) in
    let format = g.H.Heads.format in
    let all = held_of_taken c.in-Ok.count c.fill.new.into c.in-Whole.ensures.within.0 in
    let some : 0 < format.head_size c.args.heads.now = g.met.H.Heads.some c.args.heads.now in
    let none = none_left _ _ _ c.requires.none c.in-Ok.ensures.back in
    let more = rw (c.in-Ok.ensures.passes.limit, c.in-Ok.ensures.taken, c.in-Ok.ensures.passes.slot)
    at (fills_straight _ _ _ _ _ _ _ _ none c.in-Ok-fill.ensures.back (c.in-Ok-fill.ensures.filled told)) in
    rw (c.short.ensures, c.cut-then-count-size.ensures, c.in-Ok-fill.ensures.passes.limit, c.in-Ok.ensures.passes.limit)
    (cut_advances format.cut _
    (λ (found : Found g.row.H-Said.Denot). with_part
    (format.item_of found.said (take found.size (c.fill-in-Whole.new.into ++ drop c.in-Whole.size c.args.into.now)))
    (records_to_come format c.args.counted.now.limit c.fill-in-Whole.new.counted.taken (format.behind c.args.heads.now found.said)
    (g.F.Files.left c.fill-in-Whole.new.files c.args.counted.now.slot)))
    c.args.counted.now.taken (c.in-Ok.count + c.in-Ok-fill.count) c.fill-in-Whole.new.counted.taken c.args.counted.now.limit
    (cut_comes format c.args.counted.now c.args.heads.now (g.F.Files.left c.args.files.now c.args.counted.now.slot) _ c.in-Ok.count _
    c.fill-in-Whole.new.into c.in-Whole.said c.in-Whole.size c.in-Ok-fill.count
    (record { head = c.fill.new.into; filled = filled; sized = search rules; says = c.in-Whole.ensures.exact }) all more (search rules)
    c.if-count-size.true)
    (omega arith) (omega (arith, c.in-Ok-fill.ensures.taken, c.in-Ok.ensures.taken)))

pub returns-else-count-size-clause-advances : goal.returns-else-count-size-clause-advances
returns-else-count-size-clause-advances g c = λ told.
    let filled = fills_straight _ _ _ _ _ _ _ _ c.requires.none c.in-Ok.ensures.back (c.in-Ok.ensures.filled told) in
    let format = g.H.Heads.format in
    let all = held_of_taken c.in-Ok.count c.fill.new.into c.in-Whole.ensures.within.0 in
    let none = none_left _ _ _ c.requires.none c.in-Ok.ensures.back in
    let more = rw (c.in-Ok.ensures.passes.limit, c.in-Ok.ensures.taken, c.in-Ok.ensures.passes.slot)
    at (fills_straight _ _ _ _ _ _ _ _ none c.in-Ok-fill.ensures.back (c.in-Ok-fill.ensures.filled told)) in
    let size : length c.fill-in-Whole.new.into ≡ c.in-Whole.size = search rules in
    let octets : take c.in-Whole.size (c.fill-in-Whole.new.into ++ drop c.in-Whole.size c.args.into.now) ≡ take c.in-Whole.size c.fill-in-Whole.new.into =
    take-append-le c.in-Whole.size c.fill-in-Whole.new.into _ (omega arith) in
    record_comes format c.args.counted.now c.args.heads.now (g.F.Files.left c.args.files.now c.args.counted.now.slot) _ c.in-Ok.count _
    c.fill-in-Whole.new.into c.in-Whole.said c.in-Whole.size c.in-Ok-fill.count
    (record { head = c.fill.new.into; filled = filled; sized = search rules; says = c.in-Whole.ensures.exact }) all more size
    g.met.H.Heads.some c.if-count-size.false
    ∙ rw (
      c.in-Ok-fill.ensures.passes.limit,
      c.in-Ok.ensures.passes.limit,
      c.in-Ok-fill.ensures.taken,
      c.in-Ok.ensures.taken,
      octets,
    ) refl

pub returns-then-count-size-clause-passes : goal.returns-then-count-size-clause-passes
returns-then-count-size-clause-passes g c = passes_in c.fill.ensures.passes c.fill-in-Whole.ensures.passes

pub returns-else-count-size-clause-passes : goal.returns-else-count-size-clause-passes
returns-else-count-size-clause-passes g c = passes_in c.fill.ensures.passes c.fill-in-Whole.ensures.passes

pub returns-in_default-fill-clause-passes : goal.returns-in_default-fill-clause-passes
returns-in_default-fill-clause-passes g c = passes_in c.fill.ensures.passes c.fill-in-Whole.ensures.passes
