use Rattle.fs_base.proofs.Words.{rules, arith, sym, inl, inr, refl, ◌≡◌, ◌≤◌, ◌+◌, PassesIn}
use Rattle.fs_base.proofs.{Filled.{dropped_more, filled_more, fills_in, none_read}, Passing.{passes_in}}
use Rattle.fs_base.proofs.filling.fill_rest.Goals as goal

pub loop-at-preserved : goal.loop-at-preserved
loop-at-preserved g c =
    let one : PassesIn g.F.Files c.loop-at.files c.read.new.files c.loop-at.counted c.read.new.self = search rules in
    record {
      within = search rules;
      size = search rules;
      taken = search rules;
      passes = passes_in c.loop-at.invariant.passes one;
      again = dropped_more _ _ _ _ _ c.loop-at.invariant.again c.in-Ok.ensures.back;
      none = λ none. c.in-Ok.ensures.none (c.loop-at.invariant.none none);
      filled = λ told.
          filled_more _ _ _ _ _ _ _ (c.loop-at.invariant.filled told) (search rules) (search rules)
          (rw (← c.loop-at.invariant.passes.slot) (c.in-Ok.ensures.left told).0);
    }

pub returns-in-Ok-eq0 : goal.returns-in-Ok-eq0
returns-in-Ok-eq0 g c =
    let passes = c.loop-at.invariant.passes in
    let one : PassesIn g.F.Files c.loop-at.files c.read.new.files c.loop-at.counted c.read.new.self = search rules in
    let within : c.args.counted.now.taken + c.loop-at.at ≤ c.args.counted.now.limit =
    omega (arith, c.loop-at.invariant.taken, passes.limit, c.loop-at.counted.within) in
    fills_in (search rules) (search rules)
    (λ told.
    let takes = rw passes.slot at (c.in-Ok-eq0.ensures.left told) in
    none_read _ _ _ _ _ _ _ _ _ (c.loop-at.invariant.filled told) (search rules) (search rules) takes.0 within (inl (takes.1 (search rules) (search rules))))
    (passes_in passes one)

pub returns-in-Ok-eq0-2 : goal.returns-in-Ok-eq0-2
returns-in-Ok-eq0-2 g c =
    let passes = c.loop-at.invariant.passes in
    let one : PassesIn g.F.Files c.loop-at.files c.read.new.files c.loop-at.counted c.read.new.self = search rules in
    let limit : c.loop-at.counted.taken ≡ c.loop-at.counted.limit = search rules in
    let all : c.args.counted.now.taken + c.loop-at.at ≡ c.args.counted.now.limit =
    omega (arith, limit, c.loop-at.invariant.taken, passes.limit) in
    fills_in (search rules) (search rules)
    (λ told.
    let stays = rw passes.slot at (c.in-Ok-eq0.ensures.left told) in
    none_read _ _ _ _ _ _ _ _ 0 (c.loop-at.invariant.filled told) (search rules) refl (sym stays) (omega (arith, all)) (inr (inl all)))
    (passes_in passes one)
