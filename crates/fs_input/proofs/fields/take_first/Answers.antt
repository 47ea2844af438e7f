use Rattle.std.proofs.Common.{rules, arith, ◌<◌, ◌≤◌, ◌∙◌, length, sym}
use Rattle.fs_input.proofs.{Again.{again_fails, again_more, again_over, again_passes, again_took}, CutShort.{short_reads}}
use Rattle.fs_input.proofs.fields.take_first.Goals as goal

pub returns-in_default-clause-starts : goal.returns-in_default-clause-starts
returns-in_default-clause-starts g c = record {
  passes = again_passes _ _ (g.F.Files.left c.args.files.now) (g.F.Files.left c.fill.new.files) c.fill.ensures.passes;
  failed = search rules;
  started = λ told. (tt, λ e. absurd (e (search rules)));
}

pub returns-then-count-into-clause-starts : goal.returns-then-count-into-clause-starts
returns-then-count-into-clause-starts g c = record {
  passes = again_passes _ _ (g.F.Files.left c.args.files.now) (g.F.Files.left c.fill.new.files) c.fill.ensures.passes;
  failed = search rules;
  started = λ told.
      again_took c.args.counted.now c.fill.new.counted (g.F.Files.left c.args.files.now) (g.F.Files.left c.fill.new.files)
      c.in-Ok.ensures.passes.slot c.fill.new.into c.in-Ok.count (c.in-Ok.ensures.filled told) (omega arith) c.in-Ok.ensures.taken;
}

pub returns-then-is_over-clause-starts : goal.returns-then-is_over-clause-starts
returns-then-is_over-clause-starts g c = record {
  passes = again_passes _ _ (g.F.Files.left c.args.files.now) (g.F.Files.left c.fill.new.files) c.fill.ensures.passes;
  failed = search rules;
  started = λ told.
      let short : c.in-Ok.count < length c.fill.new.into = omega (arith, c.in-Ok.ensures.bound) in
      again_over c.args.counted.now c.fill.new.counted (g.F.Files.left c.args.files.now) (g.F.Files.left c.fill.new.files)
      c.in-Ok.ensures.passes.slot c.fill.new.into c.in-Ok.count (c.in-Ok.ensures.filled told) short (search rules) c.in-Ok.ensures.taken
      c.in-Ok.ensures.passes.limit (sym c.is_over.ensures ∙ c.if-is_over.true);
}

pub returns-clause-starts : goal.returns-clause-starts
returns-clause-starts g c = rw c.short.ensures (record {
  passes = again_passes _ _ (g.F.Files.left c.args.files.now) (g.F.Files.left c.fill.new.files) c.fill.ensures.passes;
  failed = λ e. absurd (short_reads c.args.cut c.fill.new.counted.taken c.fill.new.counted.limit e);
  started = λ told.
      let short : c.in-Ok.count < length c.fill.new.into = omega (arith, c.in-Ok.ensures.bound) in
      let within : c.args.counted.now.taken ≤ c.args.counted.now.limit = search rules in (
        again_fails c.args.counted.now c.fill.new.counted (g.F.Files.left c.args.files.now) (g.F.Files.left c.fill.new.files)
            c.in-Ok.ensures.passes.slot c.fill.new.into c.in-Ok.count (c.in-Ok.ensures.filled told) short within c.in-Ok.ensures.taken
            c.in-Ok.ensures.passes.limit c.args.cut,
        λ e. again_more c.args.counted.now c.fill.new.counted (g.F.Files.left c.args.files.now) (g.F.Files.left c.fill.new.files)
            c.in-Ok.ensures.passes.slot c.fill.new.into c.in-Ok.count (c.in-Ok.ensures.filled told) short within c.in-Ok.ensures.taken
            c.in-Ok.ensures.passes.limit (sym c.is_over.ensures ∙ c.if-is_over.false),
      );
})
