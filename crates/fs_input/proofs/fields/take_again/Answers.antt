use Rattle.std.proofs.Common.{rules, arith, ◌<◌, ◌≤◌, length}
use Rattle.fs_input.proofs.{Again.{again_fails, again_passes, again_took}, CutShort.{short_reads}}
use Rattle.fs_input.proofs.fields.take_again.Goals as goal

pub returns-clause-reads : goal.returns-clause-reads
returns-clause-reads g c = record {
  passes = again_passes _ _ (g.F.Files.left c.args.files.now) (g.F.Files.left c.fill.new.files) c.fill.ensures.passes;
  failed = search rules;
  scanned = λ told.
      again_took c.args.counted.now c.fill.new.counted (g.F.Files.left c.args.files.now) (g.F.Files.left c.fill.new.files)
      c.in-Ok.ensures.passes.slot c.fill.new.into c.in-Ok.count (c.in-Ok.ensures.filled told) (omega arith) c.in-Ok.ensures.taken;
}

pub returns-in_default-clause-reads : goal.returns-in_default-clause-reads
returns-in_default-clause-reads g c = record {
  passes = again_passes _ _ (g.F.Files.left c.args.files.now) (g.F.Files.left c.fill.new.files) c.fill.ensures.passes;
  failed = search rules;
  scanned = λ told. tt;
}

pub returns-then-count-into-clause-reads : goal.returns-then-count-into-clause-reads
returns-then-count-into-clause-reads g c = rw c.short.ensures (record {
  passes = again_passes _ _ (g.F.Files.left c.args.files.now) (g.F.Files.left c.fill.new.files) c.fill.ensures.passes;
  failed = λ e. absurd (short_reads c.args.cut c.fill.new.counted.taken c.fill.new.counted.limit e);
  scanned = λ told.
      let short : c.in-Ok.count < length c.fill.new.into = search rules in
      let within : c.args.counted.now.taken ≤ c.args.counted.now.limit = search rules in
      again_fails c.args.counted.now c.fill.new.counted (g.F.Files.left c.args.files.now) (g.F.Files.left c.fill.new.files)
      c.in-Ok.ensures.passes.slot c.fill.new.into c.in-Ok.count (c.in-Ok.ensures.filled told) short within
      c.in-Ok.ensures.taken c.in-Ok.ensures.passes.limit c.args.cut;
})
