use Rattle.std.proofs.Common.{rules, ◌≡◌, ◌++◌, [], take}
use Rattle.fs_base.proofs.Drawing.{content_more, passed_counted}
use Rattle.fs_base.proofs.whole.read_whole.Goals as goal

pub loop-octets-preserved : goal.loop-octets-preserved
loop-octets-preserved g c = record {
  slot = search rules;
  limit = search rules;
  taken = search rules;
  later = search rules;
  back = search rules;
  content = λ told.
      let takes = rw c.loop-octets.invariant.slot at (c.in-Ok.ensures.left told) in
      let none : c.read.new.self.back ≡ [] = c.in-Ok.ensures.none c.loop-octets.invariant.back in
      let piece = take c.in-Ok.count c.read.new.into in
      let grown : c.extend_from_slice.new.self.items ≡ c.loop-octets.octets.items ++ piece = search rules in
      content_more (g.F.Files.left c.args.files.now c.args.slot) c.loop-octets.octets.items c.extend_from_slice.new.self.items
      c.loop-octets.counted.back c.read.new.self.back (g.F.Files.left c.loop-octets.files c.args.slot)
      (g.F.Files.left c.read.new.files c.args.slot) piece
      (c.loop-octets.invariant.content told) c.loop-octets.invariant.back none takes.0 grown;
  took = λ told.
      passed_counted c.args.limit c.args.slot c.loop-octets.counted c.read.new.self
      (g.F.Files.left c.args.files.now) (g.F.Files.left c.loop-octets.files) (g.F.Files.left c.read.new.files)
      c.loop-octets.invariant.slot c.loop-octets.invariant.limit c.loop-octets.invariant.back
      (c.loop-octets.invariant.took told) (c.in-Ok.ensures.took told);
  opened = search rules;
  others = search rules;
}

pub returns-in_err-extend_from_slice-in-Ok-clause-took : goal.returns-in_err-extend_from_slice-in-Ok-clause-took
returns-in_err-extend_from_slice-in-Ok-clause-took g c = λ told. (
  c.read.new.self.taken,
  passed_counted c.args.limit c.args.slot c.loop-octets.counted c.read.new.self
      (g.F.Files.left c.args.files.now) (g.F.Files.left c.loop-octets.files) (g.F.Files.left c.read.new.files)
      c.loop-octets.invariant.slot c.loop-octets.invariant.limit c.loop-octets.invariant.back
      (c.loop-octets.invariant.took told) (c.in-Ok.ensures.took told),
)
