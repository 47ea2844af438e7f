use Rattle.std.proofs.Common.{arith, Ok}
use Rattle.fs_outside.{specs.{declared.files.Failed.{Failed}, Wire.{EndReads}, MemoryWires.{ends_of}}, proofs.Telling.{takes_some, told_kept}}
use Rattle.fs_outside.proofs.memory_wires.CalmWireWire.read.Goals as goal

pub returns-clause-reads : goal.returns-clause-reads
returns-clause-reads c =
    let e = c.read.ensures in
    told_kept c.args.self.now.tells (EndReads {E = Failed} c.args.end (Ok c.read.result) c.read.new.into) (ends_of c.args.self.now.cable)
    (ends_of c.read.new.self)
    (record {
      takes = takes_some Failed _ _ _ _ _ (omega arith) e.count e.copied e.left;
      receives = e.receives;
      wrote = e.wrote;
      tied = e.tied;
      other = e.other;
    })
