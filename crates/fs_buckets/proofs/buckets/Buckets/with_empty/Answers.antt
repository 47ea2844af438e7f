use Rattle.std.proofs.Common.{length}
use Rattle.fs_buckets.proofs.Opening.{opens}
use Rattle.fs_buckets.proofs.buckets.Buckets.with_empty.Goals as goal

pub returns : goal.returns
returns c = opens c.args.self (record { lasts = c.insert.new.self; marks = c.in_ok-marks.marks; nodes = c.open.new.self; homes = c.raised.result })
    (length c.args.self.homes.items)
    c.args.bucket c.find-low.result c.args.from c.first_over-parent.result c.args.span c.requires.sound c.requires.subnet c.requires.gap (record {
      lasts = c.in_ok-insert.ensures;
      nodes = c.in_ok-open.ensures;
      homes = c.raised.ensures;
      apart = c.find-low.ensures.below;
      over = c.first_over-parent.ensures.within;
      least = c.first_over-parent.ensures.least;
    })
