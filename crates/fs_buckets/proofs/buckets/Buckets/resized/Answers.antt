use Rattle.fs_buckets.proofs.{Words.{length, refl, ap, ◌∙◌, arith, splice}, Resizing.{bounds, resizes, shift_fits}}
use Rattle.fs_buckets.proofs.buckets.Buckets.resized.Goals as goal

pub overflow_cast-to : goal.overflow_cast-to
overflow_cast-to c =
    let b = (bounds c.args.self (length c.args.self.homes.items) c.args.bucket c.args.from c.args.to c.requires.some.0 c.requires.sound c.requires.some.1).1 in
    omega (arith, b, c.requires.whole)

pub shift-requires : goal.shift-requires
shift-requires c = shift_fits c.args.self (length c.args.self.homes.items) c.args.bucket c.args.from c.args.to c.args.count c.requires.some.0
    c.requires.sound c.requires.some.1 c.requires.fits

pub returns : goal.returns
returns c = λ most span spans news fits holder housed whole each size.
    resizes c.args.self (record { lasts = c.args.self.lasts; marks = c.args.self.marks; nodes = c.shift.new.self; homes = c.put_between.new.items })
    (length c.args.self.homes.items) most
    c.args.bucket c.args.from c.args.to c.args.count span spans news c.requires.sound holder (record {
      lasts = refl;
      nodes = c.shift.ensures;
      homes = c.in_ok-put_between.ensures ∙ ap (splice c.args.self.homes.items c.args.from c.args.to) (c.in_ok-vec.ensures.items_if_clones_equal (λ y h. h));
    }) fits housed whole each size
