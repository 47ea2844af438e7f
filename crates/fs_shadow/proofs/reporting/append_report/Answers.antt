use Rattle.fs_shadow.proofs.Words.{ℕ, ◌<◌, ◌++◌, length, sym, subst, arith, refl, length-map, slice_get_read, AllByRecursion, all_admitted}
use Rattle.fs_shadow.proofs.Words.{shown_lent, each_size, each_got, report_of, IsOutlineOf, IsTold}
use Rattle.fs_shadow.proofs.{Destinations.{AreApart}, Probing.{all_told}}
use Rattle.fs_shadow.proofs.Reported.{apart_later, report_ends, report_step, stretch_apart}
use Rattle.fs_shadow.proofs.reporting.append_report.Goals as goal

pub stretch_start-start-requires-clause-inside : goal.stretch_start-start-requires-clause-inside
stretch_start-start-requires-clause-inside c =
    omega (
      arith,
      c.loop-number-test.true,
      each_size IsOutlineOf (all_admitted c.args.list.now) c.args.outlines.now c.requires.outlines,
      length-map c.args.list.now shown_lent,
    )

pub append_covered-requires-clause-told : goal.append_covered-requires-clause-told
append_covered-requires-clause-told c = all_told (all_admitted c.args.list.now) c.args.outlines.now c.requires.outlines

pub append_covered-requires-clause-later : goal.append_covered-requires-clause-later
append_covered-requires-clause-later c =
    each_got (λ x. AllByRecursion IsTold x.measures.items) c.args.outlines.now c.loop-number.number c.index-outlines-number.result
    (all_told (all_admitted c.args.list.now) c.args.outlines.now c.requires.outlines)
    (slice_get_read c.args.outlines.now (length c.args.outlines.now) c.loop-number.number c.index-outlines-number.result refl
    (omega (arith, c.loop-number-test.true)) c.index-outlines-number.is)

pub loop-number-preserved : goal.loop-number-preserved
loop-number-preserved c = record {
  within = omega (arith, c.stretch_start-start.ensures.within);
  apart = apart_later (all_admitted c.args.list.now) c.stretch_start-start.result c.loop-number.number apart;
  rest = report_step (all_admitted c.args.list.now) c.args.outlines.now c.stretch_start-start.result c.loop-number.number
      c.index-outlines-number.result c.loop-number.pairs.items c.append_covered.new.pairs.items
      (c.args.pairs.now.items ++ report_of (all_admitted c.args.list.now)) c.requires.outlines
      (slice_get_read c.args.outlines.now (length c.args.outlines.now) c.loop-number.number c.index-outlines-number.result refl
      (omega (arith, c.loop-number-test.true)) c.index-outlines-number.is)
      apart c.in_ok-append_covered.ensures c.loop-number.invariant.rest;
} where
  inside : c.loop-number.number < length (all_admitted c.args.list.now)
  inside = omega (arith, c.loop-number-test.true, each_size IsOutlineOf (all_admitted c.args.list.now) c.args.outlines.now c.requires.outlines)

  apart : AreApart (all_admitted c.args.list.now) c.stretch_start-start.result c.loop-number.number
  apart = subst (λ (s : ℕ). AreApart (all_admitted c.args.list.now) s c.loop-number.number) (sym c.stretch_start-start.ensures.start)
      (stretch_apart (all_admitted c.args.list.now) c.loop-number.start c.loop-number.number c.requires.order inside c.loop-number.invariant.apart)

pub returns : goal.returns
returns c =
    report_ends (all_admitted c.args.list.now) c.loop-number.number c.loop-number.pairs.items
    (c.args.pairs.now.items ++ report_of (all_admitted c.args.list.now))
    (omega (arith, c.loop-number-test.false, each_size IsOutlineOf (all_admitted c.args.list.now) c.args.outlines.now c.requires.outlines))
    c.loop-number.invariant.rest
