use Rattle.std.proofs.Common.{◌≡◌, ◌<◌, ◌∙◌, arith}
use Rattle.fs_pcapng.proofs.Cursors.{cursor_all, cursor_fails, cursor_more, cursor_start}
use Rattle.fs_pcapng.proofs.options.read_options.Goals as goal

pub options-init : goal.options-init
options-init g c = record {
  none = c.requires.none;
  left = omega arith;
  taken = omega arith;
  walked = cursor_start c.args.order c.args.size;
}

pub options-preserved : goal.options-preserved
options-preserved g c =
    let some : 0 < c.options.now.left = omega arith in
    record {
      none = c.take_option.ensures.none;
      left = (let less : c.in-Ok.later.left < c.options.now.left = c.in-Ok.ensures.less in omega (arith, less, c.options.invariant.left));
      taken = c.in-Ok.ensures.taken ∙ c.options.invariant.taken;
      walked = cursor_more some c.in-Ok.ensures.less c.options.invariant.walked c.in-Ok.ensures.reads;
    }

pub returns-in-Err-clause-reads : goal.returns-in-Err-clause-reads
returns-in-Err-clause-reads g c =
    let some : 0 < c.options.now.left = omega arith in
    cursor_fails some c.options.invariant.walked c.in-Err.ensures.reads

pub returns-clause-reads : goal.returns-clause-reads
returns-clause-reads g c =
    let none : c.options.now.left ≡ 0 = omega arith in
    cursor_all none c.options.invariant.walked
