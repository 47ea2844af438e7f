use Rattle.cmd_enforce.proofs.{Words.{rules, arith, ◌≤◌, length, sym, ap, ◌∙◌, length-drop, length-take}, Opened.{begins_as}}
use Rattle.cmd_enforce.proofs.capture.Capture.begin.Goals as goal

pub put_back-requires-clause-few : goal.put_back-requires-clause-few
put_back-requires-clause-few g c =
    let most : length c.args.counted.back ≤ 4 = search rules in
    let room : length c.fill.new.into ≤ 4 = search rules in
    omega (
      arith,
      most,
      room,
      length-take c.in-Ok.count c.fill.new.into,
      ap length c.in-Ok.ensures.back ∙ length-drop c.in-Ok.count c.args.counted.back,
    )

pub returns-clause-begins : goal.returns-clause-begins
returns-clause-begins g c = λ told.
    begins_as c.args.counted c.fill.new.counted c.put_back.new.self (g.F.Files.left c.args.files.now) (g.F.Files.left c.fill.new.files)
    (record {
      limit = c.put_back.ensures.limit ∙ c.in-Ok.ensures.passes.limit;
      slot = c.put_back.ensures.slot ∙ c.in-Ok.ensures.passes.slot;
      start = c.requires.start;
      filled = c.in-Ok.ensures.filled told;
      four = search rules;
      back = c.put_back.ensures.back;
      section = sym c.is_section.ensures;
    })
    (g.F.Files.left c.open.new.files) c.open.result (c.open.ensures.begins told)
