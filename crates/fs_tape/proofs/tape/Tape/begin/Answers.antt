use Rattle.fs_tape.proofs.Words.{rules, arith, ◌≡◌, Ok, Err, none_back, opens_not, opens_so, IsFrontWithin, opened_answer, magic_field, TapeState, Cut, Version}
use Rattle.fs_tape.proofs.tape.Tape.begin.Goals as goal

pub returns-in-Err-clause-opens : goal.returns-in-Err-clause-opens
returns-in-Err-clause-opens g c = λ told.
    let within : IsFrontWithin 8 c.in-Ok.count c.read_magic.result = search rules in
    let is : opened_answer Cut c.fill.new.counted.taken c.args.counted.limit c.read_magic.result ≡ Err c.in-Err.fault = search rules in
    opens_not 8 Cut c.args.counted c.fill.new.counted c.in-Ok.count c.read_magic.result within
    magic_field (g.F.Files.left c.args.files.now c.args.counted.slot) (g.F.Files.left c.fill.new.files c.args.counted.slot) c.fill.new.into
    (c.in-Ok.ensures.filled told) c.requires.start (search rules) c.read_magic.ensures.exact c.in-Ok.ensures.taken
    (λ (tape : TapeState). tape.version) c.in-Err.fault is

pub returns-in-Ok-opened-clause-opens : goal.returns-in-Ok-opened-clause-opens
returns-in-Ok-opened-clause-opens g c = λ told.
    let within : IsFrontWithin 8 c.in-Ok.count c.read_magic.result = search rules in
    let is : opened_answer Cut c.fill.new.counted.taken c.args.counted.limit c.read_magic.result ≡ Ok c.in-Ok-opened.version = search rules in
    let few = c.args.counted.few in
    opens_so 8 Cut c.args.counted c.fill.new.counted c.in-Ok.count c.read_magic.result within
    magic_field (g.F.Files.left c.args.files.now c.args.counted.slot) (g.F.Files.left c.fill.new.files c.args.counted.slot) c.fill.new.into
    (c.in-Ok.ensures.filled told) c.requires.start (search rules) c.read_magic.ensures.exact c.in-Ok.ensures.taken
    (λ (version : Version). version) c.in-Ok-opened.version is (omega (arith, few)) c.in-Ok.ensures.back

pub invariant_of-result : goal.invariant_of-result
invariant_of-result g c =
    let within : IsFrontWithin 8 c.in-Ok.count c.read_magic.result = search rules in
    let is : opened_answer Cut c.fill.new.counted.taken c.args.counted.limit c.read_magic.result ≡ Ok c.in-Ok-opened.version = search rules in
    let few = c.args.counted.few in
    none_back 8 Cut c.args.counted c.fill.new.counted c.in-Ok.count c.read_magic.result within c.in-Ok-opened.version is
    (omega (arith, few)) c.in-Ok.ensures.back
