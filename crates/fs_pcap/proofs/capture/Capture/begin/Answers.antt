use Rattle.fs_pcap.proofs.Words.{rules, arith, ◌≡◌, Ok, Err, none_back, opens_not, opens_so, IsFrontWithin, opened_answer, header_of, CaptureState}
use Rattle.fs_pcap.proofs.Words.{Cut, Heading}
use Rattle.fs_pcap.proofs.capture.Capture.begin.Goals as goal

pub returns-in-Err-clause-opens : goal.returns-in-Err-clause-opens
returns-in-Err-clause-opens g c = λ told.
    let within : IsFrontWithin 24 c.in-Ok.count c.read_header.result = search rules in
    let is : opened_answer Cut c.fill.new.counted.taken c.args.counted.limit c.read_header.result ≡ Err c.in-Err.fault = search rules in
    opens_not 24 Cut c.args.counted c.fill.new.counted c.in-Ok.count c.read_header.result within
    header_of (g.F.Files.left c.args.files.now c.args.counted.slot) (g.F.Files.left c.fill.new.files c.args.counted.slot) c.fill.new.into
    (c.in-Ok.ensures.filled told) c.requires.start (search rules) c.read_header.ensures.exact c.in-Ok.ensures.taken
    (λ (capture : CaptureState). capture.heading) c.in-Err.fault is

pub returns-in-Ok-opened-clause-opens : goal.returns-in-Ok-opened-clause-opens
returns-in-Ok-opened-clause-opens g c = λ told.
    let within : IsFrontWithin 24 c.in-Ok.count c.read_header.result = search rules in
    let is : opened_answer Cut c.fill.new.counted.taken c.args.counted.limit c.read_header.result ≡ Ok c.in-Ok-opened.heading = search rules in
    let few = c.args.counted.few in
    opens_so 24 Cut c.args.counted c.fill.new.counted c.in-Ok.count c.read_header.result within
    header_of (g.F.Files.left c.args.files.now c.args.counted.slot) (g.F.Files.left c.fill.new.files c.args.counted.slot) c.fill.new.into
    (c.in-Ok.ensures.filled told) c.requires.start (search rules) c.read_header.ensures.exact c.in-Ok.ensures.taken
    (λ (heading : Heading). heading) c.in-Ok-opened.heading is (omega (arith, few)) c.in-Ok.ensures.back

pub invariant_of-result : goal.invariant_of-result
invariant_of-result g c =
    let within : IsFrontWithin 24 c.in-Ok.count c.read_header.result = search rules in
    let is : opened_answer Cut c.fill.new.counted.taken c.args.counted.limit c.read_header.result ≡ Ok c.in-Ok-opened.heading = search rules in
    let few = c.args.counted.few in
    none_back 24 Cut c.args.counted c.fill.new.counted c.in-Ok.count c.read_header.result within c.in-Ok-opened.heading is
    (omega (arith, few)) c.in-Ok.ensures.back
