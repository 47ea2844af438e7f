use Rattle.fs_pcapng.proofs.{Words.{take, ap, sym, ◌∙◌, arith, gives, gives_for, reads_ends, reads_then, packet, seen_from}, Bodies.{simple_reads}}
use Rattle.fs_pcapng.proofs.packets.take_simple.Goals as goal

pub returns-in-Ok-take_captured-clause-reads : goal.returns-in-Ok-take_captured-clause-reads
returns-in-Ok-take_captured-clause-reads g c =
    let now = c.args.section.now in
    let interface = c.in-Some.interface in
    let original = c.in-Ok.original in
    let into = c.take_captured.new.into in
    simple_reads c.args.frame now interface original c.cut_to.result c.padded.result (sym c.in-Some.is ∙ c.interface.ensures) c.cut_to.ensures
    (omega (arith, c.if-told-gt-LONGEST_PACKET.false)) c.padded.ensures (omega (arith, c.if-padded-frame.false)) c.in-Ok.ensures.reads
    (reads_then (λ octets. gives (packet now.moment 0 interface.link original octets)) (seen_from into) c.in-Ok-take_captured.ensures.reads
    (gives_for (packet now.moment 0 interface.link original (take c.cut_to.result into)) (seen_from into) c.seen.result
    (ap (λ m. packet m 0 interface.link original (take c.cut_to.result into)) (sym c.moment.ensures) ∙ ap (seen_from into) (sym c.seen.ensures))))

pub returns-in-Err-take_captured-clause-reads : goal.returns-in-Err-take_captured-clause-reads
returns-in-Err-take_captured-clause-reads g c =
    let now = c.args.section.now in
    let interface = c.in-Some.interface in
    simple_reads c.args.frame now interface c.in-Ok.original c.cut_to.result c.padded.result (sym c.in-Some.is ∙ c.interface.ensures) c.cut_to.ensures
    (omega (arith, c.if-told-gt-LONGEST_PACKET.false)) c.padded.ensures (omega (arith, c.if-padded-frame.false)) c.in-Ok.ensures.reads
    (reads_ends (λ octets. gives (packet now.moment 0 interface.link c.in-Ok.original octets)) (seen_from c.take_captured.new.into)
    c.in-Err-take_captured.ensures.reads)
