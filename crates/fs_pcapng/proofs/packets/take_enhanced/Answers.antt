use Rattle.fs_pcapng.proofs.Words.{take, ap, sym, ◌∙◌, gives, gives_for, reads_as, reads_ends, reads_then, enhanced_in, packet, seen_from}
use Rattle.fs_pcapng.proofs.Told.{behind_told, enhanced_is}
use Rattle.fs_pcapng.proofs.packets.take_enhanced.Goals as goal

pub returns-in-Ok-take_captured-clause-reads : goal.returns-in-Ok-take_captured-clause-reads
returns-in-Ok-take_captured-clause-reads g c =
    let frame = c.args.frame in
    let now = c.args.section.now in
    let told = c.in-Ok.told in
    let into = c.take_captured.new.into in
    reads_as (enhanced_in frame now) (enhanced_is frame now c.args.counted.now.taken)
    (reads_then (behind_told frame now.moment) (seen_from into) c.in-Ok.ensures.reads
    (reads_then (λ octets. gives (packet now.moment told.time told.link told.original octets)) (seen_from into) c.in-Ok-take_captured.ensures.reads
    (gives_for (packet now.moment told.time told.link told.original (take told.captured into)) (seen_from into) c.seen.result
    ((λ i. packet (sym c.moment.ensures i) told.time told.link told.original (take told.captured into)) ∙ ap (seen_from into) (sym c.seen.ensures)))))

pub returns-in-Err-clause-reads : goal.returns-in-Err-clause-reads
returns-in-Err-clause-reads g c =
    reads_as (enhanced_in c.args.frame c.args.section.now) (enhanced_is c.args.frame c.args.section.now c.args.counted.now.taken)
    (reads_ends (behind_told c.args.frame c.args.section.now.moment) (seen_from c.args.into.now) c.in-Err.ensures.reads)

pub returns-in-Err-take_captured-clause-reads : goal.returns-in-Err-take_captured-clause-reads
returns-in-Err-take_captured-clause-reads g c =
    let frame = c.args.frame in
    let now = c.args.section.now in
    let told = c.in-Ok.told in
    let into = c.take_captured.new.into in
    reads_as (enhanced_in frame now) (enhanced_is frame now c.args.counted.now.taken)
    (reads_then (behind_told frame now.moment) (seen_from into) c.in-Ok.ensures.reads
    (reads_ends (λ octets. gives (packet now.moment told.time told.link told.original octets)) (seen_from into) c.in-Err-take_captured.ensures.reads))
