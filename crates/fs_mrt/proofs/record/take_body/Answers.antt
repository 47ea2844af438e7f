use Rattle.fs_mrt.proofs.{Words.{rules, ap, ◌-◌, option_map, reads_as, reads_ends, reads_then, spoken_from, heard_in, said_at}, Bodies.{body_reads}}
use Rattle.fs_mrt.proofs.record.take_body.Goals as goal

pub returns-in-Ok-take_address-clause-reads : goal.returns-in-Ok-take_address-clause-reads
returns-in-Ok-take_address-clause-reads g c =
    let peers = c.args.peers.now in
    let shape = c.in-Some.shape in
    let later = c.max.result in
    let size = c.args.head.size - c.ends_size.result in
    body_reads peers c.args.moment later c.ends_size.result c.args.head shape c.in-Ok-take_front.front c.in-Some.is (search rules) c.ends_size.ensures.exact
    c.in-Ok-take_front.ensures.reads
    (reads_then (said_at peers later size shape) (option_map (λ heard. spoken_from heard c.take_heard.new.into)) c.in-Ok-take_address.ensures.reads
    (reads_as (said_at peers later size shape c.in-Ok-take_address.address)
    (λ octets. ap (λ peer. heard_in later size shape peer c.take_address.new.counted.taken octets) c.number_at.ensures) c.take_heard.ensures.reads))

pub returns-in-Err-take_address-clause-reads : goal.returns-in-Err-take_address-clause-reads
returns-in-Err-take_address-clause-reads g c =
    let shape = c.in-Some.shape in
    body_reads c.args.peers.now c.args.moment c.max.result c.ends_size.result c.args.head shape c.in-Ok-take_front.front c.in-Some.is (search rules)
    c.ends_size.ensures.exact c.in-Ok-take_front.ensures.reads
    (reads_ends (said_at c.args.peers.now c.max.result (c.args.head.size - c.ends_size.result) shape)
    (option_map (λ heard. spoken_from heard c.args.into.now)) c.in-Err-take_address.ensures.reads)
