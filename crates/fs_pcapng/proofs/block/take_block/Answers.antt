use Rattle.fs_pcapng.proofs.Words.{rules, ◌≡◌, ◌≢◌, ◌+◌, true, Some, ap, sym, ◌∙◌, big_number, number, reads_as, reads_then, allows, body_in}
use Rattle.fs_pcapng.proofs.Words.{frame_of, kind_of, least_of, plain_in, total_behind, Length, needs_true}
use Rattle.fs_pcapng.proofs.Bodies.{block_fails, block_header, block_plain, told_of}
use Rattle.fs_pcapng.proofs.block.take_block.Goals as goal

pub returns-in-Ok-clause-reads : goal.returns-in-Ok-clause-reads
returns-in-Ok-clause-reads g c =
    let is : big_number 4 c.args.kind.now ≡ 0x0a0d0d0a = sym c.read_u32.ensures ∙ (search rules) in
    block_header c.args.section.now c.open.new.self c.args.start c.args.kind.now c.args.into.now is c.open.ensures c.in-Ok.ensures.reads

pub returns-in-Err-clause-reads : goal.returns-in-Err-clause-reads
returns-in-Err-clause-reads g c =
    let is : big_number 4 c.args.kind.now ≡ 0x0a0d0d0a = sym c.read_u32.ensures ∙ (search rules) in
    block_fails c.args.section.now c.args.section.now c.args.start c.args.kind.now c.args.into.now is c.in-Err.ensures.reads

pub returns-clause-reads : goal.returns-clause-reads
returns-clause-reads g c =
    let now = c.args.section.now in
    let start = c.args.start in
    let order = c.in-Some.order in
    let octets = c.args.kind.now in
    let total = c.in-Ok-take_number.total in
    let place = c.take_number.new.counted.taken in
    let tells = told_of c.take_body.new.into c.take_body.new.section in
    let other : c.read_u32.result ≢ 0x0a0d0d0a = search rules in
    let is : big_number 4 octets ≢ 0x0a0d0d0a = λ e. other (c.read_u32.ensures ∙ e) in
    let found : Some order ≡ now.order = sym c.in-Some.is ∙ c.order.ensures in
    let kind : c.kind_of-kind.result ≡ kind_of (number order 4 octets) = c.kind_of-kind.ensures ∙ ap kind_of c.read_u32-2.ensures in
    let passes : c.allows.result ≡ true = search rules in
    let test : allows (least_of (kind_of (number order 4 octets))) total ≡ true =
    sym (ap (λ n. allows n total) (c.least.ensures.exact ∙ ap least_of kind)) ∙ sym c.allows.ensures ∙ passes in
    block_plain now c.take_body.new.section start octets c.take_body.new.into is
    (reads_as (plain_in start now now.order octets) (λ rest. ap (λ o. plain_in start now o octets c.args.counted.now.taken rest) found)
    (reads_then (total_behind start order now (kind_of (number order 4 octets))) tells c.in-Ok-take_number.ensures.reads
    (reads_as (total_behind start order now (kind_of (number order 4 octets)) total)
    (λ rest. ap (λ k. body_in (frame_of order start total) now k place rest) kind
    ∙ needs_true (allows (least_of (kind_of (number order 4 octets))) total) Length (start + 4)
    (body_in (frame_of order start total) now (kind_of (number order 4 octets))) test place rest)
    c.take_body.ensures.reads)))
