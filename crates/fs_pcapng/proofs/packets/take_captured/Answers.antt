use Rattle.fs_pcapng.proofs.Words.{rules, ◌≡◌, ◌≢◌, ◌+◌, ◌-◌, ◌==◌, take, drop, ◌∙◌, arith, number, gives_for, reads_as, reads_fails, reads_then}
use Rattle.fs_pcapng.proofs.Words.{reads_ends, reads_gives, gives, and, octets_in, end_in, Length, needs_false, needs_true}
use Rattle.fs_pcapng.proofs.Merged.{closes, closing, first_of, is_equal, is_other, merged}
use Rattle.fs_pcapng.proofs.packets.take_captured.Goals as goal

pub returns-clause-reads : goal.returns-clause-reads
returns-clause-reads g c =
    let frame = c.args.frame in
    let captured = c.args.captured in
    let rest = frame.total - c.args.fixed - captured in
    let into = c.take_front-2.new.into in
    let all = take (captured + rest + 4) into in
    let again : c.read_u32.result ≡ frame.total = search rules in
    let test = closes frame captured rest c.read_u32.result into c.read_u32.ensures ∙ is_equal c.read_u32.result frame.total again in
    reads_as (octets_in frame c.args.fixed captured) (merged frame captured rest c.args.counted.now.taken)
    (reads_then (closing frame captured rest) (λ _. take captured into) c.in_default-take_front.ensures.reads
    (reads_as (closing frame captured rest all)
    (needs_true (number frame.order 4 (drop (captured + rest) all) == frame.total) Length (frame.start + frame.total - 4)
    (gives (take captured all)) test c.take_front-2.new.counted.taken)
    (gives_for (take captured all) (λ _. take captured into) _ (first_of captured rest into))))

pub returns-then-read_u32-frame-clause-reads : goal.returns-then-read_u32-frame-clause-reads
returns-then-read_u32-frame-clause-reads g c =
    let frame = c.args.frame in
    let captured = c.args.captured in
    let rest = frame.total - c.args.fixed - captured in
    let into = c.take_front-2.new.into in
    let all = take (captured + rest + 4) into in
    let other : c.read_u32.result ≢ frame.total = search rules in
    let test = closes frame captured rest c.read_u32.result into c.read_u32.ensures ∙ is_other c.read_u32.result frame.total other in
    let taken : c.take_front-2.new.counted.taken ≡ c.args.counted.now.taken + (captured + rest + 4) = c.in_default-take_front.ensures.taken in
    let place = c.requires.place in
    let long = c.requires.long in
    let spot : c.take_front-2.new.counted.taken - 4 ≡ frame.start + frame.total - 4 = omega (arith, taken, place, long) in
    reads_as (octets_in frame c.args.fixed captured) (merged frame captured rest c.args.counted.now.taken)
    (reads_then (closing frame captured rest) (λ _. take captured into) c.in_default-take_front.ensures.reads
    (reads_as (closing frame captured rest all)
    (needs_false (number frame.order 4 (drop (captured + rest) all) == frame.total) Length (frame.start + frame.total - 4) (gives (take captured all))
    (c.take_front-2.new.counted.taken - 4) test spot c.take_front-2.new.counted.taken)
    (reads_fails (λ _. take captured into) Length (c.take_front-2.new.counted.taken - 4))))

pub returns-in-Ok-clause-reads : goal.returns-in-Ok-clause-reads
returns-in-Ok-clause-reads g c =
    let rest = c.args.frame.total - c.args.fixed - c.args.captured in
    let octets = take c.args.captured c.take_front.new.into in
    reads_then (λ octets. and (end_in c.args.frame rest) (λ _. gives octets)) (λ _. octets) c.in_default.ensures.reads
    (reads_then (λ _. gives octets) (λ _. octets) c.in-Ok.ensures.reads (reads_gives (λ _. octets) c.in-Ok.field-0))

pub returns-in-Err-end_block-clause-reads : goal.returns-in-Err-end_block-clause-reads
returns-in-Err-end_block-clause-reads g c =
    let rest = c.args.frame.total - c.args.fixed - c.args.captured in
    let octets = take c.args.captured c.take_front.new.into in
    reads_then (λ octets. and (end_in c.args.frame rest) (λ _. gives octets)) (λ _. octets) c.in_default.ensures.reads
    (reads_ends (λ _. gives octets) (λ _. octets) c.in-Err-end_block.ensures.reads)
