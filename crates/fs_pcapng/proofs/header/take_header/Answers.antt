use Rattle.fs_pcapng.proofs.Words.{rules, ◌≡◌, ◌+◌, ◌-◌, true, false, None, take, ap, sym, ◌∙◌, arith, Endian, fails, reads_as, reads_fails}
use Rattle.fs_pcapng.proofs.Words.{reads_then, allows, frame_of, magic_behind, order_of, ordered_in, version_in, Length, Magic, needs_false}
use Rattle.fs_pcapng.proofs.Words.{needs_true}
use Rattle.fs_pcapng.proofs.Bodies.{header_reads}
use Rattle.fs_pcapng.proofs.header.take_header.Goals as goal

pub returns-clause-reads : goal.returns-clause-reads
returns-clause-reads g c =
    let start = c.args.start in
    let total = c.read_u32-total.result in
    let passes : c.allows.result ≡ true = search rules in
    header_reads start c.take_front.new.into c.take_front.ensures.room c.read_u32-total.ensures (sym c.in-Some.is
    ∙ c.order_of.ensures) c.in_default.ensures.reads c.in-Ok.ensures.reads
    (λ rest. needs_true (allows 28 total) Length (start + 4) (version_in (frame_of c.in-Some.order start total)) (sym c.allows.ensures ∙ passes)
    c.take_number.new.counted.taken rest)
    c.take_version.ensures.reads

pub returns-then-not-allows-clause-reads : goal.returns-then-not-allows-clause-reads
returns-then-not-allows-clause-reads g c =
    let start = c.args.start in
    let total = c.read_u32-total.result in
    let place = c.take_number.new.counted.taken in
    let passes : c.allows.result ≡ false = search rules in
    let spot : place - 8 ≡ start + 4 = omega (arith, c.in_default.ensures.taken, c.in-Ok.ensures.taken, c.requires.place) in
    header_reads start c.take_front.new.into c.take_front.ensures.room c.read_u32-total.ensures (sym c.in-Some.is
    ∙ c.order_of.ensures) c.in_default.ensures.reads c.in-Ok.ensures.reads
    (λ rest. needs_false (allows 28 total) Length (start + 4) (version_in (frame_of c.in-Some.order start total)) (place - 8) (sym c.allows.ensures ∙ passes)
    spot place rest)
    (reads_fails (λ (o : Endian). o) Length (place - 8))

pub returns-in_default-order_of-clause-reads : goal.returns-in_default-order_of-clause-reads
returns-in_default-order_of-clause-reads g c =
    let start = c.args.start in
    let octets = c.take_front.new.into in
    let place = c.take_number.new.counted.taken in
    let found : None ≡ order_of c.in-Ok.magic = search rules in
    let first : c.take_front.new.counted.taken ≡ c.args.counted.now.taken + 4 = c.in_default.ensures.taken in
    let second : place ≡ c.take_front.new.counted.taken + 4 = c.in-Ok.ensures.taken in
    let spot : place - 4 ≡ start + 8 = omega (arith, first, second, c.requires.place) in
    reads_then (magic_behind start) (λ (o : Endian). o) c.in_default.ensures.reads
    (reads_then (λ magic. ordered_in start (take 4 octets) (order_of magic)) (λ (o : Endian). o) c.in-Ok.ensures.reads
    (reads_as (ordered_in start (take 4 octets) (order_of c.in-Ok.magic))
    (λ rest. ap (λ n. fails {A = Endian} Magic n place rest) spot ∙ ap (λ o. ordered_in start (take 4 octets) o place rest) found)
    (reads_fails (λ (o : Endian). o) Magic (place - 4))))
