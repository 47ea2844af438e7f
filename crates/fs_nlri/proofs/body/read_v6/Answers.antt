use Rattle.fs_nlri.proofs.{Words.{V6Form}, Bodies.{v6_empty}, BodyReaders.{none_left, v6_long, v6_single, v6_outside, v6_few, v6_found}}
use Rattle.std.proofs.lemmas.Bool.{both_ways}
use Rattle.fs_nlri.proofs.body.read_v6.Goals as goal

pub returns-in_default-clause-fault : goal.returns-in_default-clause-fault
returns-in_default-clause-fault c = rw c.bad.ensures (none_left V6Form v6_empty c.args.octets.now c.in_default.len_below)

pub returns-then-length-gt128-clause-fault : goal.returns-then-length-gt128-clause-fault
returns-then-length-gt128-clause-fault c = rw c.bad-then-length-gt128.ensures (v6_long c.args.octets.now c.in-len1-up.len_at_least c.if-length-gt128.true)

pub returns-in_default-octets-clause-fault : goal.returns-in_default-octets-clause-fault
returns-in_default-octets-clause-fault c =
    rw c.bad-in_default-octets.ensures (v6_single c.args.octets.now c.in-len1-up.len_at_least c.in_default-octets.len_below c.if-length-gt128.false)

pub returns-then-not-has_range-clause-fault : goal.returns-then-not-has_range-clause-fault
returns-then-not-has_range-clause-fault c =
    rw c.bad-then-not-has_range.ensures (v6_outside c.args.octets.now c.in-len2-up.len_at_least c.if-length-gt128.false
    (λ range. both_ways c.has_range.result c.if-not-has_range.true (c.has_range.ensures.range.1 range)))

pub returns-then-tail-count-clause-fault : goal.returns-then-tail-count-clause-fault
returns-then-tail-count-clause-fault c =
    rw c.bad-then-tail-count.ensures
    (v6_few c.args.octets.now c.octets_for_bits-count.result c.in-len2-up.len_at_least (c.has_range.ensures.range.0 c.if-not-has_range.false)
    c.octets_for_bits-count.ensures c.if-tail-count.true)

pub returns-clause-found : goal.returns-clause-found
returns-clause-found c =
    v6_found c.args.octets.now c.octets_for_bits-count.result c.left_aligned.result c.of_bits-pattern.result.bits c.in-len2-up.len_at_least
    (c.has_range.ensures.range.0 c.if-not-has_range.false)
    c.octets_for_bits-count.ensures c.if-tail-count.false c.left_aligned.ensures c.of_bits-pattern.ensures.first_bits
