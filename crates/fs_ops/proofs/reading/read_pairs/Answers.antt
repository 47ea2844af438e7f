use Rattle.fs_ops.proofs.Words.{◌≡◌, ℕ, ◌-◌, List, [], length, take, drop, get_or, sym, subst, ◌∙◌, arith, Contains, both_ways, nil_from_length}
use Rattle.fs_ops.proofs.Words.{width_of}
use Rattle.fs_ops.proofs.Found.{HasRead, NextPair, first_and_tail, cut_between, cut_within, bad_width, next_found, goes_on, ends_here}
use Rattle.fs_ops.proofs.reading.read_pairs.Goals.{After-is_last}
use Rattle.fs_ops.proofs.reading.read_pairs.Goals as goal

pub returns-then-not-allows-clause-fault : goal.returns-then-not-allows-clause-fault
returns-then-not-allows-clause-fault c some =
    let rest = c.loop-rest.rest.now in
    bad_width c.args.kind c.args.widths.now c.args.octets.now rest c.loop-rest.pairs.items (get_or rest 0 0) _ some c.loop-rest.invariant
    (first_and_tail rest c.in-len1-up.len_at_least)
    (λ allowed. both_ways c.allows.result c.if-not-allows.true
    (c.allows.ensures.1 (subst (Contains c.args.widths.now) (sym c.width_code_of.ensures.value) allowed)))

pub returns-then-tail-len-clause-fault : goal.returns-then-tail-len-clause-fault
returns-then-tail-len-clause-fault c some =
    let rest = c.loop-rest.rest.now in
    cut_within c.args.kind c.args.widths.now c.args.octets.now rest c.loop-rest.pairs.items (get_or rest 0 0) _ some c.loop-rest.invariant
    (first_and_tail rest c.in-len1-up.len_at_least)
    (subst (Contains c.args.widths.now) c.width_code_of.ensures.value (c.allows.ensures.0 c.if-not-allows.false))
    (rw (← c.width_of-len.ensures.value) c.if-tail-len.true)

-- the pair that was pushed
pushed : (c : After-is_last) → NextPair c.args.kind c.args.widths.now c.args.octets.now c.split_at.result.1.now c.push.new.self.items
    (get_or c.loop-rest.rest.now 0 0)
pushed c =
    let rest = c.loop-rest.rest.now in
    let operator = get_or rest 0 0 in
    let tail = take (length rest - 1) (drop 1 rest) in
    let allowed = subst (Contains c.args.widths.now) c.width_code_of.ensures.value (c.allows.ensures.0 c.if-not-allows.false) in
    let read = subst (λ (l : List ℕ). HasRead c.args.kind c.args.widths.now c.args.octets.now l c.loop-rest.pairs.items)
    (first_and_tail rest c.in-len1-up.len_at_least) c.loop-rest.invariant in
    let found = next_found c.args.kind c.args.widths.now c.args.octets.now c.loop-rest.pairs.items operator tail read allowed
    (rw (← c.width_of-len.ensures.value) c.if-tail-len.false) in
    let next : drop (width_of operator) tail ≡ c.split_at.result.1.now = cc in
    let items = rw (
      c.clear_ignored.ensures,
      c.is_empty.ensures,
      c.loop-rest.pairs.ok.0,
      c.read_number-number.ensures,
      c.split_at.ensures.front,
      c.width_of-len.ensures.value,
    ) at c.in_ok-push.ensures.items in
    rw (next, sym items) at found

pub returns-then-is_last-clause-found : goal.returns-then-is_last-clause-found
returns-then-is_last-clause-found c =
    ends_here c.args.kind c.args.widths.now c.args.octets.now c.split_at.result.1.now c.push.new.self.items (get_or c.loop-rest.rest.now 0 0)
    (pushed (goal.at.returns-then-is_last-clause-found c).After-is_last) (sym c.is_last.ensures ∙ c.if-is_last.true)

pub loop-rest-preserved : goal.loop-rest-preserved
loop-rest-preserved c =
    goes_on c.args.kind c.args.widths.now c.args.octets.now c.split_at.result.1.now c.push.new.self.items (get_or c.loop-rest.rest.now 0 0)
    (pushed (goal.at.loop-rest-preserved c).After-is_last) (sym c.is_last.ensures ∙ c.if-is_last.false)

pub returns-clause-fault : goal.returns-clause-fault
returns-clause-fault c some =
    cut_between c.args.kind c.args.widths.now c.args.octets.now c.loop-rest.rest.now c.loop-rest.pairs.items some c.loop-rest.invariant
    (nil_from_length c.loop-rest.rest.now (omega (arith, c.in_default.len_below)))
