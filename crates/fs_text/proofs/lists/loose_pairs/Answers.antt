use Rattle.fs_text.proofs.{Words.{◌∙◌, Some, ap, sym, nil_from_length, some_pair_parts, plain_of}, Pairs.{last_read, next_left, taken}}
use Rattle.fs_text.proofs.lists.loose_pairs.Goals as goal

pub returns-in_default : goal.returns-in_default
returns-in_default c = λ pairs normal is.
    let t = taken c.args.kind pairs c.loop-plain.pairs.items c.loop-plain.joined c.loop-plain.rest.now c.first_pair.result.0.now
    c.first_pair.result.1.now c.loose_pair.result
    (c.loop-plain.invariant.1 pairs normal is) c.first_pair.ensures.parts c.loose_pair.ensures.loose in
    absurd (cc (c.in_default.is, t.1))

pub returns-in-None : goal.returns-in-None
returns-in-None c = λ pairs normal is.
    let left = c.loop-plain.invariant.1 pairs normal is in
    let t = taken c.args.kind pairs c.loop-plain.pairs.items c.loop-plain.joined c.loop-plain.rest.now c.first_pair.result.0.now
    c.first_pair.result.1.now c.loose_pair.result
    left c.first_pair.ensures.parts c.loose_pair.ensures.loose in
    let said = some_pair_parts c.in-Some.plain (plain_of c.args.kind left.pair.0) c.in-Some.value left.pair.1 (sym c.in-Some.is ∙ t.1) in
    ap Some (c.in_ok-push-in-None.ensures.items
    ∙ last_read c.args.kind pairs c.loop-plain.pairs.items c.loop-plain.joined c.in-Some.plain c.in-Some.value left.pair left.others left.normal
    left.split left.joins
    (sym t.0 ∙ nil_from_length c.first_pair.result.1.now c.in-None.ensures.cases) said.0 said.1)

pub loop-plain-preserved : goal.loop-plain-preserved
loop-plain-preserved c = (
  c.and_bit-joined.ensures.small,
  λ pairs normal is.
      let left = c.loop-plain.invariant.1 pairs normal is in
      let t = taken c.args.kind pairs c.loop-plain.pairs.items c.loop-plain.joined c.loop-plain.rest.now c.first_pair.result.0.now
      c.first_pair.result.1.now c.loose_pair.result
      left c.first_pair.ensures.parts c.loose_pair.ensures.loose in
      let said = some_pair_parts c.in-Some.plain (plain_of c.args.kind left.pair.0) c.in-Some.value left.pair.1 (sym c.in-Some.is ∙ t.1) in
      next_left c.args.kind pairs c.loop-plain.pairs.items c.push-in-Some-split_first.new.self.items c.loop-plain.joined c.and_bit-joined.result
      c.in-Some.plain c.in-Some.value
      c.in-Some-split_first.delimiter.now c.in-Some-split_first.others.now left.pair left.others left.normal left.split left.joins
      (sym t.0 ∙ c.in-Some-split_first.ensures.cases.0) said.0 said.1 c.in_ok-push-in-Some-split_first.ensures.items c.and_bit-joined.ensures.value,
)
