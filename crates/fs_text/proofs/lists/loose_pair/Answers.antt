use Rattle.fs_text.proofs.{Words.{width_code, relation_of}, Pairs.{pair_made, pair_read}}
use Rattle.fs_text.proofs.lists.loose_pair.Goals as goal

pub returns-in-Some-Some-clause-loose : goal.returns-in-Some-Some-clause-loose
returns-in-Some-Some-clause-loose c = λ operator value small is.
    pair_made c.loose_sign.result c.loose_operand.result c.in-Some-Some.relation c.in-Some-Some.code c.in-Some-Some.value
    (relation_of c.args.kind operator) (width_code operator) value
    c.in-Some-Some.is-0 c.in-Some-Some.is-1
    (pair_read c.args.kind c.args.text.now c.cut.result.0.now c.cut.result.1.now c.cut.result.2.now c.loose_sign.result c.loose_operand.result
    c.cut.ensures c.loose_sign.ensures.loose
    c.loose_operand.ensures.numbers c.loose_operand.ensures.bits operator value small is)

pub returns-in_default-clause-loose : goal.returns-in_default-clause-loose
returns-in_default-clause-loose c = λ operator value small is.
    let r = pair_read c.args.kind c.args.text.now c.cut.result.0.now c.cut.result.1.now c.cut.result.2.now c.loose_sign.result c.loose_operand.result
    c.cut.ensures c.loose_sign.ensures.loose
    c.loose_operand.ensures.numbers c.loose_operand.ensures.bits operator value small is in
    absurd (cc (c.in_default.is-1, r.1))

pub returns-in_default-2-clause-loose : goal.returns-in_default-2-clause-loose
returns-in_default-2-clause-loose c = λ operator value small is.
    let r = pair_read c.args.kind c.args.text.now c.cut.result.0.now c.cut.result.1.now c.cut.result.2.now c.loose_sign.result c.loose_operand.result
    c.cut.ensures c.loose_sign.ensures.loose
    c.loose_operand.ensures.numbers c.loose_operand.ensures.bits operator value small is in
    absurd (cc (c.in_default.is-0, r.0))
