use Rattle.fs_buckets.proofs.Words.{◌≡◌, ℕ, Option, Some, is_some, length, sym, ap, subst, ◌∙◌, arith, ◌+◌, ◌-◌, IfOk-weaker, splice, all_admitted}
use Rattle.fs_buckets.proofs.Words.{spans_of, AreTo, target_of, AreBucketsOf, HasStretch}
use Rattle.fs_buckets.proofs.Replacing.{mended, none_stay, rules_size, same_stay, spans_size, subnet_to}
use Rattle.fs_buckets.proofs.Stretching.{rest_bare}
use Rattle.fs_buckets.proofs.mending.mended.Goals as goal

pub returns-in_default : goal.returns-in_default
returns-in_default c = λ rules h.
    let news = spans_of (all_admitted c.args.list.now) in
    none_stay c.args.family rules c.args.old c.args.from c.args.to (length c.args.list.now) news
    (subst (λ (o : Option (ℕ × ℕ)). HasStretch c.args.family rules c.args.old o c.args.from c.args.to) (ap target_of c.in_default.is) h) c.requires.sound
    (subst (λ (o : Option (ℕ × ℕ)). AreTo o news) (ap target_of c.in_default.is) c.requires.there)

pub returns-then-list-to : goal.returns-then-list-to
returns-then-list-to c = λ rules h.
    same_stay c.args.family rules c.args.old (target_of c.args.destination) c.args.from c.args.to (length c.args.list.now)
    (spans_of (all_admitted c.args.list.now))
    h c.requires.sound c.requires.there (omega (arith, c.if-list-to.true)) (spans_size c.args.list.now)

pub mended_runs-requires-clause-some : goal.mended_runs-requires-clause-some
mended_runs-requires-clause-some c =
    let m = mended c.args.family c.requires.some.0 c.args.old (target_of c.args.destination) c.args.from c.args.to (all_admitted c.args.list.now)
    c.requires.some.1 (c.requires.homes (ap is_some c.in-Some.is)) c.requires.sound c.requires.each c.requires.there in
    (splice (spans_of c.requires.some.0) c.args.from c.args.to (spans_of (all_admitted c.args.list.now)), m.mends, m.narrow)

pub buckets_with-requires-clause-some : goal.buckets_with-requires-clause-some
buckets_with-requires-clause-some c =
    let m = mended c.args.family c.requires.some.0 c.args.old (target_of c.args.destination) c.args.from c.args.to (all_admitted c.args.list.now)
    c.requires.some.1 (c.requires.homes (ap is_some c.in-Some.is)) c.requires.sound c.requires.each c.requires.there in
    let runs = c.in_ok-runs-in-None.ensures.runs in
    (splice (spans_of c.requires.some.0) c.args.from c.args.to (spans_of (all_admitted c.args.list.now)), runs _ m.mends, m.narrow, m.nesting)

pub returns-in-Some-holder : goal.returns-in-Some-holder
returns-in-Some-holder c = IfOk-weaker c.resized.result _ _
    (λ new made. λ rules h.
    made _ (c.in-Some.destination.bits, c.last-last.result) (spans_of rules) (spans_of (all_admitted c.args.list.now)) (omega (arith, h.whole))
    c.in-Some-holder.ensures h.housed (omega (arith, h.whole, rules_size rules)) there (spans_size c.args.list.now))
    c.resized.ensures where
      is : ◌≡◌ {A = Option (ℕ × ℕ)} (Some (c.in-Some.destination.bits, c.last-last.result)) (target_of c.args.destination)
      is = ap (λ (n : ℕ). Some (c.in-Some.destination.bits, n)) c.last-last.ensures ∙ sym (ap target_of c.in-Some.is)

      there : AreTo (Some (c.in-Some.destination.bits, c.last-last.result)) (spans_of (all_admitted c.args.list.now))
      there = subst (λ (o : Option (ℕ × ℕ)). AreTo o (spans_of (all_admitted c.args.list.now))) (sym is) c.requires.there

pub opened-requires-clause-subnet : goal.opened-requires-clause-subnet
opened-requires-clause-subnet c =
    subnet_to c.args.family (all_admitted c.args.list.now) (c.in-Some.destination.bits, c.last-last.result) c.requires.each there
    (omega (arith, c.if-list-to.false, c.in-Some-gap.ensures.1, spans_size c.args.list.now)) where
      is : ◌≡◌ {A = Option (ℕ × ℕ)} (Some (c.in-Some.destination.bits, c.last-last.result)) (target_of c.args.destination)
      is = ap (λ (n : ℕ). Some (c.in-Some.destination.bits, n)) c.last-last.ensures ∙ sym (ap target_of c.in-Some.is)

      there : AreTo (Some (c.in-Some.destination.bits, c.last-last.result)) (spans_of (all_admitted c.args.list.now))
      there = subst (λ (o : Option (ℕ × ℕ)). AreTo o (spans_of (all_admitted c.args.list.now))) (sym is) c.requires.there

pub returns-in-Some-gap : goal.returns-in-Some-gap
returns-in-Some-gap c = IfOk-weaker c.opened.result _ _
    (λ new made. λ rules h.
    let news = spans_of (all_admitted c.args.list.now) in
    let e = c.in-Some-gap.ensures.1 in
    subst (λ n. AreBucketsOf (splice (spans_of rules) c.args.from n news) new (c.args.from + length c.args.list.now + (length rules - c.args.to))) (sym e)
    (made _ (spans_of rules) news (omega (arith, h.whole, h.stretch.within, e, rules_size rules))
    h.housed (omega (arith, h.whole, rules_size rules)) there (spans_size c.args.list.now)))
    c.opened.ensures where
      is : ◌≡◌ {A = Option (ℕ × ℕ)} (Some (c.in-Some.destination.bits, c.last-last.result)) (target_of c.args.destination)
      is = ap (λ (n : ℕ). Some (c.in-Some.destination.bits, n)) c.last-last.ensures ∙ sym (ap target_of c.in-Some.is)

      there : AreTo (Some (c.in-Some.destination.bits, c.last-last.result)) (spans_of (all_admitted c.args.list.now))
      there = subst (λ (o : Option (ℕ × ℕ)). AreTo o (spans_of (all_admitted c.args.list.now))) (sym is) c.requires.there

pub returns-in_ok-runs-in-None : goal.returns-in_ok-runs-in-None
returns-in_ok-runs-in-None c = IfOk-weaker c.buckets_with.result _ _
    (λ new made. λ rules h.
    let news = all_admitted c.args.list.now in
    let size = c.in_ok-runs-in-None.ensures.count in
    let homes = c.requires.homes (ap is_some c.in-Some.is) in
    let m = mended c.args.family rules c.args.old (target_of c.args.destination) c.args.from c.args.to news h homes c.requires.sound c.requires.each
    c.requires.there in
    made _ (splice (spans_of rules) c.args.from c.args.to (spans_of news)) (omega (arith, h.whole, size))
    (c.in_ok-runs-in-None.ensures.runs _ m.mends) m.nesting
    (rest_bare (spans_of rules) (spans_of news) c.args.old c.args.from c.args.to _ h.housed h.stretch.ordered homes
    (omega (arith, h.whole, rules_size rules)) (omega (arith, size, spans_size c.args.list.now))))
    c.buckets_with.ensures
