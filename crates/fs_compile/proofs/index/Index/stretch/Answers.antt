use Rattle.fs_compile.proofs.Words.{◌≡◌, ℕ, Option, Some, None, length, sym, ap, subst, ◌∙◌, arith, IsIndexOf, spans_of, IsStretch, target_of}
use Rattle.fs_compile.proofs.Words.{rules_size, stretch_none, stretch_some}
use Rattle.fs_compile.proofs.Indexing.{stand_size}
use Rattle.fs_compile.proofs.index.Index.stretch.Goals as goal

pub returns-in-Some-clause-stretch : goal.returns-in-Some-clause-stretch
returns-in-Some-clause-stretch c = λ family rules h.
    let inner = subst (IsIndexOf family rules) (sym c.self.view_is) h in
    let size : length c.self.inside.rules.items ≡ length rules = stand_size rules c.self.inside.rules.items inner.stands in
    let few = c.self.invariant.0.few in
    subst (λ (o : Option (ℕ × ℕ)). IsStretch (spans_of rules) o c.stretch.result.0 c.stretch.result.1)
    (ap (λ (n : ℕ). Some (c.in-Some.destination.bits, n)) c.last.ensures ∙ sym (ap target_of c.in-Some.is))
    (stretch_some (spans_of rules) c.self.inside.buckets (c.in-Some.destination.bits, c.last.result) c.stretch.result.0 c.stretch.result.1
    inner.housed (omega (arith, few, size, rules_size rules))
    c.stretch.ensures.ordered c.stretch.ensures.within c.stretch.ensures.before c.stretch.ensures.at c.stretch.ensures.behind)

pub returns-in-None-clause-stretch : goal.returns-in-None-clause-stretch
returns-in-None-clause-stretch c = λ family rules h.
    let inner = subst (IsIndexOf family rules) (sym c.self.view_is) h in
    let size : length c.self.inside.rules.items ≡ length rules = stand_size rules c.self.inside.rules.items inner.stands in
    let few = c.self.invariant.0.few in
    let count : c.len-in-None.result ≡ length c.self.inside.rules.items = c.len-in-None.ensures ∙ c.self.inside.rules.ok.0 in
    subst (λ (o : Option (ℕ × ℕ)). IsStretch (spans_of rules) o c.len.result c.len-in-None.result) (sym (ap target_of c.in-None.is))
    (subst (λ (n : ℕ). IsStretch (spans_of rules) None n c.len-in-None.result) (sym (c.len.ensures ∙ c.self.inside.buckets.homes.ok.0))
    (stretch_none (spans_of rules) c.self.inside.buckets c.len-in-None.result inner.housed (omega (arith, few, count)) (count ∙ size ∙ sym (rules_size rules))))
