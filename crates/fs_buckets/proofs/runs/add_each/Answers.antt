use Rattle.fs_buckets.proofs.Words.{◌≡◌, ℕ, ◌+◌, ◌-◌, ◌^◌, ◌<◌, Option, Some, None, option_map, List, length, get_or, sym, ap, subst, ◌∙◌, arith}
use Rattle.fs_buckets.proofs.Words.{get_or-map, length-map, Ruled, destination_of, shown, Listed, all_admitted, shown_lent, LentRule, span_by}
use Rattle.fs_buckets.proofs.Words.{span_of, spans_of}
use Rattle.fs_base.specs.{declared.prefix.Prefix.{Prefix}, Prefix.{last_address}}
use Rattle.fs_buckets.proofs.runs.add_each.Goals as goal
use Rattle.fs_buckets.proofs.Replacing.{spans_size}

-- the span of the rule of a number
span_is : (list : List LentRule) (i : ℕ) (a : LentRule) → i < length list → a ≡ get_or list i a
    → get_or (spans_of (all_admitted list)) i None ≡ span_of a.rule.now
span_is list i a below is =
    get_or-map (λ (r : Listed). span_of r.rule) (all_admitted list) i (shown_lent a) None (omega (arith, below, length-map list shown_lent))
    ∙ ap (λ (r : Listed). span_of r.rule) (get_or-map shown_lent list i a (shown_lent a) below ∙ ap shown_lent (sym is))

bare_span : (o : Option Prefix) (rule : Ruled) → o ≡ None → option_map shown o ≡ destination_of rule → span_of rule ≡ None
bare_span o rule none e = ap span_by (sym e ∙ ap (option_map shown) none)

some_span : (p : Prefix) (rule : Ruled) (last : ℕ) → option_map shown (Some p) ≡ destination_of rule → last ≡ last_address p
    → span_of rule ≡ Some (p.bits, last)
some_span p rule last e l = ap span_by (sym e) ∙ ap (λ (n : ℕ). Some (p.bits, n)) (sym l)

pub returns-in_default-clause-rest : goal.returns-in_default-clause-rest
returns-in_default-clause-rest c =
    ap (λ i. get_or (spans_of (all_admitted c.args.list.now)) i None) same
    ∙ span_is c.args.list.now c.loop-admitted.admitted-index c.admitted-item.result (omega (arith, c.loop-admitted-test.true)) c.admitted-item.is
    ∙ bare_span c.destination.result c.admitted-item.result.rule.now c.in_default.is c.destination.ensures.shown where
      same : length c.loop-admitted.runs.homes.items - length c.args.runs.now.homes.items ≡ c.loop-admitted.admitted-index
      same = let one = c.loop-admitted.invariant.one in omega (arith, one)

pub add-requires-clause-width : goal.add-requires-clause-width
add-requires-clause-width c =
    subst (λ w. c.last.result < 2 ^ w) (sym c.loop-admitted.invariant.width)
    (c.requires.some.3 (length c.args.runs.now.homes.items + c.loop-admitted.admitted-index) (c.in-Some.destination.bits, c.last.result)
    (c.requires.some.2 c.loop-admitted.admitted-index (omega (arith, c.loop-admitted-test.true, spans_size c.args.list.now))
    ∙ span_is c.args.list.now c.loop-admitted.admitted-index c.admitted-item.result (omega (arith, c.loop-admitted-test.true)) c.admitted-item.is
    ∙ some_span c.in-Some.destination c.admitted-item.result.rule.now c.last.result c.in-Some.ensures.shown c.last.ensures)).1

pub loop-admitted-preserved : goal.loop-admitted-preserved
loop-admitted-preserved c = record {
  runs = λ spans s adds.
      c.in_ok-add.ensures.runs spans (c.loop-admitted.invariant.runs spans s adds)
      (ap (λ i. get_or spans i None) c.loop-admitted.invariant.one
      ∙ adds c.loop-admitted.admitted-index (omega (arith, c.loop-admitted-test.true, spans_size c.args.list.now))
      ∙ span_is c.args.list.now c.loop-admitted.admitted-index c.admitted-item.result (omega (arith, c.loop-admitted-test.true)) c.admitted-item.is
      ∙ some_span c.in-Some.destination c.admitted-item.result.rule.now c.last.result c.in-Some.ensures.shown c.last.ensures);
  one = let one = c.loop-admitted.invariant.one in let more = c.in_ok-add.ensures.one in omega (arith, one, more);
  width = c.in_ok-add.ensures.width ∙ c.loop-admitted.invariant.width;
}
