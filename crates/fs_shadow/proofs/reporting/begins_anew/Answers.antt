use Rattle.fs_shadow.proofs.Words.{◌≡◌, Bool, ◌-◌, ◌&&◌, None, get_or, ap, sym, ◌∙◌, arith, lt-ltb, all_admitted, spans_of, lie_apart}
use Rattle.fs_shadow.proofs.Spanning.{span_of_item}
use Rattle.fs_shadow.proofs.reporting.begins_anew.Goals as goal

pub returns-then-number-gt0 : goal.returns-then-number-gt0
returns-then-number-gt0 c =
    c.lie_apart.ensures
    ∙ (λ i. lie_apart (first i) (second i))
    ∙ sym (ap (λ (b : Bool). b && lie_apart (get_or (spans_of (all_admitted c.args.list.now)) (c.args.number - 1) None)
    (get_or (spans_of (all_admitted c.args.list.now)) c.args.number None)) (lt-ltb 0 c.args.number c.if-number-gt0.true)) where
      first : c.span_of.result ≡ get_or (spans_of (all_admitted c.args.list.now)) (c.args.number - 1) None
      first = c.span_of.ensures ∙ sym (span_of_item c.args.list.now (c.args.number - 1) c.index-list-number.result (omega (arith, c.requires)))

      second : c.span_of-then-number-gt0.result ≡ get_or (spans_of (all_admitted c.args.list.now)) c.args.number None
      second = c.span_of-then-number-gt0.ensures ∙ sym (span_of_item c.args.list.now c.args.number c.index-list-number-then-number-gt0.result c.requires)
