use Rattle.fs_attrs.proofs.Words.{◌≡◌, ◌++◌, ◌∷◌, [], ℕ, List, ◌+◌, take, sym, ap, subst, ◌∙◌, arith, flat_map_more, take_more, All-more, Ruled}
use Rattle.fs_attrs.proofs.Words.{IsRule, canonical_frame, rules_text}
use Rattle.fs_attrs.proofs.texts.append_rules.Goals as goal

pub loop-rule-preserved : goal.loop-rule-preserved
loop-rule-preserved c =
    let front : List Ruled = take c.loop-rule.rule-index c.args.rules.now in
    let more : take (c.loop-rule.rule-index + 1) c.args.rules.now ≡ front ++ c.rule-item.result ∷ [] =
    take_more c.args.rules.now c.loop-rule.rule-index c.rule-item.result (omega arith) ∙ ap (λ (x : Ruled). front ++ x ∷ []) (sym c.rule-item.is) in
    let is : IsRule c.rule-item.result = c.encode.ensures.rule in (
      c.in_ok-encode.ensures.ok
          ∙ ap (λ (z : List ℕ). z ++ canonical_frame c.rule-item.result) c.loop-rule.invariant.0
          ∙ flat_map_more canonical_frame c.args.out.now.items front c.rule-item.result
          ∙ ap (λ (z : List Ruled). c.args.out.now.items ++ rules_text z) (sym more),
      All-more IsRule c.args.rules.now c.loop-rule.rule-index c.rule-item.result (omega arith) c.loop-rule.invariant.1 (subst IsRule c.rule-item.is is),
    )
