use Rattle.fs_unicast.proofs.{Words.{sym, ap, ap₂, subst, ◌∙◌, last_address, IsKey, high_of, low_of, shown}, Keys.{shown_again, key_is}}
use Rattle.fs_unicast.proofs.key.PrefixKey.of.Goals as goal

pub invariant_of-result : goal.invariant_of-result
invariant_of-result c = subst (λ h. IsKey h c.numbers-high.result.1 c.numbers-high.result.2 c.args.prefix.now.length) (sym c.numbers-high.ensures.high)
    (subst (λ l. IsKey (high_of c.args.prefix.now.family (last_address c.args.prefix.now)) l c.numbers-high.result.2 c.args.prefix.now.length)
    (sym c.numbers-high.ensures.low)
    (subst (λ b. IsKey (high_of c.args.prefix.now.family (last_address c.args.prefix.now))
    (low_of c.args.prefix.now.family (last_address c.args.prefix.now)) b c.args.prefix.now.length) (sym c.numbers-high.ensures.bit)
    (key_is c.args.prefix.now)))

pub returns : goal.returns
returns c = ap (λ h. shown h c.numbers-high.result.1 c.numbers-high.result.2 c.args.prefix.now.length) c.numbers-high.ensures.high
    ∙ ap₂ (λ l b. shown (high_of c.args.prefix.now.family (last_address c.args.prefix.now)) l b c.args.prefix.now.length) c.numbers-high.ensures.low
    c.numbers-high.ensures.bit
    ∙ shown_again c.args.prefix.now
