use Rattle.fs_shadow.proofs.{Words.{ℕ, ◌+◌, ◌-◌, ◌^◌, ap, sym, ◌∙◌, width_of}, Known.{highest_of}}
use Rattle.fs_shadow.proofs.ends.highest_address.Goals as goal

pub returns : goal.returns
returns c =
    highest_of c.args.length c.args.offset c.args.pattern c.last.result c.requires
    (c.last.ensures
    ∙ (λ i. c.of_bits-known.ensures.first_bits i + 2 ^ (width_of (c.of_bits-known.ensures.same_family i) - c.of_bits-known.ensures.same_length i) - 1)
    ∙ ap (λ (p : ℕ). p + 2 ^ (128 - (c.args.length - c.args.offset)) - 1) (sym c.requires.1))
