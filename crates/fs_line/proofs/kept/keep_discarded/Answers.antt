use Rattle.fs_line.proofs.{Words.{◌∙◌, ◌++◌, List, ℕ, ap, codes, decimal}, Discarding.{joined}}
use Rattle.fs_line.proofs.kept.keep_discarded.Goals as goal

pub returns : goal.returns
returns c =
    c.keep_back.ensures
    ∙ ap (λ (front : List ℕ). front ++ codes "\n") (c.keep_decimal.ensures.text
    ∙ ap (λ (front : List ℕ). front ++ decimal c.args.rule) (c.keep_word.ensures
    ∙ ap (λ (front : List ℕ). front ++ codes " discard rules ") c.keep_number.ensures.text))
    ∙ joined c.args.output.now (decimal c.args.number) (codes " discard rules ") (decimal c.args.rule) (codes "\n")
