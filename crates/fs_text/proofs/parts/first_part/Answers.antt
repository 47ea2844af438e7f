use Rattle.fs_text.proofs.{Words.{◌≡◌, ◌∙◌, ◌∷◌, ℕ, List, take, drop, ap, sym, subst, arith, take_rest, is_plain, parts_of, Run}, Runs.{run_before}}
use Rattle.fs_text.proofs.parts.first_part.Goals as goal

pub returns-else-len-eq0-clause-first : goal.returns-else-len-eq0-clause-first
returns-else-len-eq0-clause-first c =
    subst (λ (k : ℕ). parts_of c.args.text.now ≡ Run (take k c.args.text.now) ∷ parts_of (drop k c.args.text.now)) (sym c.run_len-len.ensures.value)
    (run_before is_plain c.args.text.now (grind (arith, c.if-len-eq0.false, c.run_len-len.ensures.value)))
    ∙ ap (λ (l : List ℕ). Run (take c.run_len-len.result c.args.text.now) ∷ parts_of l) (sym (take_rest c.args.text.now c.run_len-len.result))
