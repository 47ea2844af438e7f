use Rattle.fs_text.proofs.{Words.{◌∙◌, ℕ, List, Some, ap, big_number, decode_sized}, Numerals.{figure_decoded, figure_read}}
use Rattle.fs_text.proofs.figures.loose_figure.Goals as goal

pub returns-in-Ok : goal.returns-in-Ok
returns-in-Ok c = λ n small is.
    let decoded = ap (λ (w : List ℕ). decode_sized w 4) is ∙ figure_decoded n in
    let told = rw decoded at c.decode_to_slice.ensures.value in
    ap Some (c.read_u32.ensures ∙ ap (big_number 4) told.1 ∙ figure_read n small)

pub returns-in-Err : goal.returns-in-Err
returns-in-Err c = λ n small is.
    let decoded = ap (λ (w : List ℕ). decode_sized w 4) is ∙ figure_decoded n in
    let told = rw decoded at c.decode_to_slice.ensures.value in
    absurd (cc (told.0, c.in-Err.is))
