-- The loop that writes a whole piece: so much was written, and so much is left.
use Rattle.fs_base.proofs.Words.{◌≡◌, ◌<◌, ◌+◌, ℕ, List, [], ◌++◌, Option, length, take, drop, ap, sym, ◌∙◌, arith, append_assoc, length-append}
use Rattle.fs_base.proofs.Words.{take-append-drop, Grew, GrewPart}
use Rattle.fs_base.proofs.Grew.{Grew-trans, part_then, part_none}

pub record Writing (piece rest : List ℕ) (before now : Option (List ℕ)) : Type 0 where
  pub done : List ℕ
  pub split : piece ≡ done ++ rest
  pub grew : Grew before now done

pub writing_more : (piece rest : List ℕ) (before now later : Option (List ℕ)) (n : ℕ)
    → Writing piece rest before now → Grew now later (take n rest) → Writing piece (drop n rest) before later
writing_more piece rest before now later n w grew = record {
  done = w.done ++ take n rest;
  split = w.split ∙ ap (λ octets. w.done ++ octets) (sym (take-append-drop n rest)) ∙ sym (append_assoc w.done (take n rest) (drop n rest));
  grew = Grew-trans before now later w.done (take n rest) w.grew grew;
}

-- what is still to be written is of the piece
pub writing_some : (piece rest : List ℕ) (before now : Option (List ℕ)) → Writing piece rest before now → 0 < length rest
    → length piece ≡ 0 → ⊥
writing_some piece rest before now w some none =
    let size : length piece ≡ length w.done + length rest = ap length w.split ∙ length-append w.done rest in
    omega (arith, size, some, none)

pub writing_part : (piece rest : List ℕ) (before now later : Option (List ℕ))
    → Writing piece rest before now → Grew now later [] → GrewPart before later piece
writing_part piece rest before now later w grew =
    rw w.split (part_then before now later w.done rest w.grew (part_none now later rest grew))
