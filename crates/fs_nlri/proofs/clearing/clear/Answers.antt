use Rattle.fs_nlri.proofs.Words.{◌≡◌, ℕ, List, Some, refl, ap, sym, ◌∙◌, Family, V4, V6, Component, part_of, fragment_bits, kept_bits, cleared_part}
use Rattle.fs_nlri.proofs.Words.{ListBody, part}
use Rattle.fs_nlri.proofs.clearing.clear.Goals as goal

kept : (family : Family) (pairs : List (ℕ × ℕ))
    → part 12 (ListBody (kept_bits (Some (fragment_bits family)) pairs)) ≡ cleared_part family (part 12 (ListBody pairs))
kept V4 pairs = refl
kept V6 pairs = refl

pub returns-in-Fragment : goal.returns-in-Fragment
returns-in-Fragment c =
    ap (λ (pairs : List (ℕ × ℕ)). part 12 (ListBody pairs)) (c.keep_bits-in-Fragment.ensures
    ∙ ap (λ (bits : ℕ). kept_bits (Some bits) c.in-Fragment.list) c.bits_of_fragment.ensures)
    ∙ kept c.args.family c.in-Fragment.list
    ∙ ap (λ (component : Component). cleared_part c.args.family (part_of component)) (sym c.in-Fragment.is)
