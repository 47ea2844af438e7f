use Rattle.fs_line.proofs.Words.{◌≡◌, ℕ, List, [], ◌++◌, refl, ◌∙◌, ap, append_assoc, codes, decimal, option_map_or, first_of, mark_of, redirect_of}
use Rattle.fs_line.proofs.Words.{line_of, mark_text, numbers_text, rates_text, redirect_text, sample_text, verdict_text, actions_walked}
use Rattle.fs_line.proofs.Words.{numbers_walked}

-- The parts of a line, one behind the other.

-- what some actions say beside the verdict, without their rates
abbrev pub said_text : List (List ℕ) → List ℕ
said_text actions =
    option_map_or mark_text (first_of mark_of actions) [] ++ (option_map_or redirect_text (first_of redirect_of actions) [] ++ sample_text actions)

joined : (m r s t e : List ℕ) → (m ++ (r ++ s)) ++ (t ++ e) ≡ (m ++ (r ++ (s ++ t))) ++ e
joined m r s t e = simp append_assoc refl

pub line_parts : (number : ℕ) (rules : List (ℕ × List (List ℕ)))
    → (decimal number ++ verdict_text (actions_walked rules))
    ++ (numbers_text (numbers_walked rules) ++ (said_text (actions_walked rules) ++ (rates_text (actions_walked rules) ++ codes "\n")))
    ≡ line_of number rules
line_parts number rules =
    append_assoc (decimal number) (verdict_text (actions_walked rules)) _
    ∙ ap (λ (rest : List ℕ). decimal number ++ (verdict_text (actions_walked rules) ++ (numbers_text (numbers_walked rules) ++ rest)))
    (joined (option_map_or mark_text (first_of mark_of (actions_walked rules)) [])
    (option_map_or redirect_text (first_of redirect_of (actions_walked rules)) [])
    (sample_text (actions_walked rules)) (rates_text (actions_walked rules)) (codes "\n"))
