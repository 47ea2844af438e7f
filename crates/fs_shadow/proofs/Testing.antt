use Rattle.fs_shadow.proofs.Words.{◌≡◌, ℕ, ◌==◌, true, ◌&&◌, ◌||◌, sym, ap, ◌∙◌, inl, inr, and_parts, eqb-true, or_cases, may_lie_in, tests_bits}

-- What components test tells whether one lies in the other.

-- types of which one may lie in the other test alike
pub alike : (inner outer : ℕ) → may_lie_in inner outer ≡ true → tests_bits inner ≡ tests_bits outer
alike inner outer h = elim (or_cases (inner == outer) ((outer == 4) && ((inner == 5) || (inner == 6))) h) [
  | inl same ↦ ap tests_bits (eqb-true inner outer same)
  | inr ports ↦ port (and_parts (outer == 4) ((inner == 5) || (inner == 6)) ports)
] where
  port : ((outer == 4) ≡ true) × (((inner == 5) || (inner == 6)) ≡ true) → tests_bits inner ≡ tests_bits outer
  port p = elim (or_cases (inner == 5) (inner == 6) p.1) [
    | inl five ↦ ap tests_bits (eqb-true inner 5 five) ∙ sym (ap tests_bits (eqb-true outer 4 p.0))
    | inr six ↦ ap tests_bits (eqb-true inner 6 six) ∙ sym (ap tests_bits (eqb-true outer 4 p.0))
  ]
