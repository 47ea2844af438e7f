-- The lines of a family, one change after the other.
use Rattle.fs_changes.proofs.Words.{List, [], ◌+◌, ◌<◌, ◌≡◌, ◌≤◌, ◌∙◌, ℕ, zero, suc, ap, arith, refl, subst, Family, Held, Act, AreRules, IsRule}
use Rattle.fs_changes.proofs.Words.{Make, changes, is_before, is_same}
use Rattle.fs_changes.proofs.{Leading.{joined, leads}, Same.{sound}}
use Rattle.fs_changes.specs.Along.{Follows, acts, lines_of}

-- the rules after the last of so many further changes
abbrev last_acts : Family → (ℕ → Held) → ℕ → List Act → ℕ → List Act
last_acts family held k old zero = old
last_acts family held k old (suc count) = last_acts family held (k + 1) (acts family (held (k + 1))) count

last_is : (family : Family) (held : ℕ → Held) (k count : ℕ) → last_acts family held k (acts family (held k)) count ≡ acts family (held (k + count))
last_is family held k zero = ap (λ (n : ℕ). acts family (held n)) (omega arith)
last_is family held k (suc count) = last_is family held (k + 1) count ∙ ap (λ (n : ℕ). acts family (held n)) (omega arith)

along : (family : Family) (held : ℕ → Held) (k : ℕ) (old : List Act) (count : ℕ) → AreRules old
    → ((j : ℕ) → k ≤ j → j < k + count → AreRules (acts family (held (j + 1))))
    → Make (lines_of family held k old count) old (last_acts family held k old count)
along family held k old zero own each = refl
along family held k old (suc count) own each =
    joined (changes 0 old now) (lines_of family held (k + 1) now count) old now (last_acts family held (k + 1) now count)
    (leads (λ (act : Act). IsRule act.rule) is_before is_same old sound own [] now (each k (omega arith) (omega arith)))
    (along family held (k + 1) now count (each k (omega arith) (omega arith)) (λ j low high. each j (omega (arith, low)) (omega (arith, high)))) where
      now : List Act
      now = acts family (held (k + 1))

pub follows_law : Follows
follows_law family held count each =
    subst (Make (lines_of family held 0 [] (suc count)) []) (last_is family held 1 count ∙ ap (λ (n : ℕ). acts family (held n)) (omega arith))
    (along family held 0 [] (suc count) tt (λ j low high. each j (omega (arith, high))))
