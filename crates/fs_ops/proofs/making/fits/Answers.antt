use Rattle.fs_ops.proofs.Words.{ℕ, zero, suc, ◌/◌, ◌^◌, ◌<◌, ◌≤◌, ◌≡◌, ◌∙◌, refl, sym, ap, subst, arith, and_le_r, width_code, width_of}
use Rattle.fs_ops.proofs.making.fits.Goals as goal

-- a value of eight octets fits any other than the three smaller widths
fits_eight : (operator value : ℕ) → value < 2 ^ 64 → (width_of operator ≡ 1 → ⊥) → (width_of operator ≡ 2 → ⊥) → (width_of operator ≡ 4 → ⊥)
    → value < 256 ^ width_of operator
fits_eight operator value small one two four = by (width_code operator) refl (and_le_r (operator / 2 ^ 4) 3) where
  by : (code : ℕ) → width_code operator ≡ code → code ≤ 3 → value < 256 ^ width_of operator
  by zero is low = absurd (one (ap (λ (n : ℕ). 2 ^ n) is))
  by (suc zero) is low = absurd (two (ap (λ (n : ℕ). 2 ^ n) is))
  by (suc (suc zero)) is low = absurd (four (ap (λ (n : ℕ). 2 ^ n) is))
  by (suc (suc (suc zero))) is low = subst (λ (n : ℕ). value < 256 ^ (2 ^ n)) (sym is) small
  by (suc (suc (suc (suc code)))) is low = absurd (omega arith)

pub returns : goal.returns
returns c =
    let width = c.width_of-len.ensures.value in (
      λ _. fits_eight c.args.operator c.args.value c.ranges.value.fits (λ is. c.if-len-eq1.false (width ∙ is)) (λ is. c.if-len-eq2.false (width ∙ is))
          (λ is. c.if-len-eq4.false (width ∙ is)),
      λ _. refl,
    )
