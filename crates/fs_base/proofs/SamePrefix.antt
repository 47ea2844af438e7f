-- Two prefixes of the same family, bits and length are one value.
use Rattle.fs_base.proofs.Words.{◌≡◌, ◌≤◌, true, is_eq, refl, ap, sym, ◌∙◌, min, arith, prefix_of, prefix_cmp, ℕ_set, Prefix, width_of, cleared}
use native.Mathlib.Bridge.{le_prop}
use mathlib.Core.HLevel.{is_prop→PathP}
use Rattle.fs_base.proofs.Nesting.{Alike, alike}

pub same_prefix : (p q : Prefix) → p.family ≡ q.family → p.bits ≡ q.bits → p.length ≡ q.length → p ≡ q
same_prefix p q f b n = λ i. record {
  family = f i;
  bits = b i;
  length = n i;
  short = is_prop→PathP (λ j. n j ≤ width_of (f j)) (λ j. le_prop) p.short q.short i;
  clear = is_prop→PathP (λ j. b j ≡ cleared (width_of (f j)) (n j) (b j)) (λ j. ℕ_set (b j) (cleared (width_of (f j)) (n j) (b j))) p.clear q.clear i;
}

pub same_from_cmp : (p q : Prefix) → is_eq (prefix_cmp p q) ≡ true → p ≡ q
same_from_cmp p q h = let e : Alike p q = alike p q h in same_prefix p q e.family e.bits e.length

-- a prefix is made again from what it shows
pub prefix_again : (p : Prefix) → prefix_of p.family p.bits p.length ≡ p
prefix_again p = same_prefix (prefix_of p.family p.bits p.length) p refl (ap (λ n. cleared (width_of p.family) n p.bits) short ∙ sym p.clear) short where
  short : min p.length (width_of p.family) ≡ p.length
  short = omega (arith, p.short)
