use Rattle.fs_text.proofs.Words.{◌≡◌, ℕ, ◌+◌, List, [], ◌∷◌, ◌++◌, Bool, true, not, ◌<◌, if◌then◌else◌, take, drop, length, refl, ap, ◌∙◌, arith}
use Rattle.fs_text.proofs.Words.{prefix_len, AllByRecursion, take-append_seam, drop-append_seam, Ends, is_plain, is_sign}

-- Where a text is cut.

pub cut_behind : (p : ℕ → Bool) (front rest : List ℕ) → AllByRecursion (λ o. p o ≡ true) front → Ends p rest
    → prefix_len p (front ++ rest) ≡ length front
cut_behind p [] [] all ends = refl
cut_behind p [] (x ∷ rest) all ends = ap (λ (b : Bool). if b then 1 + prefix_len p rest else 0) ends
cut_behind p (x ∷ front) rest all ends =
    ap (λ (b : Bool). if b then 1 + prefix_len p (front ++ rest) else 0) all.0
    ∙ (let e : prefix_len p (front ++ rest) ≡ length front = cut_behind p front rest all.1 ends in omega arith)

pub split_behind : (p : ℕ → Bool) (text front rest a b : List ℕ) (n : ℕ) → n ≡ prefix_len p text → a ≡ take n text → b ≡ drop n text
    → AllByRecursion (λ o. p o ≡ true) front → Ends p rest → text ≡ front ++ rest → (a ≡ front) × (b ≡ rest)
split_behind p text front rest a b n len first second all ends is =
    let same : n ≡ length front = len ∙ ap (prefix_len p) is ∙ cut_behind p front rest all ends in (
      first ∙ ap (λ (k : ℕ). take k text) same ∙ ap (take (length front)) is ∙ take-append_seam front rest,
      second ∙ ap (λ (k : ℕ). drop k text) same ∙ ap (drop (length front)) is ∙ drop-append_seam front rest,
    )

-- digits and what stands behind them are no signs
pub ends_append : (digits behind : List ℕ) → 0 < length digits → AllByRecursion (λ o. is_plain o ≡ true) digits → Ends is_sign (digits ++ behind)
ends_append [] behind some all = absurd (omega arith)
ends_append (x ∷ digits) behind some all = ap not all.0
