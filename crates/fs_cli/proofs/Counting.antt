-- The number that the second word of `gen` writes.
use Rattle.fs_cli.proofs.Words.{◌≡◌, ◌∙◌, ◌≤◌, ℕ, List, Bool, true, false, ◌&&◌, nat_le, Some, None, Result, Ok, Err, decimal, refl, ap, sym, arith}
use Rattle.fs_cli.proofs.Words.{if◌then◌else◌, bytes_eq, bytes_eq-Decides, count_of}
use Rattle.std.{specs.Str.Parse.{ParsesUnsigned, digits_value}, proofs.lemmas.{Bool.{and_parts, le-leb, leb-true}, Fmt.{decimal_is_IsNumeral, parse-decimal}}}
use Rattle.fs_base.proofs.Bools.{and_both}

none_if : (b : Bool) (n : ℕ) → (b ≡ true → ⊥) → None ≡ (if b then Some n else None)
none_if true n h = absurd (h refl)
none_if false n h = refl

-- of the decimal text of such a number it is that number
pub count_found : (word : List ℕ) (n : ℕ) → bytes_eq word (decimal n) ≡ true → 1 ≤ n → n ≤ 1000000 → Some n ≡ count_of word
count_found word n same low high =
    let spelled : word ≡ decimal n = (bytes_eq-Decides word (decimal n)).0 same in
    let value : digits_value 10 word ≡ n = ap (digits_value 10) spelled ∙ (decimal_is_IsNumeral n (omega (arith, high))).1 in
    let within = and_both (nat_le 1 n) (nat_le n 1000000) (le-leb 1 n low) (le-leb n 1000000 high) in
    ap (λ (b : Bool). if b then Some n else None) (sym (and_both (bytes_eq word (decimal n)) (nat_le 1 n && nat_le n 1000000) same within))
    ∙ ap (λ (m : ℕ). if bytes_eq word (decimal m) && (nat_le 1 m && nat_le m 1000000) then Some m else None) (sym value)

-- of any other text there is none
count_none : (word : List ℕ) → ((n : ℕ) → word ≡ decimal n → 1 ≤ n → n ≤ 1000000 → ⊥) → None ≡ count_of word
count_none word never =
    let n = digits_value 10 word in
    none_if (bytes_eq word (decimal n) && (nat_le 1 n && nat_le n 1000000)) n (λ h.
    let parts = and_parts (bytes_eq word (decimal n)) (nat_le 1 n && nat_le n 1000000) h in
    let range = and_parts (nat_le 1 n) (nat_le n 1000000) parts.1 in
    never n ((bytes_eq-Decides word (decimal n)).0 parts.0) (leb-true 1 n range.0) (leb-true n 1000000 range.1))

-- a text that is read as another number, or as none
pub count_other : {E : Type 0} (word : List ℕ) (r : Result ℕ E) → ParsesUnsigned 32 10 word r
    → ((n : ℕ) → r ≡ Ok n → word ≡ decimal n → 1 ≤ n → n ≤ 1000000 → ⊥) → None ≡ count_of word
count_other word r p never =
    count_none word (λ n spelled low high. never n (parse-decimal 32 n word r (omega (arith, high)) (omega (arith, high)) spelled p) spelled low high)

pub same_number : {E : Type 0} (r : Result ℕ E) (a b : ℕ) → r ≡ Ok a → r ≡ Ok b → a ≡ b
same_number r a b e f = let same : Ok a ≡ Ok b = sym e ∙ f in cc

pub never_both : {E A : Type 0} (r : Result ℕ E) (e : E) (n : ℕ) → r ≡ Err e → r ≡ Ok n → A
never_both r e n h i = let same : Err e ≡ Ok n = sym h ∙ i in absurd cc
