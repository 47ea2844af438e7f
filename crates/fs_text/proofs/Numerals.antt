-- A number's text is read back.
use Rattle.fs_text.proofs.Words.{◌/◌, ◌≡◌, ℕ, ◌<◌, ◌≤◌, ◌^◌, List, [], ◌∷◌, Bool, true, false, Result, Ok, Err, if◌then◌else◌, length, drop, zero}
use Rattle.fs_text.proofs.Words.{suc, refl, sym, ap, ◌∙◌, subst, arith, OkIff, nat_le, nat_lt, cond, IsAscii, AllDigits, IsNumeral, ParsesUnsigned}
use Rattle.fs_text.proofs.Words.{digits_value, without_leading_plus, digits, digits_is_IsNumeral, AllByRecursion, slice_index, le-ltb, lt-ltb, ne_eqb}
use Rattle.fs_text.proofs.Words.{nat_tests, big_bytes, big_number, big_number-reads_back, encode_lower, decode_sized, decode_sized-encode_lower}
use Rattle.fs_text.proofs.Words.{append-nil, mod-lt, is_plain}
use Rattle.std.specs.Char.{digit_value}

plain : (radix : ℕ) (ds : List ℕ) → radix ≤ 16 → AllDigits radix ds → AllByRecursion (λ c. is_plain c ≡ true) ds
plain radix [] low d = tt
plain radix (c ∷ cs) low d = (lt-ltb (digit_value c) 36 (omega (arith, d.0)), plain radix cs low d.1)

pub plain_digits : (radix n : ℕ) → 2 ≤ radix → radix ≤ 16 → n < radix ^ 64
    → (0 < length (digits radix false n)) × AllByRecursion (λ c. is_plain c ≡ true) (digits radix false n)
plain_digits radix n low high small =
    let is = (digits_is_IsNumeral radix false low high n small).0 in
    (is.0, plain radix (digits radix false n) high is.1)

figure_bytes : (n i : ℕ) → slice_index (big_bytes 4 n) i < 256
figure_bytes n zero = mod-lt (n / 16777216) (omega arith)
figure_bytes n (suc zero) = mod-lt (n / 65536) (omega arith)
figure_bytes n (suc (suc zero)) = mod-lt (n / 256) (omega arith)
figure_bytes n (suc (suc (suc zero))) = mod-lt n (omega arith)
figure_bytes n (suc (suc (suc (suc i)))) = omega arith

-- four octets in hexadecimal are decoded
pub figure_decoded : (n : ℕ) → decode_sized (encode_lower (big_bytes 4 n)) 4 ≡ Ok (big_bytes 4 n)
figure_decoded n = decode_sized-encode_lower (big_bytes 4 n) 4 refl (figure_bytes n)

pub figure_read : (n : ℕ) → n < 2 ^ 32 → big_number 4 (big_bytes 4 n) ≡ n
figure_read n small = subst (λ (l : List ℕ). big_number 4 l ≡ n) (append-nil (big_bytes 4 n)) (big_number-reads_back 4 n [] small)

-- the digits of a number in hexadecimal are its text
after_plus : (ds : List ℕ) → IsNumeral 16 ds → without_leading_plus ds ≡ ds
after_plus [] h = refl
after_plus (c ∷ cs) h =
    ap (λ (b : Bool). drop (cond b 1 0) (c ∷ cs))
    (ne_eqb c 43 (λ e. let k : digit_value 43 < 16 = subst (λ (x : ℕ). digit_value x < 16) e h.1.0 in absurd (omega (arith, k))))

pub parse_group : {E : Type 0} (k n : ℕ) (bs : List ℕ) (r : Result ℕ E) → n < 2 ^ k → n < 2 ^ 64 → bs ≡ digits 16 false n → ParsesUnsigned k 16 bs r → r ≡ Ok n
parse_group {E} k n bs r fits small is h =
    by r (subst (λ (l : List ℕ). OkIff r (IsNumeral 16 l × (digits_value 16 l < 2 ^ k)) (digits_value 16 l)) (ap without_leading_plus is
    ∙ after_plus (digits 16 false n) numeral.0) h)
  where
    numeral : IsNumeral 16 (digits 16 false n) × (digits_value 16 (digits 16 false n) ≡ n)
    numeral = digits_is_IsNumeral 16 false (omega arith) (omega arith) n (omega arith)

    by : (q : Result ℕ E) → OkIff q (IsNumeral 16 (digits 16 false n) × (digits_value 16 (digits 16 false n) < 2 ^ k))
        (digits_value 16 (digits 16 false n)) → q ≡ Ok n
    by (Ok x) p = ap (λ (m : ℕ). Ok m) (p.1 ∙ numeral.1)
    by (Err d) p = absurd (p (numeral.0, subst (λ (m : ℕ). m < 2 ^ k) (sym numeral.1) fits))

skip : (a b x y : ℕ) → b ≤ a → (if nat_lt a b then x else y) ≡ y
skip a b x y h = ap (λ (s : Bool). if s then x else y) (le-ltb a b h)

high_value : (c : ℕ) → 128 ≤ c → digit_value c ≡ 36
high_value c h =
    skip c 48 _ _ (omega (arith, h)) ∙ skip c 58 _ _ (omega (arith, h)) ∙ skip c 65 _ _ (omega (arith, h))
    ∙ skip c 91 _ _ (omega (arith, h)) ∙ skip c 97 _ _ (omega (arith, h)) ∙ skip c 123 _ _ (omega (arith, h))

pub plain_ascii : (ds : List ℕ) → AllByRecursion (λ c. is_plain c ≡ true) ds → IsAscii ds
plain_ascii [] all i = omega arith
plain_ascii (c ∷ cs) all zero = by (nat_le 128 c) refl
  where
    by : (b : Bool) → nat_le 128 c ≡ b → c < 128
    by false e = grind (arith, nat_tests, e)
    by true e =
        let high : 128 ≤ c = grind (arith, nat_tests, e) in
        let same : nat_lt 36 36 ≡ true = subst (λ (v : ℕ). nat_lt v 36 ≡ true) (high_value c high) all.0 in
        absurd cc
plain_ascii (c ∷ cs) all (suc i) = plain_ascii cs all.1 i

pub ascii_group : (n : ℕ) → n < 2 ^ 64 → IsAscii (digits 16 false n)
ascii_group n small = plain_ascii (digits 16 false n) (plain_digits 16 n (omega arith) (omega arith) (omega arith)).1
