-- Octets in hexadecimal are read back.
use Rattle.fs_text.proofs.Words.{◌≡◌, ℕ, ◌*◌, ◌%◌, ◌^◌, ◌<◌, ◌≤◌, ◌++◌, zero, suc, List, Option, Some, Result, Ok, Err, length, take, refl, sym, ap}
use Rattle.fs_text.proofs.Words.{subst, ◌∙◌, arith, MatchResult, eqb-true, big_bytes, big_number, big_from-take, big_number-reads_back}
use Rattle.fs_text.proofs.Words.{length-bytes_high_first, decode_sized, FromHexError, decode_sized-encode_lower, length-encode_with, lower_digits}
use Rattle.fs_text.proofs.Words.{big_octets, octets_at, octets_text, code_at}
use Rattle.fs_text.proofs.Made.{below}
use Rattle.std.specs.Prelude.{◌==◌}

pub octets_decoded : (width n : ℕ) → decode_sized (octets_text width n) width ≡ Ok (big_bytes width n)
octets_decoded width n = decode_sized-encode_lower (big_bytes width n) width (length-bytes_high_first width n)
    (octets_at (big_bytes width n) (big_octets width n))

pub octets_told : (digits new : List ℕ) (len width n : ℕ) (r : Result (Unit {0}) FromHexError) → len ≡ width
    → MatchResult (decode_sized digits len) (λ bytes. (r ≡ Ok tt) × (new ≡ bytes)) (λ e. r ≡ Err e)
    → digits ≡ octets_text width n → (r ≡ Ok tt) × (new ≡ big_bytes width n)
octets_told digits new len width n r same h is =
    subst (λ (d : Result (List ℕ) FromHexError). MatchResult d (λ bytes. (r ≡ Ok tt) × (new ≡ bytes)) (λ e. r ≡ Err e))
    (ap (λ (k : ℕ). decode_sized digits k) same ∙ ap (λ (w : List ℕ). decode_sized w width) is ∙ octets_decoded width n) h

pub octets_back : (width n : ℕ) (octets rest : List ℕ) → n < 256 ^ width → octets ≡ big_bytes width n
    → big_number width (take width (octets ++ rest)) ≡ n
octets_back width n octets rest small is =
    big_from-take 0 width width (octets ++ rest) (omega arith)
    ∙ ap (λ (l : List ℕ). big_number width (l ++ rest)) is ∙ big_number-reads_back width n rest small

pub octets_len : (width n : ℕ) → length (octets_text width n) ≡ 2 * width
octets_len width n = length-encode_with lower_digits (big_bytes width n) ∙ ap (λ (k : ℕ). 2 * k) (length-bytes_high_first width n)

pub code_back : (code : ℕ) → code < 4 → code_at (2 * 2 ^ code) ≡ code
code_back code small = eqb-true (code_at (2 * 2 ^ code)) code (below (λ k. code_at (2 * 2 ^ k) == k) 4 code refl small)

pub width_high : (code : ℕ) → code < 4 → 1 * 2 ^ code % 18446744073709551616 ≤ 8
width_high zero small = omega arith
width_high (suc zero) small = omega arith
width_high (suc (suc zero)) small = omega arith
width_high (suc (suc (suc zero))) small = omega arith
width_high (suc (suc (suc (suc code)))) small = absurd (omega arith)

pub coded : (digits : List ℕ) (k : ℕ) (r : Option (ℕ × ℕ)) → k ≡ code_at (length digits)
    → ((n : ℕ) → n < 256 ^ (2 ^ k) → digits ≡ octets_text (2 ^ k) n → r ≡ Some (k, n))
    → (code value : ℕ) → code < 4 → value < 256 ^ (2 ^ code) → digits ≡ octets_text (2 ^ code) value → r ≡ Some (code, value)
coded digits k r told reads code value small fits is =
    let same : k ≡ code = told ∙ ap (λ (d : List ℕ). code_at (length d)) is ∙ ap code_at (octets_len (2 ^ code) value) ∙ code_back code small in
    subst (λ (j : ℕ). r ≡ Some (j, value)) same
    (reads value (subst (λ (j : ℕ). value < 256 ^ (2 ^ j)) (sym same) fits) (subst (λ (j : ℕ). digits ≡ octets_text (2 ^ j) value) (sym same) is))
