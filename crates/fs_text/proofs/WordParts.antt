-- The parts of the words of actions.
use Rattle.fs_text.proofs.Words.{append_assoc, ◌≡◌, ℕ, ◌<◌, ◌/◌, ◌%◌, ◌^◌, List, [], ◌∷◌, ◌++◌, Bool, true, false, length, refl, sym, ap, ◌∙◌, arith}
use Rattle.fs_text.proofs.Words.{if◌then◌else◌, append-nil, All-from_recursion, mod-lt, AllByRecursion, codes, decimal, slice_index, encode_lower}
use Rattle.fs_text.proofs.Words.{encode_with, lower_digits, IsOctets, octets_head, octets_tail, Run, Delimiter, is_plain, parts_of, with_octet}
use Rattle.fs_text.proofs.Words.{ip4_parts, address_parts, v4_parts, address_text, v4_text}
use Rattle.fs_text.proofs.{Runs.{run_first}, Numerals.{plain_digits}}
use Rattle.fs_text.specs.Pieces.{Part}

abbrev pub IsRun : List ℕ → Type 0
IsRun run = (0 < length run) × AllByRecursion (λ o. is_plain o ≡ true) run

pub run_decimal : (n : ℕ) → n < 2 ^ 64 → IsRun (decimal n)
run_decimal n small = plain_digits 10 n (omega arith) (omega arith) (omega arith)

digit_plain : (d : ℕ) → d < 16 → is_plain (slice_index lower_digits d) ≡ true
digit_plain d small =
    All-from_recursion (λ o. is_plain o ≡ true) lower_digits
    (refl, (refl, (refl, (refl, (refl, (refl, (refl, (refl, (refl, (refl, (refl, (refl, (refl, (refl, (refl, (refl, tt)))))))))))))))) d 0 small

pub plain_octets : (xs : List ℕ) → IsOctets xs → AllByRecursion (λ o. is_plain o ≡ true) (encode_lower xs)
unfolding encode_with
plain_octets [] h = tt
plain_octets (x ∷ xs) h =
    let small : x < 256 = octets_head x xs h in
    (digit_plain (x / 16) (omega arith), (digit_plain (x % 16) (mod-lt x (omega arith)), plain_octets xs (octets_tail x xs h)))

pub run_octets : (x : ℕ) (xs : List ℕ) → IsOctets (x ∷ xs) → IsRun (encode_lower (x ∷ xs))
unfolding encode_with
run_octets x xs h = (omega arith, plain_octets (x ∷ xs) h)

pub one_run : (run : List ℕ) → IsRun run → parts_of run ≡ Run run ∷ []
one_run run is = ap parts_of (sym (append-nil run)) ∙ run_first is_plain run [] is.0 is.1 tt

-- a run, a mark, and what stands behind
pub run_mark : (run rest : List ℕ) (mark : ℕ) → IsRun run → is_plain mark ≡ false → parts_of (run ++ mark ∷ rest) ≡ Run run ∷ Delimiter mark ∷ parts_of rest
run_mark run rest mark is e =
    run_first is_plain run (mark ∷ rest) is.0 is.1 e
    ∙ ap (λ (b : Bool). Run run ∷ (if b then with_octet mark (parts_of rest) else Delimiter mark ∷ parts_of rest)) e

pub two_runs : (first last : List ℕ) → IsRun first → IsRun last → parts_of (first ++ (codes ":" ++ last)) ≡ Run first ∷ Delimiter 58 ∷ Run last ∷ []
two_runs first last a b = run_mark first last 58 a refl ∙ ap (λ (l : List Part). Run first ∷ Delimiter 58 ∷ l) (one_run last b)

small_octet : (n k : ℕ) → n / k % 256 < 2 ^ 64
small_octet n k = let h : n / k % 256 < 256 = mod-lt (n / k) (omega arith) in omega arith

dotted : (a b c d n : List ℕ) (mark : ℕ) → is_plain mark ≡ false → IsRun a → IsRun b → IsRun c → IsRun d → IsRun n
    → parts_of ((a ++ 46 ∷ (b ++ 46 ∷ (c ++ 46 ∷ d))) ++ mark ∷ n) ≡ Run a ∷ Delimiter 46 ∷ Run b ∷ Delimiter 46 ∷ Run c ∷ Delimiter 46 ∷ Run d
    ∷ Delimiter mark ∷ Run n ∷ []
dotted a b c d n mark is p q r s t =
    let third : (c ++ 46 ∷ d) ++ mark ∷ n ≡ c ++ 46 ∷ (d ++ mark ∷ n) = append_assoc c (46 ∷ d) (mark ∷ n) in
    let second : (b ++ 46 ∷ (c ++ 46 ∷ d)) ++ mark ∷ n ≡ b ++ 46 ∷ (c ++ 46 ∷ (d ++ mark ∷ n)) =
    append_assoc b (46 ∷ (c ++ 46 ∷ d)) (mark ∷ n) ∙ ap (λ (l : List ℕ). b ++ 46 ∷ l) third in
    let first : (a ++ 46 ∷ (b ++ 46 ∷ (c ++ 46 ∷ d))) ++ mark ∷ n ≡ a ++ 46 ∷ (b ++ 46 ∷ (c ++ 46 ∷ (d ++ mark ∷ n))) =
    append_assoc a (46 ∷ (b ++ 46 ∷ (c ++ 46 ∷ d))) (mark ∷ n) ∙ ap (λ (l : List ℕ). a ++ 46 ∷ l) second in
    ap parts_of first ∙ run_mark a (b ++ 46 ∷ (c ++ 46 ∷ (d ++ mark ∷ n))) 46 p refl
    ∙ ap (λ (l : List Part). Run a ∷ Delimiter 46 ∷ l) (run_mark b (c ++ 46 ∷ (d ++ mark ∷ n)) 46 q refl)
    ∙ ap (λ (l : List Part). Run a ∷ Delimiter 46 ∷ Run b ∷ Delimiter 46 ∷ l) (run_mark c (d ++ mark ∷ n) 46 r refl)
    ∙ ap (λ (l : List Part). Run a ∷ Delimiter 46 ∷ Run b ∷ Delimiter 46 ∷ Run c ∷ Delimiter 46 ∷ l) (run_mark d n mark s is)
    ∙ ap (λ (l : List Part). Run a ∷ Delimiter 46 ∷ Run b ∷ Delimiter 46 ∷ Run c ∷ Delimiter 46 ∷ Run d ∷ Delimiter mark ∷ l) (one_run n t)

-- an address, a mark and a number
address_runs : (address number mark : ℕ) → is_plain mark ≡ false → number < 2 ^ 64
    → parts_of (address_text address ++ mark ∷ decimal number) ≡ address_parts mark address number
address_runs address number mark is small =
    dotted (decimal (address / 16777216 % 256)) (decimal (address / 65536 % 256)) (decimal (address / 256 % 256)) (decimal (address % 256))
    (decimal number) mark is
    (run_decimal (address / 16777216 % 256) (small_octet address 16777216)) (run_decimal (address / 65536 % 256) (small_octet address 65536))
    (run_decimal (address / 256 % 256) (small_octet address 256))
    (run_decimal (address % 256) (let h : address % 256 < 256 = mod-lt address (omega arith) in omega arith)) (run_decimal number small)

pub ip4_runs : (address number : ℕ) → number < 2 ^ 64 → parts_of (address_text address ++ (codes ":" ++ decimal number)) ≡ ip4_parts address number
ip4_runs address number small = address_runs address number 58 refl small

pub v4_runs : (len bits : ℕ) → len < 2 ^ 64 → parts_of (v4_text len bits) ≡ v4_parts len bits
v4_runs len bits small = address_runs bits len 47 refl small
