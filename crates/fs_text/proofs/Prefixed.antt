-- The parts of the words of prefixes, and the prefixes that are read of them.
use Rattle.fs_text.proofs.Words.{append_assoc, ◌≡◌, ℕ, ◌+◌, ◌-◌, ◌*◌, ◌/◌, ◌%◌, ◌^◌, ◌<◌, ◌≤◌, ◌==◌, List, [], ◌∷◌, ◌++◌, Bool, true, false, Option}
use Rattle.fs_text.proofs.Words.{Some, None, if◌then◌else◌, refl, sym, ap, ◌∙◌, subst, arith, ⊎_elim, decimal, AllByRecursion, append-nil, pow_pos}
use Rattle.fs_text.proofs.Words.{pow-add, div-div-eq-div-mul, div-le_self, mod-eq_of_lt, mod-lt, mul-div_cancel, mul_assoc, eqb-true, none-some}
use Rattle.fs_text.proofs.Words.{some_pair_parts, Family, V4Form, V6Form, Body, V4Body, V6Body, IsNormalBody, hexadecimal, groups_text, offset_text}
use Rattle.fs_text.proofs.Words.{v6_text, wide_address_text, body_text, Run, Delimiter, is_plain, parts_of, GivesV4, GivesV6, offset_parts}
use Rattle.fs_text.proofs.Words.{range_parts, wide_parts}
use Rattle.fs_text.proofs.{Numerals.{plain_digits}, WordParts.{IsRun, one_run, run_decimal, run_mark, v4_runs}}
use Rattle.fs_text.specs.Pieces.{Part}
use Rattle.std.specs.{Int.{to_be_bytes, w128}, Net.Addr.{segments_of}}
use Rattle.fs_base.specs.Bits.{IsBlock, block_below, block_of, cleared}
use Rattle.fs_nlri.specs.Spelling.{IsRange}

pub run_hexadecimal : (g : ℕ) → g < 2 ^ 64 → IsRun (hexadecimal g)
run_hexadecimal g small = plain_digits 16 g (omega arith) (omega arith) (omega arith)

abbrev group_parts : ℕ → List ℕ → List Part → List Part
group_parts g [] tail = Run (hexadecimal g) ∷ tail
group_parts g (h ∷ gs) tail = Run (hexadecimal g) ∷ Delimiter 58 ∷ group_parts h gs tail

groups_cut : (g : ℕ) (gs : List ℕ) (mark : ℕ) (rest : List ℕ) → AllByRecursion (λ k. k < 2 ^ 64) (g ∷ gs) → is_plain mark ≡ false
    → parts_of (groups_text (g ∷ gs) ++ mark ∷ rest) ≡ group_parts g gs (Delimiter mark ∷ parts_of rest)
groups_cut g [] mark rest small is =
    ap (λ (l : List ℕ). parts_of (l ++ mark ∷ rest)) (append-nil (hexadecimal g)) ∙ run_mark (hexadecimal g) rest mark (run_hexadecimal g small.0) is
groups_cut g (h ∷ gs) mark rest small is =
    ap parts_of (append_assoc (hexadecimal g) (58 ∷ groups_text (h ∷ gs)) (mark ∷ rest))
    ∙ run_mark (hexadecimal g) (groups_text (h ∷ gs) ++ mark ∷ rest) 58 (run_hexadecimal g small.0) refl
    ∙ ap (λ (l : List Part). Run (hexadecimal g) ∷ Delimiter 58 ∷ l) (groups_cut h gs mark rest small.1 is)

-- two octets are a group
two_octets : (m : ℕ) → m / 256 % 256 * 256 + m % 256 ≡ m % 65536
two_octets m = omega arith

group_at : (n b : ℕ) → n / (b * 256) % 256 * 256 + n / b % 256 ≡ n / b % 65536
group_at n b = ap (λ (k : ℕ). k % 256 * 256 + n / b % 256) (sym (div-div-eq-div-mul n b 256)) ∙ two_octets (n / b)

group_high : (n b : ℕ) → n / (2 ^ 64 * b * 256) % 256 * 256 + n / (2 ^ 64 * b) % 256 ≡ n / 2 ^ 64 / b % 65536
group_high n b = group_at n (2 ^ 64 * b) ∙ ap (λ (k : ℕ). k % 65536) (sym (div-div-eq-div-mul n (2 ^ 64) b))

pair_up : {x y : ℕ} {xs ys : List ℕ} → x ≡ y → xs ≡ ys → x ∷ xs ≡ y ∷ ys
pair_up {x} {y} {xs} {ys} e f = ap (λ (k : ℕ). k ∷ xs) e ∙ ap (λ (l : List ℕ). y ∷ l) f

pub eight_groups : (n : ℕ)
    → segments_of (to_be_bytes w128 n)
    ≡ (n / 2 ^ 64 / 2 ^ 48 % 65536) ∷ (n / 2 ^ 64 / 2 ^ 32 % 65536) ∷ (n / 2 ^ 64 / 2 ^ 16 % 65536) ∷ (n / 2 ^ 64 % 65536)
    ∷ (n / 2 ^ 48 % 65536) ∷ (n / 2 ^ 32 % 65536) ∷ (n / 2 ^ 16 % 65536) ∷ (n % 65536) ∷ []
eight_groups n =
    pair_up (group_high n (2 ^ 48)) (pair_up (group_high n (2 ^ 32)) (pair_up (group_high n (2 ^ 16)) (pair_up (group_at n (2 ^ 64))
    (pair_up (group_at n (2 ^ 48)) (pair_up (group_at n (2 ^ 32)) (pair_up (group_at n (2 ^ 16)) (pair_up (two_octets n) refl)))))))

pub small_group : (m : ℕ) → m % 65536 < 2 ^ 64
small_group m = let h : m % 65536 < 65536 = mod-lt m (omega arith) in omega (arith, h)

range_cut : (len offset : ℕ) → len < 2 ^ 64 → offset < 2 ^ 64 → parts_of (decimal len ++ offset_text offset) ≡ Run (decimal len) ∷ offset_parts offset
range_cut len offset small low = by (offset == 0)
  where
    by : (b : Bool) → parts_of (decimal len ++ (if b then [] else 45 ∷ decimal offset))
        ≡ Run (decimal len) ∷ (if b then [] else Delimiter 45 ∷ Run (decimal offset) ∷ [])
    by true = ap parts_of (append-nil (decimal len)) ∙ one_run (decimal len) (run_decimal len small)
    by false =
        run_mark (decimal len) (decimal offset) 45 (run_decimal len small) refl
        ∙ ap (λ (l : List Part). Run (decimal len) ∷ Delimiter 45 ∷ l) (one_run (decimal offset) (run_decimal offset low))

eight_cut : (a b c d e f g h mark : ℕ) (rest : List ℕ) → is_plain mark ≡ false
    → parts_of (
    groups_text ((a % 65536) ∷ (b % 65536) ∷ (c % 65536) ∷ (d % 65536) ∷ (e % 65536) ∷ (f % 65536) ∷ (g % 65536) ∷ (h % 65536) ∷ []) ++ mark ∷ rest
    )
    ≡ group_parts (a % 65536) ((b % 65536) ∷ (c % 65536) ∷ (d % 65536) ∷ (e % 65536) ∷ (f % 65536) ∷ (g % 65536) ∷ (h % 65536) ∷ [])
    (Delimiter mark ∷ parts_of rest)
eight_cut a b c d e f g h mark rest is =
    groups_cut (a % 65536) ((b % 65536) ∷ (c % 65536) ∷ (d % 65536) ∷ (e % 65536) ∷ (f % 65536) ∷ (g % 65536) ∷ (h % 65536) ∷ []) mark rest
    (small_group a, (small_group b, (small_group c, (small_group d, (small_group e, (small_group f, (small_group g, (small_group h, tt)))))))) is

pub v6_runs : (len offset pattern : ℕ) → len < 2 ^ 64 → offset < 2 ^ 64
    → parts_of (v6_text len offset pattern) ≡ wide_parts (pattern / 2 ^ offset) (range_parts len offset)
v6_runs len offset pattern small low = by (pattern / 2 ^ offset)
  where
    by : (n : ℕ) → parts_of (wide_address_text n ++ 47 ∷ (decimal len ++ offset_text offset)) ≡ wide_parts n (range_parts len offset)
    by n =
        ap (λ (l : List ℕ). parts_of (groups_text l ++ 47 ∷ (decimal len ++ offset_text offset))) (eight_groups n)
        ∙ eight_cut (n / 2 ^ 64 / 2 ^ 48) (n / 2 ^ 64 / 2 ^ 32) (n / 2 ^ 64 / 2 ^ 16) (n / 2 ^ 64) (n / 2 ^ 48) (n / 2 ^ 32) (n / 2 ^ 16) n 47
        (decimal len ++ offset_text offset) refl
        ∙ ap (λ (l : List Part). wide_parts n (Delimiter 47 ∷ l)) (range_cut len offset small low)

-- a length and an offset, by whether the offset is 0
pub range_read : (parts : List Part) (r : Option (ℕ × ℕ))
    → ((len : ℕ) → len < 256 → parts ≡ Delimiter 47 ∷ Run (decimal len) ∷ [] → r ≡ Some (len, 0))
    → ((len offset : ℕ) → len < 256 → offset < 256 → parts ≡ Delimiter 47 ∷ Run (decimal len) ∷ Delimiter 45 ∷ Run (decimal offset) ∷ []
    → r ≡ Some (len, offset))
    → (len offset : ℕ) → len < 256 → offset < 256 → parts ≡ range_parts len offset → r ≡ Some (len, offset)
range_read parts r whole part len offset small low is = by (offset == 0) refl is
  where
    by : (b : Bool) → (offset == 0) ≡ b → parts ≡ Delimiter 47 ∷ Run (decimal len) ∷ (if b then [] else Delimiter 45 ∷ Run (decimal offset) ∷ [])
        → r ≡ Some (len, offset)
    by true e p = whole len small p ∙ ap (λ (k : ℕ). let made : Option (ℕ × ℕ) = Some (len, k) in made) (sym (eqb-true offset 0 e))
    by false e p = part len offset small low p

pub pattern_small : (count pattern : ℕ) → count ≤ 128 → pattern ≡ cleared 128 count pattern → pattern < 2 ^ 128
pattern_small count pattern short clear = block_below 128 count pattern (block_of 128 count pattern short clear)

shifted_back : (len offset pattern : ℕ) → len ≤ 128 → offset ≤ len → pattern ≡ cleared 128 (len - offset) pattern → pattern / 2 ^ offset * 2 ^ offset ≡ pattern
shifted_back len offset pattern high low clear =
    let block : IsBlock 128 (len - offset) pattern = block_of 128 (len - offset) pattern (omega (arith, high)) clear in
    let exponent : 128 - (len - offset) ≡ (128 - len) + offset = omega (arith, high, low) in
    let power : 2 ^ (128 - (len - offset)) ≡ 2 ^ (128 - len) * 2 ^ offset = ap (λ (k : ℕ). 2 ^ k) exponent ∙ pow-add 2 (128 - len) offset in
    let spelled : pattern ≡ block.count * 2 ^ (128 - len) * 2 ^ offset =
    block.spelled ∙ ap (λ (k : ℕ). block.count * k) power ∙ sym (mul_assoc block.count (2 ^ (128 - len)) (2 ^ offset)) in
    ap (λ (k : ℕ). k / 2 ^ offset * 2 ^ offset) spelled
    ∙ ap (λ (k : ℕ). k * 2 ^ offset) (mul-div_cancel (block.count * 2 ^ (128 - len)) (pow_pos offset)) ∙ sym spelled

range_low : (len offset : ℕ) → IsRange len offset → offset ≤ len
range_low len offset is = ⊎_elim (λ below. omega (arith, below)) (λ zeros. omega (arith, zeros.1)) is.1

-- the address, moved back by the offset
pub pattern_back : (len offset pattern address : ℕ) → IsRange len offset → pattern ≡ cleared 128 (len - offset) pattern → address ≡ pattern / 2 ^ offset
    → address * 2 ^ offset % 340282366920938463463374607431768211456 ≡ pattern
pattern_back len offset pattern address range clear is =
    let low : offset ≤ len = range_low len offset range in
    let high : len ≤ 128 = range.0 in
    let small : pattern < 2 ^ 128 = pattern_small (len - offset) pattern (omega (arith, high)) clear in
    ap (λ (k : ℕ). k * 2 ^ offset % 340282366920938463463374607431768211456) is
    ∙ ap (λ (k : ℕ). k % 340282366920938463463374607431768211456) (shifted_back len offset pattern high low clear) ∙ mod-eq_of_lt small

pub range_offset : (len offset : ℕ) → IsRange len offset → offset < 128
range_offset len offset is = ⊎_elim (λ below. omega (arith, below, is.0)) (λ zeros. omega (arith, zeros.1)) is.1

-- the address of a word, moved back by its offset
pub v6_made : (address length at : ℕ) (parts : List Part) (r : Option (ℕ × (ℕ × ℕ))) (result : Option Body) → r ≡ Some (address, (length, at))
    → ((n len offset : ℕ) → n < 2 ^ 128 → len < 256 → offset < 256 → parts ≡ wide_parts n (range_parts len offset) → r ≡ Some (n, (len, offset)))
    → ((pattern : ℕ) → IsRange length at → pattern ≡ cleared 128 (length - at) pattern → address ≡ pattern / 2 ^ at → result ≡ Some (V6Body length at pattern))
    → GivesV6 parts result
v6_made address length at parts r result is told made len offset pattern range clear parts_are =
    let short : len ≤ 128 = range.0 in
    let low : offset < 128 = range_offset len offset range in
    let small : pattern < 2 ^ 128 = pattern_small (len - offset) pattern (omega (arith, short)) clear in
    let less : pattern / 2 ^ offset ≤ pattern = div-le_self pattern (2 ^ offset) in
    let e : r ≡ Some (pattern / 2 ^ offset, (len, offset)) =
    told (pattern / 2 ^ offset) len offset (omega (arith, small, less)) (omega (arith, short)) (omega (arith, low)) parts_are in
    let both = some_pair_parts {A = ℕ} {B = ℕ × ℕ} address (pattern / 2 ^ offset) (length, at) (len, offset) (sym is ∙ e) in
    let same : length ≡ len = ap (λ (r : ℕ × ℕ). r.0) both.1 in
    let also : at ≡ offset = ap (λ (r : ℕ × ℕ). r.1) both.1 in
    subst (λ (k : ℕ). Made k offset) same (subst (λ (j : ℕ). Made length j) also made) pattern range clear both.0
  where
    Made : ℕ → ℕ → Type 0
    Made k j = (pattern : ℕ) → IsRange k j → pattern ≡ cleared 128 (k - j) pattern → address ≡ pattern / 2 ^ j → result ≡ Some (V6Body k j pattern)

pub v6_none : (parts : List Part) (r : Option (ℕ × (ℕ × ℕ))) (result : Option Body) → r ≡ None
    → ((n len offset : ℕ) → n < 2 ^ 128 → len < 256 → offset < 256 → parts ≡ wide_parts n (range_parts len offset) → r ≡ Some (n, (len, offset)))
    → GivesV6 parts result
v6_none parts r result none told len offset pattern range clear parts_are =
    let short : len ≤ 128 = range.0 in
    let low : offset < 128 = range_offset len offset range in
    let small : pattern < 2 ^ 128 = pattern_small (len - offset) pattern (omega (arith, short)) clear in
    let less : pattern / 2 ^ offset ≤ pattern = div-le_self pattern (2 ^ offset) in
    absurd (none-some _ (sym none ∙ told (pattern / 2 ^ offset) len offset (omega (arith, small, less)) (omega (arith, short)) (omega (arith, low)) parts_are))

pub wide_made : (whole n : ℕ) (range also : ℕ × ℕ) → whole ≡ n → range ≡ also → (let made : Option (ℕ × (ℕ × ℕ)) = Some (whole, range) in made) ≡ Some (n, also)
wide_made whole n range also p q =
    ap (λ (k : ℕ). let made : Option (ℕ × (ℕ × ℕ)) = Some (k, range) in made) p ∙ ap (λ (k : ℕ × ℕ). let made : Option (ℕ × (ℕ × ℕ)) = Some (n, k) in made) q

pub v4_found : (body : Body) (parts : List Part) (result : Option Body) → IsNormalBody V4Form body → parts ≡ parts_of (body_text 1 body)
    → GivesV4 parts result → result ≡ Some body
v4_found (V4Body family len bits) parts result is p gives =
    let short : len ≤ 32 = is.1 in
    gives len bits short (block_below 32 len bits (block_of 32 len bits short is.2)) is.2 (p ∙ v4_runs len bits (omega (arith, short)))
    ∙ ap (λ (f : Family). let made : Option Body = Some (V4Body f len bits) in made) (sym is.0)
v4_found body parts result is p gives = absurd is

pub v6_found : (body : Body) (parts : List Part) (result : Option Body) → IsNormalBody V6Form body → parts ≡ parts_of (body_text 1 body)
    → GivesV6 parts result → result ≡ Some body
v6_found (V6Body len offset pattern) parts result is p gives =
    let high : len ≤ 128 = is.0.0 in
    let low : offset < 128 = range_offset len offset is.0 in
    gives len offset pattern is.0 is.1 (p ∙ v6_runs len offset pattern (omega (arith, high)) (omega (arith, low)))
v6_found body parts result is p gives = absurd is
