use Rattle.fs_ranges.proofs.Words.{◌≡◌, ℕ, suc, ◌+◌, ◌-◌, ◌^◌, ◌<◌, ◌≤◌, max, List, [], ◌∷◌, ◌++◌, length, get_or, Bool, true, false, not, ◌&&◌, ◌||◌}
use Rattle.fs_ranges.proofs.Words.{nat_le, nat_lt, if◌then◌else◌, refl, sym, ap, subst, ◌∙◌, arith, All, AllByRecursion, IsNonDecreasingBy, and_left}
use Rattle.fs_ranges.proofs.Words.{le-leb, lt-leb, lt-ltb, ltb-true, nat_tests, All-append, All-cons, All-nil, list_any-append, AreApart, IsRange}
use Rattle.fs_ranges.proofs.Words.{contains, is_in, gap, gaps_from}

-- What ranges leave out: the numbers that are in none of them, as ranges with a gap before each next.

-- no range begins below the number, and none before an earlier one
abbrev pub AreAscending : ℕ → List (ℕ × ℕ) → Type 0
AreAscending low [] = Unit {0}
AreAscending low (range ∷ ranges) = (low ≤ range.0) × AreAscending range.0 ranges

ascending : (low : ℕ) (ranges : List (ℕ × ℕ)) → ((k : ℕ) (d : ℕ × ℕ) → k < length ranges → low ≤ (get_or ranges k d).0)
    → ((i j : ℕ) (d : ℕ × ℕ) → i ≤ j → j < length ranges → (get_or ranges i d).0 ≤ (get_or ranges j d).0) → AreAscending low ranges
ascending low [] from rises = tt
ascending low (range ∷ ranges) from rises = (
  from 0 range (omega arith),
  ascending range.0 ranges (λ k d below. rises 0 (suc k) d (omega arith) (omega arith))
      (λ i j d order below. rises (suc i) (suc j) d (omega arith) (omega arith)),
)

pub ascending_from : (ranges : List (ℕ × ℕ)) → IsNonDecreasingBy (λ r. r.0) ranges → AreAscending 0 ranges
ascending_from ranges rises = ascending 0 ranges (λ k d below. omega arith) rises

either : (a b c d : Bool) → a ≡ c → b ≡ d → (a || b) ≡ (c || d)
either a b c d e f = λ i. e i || f i

-- a gap has the numbers that it says
in_gap : (from end n : ℕ) → contains (gap from end) n ≡ (nat_le from n && nat_lt n end)
in_gap from end n = grind (arith, nat_tests)

none_below : (low n : ℕ) (ranges : List (ℕ × ℕ)) → AreAscending low ranges → n < low → contains ranges n ≡ false
none_below low n [] rises below = refl
none_below low n (range ∷ ranges) rises below =
    let first : low ≤ range.0 = rises.0 in
    either (is_in n range) (contains ranges n) false false
    (and_left (nat_le range.0 n) (nat_le n range.1) (lt-leb range.0 n (omega arith))) (none_below range.0 n ranges rises.1 (omega arith))

-- of a number: what stands before the first range, in it, behind it
step : (from first last n : ℕ) (rest : Bool) → (n < first → rest ≡ false)
    → ((nat_le from n && nat_lt n first) || (nat_le (max from (last + 1)) n && not rest)) ≡ (nat_le from n && not ((nat_le first n && nat_le n last) || rest))
step from first last n true none = grind (arith, nat_tests)
step from first last n false none = grind (arith, nat_tests)

gaps_have : (low from n : ℕ) (ranges : List (ℕ × ℕ)) → AreAscending low ranges → n < 2 ^ 64
    → contains (gaps_from from ranges) n ≡ (nat_le from n && not (contains ranges n))
gaps_have low from n [] rises below = in_gap from (2 ^ 64) n ∙ ap (λ (b : Bool). nat_le from n && b) (lt-ltb n (2 ^ 64) below)
gaps_have low from n (range ∷ ranges) rises below =
    list_any-append (is_in n) (gap from range.0) (gaps_from (max from (range.1 + 1)) ranges)
    ∙ either (contains (gap from range.0) n) (contains (gaps_from (max from (range.1 + 1)) ranges) n) (nat_le from n && nat_lt n range.0)
    (nat_le (max from (range.1 + 1)) n && not (contains ranges n))
    (in_gap from range.0 n) (gaps_have range.0 (max from (range.1 + 1)) n ranges rises.1 below)
    ∙ step from range.0 range.1 n (contains ranges n) (none_below range.0 n ranges rises.1)

-- what the ranges leave out, behind what stood before
pub gaps_more : (before now ranges old : List (ℕ × ℕ)) (n : ℕ) → AreAscending 0 ranges → now ≡ before ++ gaps_from 0 ranges
    → ((m : ℕ) → contains ranges m ≡ contains old m) → n < 2 ^ 64
    → contains now n ≡ (contains before n || not (contains old n))
gaps_more before now ranges old n rises e same below =
    ap (λ (l : List (ℕ × ℕ)). contains l n) e ∙ list_any-append (is_in n) before (gaps_from 0 ranges)
    ∙ ap (λ (b : Bool). contains before n || b) (gaps_have 0 0 n ranges rises below
    ∙ ap (λ (b : Bool). b && not (contains ranges n)) (le-leb 0 n (omega arith)) ∙ ap not (same n))

-- each gap is a range, and they stand apart
gap_range : (from end : ℕ) → end ≤ 2 ^ 64 → All IsRange (gap from end)
gap_range from end h = at (nat_lt from end) refl
  where
    at : (b : Bool) → nat_lt from end ≡ b → All IsRange (if b then (from, end - 1) ∷ [] else [])
    at true e =
        let l : from < end = ltb-true from end e in All-cons IsRange (from, end - 1) [] ((omega arith), (omega arith)) (All-nil IsRange)
    at false e = All-nil IsRange

pub gaps_ranges : (from : ℕ) (ranges : List (ℕ × ℕ)) → AllByRecursion IsRange ranges → All IsRange (gaps_from from ranges)
gaps_ranges from [] each = gap_range from (2 ^ 64) (omega arith)
gaps_ranges from (range ∷ ranges) each =
    let proper : range.0 ≤ range.1 = each.0.0 in
    let small : range.1 < 2 ^ 64 = each.0.1 in
    All-append IsRange (gap from range.0) (gaps_from (max from (range.1 + 1)) ranges) (gap_range from range.0 (omega arith))
    (gaps_ranges (max from (range.1 + 1)) ranges each.1)

lower : (low high : ℕ) (ranges : List (ℕ × ℕ)) → low ≤ high → AreApart high ranges → AreApart low ranges
lower low high [] h apart = tt
lower low high (range ∷ ranges) h apart = let first : high ≤ range.0 = apart.0 in ((omega arith), apart.1, apart.2)

gap_apart : (low from end : ℕ) (rest : List (ℕ × ℕ)) → low ≤ from → end ≤ 2 ^ 64 → AreApart (max from (end + 1)) rest → AreApart low (gap from end ++ rest)
gap_apart low from end rest first small apart = at (nat_lt from end) refl
  where
    at : (b : Bool) → nat_lt from end ≡ b → AreApart low ((if b then (from, end - 1) ∷ [] else []) ++ rest)
    at true e = let l : from < end = ltb-true from end e in
        (first, ((omega arith), (omega arith)), lower (end - 1 + 2) (max from (end + 1)) rest (omega arith) apart)
    at false e = lower low (max from (end + 1)) rest (omega arith) apart

gaps_apart : (low from : ℕ) (ranges : List (ℕ × ℕ)) → low ≤ from → AllByRecursion IsRange ranges → AreApart low (gaps_from from ranges)
gaps_apart low from [] first each = at (nat_lt from (2 ^ 64)) refl
  where
    at : (b : Bool) → nat_lt from (2 ^ 64) ≡ b → AreApart low (if b then (from, 2 ^ 64 - 1) ∷ [] else [])
    at true e = let l : from < 2 ^ 64 = ltb-true from (2 ^ 64) e in (first, ((omega arith), (omega arith)), tt)
    at false e = tt
gaps_apart low from (range ∷ ranges) first each =
    let proper : range.0 ≤ range.1 = each.0.0 in
    let small : range.1 < 2 ^ 64 = each.0.1 in
    gap_apart low from range.0 (gaps_from (max from (range.1 + 1)) ranges) first (omega arith)
    (gaps_apart (max from (range.0 + 1)) (max from (range.1 + 1)) ranges (omega arith) each.1)

pub gaps_stand_apart : (before now ranges : List (ℕ × ℕ)) → AllByRecursion IsRange ranges → now ≡ before ++ gaps_from 0 ranges → before ≡ [] → AreApart 0 now
gaps_stand_apart before now ranges each e none =
    subst (λ (l : List (ℕ × ℕ)). AreApart 0 l) (sym (e ∙ ap (λ (l : List (ℕ × ℕ)). l ++ gaps_from 0 ranges) none)) (gaps_apart 0 0 ranges (omega arith) each)
