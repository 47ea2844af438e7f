-- The numbers of a list, pair by pair: those of which an earlier group holds, and those that the group in hand misses.
use Rattle.fs_ranges.proofs.Words.{◌≡◌, ℕ, ◌+◌, ◌-◌, ◌^◌, ◌<◌, ◌≤◌, ◌==◌, List, [], ◌∷◌, ◌++◌, Bool, true, false, not, ◌&&◌, ◌||◌, nat_lt}
use Rattle.fs_ranges.proofs.Words.{if◌then◌else◌, refl, sym, ap, subst, ◌∙◌, append_assoc, arith, inl, inr, All, cases_lt, eqb-false, le-leb}
use Rattle.fs_ranges.proofs.Words.{or_parts, nat_tests, All-append, All-cons, All-nil, list_any-append, compares, has_bit, holds, answers}
use Rattle.fs_ranges.proofs.Words.{answers_all, IsRange, contains, is_in}
use Rattle.fs_ranges.specs.Groups.{EndsGroup, missed_above, missed_at, missed_below}
use Rattle.fs_ops.specs.{Operator.{joins}, OperatorList.{first_joins}}

-- the ranges of a pair are the numbers that it misses
below_has : (bit : Bool) (v n : ℕ) → contains (if bit || (v == 0) then [] else (0, v - 1) ∷ []) n ≡ (not bit && nat_lt n v)
below_has true v n = refl
below_has false v n = grind (arith, nat_tests)

at_has : (bit : Bool) (v n : ℕ) → contains (if bit then [] else (v, v) ∷ []) n ≡ (not bit && (n == v))
at_has true v n = refl
at_has false v n = grind (arith, nat_tests)

above_has : (bit : Bool) (v n : ℕ) → n < 2 ^ 64 → contains (if bit || (v == 2 ^ 64 - 1) then [] else (v + 1, 2 ^ 64 - 1) ∷ []) n ≡ (not bit && nat_lt v n)
above_has true v n below = refl
above_has false v n below = grind (arith, nat_tests)

missed : (less greater equal : Bool) (v n : ℕ)
    → ((not less && nat_lt n v) || ((not equal && (n == v)) || (not greater && nat_lt v n)))
    ≡ not ((less && nat_lt n v) || ((greater && nat_lt v n) || (equal && (n == v))))
missed true true true v n = grind (arith, nat_tests)
missed true true false v n = grind (arith, nat_tests)
missed true false true v n = grind (arith, nat_tests)
missed true false false v n = grind (arith, nat_tests)
missed false true true v n = grind (arith, nat_tests)
missed false true false v n = grind (arith, nat_tests)
missed false false true v n = grind (arith, nat_tests)
missed false false false v n = grind (arith, nat_tests)

in_missed : (pair : ℕ × ℕ) (n : ℕ) → n < 2 ^ 64 → contains (missed_below pair ++ (missed_at pair ++ missed_above pair)) n ≡ not (compares n pair)
in_missed pair n below =
    list_any-append (is_in n) (missed_below pair) (missed_at pair ++ missed_above pair)
    ∙ (λ i. below_has (has_bit pair.0 4) pair.1 n i || rest i)
    ∙ missed (has_bit pair.0 4) (has_bit pair.0 2) (has_bit pair.0 1) pair.1 n
  where
    rest : contains (missed_at pair ++ missed_above pair) n ≡ ((not (has_bit pair.0 1) && (n == pair.1)) || (not (has_bit pair.0 2) && nat_lt pair.1 n))
    rest = list_any-append (is_in n) (missed_at pair) (missed_above pair)
        ∙ (λ i. at_has (has_bit pair.0 1) pair.1 n i || above_has (has_bit pair.0 2) pair.1 n below i)

-- the three, one after the other
joined : (old one two now : List (ℕ × ℕ)) (pair : ℕ × ℕ) → one ≡ old ++ missed_below pair → two ≡ one ++ missed_at pair → now ≡ two ++ missed_above pair
    → now ≡ old ++ (missed_below pair ++ (missed_at pair ++ missed_above pair))
joined old one two now pair e f g = rw (g, f, e) (simp append_assoc)

pub more_missed : (old one two now : List (ℕ × ℕ)) (pair : ℕ × ℕ) (n : ℕ) → one ≡ old ++ missed_below pair → two ≡ one ++ missed_at pair
    → now ≡ two ++ missed_above pair → n < 2 ^ 64
    → contains now n ≡ (contains old n || not (compares n pair))
more_missed old one two now pair n e f g below =
    ap (λ (l : List (ℕ × ℕ)). contains l n) (joined old one two now pair e f g)
    ∙ list_any-append (is_in n) old (missed_below pair ++ (missed_at pair ++ missed_above pair))
    ∙ ap (λ (b : Bool). contains old n || b) (in_missed pair n below)

-- they are ranges
one_range : (b : Bool) (range : ℕ × ℕ) → (b ≡ false → IsRange range) → All IsRange (if b then [] else range ∷ [])
one_range true range h = All-nil IsRange
one_range false range h = All-cons IsRange range [] (h refl) (All-nil IsRange)

below_range : (pair : ℕ × ℕ) → pair.1 < 2 ^ 64 → All IsRange (missed_below pair)
below_range pair small = one_range (has_bit pair.0 4 || (pair.1 == 0)) (0, pair.1 - 1) (λ e. ((omega arith), (omega arith)))

at_range : (pair : ℕ × ℕ) → pair.1 < 2 ^ 64 → All IsRange (missed_at pair)
at_range pair small = one_range (has_bit pair.0 1) (pair.1, pair.1) (λ e. ((omega arith), small))

above_range : (pair : ℕ × ℕ) → pair.1 < 2 ^ 64 → All IsRange (missed_above pair)
above_range pair small = one_range (has_bit pair.0 2 || (pair.1 == 2 ^ 64 - 1)) (pair.1 + 1, 2 ^ 64 - 1)
    (λ e. let other = eqb-false pair.1 (2 ^ 64 - 1) (or_parts (has_bit pair.0 2) (pair.1 == 2 ^ 64 - 1) e).1 in (at other, (omega arith)))
  where
    at : (pair.1 ≡ 2 ^ 64 - 1 → ⊥) → pair.1 + 1 ≤ 2 ^ 64 - 1
    at other = elim (cases_lt pair.1 (2 ^ 64 - 1)) [ inl less ↦ omega arith | inr most ↦ absurd (other (omega arith)) ]

pub more_ranges : (old one two now : List (ℕ × ℕ)) (pair : ℕ × ℕ) → one ≡ old ++ missed_below pair → two ≡ one ++ missed_at pair
    → now ≡ two ++ missed_above pair → pair.1 < 2 ^ 64
    → All IsRange old → All IsRange now
more_ranges old one two now pair e f g small before =
    subst (All IsRange) (sym (joined old one two now pair e f g))
    (All-append IsRange old _ before
    (All-append IsRange (missed_below pair) _ (below_range pair small)
    (All-append IsRange (missed_at pair) (missed_above pair) (at_range pair small) (above_range pair small))))

-- of a pair more: it joins the group in hand, or it begins one
pair_more : (joined earlier missed test : Bool) (rest : Bool → Bool)
    → ((earlier || (not joined && not missed)) || rest (not ((joined && missed) || not test)))
    ≡ (earlier || (if joined then rest (not missed && test) else (not missed || rest test)))
pair_more true true missed test rest = refl
pair_more true false true test rest = refl
pair_more true false false true rest = refl
pair_more true false false false rest = refl
pair_more false true missed test rest = refl
pair_more false false true true rest = refl
pair_more false false true false rest = refl
pair_more false false false true rest = refl
pair_more false false false false rest = refl

-- what the pairs that are left answer
pub one_pair : (pair : ℕ × ℕ) (pairs : List (ℕ × ℕ)) (n : ℕ) (missed held ended missed' held' : List (ℕ × ℕ)) → EndsGroup pair.0 n missed held ended held'
    → contains missed' n ≡ (contains ended n || not (compares n pair))
    → (contains held' n || answers (compares n) (not (contains missed' n)) pairs)
    ≡ (contains held n || answers (compares n) (not (contains missed n)) (pair ∷ pairs))
one_pair pair pairs n missed held ended missed' held' h e =
    (λ i. h.earlier i || answers (compares n) (not ((e ∙ ap (λ b. b || not (compares n pair)) h.ended) i)) pairs)
    ∙ pair_more (joins pair.0) (contains held n) (contains missed n) (compares n pair) (λ b. answers (compares n) b pairs)

-- at the start there is no group, which misses all numbers
pub all_missed : (missed held : List (ℕ × ℕ)) (pairs : List (ℕ × ℕ)) (n : ℕ) → first_joins pairs ≡ false → missed ≡ (0, 2 ^ 64 - 1) ∷ [] → held ≡ []
    → n < 2 ^ 64
    → (contains held n || answers (compares n) (not (contains missed n)) pairs) ≡ holds (compares n) pairs
all_missed missed held pairs n first e f below =
    (λ i. contains (f i) n || answers (compares n) (not (contains (e i) n)) pairs)
    ∙ ap (λ (b : Bool). answers (compares n) (not b) pairs) all
    ∙ answers_all (compares n) pairs first
  where
    all : contains ((0, 2 ^ 64 - 1) ∷ []) n ≡ true
    all = λ i. (le-leb 0 n (omega arith) i && le-leb n (2 ^ 64 - 1) (omega arith) i) || false

pub every_range : All IsRange ((0, 2 ^ 64 - 1) ∷ [])
every_range = All-cons IsRange (0, 2 ^ 64 - 1) [] ((omega arith), (omega arith)) (All-nil IsRange)

pub no_range : All IsRange []
no_range = All-nil IsRange
