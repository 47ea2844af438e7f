use Rattle.fs_ops.proofs.Words.{◌≡◌, ℕ, ◌+◌, ◌≤◌, Bool, true, false, List, [], ◌∷◌, ◌++◌, length, map, refl, ap, sym, subst, ◌∙◌, arith, append_assoc}
use Rattle.fs_ops.proofs.Words.{length-append, Contains, both_ways, append_same, Kind, meant_bits, first_bits, counted_bits, ends, width_code}
use Rattle.fs_ops.proofs.Words.{width_of, Written, octets_of, text, IsPair, AreMiddle, IsList, said, all_said, Spells}

-- Operator lists as octets: one list at most stands at the front of octets, and what reading has found so far decides the rest.

same_pair : (a b : Written) → a.operator ≡ b.operator → a.value ≡ b.value → a ≡ b
same_pair a b operators values =
    ap (λ (operator : ℕ). let pair : Written = record { operator = operator; value = a.value } in pair) operators
    ∙ ap (λ (value : List ℕ). let pair : Written = record { operator = b.operator; value = value } in pair) values

-- two pairs at the front of one list are the same pair
pub record SameFront (a b : Written) (s t : List ℕ) : Type 0 where
  pub pair : a ≡ b
  pub rest : s ≡ t

first_pair : (widths : List ℕ) (a b : Written) (s t : List ℕ) → IsPair widths a → IsPair widths b → octets_of a ++ s ≡ octets_of b ++ t → SameFront a b s t
first_pair widths a b s t one other same =
    let operators : a.operator ≡ b.operator = cc in
    let tails : a.value ++ s ≡ b.value ++ t = cc in
    let lengths : length a.value ≡ length b.value = one.size ∙ ap (λ (o : ℕ). width_of o) operators ∙ sym other.size in
    let found = append_same a.value s b.value t lengths tails in
    record { pair = same_pair a b operators found.0; rest = found.1 }

-- what stands behind a first pair, in a form that shows the pair
opened : (pair : Written) (pairs : List Written) (more : List ℕ) → text (pair ∷ pairs) ++ more ≡ octets_of pair ++ (text pairs ++ more)
opened pair pairs more = append_assoc (octets_of pair) (text pairs) more

-- A list that begins as these middle pairs has them, and a list behind them
pub record Behind (widths rest more : List ℕ) : Type 0 where
  pub written : List Written
  pub whole : IsList widths written
  pub spelled : text written ++ more ≡ rest

pub behind : (widths : List ℕ) (before written : List Written) (rest more : List ℕ) → AreMiddle widths before → IsList widths written
    → text written ++ more ≡ text before ++ rest → Behind widths rest more
behind widths [] written rest more middle whole same = record { written = written; whole = whole; spelled = same }
behind widths (pair ∷ before) [] rest more middle whole same = absurd whole
behind widths (pair ∷ before) (own ∷ []) rest more middle whole same =
    let front = first_pair widths own pair (text [] ++ more) (text before ++ rest) whole.0 middle.0 (sym (opened own [] more) ∙ same
    ∙ opened pair before rest) in
    absurd (both_ways (ends own.operator) (ap (λ (p : Written). ends p.operator) front.pair ∙ middle.1) whole.1)
behind widths (pair ∷ before) (own ∷ next ∷ written) rest more middle whole same =
    let front = first_pair widths own pair (text (next ∷ written) ++ more) (text before ++ rest) whole.0 middle.0
    (sym (opened own (next ∷ written) more) ∙ same ∙ opened pair before rest) in
    behind widths before (next ∷ written) rest more middle.2 whole.2 front.rest

-- one list at most stands at the front
pub record SameList (a b : List Written) (s t : List ℕ) : Type 0 where
  pub written : a ≡ b
  pub rest : s ≡ t

pub same_written : (widths : List ℕ) (a b : List Written) (s t : List ℕ) → IsList widths a → IsList widths b → text a ++ s ≡ text b ++ t → SameList a b s t
same_written widths [] b s t one other same = absurd one
same_written widths (x ∷ a) [] s t one other same = absurd other
same_written widths (x ∷ []) (y ∷ []) s t one other same =
    let front = first_pair widths x y (text [] ++ s) (text [] ++ t) one.0 other.0 (sym (opened x [] s) ∙ same ∙ opened y [] t) in
    record { written = ap (λ (p : Written). p ∷ []) front.pair; rest = front.rest }
same_written widths (x ∷ []) (y ∷ q ∷ b) s t one other same =
    let front = first_pair widths x y (text [] ++ s) (text (q ∷ b) ++ t) one.0 other.0 (sym (opened x [] s) ∙ same ∙ opened y (q ∷ b) t) in
    absurd (both_ways (ends x.operator) (ap (λ (p : Written). ends p.operator) front.pair ∙ other.1) one.1)
same_written widths (x ∷ p ∷ a) (y ∷ []) s t one other same =
    let front = first_pair widths x y (text (p ∷ a) ++ s) (text [] ++ t) one.0 other.0 (sym (opened x (p ∷ a) s) ∙ same ∙ opened y [] t) in
    absurd (both_ways (ends y.operator) (sym (ap (λ (p : Written). ends p.operator) front.pair) ∙ one.1) other.1)
same_written widths (x ∷ p ∷ a) (y ∷ q ∷ b) s t one other same =
    let front = first_pair widths x y (text (p ∷ a) ++ s) (text (q ∷ b) ++ t) one.0 other.0 (sym (opened x (p ∷ a) s) ∙ same ∙ opened y (q ∷ b) t) in
    let found = same_written widths (p ∷ a) (q ∷ b) s t one.2 other.2 front.rest in
    let heads : x ≡ y = front.pair in
    let tails : p ∷ a ≡ q ∷ b = found.written in
    record { written = (cc); rest = found.rest }

pub record SameSpelling (n m : List ℕ) (a b : List (ℕ × ℕ)) (s t : List ℕ) : Type 0 where
  pub octets : n ≡ m
  pub pairs : a ≡ b
  pub rest : s ≡ t

pub same_list : (kind : Kind) (widths one other s t : List ℕ) (a b : List (ℕ × ℕ)) → Spells kind widths one a → Spells kind widths other b
    → one ++ s ≡ other ++ t → SameSpelling one other a b s t
same_list kind widths one other s t a b first second same =
    let joined : text first.written ++ s ≡ text second.written ++ t =
    ap (λ (l : List ℕ). l ++ s) first.spelled ∙ same ∙ ap (λ (l : List ℕ). l ++ t) (sym second.spelled) in
    let found = same_written widths first.written second.written s t first.whole second.whole joined in
    record {
      octets = sym first.spelled ∙ ap text found.written ∙ second.spelled;
      pairs = first.means ∙ ap (all_said kind) found.written ∙ sym second.means;
      rest = found.rest;
    }

-- A list's first octet is an operator whose width is allowed, and its value stands whole behind it
pub record Opening (widths : List ℕ) (operator : ℕ) (tail : List ℕ) : Type 0 where
  pub allowed : Contains widths (width_code operator)
  pub room : width_of operator ≤ length tail

opening_of : (widths : List ℕ) (pair : Written) (rest : List ℕ) (operator : ℕ) (tail : List ℕ) → IsPair widths pair
    → octets_of pair ++ rest ≡ operator ∷ tail → Opening widths operator tail
opening_of widths pair rest operator tail is same =
    let operators : pair.operator ≡ operator = cc in
    let tails : pair.value ++ rest ≡ tail = cc in
    let size : length pair.value ≡ width_of pair.operator = is.size in
    let sizes : width_of pair.operator ≡ width_of operator = ap (λ (o : ℕ). width_of o) operators in
    let whole : length pair.value + length rest ≡ length tail = sym (length-append pair.value rest) ∙ ap length tails in
    record { allowed = subst (λ (o : ℕ). Contains widths (width_code o)) operators is.allowed; room = omega arith }

pub opening : (widths : List ℕ) (written : List Written) (more : List ℕ) (operator : ℕ) (tail : List ℕ) → IsList widths written
    → text written ++ more ≡ operator ∷ tail → Opening widths operator tail
opening widths [] more operator tail whole same = absurd whole
opening widths (pair ∷ []) more operator tail whole same = opening_of widths pair (text [] ++ more) operator tail whole.0 (sym (opened pair [] more) ∙ same)
opening widths (pair ∷ next ∷ written) more operator tail whole same =
    opening_of widths pair (text (next ∷ written) ++ more) operator tail whole.0 (sym (opened pair (next ∷ written) more) ∙ same)

pub no_list : (widths : List ℕ) (written : List Written) (more : List ℕ) → IsList widths written → text written ++ more ≡ [] → ⊥
no_list widths [] more whole same = whole
no_list widths (pair ∷ []) more whole same = cc
no_list widths (pair ∷ next ∷ written) more whole same = cc

-- middle pairs and then a list are a list
pub joined_list : (widths : List ℕ) (before written : List Written) → AreMiddle widths before → IsList widths written → IsList widths (before ++ written)
joined_list widths [] written middle whole = whole
joined_list widths (pair ∷ []) [] middle whole = absurd whole
joined_list widths (pair ∷ []) (own ∷ written) middle whole = (middle.0, middle.1, whole)
joined_list widths (pair ∷ next ∷ before) written middle whole = (middle.0, middle.1, joined_list widths (next ∷ before) written middle.2 whole)

pub middle_more : (widths : List ℕ) (before : List Written) (pair : Written) → AreMiddle widths before → IsPair widths pair
    → ends pair.operator ≡ false → AreMiddle widths (before ++ pair ∷ [])
middle_more widths [] pair middle is going = (is, going, tt)
middle_more widths (own ∷ before) pair middle is going = (middle.0, middle.1, middle_more widths before pair middle.2 is going)

pub text_joined : (before after : List Written) → text (before ++ after) ≡ text before ++ text after
text_joined [] after = refl
text_joined (pair ∷ before) after = ap (λ (l : List ℕ). octets_of pair ++ l) (text_joined before after)
    ∙ sym (append_assoc (octets_of pair) (text before) (text after))

abbrev pub is_none_before : List Written → Bool
is_none_before [] = true
is_none_before (pair ∷ pairs) = false

pub said_more : (kind : Kind) (before : List Written) (pair : Written)
    → all_said kind (before ++ pair ∷ []) ≡ all_said kind before ++ said (counted_bits kind (is_none_before before)) pair ∷ []
said_more kind [] pair = refl
said_more kind (own ∷ before) pair = ap (λ (l : List (ℕ × ℕ)). said (first_bits kind) own ∷ l) (mapped before) where
  mapped : (before : List Written)
      → map (said (meant_bits kind)) (before ++ pair ∷ []) ≡ map (said (meant_bits kind)) before ++ said (meant_bits kind) pair ∷ []
  mapped [] = refl
  mapped (own ∷ before) = ap (λ (l : List (ℕ × ℕ)). said (meant_bits kind) own ∷ l) (mapped before)
