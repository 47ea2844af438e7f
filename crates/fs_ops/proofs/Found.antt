-- What the reader has found when it stands before an operator, and what follows from it at each of its ends.
use Rattle.fs_ops.proofs.Words.{◌≡◌, ℕ, zero, suc, ◌+◌, ◌-◌, ◌*◌, ◌^◌, ◌<◌, ◌≤◌, ◌==◌, Bool, true, false, List, [], ◌∷◌, ◌++◌, length, take, drop}
use Rattle.fs_ops.proofs.Words.{get_or, replicate, refl, ap, sym, subst, ◌∙◌, arith, append_assoc, length-append, Contains, Any, bit_and, append-nil}
use Rattle.fs_ops.proofs.Words.{length-replicate, take_at, take-append-drop, length-take, take_all, All-replicate, All-append, All-cons, All-nil}
use Rattle.fs_ops.proofs.Words.{ne_eqb, big_number, IsOctets, Begins, NoFront, take-append-add, Kind, counted_bits, ends, width_code, width_of}
use Rattle.fs_ops.proofs.Words.{Written, text, IsPair, AreMiddle, IsList, said, all_said, IsText, Spells, IsCutList, IsBadWidth}
use Rattle.fs_ops.proofs.Grammar.{behind, opening, no_list, joined_list, middle_more, text_joined, is_none_before, said_more}

-- these pairs stand before what is left, and none is the last
pub record HasRead (kind : Kind) (widths octets rest : List ℕ) (pairs : List (ℕ × ℕ)) : Type 0 where
  pub before : List Written
  pub middle : AreMiddle widths before
  pub split : octets ≡ text before ++ rest
  pub means : pairs ≡ all_said kind before

pub first_and_tail : (octets : List ℕ) → 1 ≤ length octets → octets ≡ get_or octets 0 0 ∷ take (length octets - 1) (drop 1 octets)
first_and_tail [] some = absurd (omega arith)
first_and_tail (octet ∷ octets) some = ap (λ (l : List ℕ). octet ∷ l) (sym (take_all (length (octet ∷ octets) - 1) octets (omega arith)))

-- a pair that ends any list of allowed widths
pub record Ender (widths : List ℕ) : Type 0 where
  pub pair : Written
  pub is : IsPair widths pair
  pub last : ends pair.operator ≡ true
  pub are_octets : IsOctets (text (pair ∷ []))

record OnCode (code : ℕ) : Type 0 where
  width : width_code (128 + 16 * code) ≡ code
  last : ends (128 + 16 * code) ≡ true

on_code : (code : ℕ) → code < 4 → OnCode code
on_code zero small = record { width = refl; last = refl }
on_code (suc zero) small = record { width = refl; last = refl }
on_code (suc (suc zero)) small = record { width = refl; last = refl }
on_code (suc (suc (suc zero))) small = record { width = refl; last = refl }
on_code (suc (suc (suc (suc code)))) small = absurd (omega arith)

pub ender : (widths : List ℕ) → Any (λ code. code < 4) widths → Ender widths
ender widths (place, code, inside, found, small) =
    let facts = on_code code small in
    let width : width_code (128 + 16 * code) ≡ code = facts.width in
    let operator_small : 128 + 16 * code < 256 = omega arith in
    record {
      pair = record { operator = 128 + 16 * code; value = replicate (2 ^ code) 0 };
      is = record {
        allowed = subst (Contains widths) (sym width) (place, inside, found);
        size = length-replicate (2 ^ code) 0 ∙ ap (λ (k : ℕ). 2 ^ k) (sym width);
      };
      last = facts.last;
      are_octets = All-cons (λ octet. octet < 256) (128 + 16 * code) (replicate (2 ^ code) 0 ++ []) operator_small
          (All-append (λ octet. octet < 256) (replicate (2 ^ code) 0) [] (All-replicate (λ octet. octet < 256) (2 ^ code) 0 (omega arith))
          (All-nil (λ octet. octet < 256)));
    }

-- middle pairs begin a list
pub begins_middle : (widths : List ℕ) (before : List Written) → Ender widths → AreMiddle widths before → Begins (IsText widths) (text before)
begins_middle widths before last middle = record {
  more = text (last.pair ∷ []);
  are_octets = last.are_octets;
  whole = record {
    written = before ++ last.pair ∷ [];
    whole = joined_list widths before (last.pair ∷ []) middle (last.is, last.last);
    spelled =
        text_joined before (last.pair ∷ []);
  };
}

-- the pair that an operator and a part of its value become with zeros behind them
abbrev pub filled_of : ℕ → List ℕ → Written
filled_of operator tail = record { operator = operator; value = tail ++ replicate (width_of operator - length tail) 0 }

abbrev pub pair_of : ℕ → List ℕ → Written
pair_of operator tail = record { operator = operator; value = take (width_of operator) tail }

-- and so do they with an operator behind them whose value is cut
begins_partly : (widths : List ℕ) (before : List Written) (operator : ℕ) (tail : List ℕ) → Ender widths → AreMiddle widths before
    → Contains widths (width_code operator) → length tail ≤ width_of operator → Begins (IsText widths) (text before ++ operator ∷ tail)
begins_partly widths before operator tail last middle allowed short = by (ends operator) refl where
  is_pair : IsPair widths (filled_of operator tail)
  is_pair = record {
    allowed = allowed;
    size = length-append tail (replicate (width_of operator - length tail) 0)
        ∙ ap (λ (n : ℕ). length tail + n) (length-replicate (width_of operator - length tail) 0) ∙ (omega arith);
  }

  filling : IsOctets (replicate (width_of operator - length tail) 0)
  filling = All-replicate (λ octet. octet < 256) (width_of operator - length tail) 0 (omega arith)

  -- the text of the middle pairs, the filled one and what follows
  spelled : (after : List Written)
      → text (before ++ filled_of operator tail ∷ after) ≡ (text before ++ operator ∷ tail)
      ++ (replicate (width_of operator - length tail) 0 ++ text after)
  spelled after =
      text_joined before (filled_of operator tail ∷ after)
      ∙ ap (λ (l : List ℕ). text before ++ operator ∷ l) (append_assoc tail (replicate (width_of operator - length tail) 0) (text after))
      ∙ sym (append_assoc (text before) (operator ∷ tail) (replicate (width_of operator - length tail) 0 ++ text after))

  by : (b : Bool) → ends operator ≡ b → Begins (IsText widths) (text before ++ operator ∷ tail)
  by true end = record {
    more = replicate (width_of operator - length tail) 0 ++ [];
    are_octets = All-append (λ octet. octet < 256) (replicate (width_of operator - length tail) 0) [] filling (All-nil (λ octet. octet < 256));
    whole = record {
      written = before ++ filled_of operator tail ∷ [];
      whole =
          joined_list widths before (filled_of operator tail ∷ []) middle (is_pair, end);
      spelled = spelled [];
    };
  }
  by false going = record {
    more = replicate (width_of operator - length tail) 0 ++ text (last.pair ∷ []);
    are_octets = All-append (λ octet. octet < 256) (replicate (width_of operator - length tail) 0) (text (last.pair ∷ [])) filling last.are_octets;
    whole = record {
      written = before ++ filled_of operator tail ∷ last.pair ∷ [];
      whole =
          joined_list widths before (filled_of operator tail ∷ last.pair ∷ []) middle (is_pair, going, (last.is, last.last));
      spelled =
          spelled (last.pair ∷ []);
    };
  }

-- where no list stands at the front of what is left, none stands at the front of the whole
pub no_front : (widths octets : List ℕ) (before : List Written) (rest : List ℕ) → AreMiddle widths before → octets ≡ text before ++ rest
    → ((written : List Written) (more : List ℕ) → IsList widths written → text written ++ more ≡ rest → ⊥) → NoFront (IsText widths) octets
no_front widths octets before rest middle split none = λ n front.
    let joined : text front.written ++ drop n octets ≡ text before ++ rest =
    ap (λ (l : List ℕ). l ++ drop n octets) front.spelled ∙ take-append-drop n octets ∙ split in
    let found = behind widths before front.written rest (drop n octets) middle front.whole joined in
    none found.written (drop n octets) found.whole found.spelled

-- the octets end where an operator would stand
pub cut_between : (kind : Kind) (widths octets rest : List ℕ) (pairs : List (ℕ × ℕ)) → Any (λ code. code < 4) widths
    → HasRead kind widths octets rest pairs → rest ≡ [] → IsCutList widths octets (length octets)
cut_between kind widths octets rest pairs some read ended =
    let split : octets ≡ text read.before ++ [] = read.split ∙ ap (λ (l : List ℕ). text read.before ++ l) ended in
    record {
      none = no_front widths octets read.before [] read.middle split (λ written more whole same. no_list widths written more whole same);
      cut = record {
        at_end = refl;
        begins = subst (Begins (IsText widths)) (sym (split ∙ append-nil (text read.before)))
            (begins_middle widths read.before (ender widths some) read.middle);
      };
    }

-- they end within a value
pub cut_within : (kind : Kind) (widths octets rest : List ℕ) (pairs : List (ℕ × ℕ)) (operator : ℕ) (tail : List ℕ) → Any (λ code. code < 4) widths
    → HasRead kind widths octets rest pairs → rest ≡ operator ∷ tail → Contains widths (width_code operator) → length tail < width_of operator
    → IsCutList widths octets (length octets)
cut_within kind widths octets rest pairs operator tail some read stands allowed short =
    let split : octets ≡ text read.before ++ operator ∷ tail = read.split ∙ ap (λ (l : List ℕ). text read.before ++ l) stands in
    record {
      none = no_front widths octets read.before (operator ∷ tail) read.middle split
          (λ written more whole same. let room : width_of operator ≤ length tail = (opening widths written more operator tail whole same).room in omega arith);
      cut = record {
        at_end = refl;
        begins = subst (Begins (IsText widths)) (sym split)
            (begins_partly widths read.before operator tail (ender widths some) read.middle allowed (omega arith));
      };
    }

-- an operator stands there whose width isn't allowed
pub bad_width : (kind : Kind) (widths octets rest : List ℕ) (pairs : List (ℕ × ℕ)) (operator : ℕ) (tail : List ℕ) → Any (λ code. code < 4) widths
    → HasRead kind widths octets rest pairs → rest ≡ operator ∷ tail → (Contains widths (width_code operator) → ⊥)
    → IsBadWidth widths octets (length octets - length rest)
bad_width kind widths octets rest pairs operator tail some read stands refused =
    let split : octets ≡ text read.before ++ operator ∷ tail = read.split ∙ ap (λ (l : List ℕ). text read.before ++ l) stands in
    let place : length octets - length rest ≡ length (text read.before) =
    let sizes : length octets ≡ length (text read.before) + length rest = ap length read.split ∙ length-append (text read.before) rest in omega arith in
    rw place (record {
      none = no_front widths octets read.before (operator ∷ tail) read.middle split
          (λ written more whole same. refused ((opening widths written more operator tail whole same).allowed));
      fault = record {
        inside = let sizes : length octets ≡ length (text read.before) + length (operator ∷ tail) = ap length split
            ∙ length-append (text read.before) (operator ∷ tail) in omega arith;
        before = subst (Begins (IsText widths))
            (sym (ap (λ (l : List ℕ). take (length (text read.before)) l) split
            ∙ take_at (text read.before) (operator ∷ tail) (length (text read.before)) refl))
            (begins_middle widths read.before (ender widths some) read.middle);
        at = λ begins. no_more widths octets read.before operator tail read.middle split refused begins;
      };
      operator = record { before = read.before; middle = read.middle; operator = operator; tail = tail; split = split; here = refl };
    })
  where
    no_more : (widths octets : List ℕ) (before : List Written) (operator : ℕ) (tail : List ℕ) → AreMiddle widths before
        → octets ≡ text before ++ operator ∷ tail → (Contains widths (width_code operator) → ⊥)
        → Begins (IsText widths) (take (length (text before) + 1) octets) → ⊥
    no_more widths octets before operator tail middle split refused begins =
        let front : take (length (text before) + 1) octets ≡ text before ++ operator ∷ [] =
        ap (λ (l : List ℕ). take (length (text before) + 1) l) split ∙ take-append-add (text before) (operator ∷ tail) 1 in
        let spelled : text begins.whole.written ++ [] ≡ text before ++ operator ∷ begins.more =
        append-nil (text begins.whole.written) ∙ begins.whole.spelled ∙ ap (λ (l : List ℕ). l ++ begins.more) front
        ∙ append_assoc (text before) (operator ∷ []) begins.more in
        let found = behind widths before begins.whole.written (operator ∷ begins.more) [] middle begins.whole.whole spelled in
        refused ((opening widths found.written [] operator begins.more found.whole found.spelled).allowed)

-- the pairs that were read and one more, behind which `next` is left
pub record NextPair (kind : Kind) (widths octets next : List ℕ) (pairs : List (ℕ × ℕ)) (operator : ℕ) : Type 0 where
  pub pair : Written
  pub is : IsPair widths pair
  pub own : pair.operator ≡ operator
  pub before : List Written
  pub middle : AreMiddle widths before
  pub split : octets ≡ text (before ++ pair ∷ []) ++ next
  pub means : pairs ≡ all_said kind (before ++ pair ∷ [])

-- what an operator and the value behind it say, first in their list or not
abbrev pub said_at : Kind → Bool → ℕ → List ℕ → ℕ × ℕ
said_at kind first operator tail = (bit_and operator (counted_bits kind first), big_number (width_of operator) (take (width_of operator) tail))

is_first : (kind : Kind) (before : List Written) (n : ℕ) → n ≡ length (all_said kind before) → (n == 0) ≡ is_none_before before
is_first kind [] n size = rw size refl
is_first kind (pair ∷ before) n size = ne_eqb n 0 (λ empty. omega arith)

-- an operator of an allowed width stands there, with its value
pub next_found : (kind : Kind) (widths octets : List ℕ) (pairs : List (ℕ × ℕ)) (operator : ℕ) (tail : List ℕ)
    → HasRead kind widths octets (operator ∷ tail) pairs → Contains widths (width_code operator) → width_of operator ≤ length tail
    → NextPair kind widths octets (drop (width_of operator) tail) (pairs ++ said_at kind (length pairs == 0) operator tail ∷ []) operator
next_found kind widths octets pairs operator tail read allowed room = record {
  pair = pair_of operator tail;
  is = record { allowed = allowed; size = taken };
  own = refl;
  before = read.before;
  middle = read.middle;
  split =
      read.split
      ∙ ap (λ (l : List ℕ). text read.before ++ operator ∷ l) (sym (take-append-drop (width_of operator) tail))
      ∙ ap (λ (l : List ℕ). text read.before ++ operator ∷ (l ++ drop (width_of operator) tail)) (sym (append-nil (take (width_of operator) tail)))
      ∙ sym (append_assoc (text read.before) (text (pair_of operator tail ∷ [])) (drop (width_of operator) tail))
      ∙ ap (λ (l : List ℕ). l ++ drop (width_of operator) tail) (sym (text_joined read.before (pair_of operator tail ∷ [])));
  means =
      ap (λ (l : List (ℕ × ℕ)). l ++ said_at kind (length pairs == 0) operator tail ∷ []) read.means
      ∙ ap (λ (p : ℕ × ℕ). all_said kind read.before ++ p ∷ []) said_is
      ∙ sym (said_more kind read.before (pair_of operator tail));
}
  where
    taken : length (take (width_of operator) tail) ≡ width_of operator
    taken = length-take (width_of operator) tail ∙ (omega arith)

    flag : (length pairs == 0) ≡ is_none_before read.before
    flag = is_first kind read.before (length pairs) (ap length read.means)

    said_is : said_at kind (length pairs == 0) operator tail ≡ said (counted_bits kind (is_none_before read.before)) (pair_of operator tail)
    said_is =
        ap (λ (b : Bool). said_at kind b operator tail) flag
        ∙ ap (λ (n : ℕ). let pair : ℕ × ℕ =
        (bit_and operator (counted_bits kind (is_none_before read.before)), big_number n (take (width_of operator) tail)) in pair) (sym taken)

pub goes_on : (kind : Kind) (widths octets next : List ℕ) (pairs : List (ℕ × ℕ)) (operator : ℕ) → NextPair kind widths octets next pairs operator
    → ends operator ≡ false → HasRead kind widths octets next pairs
goes_on kind widths octets next pairs operator found going = record {
  before = found.before ++ found.pair ∷ [];
  middle = middle_more widths found.before found.pair found.middle found.is (ap (λ (o : ℕ). ends o) found.own ∙ going);
  split = found.split;
  means = found.means;
}

pub ends_here : (kind : Kind) (widths octets next : List ℕ) (pairs : List (ℕ × ℕ)) (operator : ℕ) → NextPair kind widths octets next pairs operator
    → ends operator ≡ true → Spells kind widths (take (length octets - length next) octets) pairs
ends_here kind widths octets next pairs operator found last =
    let front : List ℕ = text (found.before ++ found.pair ∷ []) in
    let sizes : length octets ≡ length front + length next = ap length found.split ∙ length-append front next in
    let place : length octets - length next ≡ length front = omega arith in
    record {
      written = found.before ++ found.pair ∷ [];
      whole = joined_list widths found.before (found.pair ∷ []) found.middle (found.is, ap (λ (o : ℕ). ends o) found.own ∙ last);
      spelled = sym (ap (λ (n : ℕ). take n octets) place ∙ ap (λ (l : List ℕ). take (length front) l) found.split ∙ take_at front next (length front) refl);
      means = found.means;
    }
