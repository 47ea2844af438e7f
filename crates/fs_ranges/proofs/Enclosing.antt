use Rattle.fs_ranges.proofs.Words.{◌≡◌, ℕ, zero, suc, ◌+◌, ◌^◌, ◌<◌, ◌≤◌, List, [], ◌∷◌, length, get_or, Bool, true, false, true≢false, ◌&&◌, ◌||◌}
use Rattle.fs_ranges.proofs.Words.{nat_le, nat_lt, refl, sym, ap, ◌∙◌, arith, inl, inr, list_all, list_any, IsPartitionPoint, IsPartitionedBy, IsTrue}
use Rattle.fs_ranges.proofs.Words.{◌↔◌, and_right, cases_lt, le-leb, leb-true, leb-false, lt-leb, le-ltb, lt-ltb, ltb-true, ltb-false, and_both}
use Rattle.fs_ranges.proofs.Words.{and_parts, or_first, or_second, AreApart, contains, encloses, is_in}

-- A stretch that is covered by ranges with gaps between them lies in one of them.

abbrev pub all_within : (ranges others : List (ℕ × ℕ)) → Bool
all_within ranges others = list_all (λ range. list_any (encloses range) others) ranges

or_rest : (a b : Bool) → a ≡ false → (a || b) ≡ true → b ≡ true
or_rest a b h e = sym (ap (λ (x : Bool). x || b) h) ∙ e

pub from_in : (n : ℕ) (r : ℕ × ℕ) → is_in n r ≡ true → (r.0 ≤ n) × (n ≤ r.1)
from_in n r h = let b : (nat_le r.0 n ≡ true) × (nat_le n r.1 ≡ true) = and_parts (nat_le r.0 n) (nat_le n r.1) h in (leb-true r.0 n b.0, leb-true n r.1 b.1)

pub to_in : (n : ℕ) (r : ℕ × ℕ) → r.0 ≤ n → n ≤ r.1 → is_in n r ≡ true
to_in n r low high = and_both (nat_le r.0 n) (nat_le n r.1) (le-leb r.0 n low) (le-leb n r.1 high)

below_is : (n : ℕ) (r : ℕ × ℕ) → n < r.0 → is_in n r ≡ false
below_is n r h = ap (λ (b : Bool). b && nat_le n r.1) (lt-leb r.0 n h)

above_is : (n : ℕ) (r : ℕ × ℕ) → r.1 < n → is_in n r ≡ false
above_is n r h = and_right (nat_le r.0 n) (nat_le n r.1) (lt-leb n r.1 h)

starts_behind : (inner outer : ℕ × ℕ) → inner.0 < outer.0 → encloses inner outer ≡ false
starts_behind inner outer h = ap (λ (b : Bool). b && nat_le inner.1 outer.1) (lt-leb outer.0 inner.0 h)

ends_before : (inner outer : ℕ × ℕ) → outer.1 < inner.1 → encloses inner outer ≡ false
ends_before inner outer h = and_right (nat_le outer.0 inner.0) (nat_le inner.1 outer.1) (lt-leb inner.1 outer.1 h)

to_encloses : (inner outer : ℕ × ℕ) → outer.0 ≤ inner.0 → inner.1 ≤ outer.1 → encloses inner outer ≡ true
to_encloses inner outer low high = and_both (nat_le outer.0 inner.0) (nat_le inner.1 outer.1) (le-leb outer.0 inner.0 low) (le-leb inner.1 outer.1 high)

one_enclosed : (n : ℕ) (range : ℕ × ℕ) (others : List (ℕ × ℕ)) → list_any (encloses range) others ≡ true → range.0 ≤ n → n ≤ range.1 → contains others n ≡ true
one_enclosed n range [] h low high = h
one_enclosed n range (other ∷ others) h low high = at (encloses range other) refl (λ rest. one_enclosed n range others rest low high)
  where
    at : (b : Bool) → encloses range other ≡ b → (list_any (encloses range) others ≡ true → contains others n ≡ true) → contains (other ∷ others) n ≡ true
    at true e later =
        let b : (nat_le other.0 range.0 ≡ true) × (nat_le range.1 other.1 ≡ true) = and_parts (nat_le other.0 range.0) (nat_le range.1 other.1) e in
        let first : other.0 ≤ range.0 = leb-true other.0 range.0 b.0 in
        let last : range.1 ≤ other.1 = leb-true range.1 other.1 b.1 in
        or_first (is_in n other) (contains others n) (to_in n other (omega arith) (omega arith))
    at false e later = or_second (is_in n other) (contains others n) (later (or_rest (encloses range other) (list_any (encloses range) others) e h))

within_all : (ranges others : List (ℕ × ℕ)) → all_within ranges others ≡ true → (n : ℕ) → contains ranges n ≡ true → contains others n ≡ true
within_all [] others h n here = absurd (true≢false (sym here))
within_all (range ∷ ranges) others h n here = at (is_in n range) refl (λ rest. within_all ranges others b.1 n rest)
  where
    b : (list_any (encloses range) others ≡ true) × (all_within ranges others ≡ true)
    b = and_parts (list_any (encloses range) others) (all_within ranges others) h

    at : (c : Bool) → is_in n range ≡ c → (contains ranges n ≡ true → contains others n ≡ true) → contains others n ≡ true
    at true e later = let r : (range.0 ≤ n) × (n ≤ range.1) = from_in n range e in one_enclosed n range others b.0 r.0 r.1
    at false e later = later (or_rest (is_in n range) (contains ranges n) e here)

not_below : (low n : ℕ) (ranges : List (ℕ × ℕ)) → AreApart low ranges → n < low → contains ranges n ≡ false
not_below low n [] apart h = refl
not_below low n (range ∷ ranges) apart h =
    let first : low ≤ range.0 = apart.0 in
    let proper : range.0 ≤ range.1 = apart.1.0 in
    (λ i. below_is n range (omega arith) i || not_below (range.1 + 2) n ranges apart.2 (omega arith) i)

one_covers : (low : ℕ) (range : ℕ × ℕ) (others : List (ℕ × ℕ)) → AreApart low others → range.0 ≤ range.1
    → ((n : ℕ) → range.0 ≤ n → n ≤ range.1 → contains others n ≡ true) → list_any (encloses range) others ≡ true
one_covers low range [] apart proper all = all range.0 (omega arith) proper
one_covers low range (other ∷ others) apart proper all = elim (cases_lt other.1 range.0) [
  | inl behind ↦ or_second (encloses range other) (list_any (encloses range) others)
      (one_covers (other.1 + 2) range others apart.2 proper
      (λ n first last. or_rest (is_in n other) (contains others n) (above_is n other (omega arith)) (all n first last)))
  | inr near ↦ or_first (encloses range other) (list_any (encloses range) others) (to_encloses range other (starts near) (ends near))
] where
  starts : range.0 ≤ other.1 → other.0 ≤ range.0
  starts near = elim (cases_lt range.0 other.0) [
    | inl before ↦ absurd (true≢false (sym (all range.0 (omega arith) proper)
        ∙ (λ i. below_is range.0 other before i || not_below (other.1 + 2) range.0 others apart.2 (omega arith) i)))
    | inr first ↦ first
  ]

  ends : range.0 ≤ other.1 → range.1 ≤ other.1
  ends near = elim (cases_lt other.1 range.1) [
    | inl over ↦ absurd (true≢false (sym (all (other.1 + 1) (omega arith) (omega arith))
        ∙ (λ i. above_is (other.1 + 1) other (omega arith) i || not_below (other.1 + 2) (other.1 + 1) others apart.2 (omega arith) i)))
    | inr last ↦ last
  ]

all_covers : (low bound : ℕ) (ranges others : List (ℕ × ℕ)) → AreApart low ranges → AreApart bound others
    → ((n : ℕ) → n < 2 ^ 64 → contains ranges n ≡ true → contains others n ≡ true) → all_within ranges others ≡ true
all_covers low bound [] others apart outer all = refl
all_covers low bound (range ∷ ranges) others apart outer all =
    let small : range.1 < 2 ^ 64 = apart.1.1 in
    and_both (list_any (encloses range) others) (all_within ranges others)
    (one_covers bound range others outer apart.1.0
    (λ n first last. all n (omega arith) (or_first (is_in n range) (contains ranges n) (to_in n range first last))))
    (all_covers (range.1 + 2) bound ranges others apart.2 outer (λ n below here. all n below (or_second (is_in n range) (contains ranges n) here)))

pub decides : (r : Bool) (ranges others : List (ℕ × ℕ)) → AreApart 0 ranges → AreApart 0 others → r ≡ all_within ranges others
    → IsTrue r ↔ ((n : ℕ) → n < 2 ^ 64 → IsTrue (contains ranges n) → IsTrue (contains others n))
decides r ranges others apart outer h = rw h ((λ t n below. within_all ranges others t n), all_covers 0 0 ranges others apart outer)

-- none that begins behind a number encloses a range that begins there
none_enclose : (low : ℕ) (range : ℕ × ℕ) (others : List (ℕ × ℕ)) → AreApart low others → range.0 < low → list_any (encloses range) others ≡ false
none_enclose low range [] apart h = refl
none_enclose low range (other ∷ others) apart h =
    let first : low ≤ other.0 = apart.0 in
    let proper : other.0 ≤ other.1 = apart.1.0 in
    (λ i. starts_behind range other (omega arith) i || none_enclose (other.1 + 2) range others apart.2 (omega arith) i)

-- those before a place end before the range does, and the others don't
record IsPlace (range : ℕ × ℕ) (others : List (ℕ × ℕ)) (place : ℕ) : Type 0 where
  pub before : (b : ℕ) (d : ℕ × ℕ) → b < place → (get_or others b d).1 < range.1
  pub behind : (b : ℕ) (d : ℕ × ℕ) → place ≤ b → b < length others → range.1 ≤ (get_or others b d).1

place_behind : (range other : ℕ × ℕ) (others : List (ℕ × ℕ)) (place : ℕ) → IsPlace range (other ∷ others) (suc place) → IsPlace range others place
place_behind range other others place at = record {
  before = λ b d below. at.before (suc b) d (omega arith);
  behind = λ b d from inside. at.behind (suc b) d (omega arith) (omega arith);
}

skip_first : (place : ℕ) (range other : ℕ × ℕ) (others : List (ℕ × ℕ)) → IsPlace range (other ∷ others) (suc place)
    → list_any (encloses range) (other ∷ others) ≡ list_any (encloses range) others
skip_first place range other others at = ap (λ (b : Bool). b || list_any (encloses range) others) (ends_before range other (at.before 0 other (omega arith)))

-- the first that doesn't end before the range encloses it, or none does
first_encloses : (low place : ℕ) (range : ℕ × ℕ) (others : List (ℕ × ℕ)) → AreApart low others → IsPlace range others place → place < length others
    → (d : ℕ × ℕ) → nat_le (get_or others place d).0 range.0 ≡ list_any (encloses range) others
first_encloses low place range [] apart at within d = absurd (omega (arith, within))
first_encloses low zero range (other ∷ others) apart at within d = by (nat_le other.0 range.0) refl
  where
    proper : other.0 ≤ other.1
    proper = apart.1.0

    last : nat_le range.1 other.1 ≡ true
    last = le-leb range.1 other.1 (at.behind 0 other (omega arith) (omega arith))

    by : (b : Bool) → nat_le other.0 range.0 ≡ b → nat_le other.0 range.0 ≡ list_any (encloses range) (other ∷ others)
    by true e = e ∙ sym (or_first (encloses range other) (list_any (encloses range) others) (and_both (nat_le other.0 range.0) (nat_le range.1 other.1) e last))
    by false e =
        let above : range.0 < other.0 = leb-false other.0 range.0 e in
        e ∙ sym (λ i. starts_behind range other above i || none_enclose (other.1 + 2) range others apart.2 (omega (arith, proper)) i)
first_encloses low (suc place) range (other ∷ others) apart at within d =
    first_encloses (other.1 + 2) place range others apart.2 (place_behind range other others place at) (omega (arith, within)) d
    ∙ sym (skip_first place range other others at)

none_left : (place : ℕ) (range : ℕ × ℕ) (others : List (ℕ × ℕ)) → IsPlace range others place → length others ≤ place → false ≡ list_any (encloses range) others
none_left place range [] at past = refl
none_left zero range (other ∷ others) at past = absurd (omega (arith, past))
none_left (suc place) range (other ∷ others) at past = none_left place range others (place_behind range other others place at) (omega (arith, past))
    ∙ sym (skip_first place range other others at)

from_partition : (range : ℕ × ℕ) (others : List (ℕ × ℕ)) (place : ℕ)
    → IsPartitionPoint (λ r. nat_lt r.1 range.1 ≡ true) (λ r. nat_lt r.1 range.1 ≡ false) others place → IsPlace range others place
from_partition range others place p = record {
  before = λ b d below. ltb-true (get_or others b d).1 range.1 (p.0 b d (omega arith) below);
  behind = λ b d from inside. ltb-false (get_or others b d).1 range.1 (p.1 b d from inside);
}

pub found_encloses : (place : ℕ) (range found : ℕ × ℕ) (others : List (ℕ × ℕ)) → AreApart 0 others
    → IsPartitionPoint (λ r. nat_lt r.1 range.1 ≡ true) (λ r. nat_lt r.1 range.1 ≡ false) others place
    → place < length others → found ≡ get_or others place found → nat_le found.0 range.0 ≡ list_any (encloses range) others
found_encloses place range found others apart p within e =
    ap (λ (r : ℕ × ℕ). nat_le r.0 range.0) e ∙ first_encloses 0 place range others apart (from_partition range others place p) within found

pub none_encloses : (place : ℕ) (range : ℕ × ℕ) (others : List (ℕ × ℕ))
    → IsPartitionPoint (λ r. nat_lt r.1 range.1 ≡ true) (λ r. nat_lt r.1 range.1 ≡ false) others place
    → length others ≤ place → false ≡ list_any (encloses range) others
none_encloses place range others p past = none_left place range others (from_partition range others place p) past

-- those that end before a number come first
not_ended : (bound low : ℕ) (ranges : List (ℕ × ℕ)) → AreApart low ranges → bound ≤ low → (j : ℕ) (d : ℕ × ℕ) → j < length ranges
    → nat_lt (get_or ranges j d).1 bound ≡ false
not_ended bound low [] apart h j d below = absurd (omega (arith, below))
not_ended bound low (range ∷ ranges) apart h zero d below =
    let first : low ≤ range.0 = apart.0 in
    let proper : range.0 ≤ range.1 = apart.1.0 in
    le-ltb range.1 bound (omega arith)
not_ended bound low (range ∷ ranges) apart h (suc j) d below =
    let first : low ≤ range.0 = apart.0 in
    let proper : range.0 ≤ range.1 = apart.1.0 in
    not_ended bound (range.1 + 2) ranges apart.2 (omega arith) j d (omega arith)

pub lasts_rise : (bound low : ℕ) (ranges : List (ℕ × ℕ)) → AreApart low ranges → IsPartitionedBy (λ r. nat_lt r.1 bound) ranges
lasts_rise bound low [] apart i j d order below passes = absurd (omega (arith, below))
lasts_rise bound low (range ∷ ranges) apart zero zero d order below passes = passes
lasts_rise bound low (range ∷ ranges) apart zero (suc j) d order below passes =
    elim (cases_lt range.1 bound) [
      | inl ended ↦ lt-ltb range.1 bound ended
      | inr later ↦ absurd (true≢false (sym passes ∙ not_ended bound (range.1 + 2) ranges apart.2 (omega arith) j d (omega arith)))
    ]
lasts_rise bound low (range ∷ ranges) apart (suc i) zero d order below passes = absurd (omega (arith, order))
lasts_rise bound low (range ∷ ranges) apart (suc i) (suc j) d order below passes =
    lasts_rise bound (range.1 + 2) ranges apart.2 i j d (omega arith) (omega arith) passes
