-- The entries of an index: in order, and those of one key from a place on.
use Rattle.fs_shadow.proofs.Words.{◌≡◌, ℕ, zero, suc, ◌+◌, ◌-◌, ◌<◌, ◌≤◌, ◌==◌, ◌⊎◌, inl, inr, Bool, true, false, ◌&&◌, if◌then◌else◌, nat_le, nat_lt}
use Rattle.fs_shadow.proofs.Words.{Some, List, [], ◌∷◌, get_or, length, take, drop, refl, sym, ap, subst, ◌∙◌, arith, list_any, slice_get, cases_lt}
use Rattle.fs_shadow.proofs.Words.{eq-eqb, eqb-true, leb-true, lt-ltb, ltb-true, ltb-false, or_cases, true≢false, none-some, same_Some, length-drop}
use Rattle.fs_shadow.proofs.Words.{take_all, and_both, or_first, or_second, Outline, IsFirst, IsIndexOf, entries_from, first_entry, is_entry, key_of}
use Rattle.fs_shadow.proofs.Words.{outline_takes_all, rank, takes_as, takes_before}
use Rattle.std.specs.List.Sorted.{IsNonDecreasingBy, IsPartitionPoint}
use Rattle.fs_base.proofs.Bools.{and_parts}

-- each rule has an entry
entry_in : (p : ℕ) (outlines : List Outline) (i : ℕ) (o : Outline) → slice_get outlines i ≡ Some o
    → list_any (is_entry (key_of o.measures.items) (p + i)) (entries_from p outlines) ≡ true
entry_in p [] i o e = absurd (none-some o e)
entry_in p (x ∷ xs) zero o e =
    or_first (is_entry (key_of o.measures.items) (p + 0) (key_of x.measures.items, p))
    (list_any (is_entry (key_of o.measures.items) (p + 0)) (entries_from (p + 1) xs))
    (and_both (key_of x.measures.items == key_of o.measures.items) (p == p + 0)
    (eq-eqb (key_of x.measures.items) (key_of o.measures.items) (ap (λ (y : Outline). key_of y.measures.items) (same_Some x o e)))
    (eq-eqb p (p + 0) (omega arith)))
entry_in p (x ∷ xs) (suc i) o e =
    or_second (is_entry (key_of o.measures.items) (p + suc i) (key_of x.measures.items, p))
    (list_any (is_entry (key_of o.measures.items) (p + suc i)) (entries_from (p + 1) xs))
    (subst (λ k. list_any (is_entry (key_of o.measures.items) k) (entries_from (p + 1) xs) ≡ true) (let e : p + 1 + i ≡ p + suc i = omega arith in
    e) (entry_in (p + 1) xs i o e))

pub has_entry : (outlines : List Outline) (index : List (ℕ × ℕ)) (i : ℕ) (o : Outline) → IsIndexOf outlines index → slice_get outlines i ≡ Some o
    → list_any (is_entry (key_of o.measures.items) i) index ≡ true
has_entry outlines index i o is e = is.has (key_of o.measures.items) i
    ∙ subst (λ k. list_any (is_entry (key_of o.measures.items) k) (entries_from 0 outlines) ≡ true) (let z : 0 + i ≡ i = omega arith in
    z) (entry_in 0 outlines i o e)

-- entries in order, from a rank on
abbrev pub AreRising : ℕ → List (ℕ × ℕ) → Type 0
AreRising low [] = Unit {0}
AreRising low (entry ∷ entries) = (low ≤ rank entry.0 entry.1) × AreRising (rank entry.0 entry.1) entries

rising : (low : ℕ) (es : List (ℕ × ℕ)) → ((k : ℕ) (d : ℕ × ℕ) → k < length es → low ≤ rank (get_or es k d).0 (get_or es k d).1)
    → IsNonDecreasingBy (λ e. rank e.0 e.1) es → AreRising low es
rising low [] from rises = tt
rising low (e ∷ es) from rises = (
  from 0 e (omega arith),
  rising (rank e.0 e.1) es (λ k d below. rises 0 (suc k) d (omega arith) (omega (arith, below)))
      (λ i j d order below. rises (suc i) (suc j) d (omega (arith, order)) (omega (arith, below))),
)

-- entries behind those whose rank is lower
pub rising_from : (low from : ℕ) (es : List (ℕ × ℕ)) → IsNonDecreasingBy (λ e. rank e.0 e.1) es
    → ((k : ℕ) (d : ℕ × ℕ) → from ≤ k → k < length es → low ≤ rank (get_or es k d).0 (get_or es k d).1) → AreRising low (drop from es)
rising_from low zero es rises over = rising low es (λ k d below. over k d (omega arith) below) rises
rising_from low (suc from) [] rises over = tt
rising_from low (suc from) (e ∷ es) rises over =
    rising_from low from es (λ i j d order below. rises (suc i) (suc j) d (omega (arith, order)) (omega (arith, below)))
    (λ k d most below. over (suc k) d (omega (arith, most)) (omega (arith, below)))

-- an entry is the first, or one behind it
in_entries : (key place : ℕ) (e : ℕ × ℕ) (es : List (ℕ × ℕ)) → list_any (is_entry key place) (e ∷ es) ≡ true
    → ((e.0 ≡ key) × (e.1 ≡ place)) ⊎ (list_any (is_entry key place) es ≡ true)
in_entries key place e es h = elim (or_cases (is_entry key place e) (list_any (is_entry key place) es) h) [
  | inl here ↦ let p = and_parts (e.0 == key) (e.1 == place) here in inl (eqb-true e.0 key p.0, eqb-true e.1 place p.1)
  | inr later ↦ inr later
]

-- of entries in order none has a lower rank
rank_from : (low key place : ℕ) (es : List (ℕ × ℕ)) → AreRising low es → list_any (is_entry key place) es ≡ true → low ≤ rank key place
rank_from low key place [] rises h = absurd (true≢false (sym h))
rank_from low key place (e ∷ es) rises h = elim (in_entries key place e es h) [
  | inl same ↦ let r : low ≤ rank e.0 e.1 = rises.0 in subst (λ k. low ≤ rank k place) same.0 (subst (λ k. low ≤ rank e.0 k) same.1 r)
  | inr later ↦ let r : low ≤ rank e.0 e.1 = rises.0 in let s : rank e.0 e.1 ≤ rank key place = rank_from (rank e.0 e.1) key place es rises.1 later in
      omega (arith, r, s)
]

-- what stands behind those of a lower rank
pub dropped_has : (key place low from : ℕ) (es : List (ℕ × ℕ))
    → ((k : ℕ) (d : ℕ × ℕ) → k < from → k < length es → rank (get_or es k d).0 (get_or es k d).1 < low) → low ≤ rank key place
    → list_any (is_entry key place) es ≡ true → list_any (is_entry key place) (drop from es) ≡ true
dropped_has key place low zero es under most h = h
dropped_has key place low (suc from) [] under most h = h
dropped_has key place low (suc from) (e ∷ es) under most h = elim (in_entries key place e es h) [
  | inl same ↦
      let r : rank e.0 e.1 < low = under 0 e (omega arith) (omega arith) in
      let s : rank key place < low = subst (λ k. rank k place < low) same.0 (subst (λ k. rank e.0 k < low) same.1 r) in
      absurd (let z : ⊥ = omega (arith, s, most) in z)
  | inr later ↦ dropped_has key place low from es (λ k d less below. under (suc k) d (omega (arith, less)) (omega (arith, below))) most later
]

-- what the search among entries finds
pub record IsFound (outlines : List Outline) (later : Outline) (key end : ℕ) (es : List (ℕ × ℕ)) (place : ℕ) : Type 0 where
  pub within : place ≤ end
  pub takes : place < end → takes_as (slice_get outlines place) later ≡ true
  pub entry : place < end → list_any (is_entry key place) es ≡ true
  pub none : (q : ℕ) → q < place → list_any (is_entry key q) es ≡ true → takes_as (slice_get outlines q) later ≡ false

module _ (outlines : List Outline) (later : Outline) (key end : ℕ) where
  ends : (es : List (ℕ × ℕ)) → ((q : ℕ) → q < end → list_any (is_entry key q) es ≡ true → ⊥) → IsFound outlines later key end es end
  ends es none = record {
    within = omega arith;
    takes = λ less. absurd (let z : ⊥ = omega (arith, less) in z);
    entry = λ less. absurd (let z : ⊥ = omega (arith, less) in z);
    none = λ q less h. absurd (none q less h);
  }

  same_rank : (e : ℕ × ℕ) (q : ℕ) → e.0 ≡ key → rank e.0 e.1 ≤ rank key q → e.1 ≤ q
  same_rank e q same most = let r : rank key e.1 ≤ rank key q = subst (λ k. rank k e.1 ≤ rank key q) same most in omega (arith, r)

  pub finds : (low : ℕ) (es : List (ℕ × ℕ)) → AreRising low es → IsFound outlines later key end es (first_entry outlines later key end es)
  finds low [] rises = ends [] (λ q less h. true≢false (sym h))
  finds low (e ∷ es) rises = over (finds (rank e.0 e.1) es rises.1) (nat_le (rank key end) (rank e.0 e.1)) refl
    where
      rest : ℕ
      rest = first_entry outlines later key end es

      taking : Bool
      taking = takes_before outlines later key end e

      -- none of the key behind an entry of a rank comes before it
      no_lower : (q : ℕ) → list_any (is_entry key q) (e ∷ es) ≡ true → rank e.0 e.1 ≤ rank key q
      no_lower q h = rank_from (rank e.0 e.1) key q (e ∷ es) ((let z : rank e.0 e.1 ≤ rank e.0 e.1 = omega arith in z), rises.1) h

      over_end : nat_le (rank key end) (rank e.0 e.1) ≡ true → IsFound outlines later key end (e ∷ es) end
      over_end h = ends (e ∷ es) (λ q less i. let r : rank e.0 e.1 ≤ rank key q = no_lower q i in let s : rank key end ≤ rank e.0 e.1 =
          leb-true (rank key end) (rank e.0 e.1) h in omega (arith, r, s, less))

      here : taking ≡ true → IsFound outlines later key end (e ∷ es) e.1
      here h =
          let p = and_parts ((e.0 == key) && nat_lt e.1 end) (takes_as (slice_get outlines e.1) later) h in
          let r = and_parts (e.0 == key) (nat_lt e.1 end) p.0 in
          let same : e.0 ≡ key = eqb-true e.0 key r.0 in
          let less : e.1 < end = ltb-true e.1 end r.1 in
          record {
            within = omega (arith, less);
            takes = λ l. p.1;
            entry = λ l. or_first (is_entry key e.1 e) (list_any (is_entry key e.1) es) (and_both (e.0 == key) (e.1 == e.1) r.0 (eq-eqb e.1 e.1 refl));
            none = λ q l i. let s : e.1 ≤ q = same_rank e q same (no_lower q i) in absurd (let z : ⊥ = omega (arith, s, l) in z);
          }

      behind : taking ≡ false → IsFound outlines later key end es rest → IsFound outlines later key end (e ∷ es) rest
      behind h f = record {
        within = f.within;
        takes = f.takes;
        entry = λ l. or_second (is_entry key rest e) (list_any (is_entry key rest) es) (f.entry l);
        none = none;
      }
        where
          this : (q : ℕ) → q < rest → e.0 ≡ key → e.1 ≡ q → takes_as (slice_get outlines q) later ≡ false
          this q less same at =
              let w = f.within in
              let b : ((e.0 == key) && nat_lt e.1 end) ≡ true =
              and_both (e.0 == key) (nat_lt e.1 end) (eq-eqb e.0 key same) (lt-ltb e.1 end (let z : e.1 < end = omega (arith, less, at, w) in z)) in
              subst (λ k. takes_as (slice_get outlines k) later ≡ false) at (sym (ap (λ (x : Bool). x && takes_as (slice_get outlines e.1) later) b) ∙ h)

          none : (q : ℕ) → q < rest → list_any (is_entry key q) (e ∷ es) ≡ true → takes_as (slice_get outlines q) later ≡ false
          none q less i = elim (in_entries key q e es i) [
            | inl same ↦ this q less same.0 same.1
            | inr more ↦ f.none q less more
          ]

      within_end : IsFound outlines later key end es rest → (b : Bool) → taking ≡ b → IsFound outlines later key end (e ∷ es) (if b then e.1 else rest)
      within_end f true h = here h
      within_end f false h = behind h f

      over : IsFound outlines later key end es rest → (b : Bool) → nat_le (rank key end) (rank e.0 e.1) ≡ b
          → IsFound outlines later key end (e ∷ es) (if b then end else (if taking then e.1 else rest))
      over f true h = over_end h
      over f false h = within_end f taking refl

-- the first of one key, from the start on
pub first_of : (outlines : List Outline) (index : List (ℕ × ℕ)) (later : Outline) (key start end from : ℕ) → IsIndexOf outlines index → start ≤ end
    → IsPartitionPoint (λ e. nat_lt (rank e.0 e.1) (rank key start) ≡ true) (λ e. nat_lt (rank e.0 e.1) (rank key start) ≡ false) index from
    → IsFirst outlines later (λ other. other == key) start end (first_entry outlines later key end (drop from index))
first_of outlines index later key start end from is order parted = record {
  from = from_start;
  within = f.within;
  takes = f.takes;
  none = none;
}
  where
    place : ℕ
    place = first_entry outlines later key end (drop from index)

    rises : AreRising (rank key start) (drop from index)
    rises = rising_from (rank key start) from index is.rising
        (λ k d most below. ltb-false (rank (get_or index k d).0 (get_or index k d).1) (rank key start) (parted.1 k d most below))

    f : IsFound outlines later key end (drop from index) place
    f = finds outlines later key end (rank key start) (drop from index) rises

    from_start : start ≤ place
    from_start = elim (cases_lt place end) [
      | inl less ↦ let r : rank key start ≤ rank key place = rank_from (rank key start) key place (drop from index) rises (f.entry less) in omega (arith, r)
      | inr most ↦ omega (arith, most, order)
    ]

    none : (q : ℕ) (o : Outline) → start ≤ q → q < place → slice_get outlines q ≡ Some o → (key_of o.measures.items == key) ≡ true
        → outline_takes_all o later ≡ false
    none q o after less at asked =
        let same : key_of o.measures.items ≡ key = eqb-true (key_of o.measures.items) key asked in
        let has : list_any (is_entry key q) index ≡ true = subst (λ k. list_any (is_entry k q) index ≡ true) same (has_entry outlines index q o is at) in
        let most : rank key start ≤ rank key q = omega (arith, after) in
        let still : list_any (is_entry key q) (drop from index) ≡ true =
        dropped_has key q (rank key start) from index
        (λ k d under below. ltb-true (rank (get_or index k d).0 (get_or index k d).1) (rank key start) (parted.0 k d (omega arith) under)) most
        has in
        sym (ap (λ x. takes_as x later) at) ∙ f.none q less still

-- the rule of an entry, where it is one of the key and before the end
pub taken_at : (outlines : List Outline) (later : Outline) (key end : ℕ) (e : ℕ × ℕ) (o : Outline) (r : Bool) → e.0 ≡ key → e.1 < end
    → slice_get outlines e.1 ≡ Some o → r ≡ outline_takes_all o later → r ≡ takes_before outlines later key end e
taken_at outlines later key end e o r same less at is =
    is
    ∙ sym (ap (λ x. takes_as x later) at)
    ∙ sym (ap (λ (x : Bool). x && takes_as (slice_get outlines e.1) later) (and_both (e.0 == key) (nat_lt e.1 end) (eq-eqb e.0 key same) (lt-ltb e.1 end less)))

-- all that stands behind so many
pub rest_whole : (n : ℕ) (es : List (ℕ × ℕ)) → take (length es - n) (drop n es) ≡ drop n es
rest_whole n es = take_all (length es - n) (drop n es) (omega (arith, length-drop n es))
