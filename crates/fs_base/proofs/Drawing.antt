-- How the octets that reads give are counted.
use Rattle.fs_base.proofs.Words.{◌≡◌, ℕ, List, [], ◌++◌, ◌<◌, ◌≤◌, ◌+◌, ◌-◌, ◌⊎◌, inl, inr, subst, length, min, take, drop, refl, ap, sym, ◌∙◌, arith}
use Rattle.fs_base.proofs.Words.{append_assoc, drop-append-add, cases_lt, drop-append-le, drop-drop, drop_all, length-drop, take-append-drop}
use Rattle.fs_base.proofs.Words.{common_steps, Counted, Draws, Passed}
use Rattle.fs_base.specs.Outside.{Rose}

drop_join : (n : ℕ) (xs ys : List ℕ) → drop n (xs ++ ys) ≡ drop n xs ++ drop (n - length xs) ys
drop_join n xs ys = by (cases_lt (length xs) n)
  where
    by : (length xs < n) ⊎ (n ≤ length xs) → drop n (xs ++ ys) ≡ drop n xs ++ drop (n - length xs) ys
    by (inl past) =
        let count : n ≡ length xs + (n - length xs) = omega (arith, past) in
        let most : length xs ≤ n = omega (arith, past) in
        ap (λ m. drop m (xs ++ ys)) count
        ∙ drop-append-add xs ys (n - length xs)
        ∙ ap (λ (front : List ℕ). front ++ drop (n - length xs) ys) (sym (drop_all n xs most))
    by (inr within) =
        let none : n - length xs ≡ 0 = omega (arith, within) in
        drop-append-le n xs ys within ∙ ap (λ m. drop n xs ++ drop m ys) (sym none)

drop_none : (n : ℕ) (xs : List ℕ) → xs ≡ [] → drop n xs ≡ xs
drop_none n xs none = grind (arith, common_steps)

pub passed_none : (limit taken : ℕ) (left : List ℕ) → taken ≤ limit → Passed limit taken taken left left
passed_none limit taken left within = record { count = 0; taken_is = (omega arith); within = within; left_is = refl }

pub passed_then : (limit taken taken' taken'' : ℕ) (left left' left'' : List ℕ)
    → Passed limit taken taken' left left' → Passed limit taken' taken'' left' left'' → Passed limit taken taken'' left left''
passed_then limit taken taken' taken'' left left' left'' one more = record {
  count = one.count + more.count;
  taken_is = omega (arith, one.taken_is, more.taken_is);
  within = more.within;
  left_is = more.left_is ∙ ap (drop more.count) one.left_is ∙ drop-drop more.count one.count left;
}

pub draws_then : (before mid now : Counted) (left left' left'' : List ℕ) → mid.limit ≡ before.limit
    → Draws before mid left left' → Draws mid now left' left'' → Draws before now left left''
draws_then before mid now left left' left'' same one more =
    let held : length mid.back ≡ length before.back - one.count = ap length one.back_is ∙ length-drop one.count before.back in
    let counts : (one.count - length before.back) + (more.count - length mid.back) ≡ one.count + more.count - length before.back =
    omega (arith, held) in
    record {
      count = one.count + more.count;
      taken_is = omega (arith, one.taken_is, more.taken_is);
      within = omega (arith, same, more.within);
      back_is = more.back_is ∙ ap (drop more.count) one.back_is ∙ drop-drop more.count one.count before.back;
      left_is =
          more.left_is
          ∙ ap (drop (more.count - length mid.back)) one.left_is
          ∙ drop-drop (more.count - length mid.back) (one.count - length before.back) left
          ∙ ap (λ n. drop n left) counts;
    }

-- the same, where the slot is known to be that of the start
pub draws_more : (before mid now : Counted) (left left' left'' : ℕ → List ℕ) → mid.slot ≡ before.slot → mid.limit ≡ before.limit
    → Draws before mid (left before.slot) (left' before.slot) → Draws mid now (left' mid.slot) (left'' mid.slot)
    → Draws before now (left before.slot) (left'' before.slot)
draws_more before mid now left left' left'' slot limit one more =
    draws_then before mid now (left before.slot) (left' before.slot) (left'' before.slot) limit one
    (subst (λ slot. Draws mid now (left' slot) (left'' slot)) slot more)

-- what was put back and what the slot has left, as one list
pub draws_ahead : (before now : Counted) (left left' : List ℕ) → Draws before now left left'
    → Passed before.limit before.taken now.taken (before.back ++ left) (now.back ++ left')
draws_ahead before now left left' h = record {
  count = h.count;
  taken_is = h.taken_is;
  within = h.within;
  left_is =
      ap (λ (back : List ℕ). back ++ left') h.back_is
      ∙ ap (λ (rest : List ℕ). drop h.count before.back ++ rest) h.left_is
      ∙ sym (drop_join h.count before.back left);
}

-- where nothing was put back, the slot alone was read
pub draws_straight : (before now : Counted) (left left' : List ℕ) → before.back ≡ [] → Draws before now left left'
    → Passed before.limit before.taken now.taken left left'
draws_straight before now left left' none h =
    let all : h.count - length before.back ≡ h.count = let size : length before.back ≡ 0 = ap length none in omega (arith, size) in
    record { count = h.count; taken_is = h.taken_is; within = h.within; left_is = h.left_is ∙ ap (λ n. drop n left) all }

pub straight_draws : (before now : Counted) (left left' : List ℕ) → before.back ≡ [] → now.back ≡ []
    → Passed before.limit before.taken now.taken left left' → Draws before now left left'
straight_draws before now left left' none none_now h =
    let all : h.count - length before.back ≡ h.count = let size : length before.back ≡ 0 = ap length none in omega (arith, size) in
    record {
      count = h.count;
      taken_is = h.taken_is;
      within = h.within;
      back_is = none_now ∙ sym none ∙ sym (drop_none h.count before.back none);
      left_is = h.left_is ∙ ap (λ n. drop n left) (sym all);
    }

-- a read more, of an input of which nothing was put back
pub passed_counted : (limit slot : ℕ) (before now : Counted) (left left' left'' : ℕ → List ℕ) → before.slot ≡ slot → before.limit ≡ limit
    → before.back ≡ [] → Passed limit 0 before.taken (left slot) (left' slot) → Draws before now (left' before.slot) (left'' before.slot)
    → Passed limit 0 now.taken (left slot) (left'' slot)
passed_counted limit slot before now left left' left'' same most none one more =
    passed_then limit 0 before.taken now.taken (left slot) (left' slot) (left'' slot) one
    (subst (λ l. Passed l before.taken now.taken (left' slot) (left'' slot)) most
    (draws_straight before now (left' slot) (left'' slot) none (subst (λ s. Draws before now (left' s) (left'' s)) same more)))

none_given : (n a b : ℕ) → n ≡ min a b → n ≡ 0 → 0 < a → 0 < b → ⊥
none_given n a b least none some room = omega arith

-- octets that were put back are given before what the slot has left
pub given_back : (back back' left into : List ℕ) (n : ℕ) → n ≡ min (length back) (length into) → take n into ≡ take n back
    → back' ≡ drop n back → 0 < length back
    → (back ++ left ≡ take n into ++ (back' ++ left)) × (n ≡ 0 → 0 < length into → back' ++ left ≡ [])
given_back back back' left into n least copied rest some = (
  ap (λ (octets : List ℕ). octets ++ left) (sym (take-append-drop n back))
      ∙ append_assoc (take n back) (drop n back) left
      ∙ ap (λ (front : List ℕ). front ++ (drop n back ++ left)) (sym copied)
      ∙ ap (λ (b : List ℕ). take n into ++ (b ++ left)) (sym rest),
  λ none room. absurd (none_given n (length back) (length into) least none some room),
)

-- what was read so far, and what is left, where nothing is put back
pub content_more : (all octets octets' back back' left left' piece : List ℕ) → all ≡ octets ++ left → back ≡ [] → back' ≡ []
    → back ++ left ≡ piece ++ (back' ++ left') → octets' ≡ octets ++ piece → all ≡ octets' ++ left'
content_more all octets octets' back back' left left' piece is none none' takes grown =
    is
    ∙ ap (λ (rest : List ℕ). octets ++ rest)
    (sym (ap (λ (b : List ℕ). b ++ left) none) ∙ takes ∙ ap (λ (b : List ℕ). piece ++ (b ++ left')) none')
    ∙ sym (append_assoc octets piece left')
    ∙ ap (λ (front : List ℕ). front ++ left') (sym grown)

pub rose_earlier : (old mid now : ℕ) → old ≤ mid → Rose mid now → Rose old now
rose_earlier old mid now l r = omega (arith, l, r)
