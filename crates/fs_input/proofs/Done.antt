-- An input of records is done exactly where it is below the limit and is the text of its records.
use Rattle.fs_input.proofs.Words.{◌≡◌, ℕ, List, [], ◌++◌, Bool, true, false, None, ◌<◌, ◌≤◌, ◌+◌, ◌-◌, ◌==◌, length, take, refl, ap, sym, ◌∙◌, subst}
use Rattle.fs_input.proofs.Words.{arith, eqb-true, append-nil, if◌then◌else◌, nat_tests, common_steps, IsOctets, at_limit, window, take_of_none}
use Rattle.fs_input.proofs.Words.{AllFrom, ReadsText, SpellsText, at, parts_from, text_from, to_come, End, Format, bad, done, end_by, ends_short}
use Rattle.fs_input.proofs.Words.{first_record, head_at, records_to_come, Head, Whole, Wrong, Partial}
use Rattle.fs_input.proofs.{PartsOfRecords.{parts_read, parts_spelled, state_behind}, Records.{HasHead, records_shrink}}

module _ {S B : Type 0} (text : S → B → List ℕ) (Fits : S → B → Type 0) (after : S → B → S) where
  -- What an input that is done has left: the text of these items, each of which fits, and all of it below the limit.
  pub record IsText (limit taken : ℕ) (state : S) (left : List ℕ) (items : List B) : Type 0 where
    pub spelled : left ≡ text_from text after state items
    pub fit : AllFrom Fits after state items
    pub below : taken + length left < limit

-- the limit isn't reached, and nothing is left
record IsOver (limit : Bool) (size : ℕ) : Type 0 where
  pub below : limit ≡ false
  pub none : size ≡ 0

short_over : {R : Type 0} (cut : R) (limit : Bool) (place size : ℕ) → ends_short cut limit place size ≡ done → IsOver limit size
short_over cut true place size e = cc
short_over {R} cut false place size e = by (size == 0) refl e
  where
    by : (test : Bool) → (size == 0) ≡ test → (if test then done else bad cut (place + size)) ≡ done → IsOver false size
    by true same f = record { below = refl; none = eqb-true size 0 same }
    by false same f = cc

end_over : {A R : Type 0} (cut : R) (limit : Bool) (place size : ℕ) (head : Head A R)
    → end_by cut limit place size head ≡ done → IsOver limit size
end_over cut limit place size (Whole said payload) e = short_over cut limit place size e
end_over cut limit place size (Wrong reason offset) e = cc
end_over cut limit place size Partial e = short_over cut limit place size e

pub nothing : (octets : List ℕ) → length octets ≡ 0 → octets ≡ []
nothing octets none = grind (arith, common_steps)

pub all_taken : (n : ℕ) (octets : List ℕ) → length octets ≤ n → take n octets ≡ octets
all_taken n octets within = grind (arith, common_steps)

-- what an input that is done has left is judged whole
pub below_limit : (limit taken : ℕ) (left : List ℕ) → at_limit limit taken left ≡ false → taken + length left < limit
below_limit limit taken left below = grind (arith, nat_tests)

pub done_text : {S A B R : Type 0} (format : Format S A B R) (text : S → B → List ℕ) (Fits : S → B → Type 0) (after : S → B → S)
    → HasHead format → SpellsText (first_record format) text Fits after
    → (limit taken : ℕ) (state : S) (left : List ℕ) (items : List B) → IsOctets left
    → records_to_come format limit taken state left ≡ (items, done) → IsText text Fits after limit taken state left items
unfolding to_come
done_text {B = B} {R} format text Fits after some spells limit taken state left items are e =
    let next = first_record format in
    let octets = window limit taken left in
    let found = parts_from next (at state octets) in
    let over = end_over format.cut (at_limit limit taken left) (taken + length octets - length found.1.octets) (length found.1.octets)
    (head_at format found.1) (ap (λ (p : List B × End R). p.1) e) in
    let below = below_limit limit taken left over.below in
    let all : octets ≡ left = all_taken (limit - taken) left (omega arith) in
    let spelled = parts_read next text Fits after (records_shrink format some) spells (at state octets) (subst IsOctets (sym all) are) in
    let gone : found.0 ≡ items = ap (λ (p : List B × End R). p.0) e in
    record {
      spelled =
          sym all ∙ spelled.0 ∙ ap (λ rest. text_from text after state found.0 ++ rest) (nothing found.1.octets over.none)
          ∙ append-nil (text_from text after state found.0) ∙ ap (text_from text after state) gone;
      fit = subst (AllFrom Fits after state) gone spelled.1;
      below = below;
    }

none_head : {S A B R : Type 0} (format : Format S A B R) (state : S) → format.head_of state [] ≡ Partial → head_at format (at state []) ≡ Partial
none_head format state empty = ap (format.head_of state) (take_of_none (format.head_size state) [] refl) ∙ empty

none_at : {S A B R : Type 0} (format : Format S A B R) → ((state : S) → format.head_of state [] ≡ Partial) → (state : S)
    → first_record format (at state []) ≡ None
none_at format empty state = rw (none_head format state (empty state)) refl

pub text_done : {S A B R : Type 0} (format : Format S A B R) (text : S → B → List ℕ) (Fits : S → B → Type 0) (after : S → B → S)
    → HasHead format → ((state : S) → format.head_of state [] ≡ Partial) → ReadsText (first_record format) text Fits after
    → (limit taken : ℕ) (state : S) (left : List ℕ) (items : List B)
    → IsText text Fits after limit taken state left items → records_to_come format limit taken state left ≡ (items, done)
unfolding to_come
text_done format text Fits after some empty reads limit taken state left items h =
    let below : taken + length left < limit = h.below in
    let judged : window limit taken left ≡ text_from text after state items =
    all_taken (limit - taken) left (omega arith) ∙ h.spelled in
    let free : at_limit limit taken left ≡ false = grind (arith, nat_tests) in
    let parts : parts_from (first_record format) (at state (window limit taken left)) ≡ (items, at (state_behind after state items) []) =
    ap (λ octets. parts_from (first_record format) (at state octets)) judged
    ∙ parts_spelled (first_record format) text Fits after (records_shrink format some) (none_at format empty) reads state items h.fit in
    rw (parts, free, none_head format (state_behind after state items) (empty (state_behind after state items))) refl
