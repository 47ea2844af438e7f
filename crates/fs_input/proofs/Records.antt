-- Reading the records of an input one by one: the head is filled, and then the payload.
use Rattle.fs_input.proofs.Words.{◌≡◌, ℕ, List, [], Some, None, Bool, true, false, ◌<◌, ◌≤◌, ◌+◌, ◌==◌, min, length, take, drop, refl, ap, sym, ◌∙◌}
use Rattle.fs_input.proofs.Words.{arith, nat_le, if◌then◌else◌, drop-drop, length-drop, length-take, nat_tests, common_steps, Fills, window}
use Rattle.fs_input.proofs.Words.{with_part, At, Shrinks, at, Format, bad, ends_short, first_record, head_at, record_in, records_to_come, Head, Whole}
use Rattle.fs_input.proofs.Words.{Wrong, Partial, Counted}
use Rattle.fs_input.proofs.{CutShort.{limit_is}, Joining.{IsBehind, behind_took}, PartsOfRecords.{to_come_end, to_come_step}}
use Rattle.fs_input.specs.Records.{stop}

-- what octets of the front have, so many octets have
pub held_of_taken : {n : ℕ} (count : ℕ) (octets : List ℕ) → n ≤ length (take count octets) → n ≤ count
held_of_taken count octets held = omega (arith, held, length-take count octets)

-- each head has octets
abbrev pub HasHead : {S A B R : Type 0} → Format S A B R → Type 0
HasHead {S} format = (state : S) → 0 < format.head_size state

record_short : {S A B R : Type 0} (format : Format S A B R) → HasHead format → (state : S) (head : Head A R) (octets : List ℕ) (found : B × At S)
    → record_in format state head octets ≡ Some found → length found.1.octets < length octets
record_short {S} format some state (Whole said size) octets found h =
    by (nat_le (format.head_size state + size) (length octets)) refl h
  where
    by : (test : Bool) → nat_le (format.head_size state + size) (length octets) ≡ test
        → (if test
        then Some (
          format.item_of said (take size (drop (format.head_size state) octets)),
          at (format.behind state said) (drop (format.head_size state + size) octets),
        )
        else None)
        ≡ Some found
        → length found.1.octets < length octets
    by true e f =
        let within : format.head_size state + size ≤ length octets = grind (arith, nat_tests) in
        let rest : at (format.behind state said) (drop (format.head_size state + size) octets) ≡ found.1 = cc in
        let size' : length (drop (format.head_size state + size) octets) ≡ length found.1.octets = ap (λ (a : At S). length a.octets) rest in
        let has : 0 < format.head_size state = some state in
        omega (arith, length-drop (format.head_size state + size) octets)
    by false e f = absurd (let no : ⊥ = cc in no)
record_short format some state (Wrong reason offset) octets found h = cc
record_short format some state Partial octets found h = cc

pub records_shrink : {S A B R : Type 0} (format : Format S A B R) → HasHead format → Shrinks (first_record format)
records_shrink format some now found h = record_short format some now.state (head_at format now) now.octets found h

front_of : (size : ℕ) (octets : List ℕ) → take (min size (length octets)) octets ≡ take size octets
front_of size octets = grind (arith, common_steps)

-- the octets of a head that was filled are those that stand in the front
pub head_filled : (size : ℕ) (judged old new head : List ℕ) (count : ℕ) → Fills judged old new head count → length head ≡ size
    → take count head ≡ take size judged
head_filled size judged old new head count fills len =
    let e : count ≡ min size (length judged) = fills.count_is ∙ ap (λ n. min n (length judged)) len in
    fills.filled ∙ rw e (front_of size judged)

module _ {S A B R : Type 0} (format : Format S A B R) (now : Counted) (state : S) (left left1 : List ℕ) (count : ℕ) where
  abbrev octets_judged : List ℕ
  octets_judged = window now.limit now.taken left

  -- so many octets of a head were filled, which say this
  pub record SaysHead (said : Head A R) : Type 0 where
    pub head : List ℕ
    pub filled : Fills octets_judged left left1 head count
    pub sized : length head ≡ format.head_size state
    pub says : said ≡ format.head_of state (take count head)

  -- what was filled into a head's buffer tells the head of what is judged
  head_tells : (said : Head A R) → SaysHead said → format.head_of state (take (format.head_size state) octets_judged) ≡ said
  head_tells said h =
      ap (format.head_of state) (sym (head_filled (format.head_size state) octets_judged left left1 h.head count h.filled h.sized)) ∙ sym h.says

  -- a head was filled, and is wrong
  pub wrong_comes : (reason : R) (offset : ℕ) → SaysHead (Wrong reason offset)
      → records_to_come format now.limit now.taken state left ≡ ([], bad reason (now.taken + offset))
  wrong_comes reason offset h =
      let said = head_tells (Wrong reason offset) h in
      to_come_end (first_record format) (stop format) now.limit now.taken (at state left) (rw said refl) ∙ rw said refl

  -- a head was filled only in part, and no field in it is wrong
  pub short_comes : SaysHead Partial → count < format.head_size state
      → records_to_come format now.limit now.taken state left ≡ ([], ends_short format.cut (now.taken + count == now.limit) now.taken count)
  short_comes h short =
      let e : count ≡ min (length h.head) (length octets_judged) = h.filled.count_is in
      let size : count ≡ length octets_judged = omega (arith, e, h.sized, short) in
      let said = head_tells Partial h in
      to_come_end (first_record format) (stop format) now.limit now.taken (at state left) (rw said refl)
      ∙ rw (said, limit_is now.limit now.taken (now.taken + count) count left now.within size refl, ← size) refl

  -- a head was filled, and then a payload: what is judged of it stands behind the head
  record IsHeaded : Type 0 where
    pub all : count ≡ format.head_size state
    pub had : format.head_size state ≤ length octets_judged
    pub rest : IsBehind now.limit now.taken (now.taken + count) (format.head_size state) left left1

  behind_head : (said : Head A R) → SaysHead said → format.head_size state ≤ count → IsHeaded
  behind_head said h all =
      let n = format.head_size state in
      let e : count ≡ min (length h.head) (length octets_judged) = h.filled.count_is in
      let same : count ≡ n = omega (arith, e, h.sized, all) in
      let had : n ≤ length octets_judged = omega (arith, e, h.sized, all) in
      record {
        all = same;
        had = had;
        rest = behind_took now.limit now.taken (now.taken + count) n left left1 had (omega (arith, same)) (h.filled.left ∙ ap (λ n. drop n left) same);
      }

  module _ (left2 payload : List ℕ) (said : A) (size got : ℕ) (h : SaysHead (Whole said size)) (all : format.head_size state ≤ count)
      (more : Fills (window now.limit (now.taken + count) left1) left1 left2 payload got) (room : length payload ≡ size) where
    -- the payload was filled only in part
    pub cut_comes : got < size
        → records_to_come format now.limit now.taken state left
        ≡ ([], ends_short format.cut (now.taken + (count + got) == now.limit) now.taken (count + got))
    cut_comes short =
        let n = format.head_size state in
        let behind = behind_head (Whole said size) h all in
        let e : got ≡ min (length payload) (length (window now.limit (now.taken + count) left1)) = more.count_is in
        let whole : count + got ≡ length octets_judged = omega (arith, e, room, short, behind.all, behind.had, behind.rest.size) in
        let test : nat_le (n + size) (length octets_judged) ≡ false = grind (arith, nat_tests, behind.all) in
        let says = head_tells (Whole said size) h in
        to_come_end (first_record format) (stop format) now.limit now.taken (at state left) (rw (says, test) refl)
        ∙ rw (says, limit_is now.limit now.taken (now.taken + (count + got)) (count + got) left now.within whole refl, ← whole) refl

    -- the payload was filled
    pub record_comes : HasHead format → size ≤ got
        → records_to_come format now.limit now.taken state left
        ≡ with_part (format.item_of said (take size payload))
        (records_to_come format now.limit (now.taken + count + got) (format.behind state said) left2)
    record_comes some enough =
        let n = format.head_size state in
        let behind = behind_head (Whole said size) h all in
        let e : got ≡ min (length payload) (length (window now.limit (now.taken + count) left1)) = more.count_is in
        let same : got ≡ size = omega (arith, e, room, enough) in
        let within : n + size ≤ length octets_judged = omega (arith, e, same, behind.had, behind.rest.size) in
        let test : nat_le (n + size) (length octets_judged) ≡ true = grind (arith, nat_tests) in
        let octets : take size payload ≡ take size (drop n octets_judged) =
        ap (λ n. take n payload) (sym same) ∙ more.filled
        ∙ ap (λ n. take n (window now.limit (now.taken + count) left1)) same ∙ ap (take size) behind.rest.judged in
        let rest : left2 ≡ drop (n + size) left =
        more.left ∙ ap (drop got) h.filled.left ∙ drop-drop got count left
        ∙ ap (λ m. drop m left) (let m : count + got ≡ n + size = omega (arith, same, behind.all) in m) in
        let place : now.taken + count + got ≡ now.taken + (n + size) = omega (arith, same, behind.all) in
        let says = head_tells (Whole said size) h in
        to_come_step (first_record format) (stop format) (records_shrink format some) now.limit now.taken (at state left)
        (format.item_of said (take size (drop n octets_judged))) (format.behind state said) (n + size)
        within (rw (says, test) refl)
        ∙ rw (octets, rest, place) refl

-- what a record that was read says: its head, its payload behind that, and what follows
pub record IsFound {S A B R : Type 0} (format : Format S A B R) (now : At S) (found : B × At S) : Type 0 where
  pub said : A
  pub size : ℕ
  pub head : head_at format now ≡ Whole said size
  pub held : format.head_size now.state + size ≤ length now.octets
  pub item : format.item_of said (take size (drop (format.head_size now.state) now.octets)) ≡ found.0
  pub behind : at (format.behind now.state said) (drop (format.head_size now.state + size) now.octets) ≡ found.1

found_in : {S A B R : Type 0} (format : Format S A B R) (now : At S) (head : Head A R) (found : B × At S)
    → head_at format now ≡ head → record_in format now.state head now.octets ≡ Some found → IsFound format now found
found_in format now (Whole said size) found e h = by (nat_le (format.head_size now.state + size) (length now.octets)) refl h
  where
    by : (test : Bool) → nat_le (format.head_size now.state + size) (length now.octets) ≡ test
        → (if test
        then Some (
          format.item_of said (take size (drop (format.head_size now.state) now.octets)),
          at (format.behind now.state said) (drop (format.head_size now.state + size) now.octets),
        )
        else None)
        ≡ Some found
        → IsFound format now found
    by true t f = record {
      said = said;
      size = size;
      head = e;
      held = (grind (arith, nat_tests));
      item = (cc);
      behind = (cc);
    }
    by false t f = cc
found_in format now (Wrong reason offset) found e h = cc
found_in format now Partial found e h = cc

pub record_found : {S A B R : Type 0} (format : Format S A B R) (now : At S) (found : B × At S)
    → first_record format now ≡ Some found → IsFound format now found
record_found format now found h = found_in format now (head_at format now) found refl h
