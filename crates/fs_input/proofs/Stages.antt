-- Chains of fields that are read one by one: what of a chain is still to be read, behind the fields that were.
use Rattle.fs_input.proofs.Words.{◌≡◌, ℕ, List, Bool, Result, Ok, Err, IsTrue, ◌≤◌, ◌+◌, length, drop, refl, ap, sym, ◌∙◌, subst, arith}
use Rattle.fs_input.proofs.Words.{drop-drop, at_limit, window, IfErr, Rose, Fault, Read, Scan, Scanner, and, behind, got, partial, wrong}
use Rattle.fs_input.proofs.Words.{Fails, Moment, PassesTo, Reads, Scanned, Took, end_of, ends_by, rose_earlier, passes_none, passes_then}
use Rattle.fs_input.proofs.Joining.{behind_took, chain_is, end_behind}

-- so many octets of the chain were taken, and this rest of it is to be read
pub record Stage {A R : Type 0} (chain rest : Scanner A R) (limit taken taken' : ℕ) (left left' : List ℕ) : Type 0 where
  pub count : ℕ
  pub within : count ≤ length (window limit taken left)
  pub place : taken' ≡ taken + count
  pub rest_is : left' ≡ drop count left
  pub is : chain taken (window limit taken left) ≡ behind count (rest taken' (window limit taken' left'))

pub behind_none : {A R : Type 0} (scan : Scan A R) → scan ≡ behind 0 scan
behind_none (got value count) = let same : count ≡ 0 + count = omega arith in ap (λ n. got value n) same
behind_none (wrong reason place) = refl
behind_none partial = refl

pub behind_more : {A R : Type 0} (n m : ℕ) (scan : Scan A R) → behind n (behind m scan) ≡ behind (n + m) scan
behind_more n m (got value count) = let same : n + (m + count) ≡ n + m + count = omega arith in ap (λ k. got value k) same
behind_more n m (wrong reason place) = refl
behind_more n m partial = refl

stage_start : {A R : Type 0} (chain : Scanner A R) (limit taken : ℕ) (left : List ℕ) → Stage chain chain limit taken taken left left
stage_start chain limit taken left = record {
  count = 0;
  within = (omega arith);
  place = (omega arith);
  rest_is = refl;
  is = behind_none (chain taken (window limit taken left));
}

module _ {A R : Type 0} (chain rest : Scanner A R) (limit taken taken' taken'' : ℕ) (left left' left'' : List ℕ) where
  stages : (last : Scanner A R) → Stage chain rest limit taken taken' left left' → Stage rest last limit taken' taken'' left' left''
      → Stage chain last limit taken taken'' left left''
  stages last one more =
      let behind_one = behind_took limit taken taken' one.count left left' one.within one.place one.rest_is in
      record {
        count = one.count + more.count;
        within = omega (arith, one.within, more.within, behind_one.size);
        place = omega (arith, one.place, more.place);
        rest_is =
            more.rest_is ∙ ap (drop more.count) one.rest_is ∙ drop-drop more.count one.count left;
        is =
            one.is ∙ ap (behind one.count) more.is
            ∙ behind_more one.count more.count (last taken'' (window limit taken'' left''));
      }

  stage_took : (value : A) → Stage chain rest limit taken taken' left left'
      → Took (rest taken' (window limit taken' left')) (length (window limit taken' left')) taken' taken'' left' left'' value
      → Took (chain taken (window limit taken left)) (length (window limit taken left)) taken taken'' left left'' value
  stage_took value one more =
      let behind_one = behind_took limit taken taken' one.count left left' one.within one.place one.rest_is in
      record {
        count = one.count + more.count;
        is = one.is ∙ ap (behind one.count) more.is;
        within = omega (arith, one.within, more.within, behind_one.size);
        taken_is = omega (arith, one.place, more.taken_is);
        left_is =
            more.left_is ∙ ap (drop more.count) one.rest_is ∙ drop-drop more.count one.count left;
      }

  stage_ends : (cut : R) → Stage chain rest limit taken taken' left left' → ends_by chain cut limit taken left ≡ ends_by rest cut limit taken' left'
  stage_ends cut one =
      let behind_one = behind_took limit taken taken' one.count left left' one.within one.place one.rest_is in
      let scan = rest taken' (window limit taken' left') in
      ap (end_of cut (at_limit limit taken left) taken (length (window limit taken left))) one.is
      ∙ end_behind cut (at_limit limit taken left) taken (length (window limit taken left)) one.count scan one.within
      ∙ (λ i. end_of cut ((sym behind_one.limited) i) ((sym one.place) i) ((sym behind_one.size) i) scan)

-- a field of the rest was taken
stage_field : {A B R : Type 0} (first : Scanner B R) (next : B → Scanner A R) (limit taken taken' : ℕ) (left left' : List ℕ) (value : B)
    → Took (first taken (window limit taken left)) (length (window limit taken left)) taken taken' left left' value
    → Stage (and first next) (next value) limit taken taken' left left'
stage_field first next limit taken taken' left left' value took = record {
  count = took.count;
  within = took.within;
  place = took.taken_is;
  rest_is = took.left_is;
  is = chain_is first next limit taken taken' left left' value took;
}

-- What reading a chain up to this rest of it did to the files.
pub record Going {A R : Type 0} (told : Bool) (old now : Moment) (chain rest : Scanner A R) : Type 0 where
  pub passes : PassesTo told old now
  pub staged :
      IsTrue told
      → Stage chain rest old.counted.limit old.counted.taken now.counted.taken (old.left old.counted.slot) (now.left old.counted.slot)

pub going_start : {told : Bool} {A R : Type 0} {now : Moment} (chain : Scanner A R) → Going told now now chain chain
going_start {now = now} chain = record {
  passes = passes_none;
  staged = λ tells_so. stage_start chain now.counted.limit now.counted.taken (now.left now.counted.slot);
}

-- what was scanned of the slot and below the limit of the moment before is scanned of those of the first one
scanned_from : {T B R : Type 0} (told : Bool) (first : Scanner B R) (cut : R) (tells : T → B) (old now new : Moment) (result : Result T (Fault R))
    → PassesTo told old now
    → Scanned first cut now.counted.limit now.counted.taken new.counted.taken (now.left now.counted.slot) (new.left now.counted.slot) tells result
    → Scanned first cut old.counted.limit now.counted.taken new.counted.taken (now.left old.counted.slot) (new.left old.counted.slot) tells result
scanned_from told first cut tells old now new result passes h =
    subst (λ slot. Scanned first cut old.counted.limit now.counted.taken new.counted.taken (now.left slot) (new.left slot) tells result) passes.slot
    (subst (λ limit. Scanned first cut limit now.counted.taken new.counted.taken (now.left now.counted.slot) (new.left now.counted.slot) tells result)
    passes.limit h)

-- one field more
module _ {told : Bool} {A R : Type 0} {chain : Scanner A R} {old now new : Moment} where
  pub going_more : {T B : Type 0} {first : Scanner B R} {cut : R} {tells : T → B} {answer : T} (next : B → Scanner A R)
      → Going told old now chain (and first next) → Reads told now new first cut tells (Ok answer) → Going told old new chain (next (tells answer))
  going_more {first = first} {cut = cut} {tells = tells} {answer = answer} next one more = record {
    passes = passes_then one.passes more.passes;
    staged = λ tells_so.
        let slot = old.counted.slot in
        stages chain (and first next) old.counted.limit old.counted.taken now.counted.taken new.counted.taken (old.left slot) (now.left slot) (new.left slot)
        (next (tells answer)) (one.staged tells_so)
        (stage_field first next old.counted.limit now.counted.taken new.counted.taken (now.left slot) (new.left slot) (tells answer)
        (scanned_from told first cut tells old now new (Ok answer) one.passes (more.scanned tells_so)));
  }

-- faults that rose in the later of two calls rose in both
failed_later : {T R : Type 0} (result : Result T (Fault R)) (early mid late : ℕ) → early ≤ mid
    → IfErr result (λ fault. fault ≡ Read → Rose mid late) → IfErr result (λ fault. fault ≡ Read → Rose early late)
failed_later (Ok answer) early mid late l h = h
failed_later (Err fault) early mid late l h = λ read. rose_earlier early mid late l (h read)

staged_reads : {T A R : Type 0} (chain rest : Scanner A R) (cut : R) (tells : T → A) (old now new : Moment) (result : Result T (Fault R))
    → Stage chain rest old.counted.limit old.counted.taken now.counted.taken (old.left old.counted.slot) (now.left old.counted.slot)
    → Scanned rest cut old.counted.limit now.counted.taken new.counted.taken (now.left old.counted.slot) (new.left old.counted.slot) tells result
    → Scanned chain cut old.counted.limit old.counted.taken new.counted.taken (old.left old.counted.slot) (new.left old.counted.slot) tells result
staged_reads chain rest cut tells old now new (Ok answer) one more =
    let slot = old.counted.slot in
    stage_took chain rest old.counted.limit old.counted.taken now.counted.taken new.counted.taken (old.left slot) (now.left slot) (new.left slot)
    (tells answer) one more
staged_reads chain rest cut tells old now new (Err fault) one more =
    let slot = old.counted.slot in
    subst (λ end. Fails end fault)
    (sym (stage_ends chain rest old.counted.limit old.counted.taken now.counted.taken new.counted.taken (old.left slot) (now.left slot) (new.left slot)
    cut one)) more

-- and then the rest
pub going_then : {told : Bool} {T A R : Type 0} {chain rest : Scanner A R} {cut : R} {tells : T → A} {old now new : Moment} {result : Result T (Fault R)}
    → Going told old now chain rest → Reads told now new rest cut tells result → Reads told old new chain cut tells result
going_then {told = told} {chain = chain} {rest = rest} {cut = cut} {tells = tells} {old = old} {now = now} {new = new} {result = result} one more = record {
  passes = passes_then one.passes more.passes;
  failed = failed_later result old.calls.faults now.calls.faults new.calls.faults one.passes.later more.failed;
  scanned = λ tells_so.
      staged_reads chain rest cut tells old now new result (one.staged tells_so)
      (scanned_from told rest cut tells old now new result one.passes (more.scanned tells_so));
}
