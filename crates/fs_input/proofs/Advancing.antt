-- Calls that read the next part of an input.
use Rattle.fs_input.proofs.Words.{◌≡◌, inr, ℕ, List, [], Bool, true, Result, Ok, Err, IsTrue, ◌<◌, ◌≤◌, ◌≢◌, ◌+◌, ◌-◌, length, refl, ap, sym}
use Rattle.fs_input.proofs.Words.{◌∙◌, subst, arith, at_limit, window, with_part, Advances, End, bad, done, limited, Fault, Read, Limit, Bad}
use Rattle.fs_input.proofs.Words.{Chain, Takes, part_in, parts_to_come, Fails, HasMore, IsOver, Moment, Reads, Starts, end_of, ends_by, whole, Scanner}
use Rattle.fs_input.proofs.Words.{and, field}
use Rattle.fs_input.proofs.{Coming.{done_comes, end_comes, field_takes, part_comes}, Joining.{fails_first}}
use Rattle.fs_input.proofs.Lifting.{reads_as, reads_then, starts_reads}

-- the parts that are still to come of what is left
abbrev pub parts_left : {S P R : Type 0} → Chain S P R → R → Moment → S → List P × End R
parts_left chain cut now state = parts_to_come chain cut now.counted.limit now.counted.taken state (now.left now.counted.slot)

module _ {S P R : Type 0} (chain : Chain S P R) (takes : (state : S) → Takes 1 (chain state)) (cut : R) where
  -- the part that was read comes first
  pub part_advances : {T : Type 0} {told : Bool} {old new : Moment} {tells : T → P × S} {answer : T} (now : S) → IsTrue told
      → Reads told old new (chain now) cut tells (Ok answer)
      → parts_left chain cut old now ≡ with_part (tells answer).0 (parts_left chain cut new (tells answer).1)
  part_advances {old = old} {new = new} {tells = tells} {answer = answer} now tells_so h =
      part_comes chain cut old.counted.limit old.counted.taken new.counted.taken now (old.left old.counted.slot) (new.left old.counted.slot)
      (tells answer) takes (h.scanned tells_so)
      ∙ (λ i. with_part (tells answer).0
      (parts_to_come chain cut ((sym h.passes.limit) i) new.counted.taken (tells answer).1 (new.left ((sym h.passes.slot) i))))

  -- the input ended before the part
  pub over_advances : (limit taken : ℕ) (now : S) (left : List ℕ) → IsOver limit taken left
      → parts_to_come chain cut limit taken now left ≡ ([], done)
  over_advances limit taken now left over = done_comes chain cut limit taken now left takes over.below over.none

  -- a fault of the part
  pub fault_advances : {T : Type 0} (behind : T → List P × End R) (limit taken : ℕ) (now : S) (left : List ℕ) (fault : Fault R)
      → Fails (ends_by (chain now) cut limit taken left) fault → (fault ≢ Read → HasMore limit taken left)
      → Advances (parts_to_come chain cut limit taken now left) behind (Err fault)
  fault_advances behind limit taken now left Read fails more = tt
  fault_advances behind limit taken now left Limit fails more =
      end_comes chain cut limit taken now left limited (more (λ e. absurd cc)) fails
  fault_advances behind limit taken now left (Bad reason place) fails more =
      end_comes chain cut limit taken now left (bad reason place) (more (λ e. absurd cc)) fails

  -- a fault of its first field
  pub first_advances : {T : Type 0} {told : Bool} {old new : Moment} {into : List ℕ} {size : ℕ} {fault : Fault R} (next : List ℕ → Scanner (P × S) R)
      (behind : T → List P × End R) (now : S) → IsTrue told → Starts told old new size cut into (Err fault)
      → ((octets : List ℕ) → chain now old.counted.taken octets ≡ and (field size whole) next old.counted.taken octets)
      → Advances (parts_left chain cut old now) behind (Err fault)
  first_advances {old = old} {size = size} {fault = fault} next behind now tells_so h same =
      let counted = old.counted in
      let left = old.left counted.slot in
      let octets = window counted.limit counted.taken left in
      let failed = h.started tells_so in
      fault_advances behind counted.limit counted.taken now left fault
      (subst (λ scan. Fails (end_of cut (at_limit counted.limit counted.taken left) counted.taken (length octets) scan) fault) (sym (same octets))
      (fails_first next counted.taken octets cut (at_limit counted.limit counted.taken left) counted.taken (length octets)
      (field size whole counted.taken octets) fault failed.0))
      failed.1

  -- a fault behind its first field
  pub later_advances : {T : Type 0} {told : Bool} {old new : Moment} {tells : T → P × S} {fault : Fault R} (behind : T → List P × End R) (now : S)
      → IsTrue told → Reads told old new (chain now) cut tells (Err fault)
      → 0 < length (window old.counted.limit old.counted.taken (old.left old.counted.slot))
      → Advances (parts_left chain cut old now) behind (Err fault)
  later_advances {old = old} {fault = fault} behind now tells_so h some =
      fault_advances behind old.counted.limit old.counted.taken now (old.left old.counted.slot) fault (h.scanned tells_so) (λ e. inr some)

-- a first field that was taken
pub some_taken : {R : Type 0} {told : Bool} {old new : Moment} {into : List ℕ} {size : ℕ} {cut : R} → IsTrue told → 0 < size
    → Starts told old new size cut into (Ok true) → 0 < length (window old.counted.limit old.counted.taken (old.left old.counted.slot))
some_taken {R} {old = old} {size = size} tells_so some h =
    let took = h.started tells_so in
    let held = field_takes {R = R} size whole old.counted.taken (window old.counted.limit old.counted.taken (old.left old.counted.slot)) _ took.count took.is in
    let a : size ≤ took.count = held.0 in
    omega (arith, a, took.within, some)

-- the first octets of a part were taken, and then what stands behind them was read
module _ {S P R : Type 0} {cut : R} {told : Bool} {old now new : Moment} (first : ℕ) (behind : S → ℕ → List ℕ → Scanner (P × S) R) (state : S) where
  pub part_reads : {T : Type 0} {front : List ℕ} {tells : T → P × S} {result : Result T (Fault R)} → now.counted.taken ≡ old.counted.taken + first
      → Starts told old now first cut front (Ok true) → Reads told now new (behind state (now.counted.taken - first) front) cut tells result
      → Reads told old new (part_in first behind state) cut tells result
  part_reads {front = front} {tells = tells} taken starts h =
      let spot : now.counted.taken - first ≡ old.counted.taken = omega (arith, taken) in
      reads_as (part_in first behind state) (λ octets. refl)
      (reads_then (behind state old.counted.taken) tells (starts_reads starts)
      (reads_as (behind state old.counted.taken front) (λ octets. ap (λ n. behind state n front now.counted.taken octets) spot) h))
