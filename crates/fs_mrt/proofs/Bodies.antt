-- What the parts of a body say.
use Rattle.fs_mrt.proofs.Words.{◌≡◌, ℕ, List, Bool, true, false, Option, Some, Result, Ok, ◌≤◌, ◌+◌, ◌-◌, ◌*◌, max, take, drop, refl, ap, sym, ◌∙◌}
use Rattle.fs_mrt.proofs.Words.{arith, nat_le, if◌then◌else◌, drop-take, nat_tests, big_number, big_from-take, Peer, Fault, Moment, Reads}
use Rattle.fs_mrt.proofs.Words.{whole, and, field, gives, reads_as, reads_gives, reads_then, Spoken, addressed_in, body_in, ends_in, ends_size}
use Rattle.fs_mrt.proofs.Words.{front_behind, front_in, front_of, asn_of, time_of, family_of, front_size, states_size, DumpReason, Cut, Front, Head}
use Rattle.fs_mrt.proofs.Words.{Family}
use Rattle.fs_mrt.specs.declared.shape.Shape.{Shape as RecordShape}

time_same : (timed : Bool) (seconds n : ℕ) (octets : List ℕ) → 4 ≤ n
    → seconds * 1000000000 + (if timed then big_number 4 (take n octets) * 1000 else 0)
    ≡ seconds * 1000000000 + (if timed then big_number 4 octets * 1000 else 0)
time_same timed seconds n octets some =
    ap (λ micros. seconds * 1000000000 + (if timed then micros * 1000 else 0)) (big_from-take 0 4 n octets some)

asn_at : (first wide size : ℕ) (octets : List ℕ) → first + wide ≤ size
    → big_number wide (drop first (take size octets)) ≡ big_number wide (drop first octets)
asn_at first wide size octets room =
    ap (λ (n : ℕ). big_number wide (drop first (take n octets))) (let n : size ≡ first + (size - first) = omega (arith, room) in n)
    ∙ ap (λ (l : List ℕ). big_number wide l) (drop-take first (size - first) octets)
    ∙ big_from-take 0 wide (size - first) (drop first octets) (omega (arith, room))

asn_same : (shape : RecordShape) (octets : List ℕ) → asn_of shape (take (front_size shape + 2) octets) ≡ asn_of shape octets
asn_same shape octets = by shape.timed shape.wide
  where
    by : (timed wide : Bool)
        → big_number (if wide then 4 else 2) (drop (if timed then 4 else 0) (take ((if timed then 4 else 0) + (if wide then 8 else 4) + 2 + 2) octets))
        ≡ big_number (if wide then 4 else 2) (drop (if timed then 4 else 0) octets)
    by true true = asn_at 4 4 16 octets (omega arith)
    by true false = asn_at 4 2 12 octets (omega arith)
    by false true = asn_at 0 4 12 octets (omega arith)
    by false false = asn_at 0 2 8 octets (omega arith)

module _ (spot seconds size : ℕ) (shape : RecordShape) (octets : List ℕ) (family : Family) where
  found : family_of (big_number 2 (drop (front_size shape) octets)) ≡ Some family
      → family_of (big_number 2 (drop (front_size shape) (take (front_size shape + 2) octets))) ≡ Some family
  found is =
      ap family_of (ap (λ (l : List ℕ). big_number 2 l) (drop-take (front_size shape) 2 octets)
      ∙ big_from-take 0 2 2 (drop (front_size shape) octets) (omega arith)) ∙ is

  told_front : (time asn start place : ℕ) (rest : List ℕ) → 4 ≤ front_size shape + 2
      → family_of (big_number 2 (drop (front_size shape) octets)) ≡ Some family
      → ends_size shape family + states_size shape ≤ size → time ≡ time_of shape seconds octets → asn ≡ asn_of shape octets
      → gives {A = Front} {R = DumpReason} (front_of time asn family) place rest
      ≡ front_behind spot start seconds size shape (take (front_size shape + 2) octets) place rest
  told_front time asn start place rest some is room at_time at_asn =
      let test : nat_le (ends_size shape family + states_size shape) size ≡ true = let r = room in grind (arith, nat_tests) in
      let same : time_of shape seconds (take (front_size shape + 2) octets) ≡ time =
      time_same shape.timed seconds (front_size shape + 2) octets some ∙ sym at_time in
      let number : asn_of shape (take (front_size shape + 2) octets) ≡ asn = asn_same shape octets ∙ sym at_asn in
      rw (found is, test, same, number) refl

passed : (spot seconds size : ℕ) (shape : RecordShape) (start : ℕ) (rest : List ℕ) → front_size shape + 2 ≤ size → size ≤ 65536
    → and (field (front_size shape + 2) whole) (front_behind spot start seconds size shape) start rest ≡ front_in spot seconds size shape start rest
passed spot seconds size shape start rest some most =
    let first : nat_le (front_size shape + 2) size ≡ true = let s = some in grind (arith, nat_tests) in
    let second : nat_le size 65536 ≡ true = let s = most in grind (arith, nat_tests) in
    rw (first, second) refl

pub front_reads : {T : Type 0} {told : Bool} {old now : Moment} {answer : T} (spot seconds size : ℕ) (shape : RecordShape)
    (octets : List ℕ) (family : Family) (time asn : ℕ)
    → 4 ≤ front_size shape + 2 → front_size shape + 2 ≤ size → size ≤ 65536
    → family_of (big_number 2 (drop (front_size shape) octets)) ≡ Some family
    → ends_size shape family + states_size shape ≤ size → time ≡ time_of shape seconds octets → asn ≡ asn_of shape octets
    → Reads told old now (field (front_size shape + 2) whole) Cut (λ (_ : T). take (front_size shape + 2) octets) (Ok answer)
    → Reads told old now (front_in spot seconds size shape) Cut (λ (front : Front). front) (Ok (front_of time asn family))
front_reads {old = old} {now = now} spot seconds size shape octets family time asn four some most is room at_time at_asn h =
    reads_as (front_in spot seconds size shape) (λ rest. passed spot seconds size shape old.counted.taken rest some most)
    (reads_then (front_behind spot old.counted.taken seconds size shape) (λ (front : Front). front) h
    (reads_as (front_behind spot old.counted.taken seconds size shape (take (front_size shape + 2) octets))
    (λ rest. told_front spot seconds size shape octets family time asn old.counted.taken now.counted.taken rest four is room at_time at_asn)
    (reads_gives (λ (front : Front). front) (front_of time asn family))))

-- what stands behind the front of a body
pub body_reads : {T : Type 0} {told : Bool} {old now new : Moment} {tells : T → Option Spoken} {result : Result T (Fault DumpReason)}
    (peers : List Peer) (moment later front_end : ℕ) (head : Head) (shape : RecordShape) (front : Front)
    → head.shape ≡ Some shape → later ≡ max moment front.time → front_end ≡ ends_size shape front.family
    → Reads told old now (front_in head.spot head.seconds head.size shape) Cut (λ (f : Front). f) (Ok front)
    → Reads told now new (addressed_in peers later (head.size - front_end) shape front.family) Cut tells result
    → Reads told old new (body_in peers moment head.spot head.seconds head.size head.shape) Cut tells result
body_reads {old = old} {now = now} {tells = tells} peers moment later front_end head shape front is at_moment ends first more =
    reads_as (body_in peers moment head.spot head.seconds head.size head.shape)
    (λ octets. ap (λ s. body_in peers moment head.spot head.seconds head.size s old.counted.taken octets) (sym is))
    (reads_then (ends_in peers moment head.size shape) tells first
    (reads_as (ends_in peers moment head.size shape front)
    (λ octets i. addressed_in peers (at_moment i) (head.size - ends i) shape front.family now.counted.taken octets) more))
