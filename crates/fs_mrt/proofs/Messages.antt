-- A message whose header and rest were taken is one, where no change of state stands.
use Rattle.fs_mrt.proofs.Words.{◌≡◌, ℕ, List, ◌++◌, Bool, true, false, Result, Ok, Err, ◌≤◌, ◌+◌, ◌-◌, ◌==◌, length, take, drop, refl, ap}
use Rattle.fs_mrt.proofs.Words.{sym, ◌∙◌, arith, nat_le, drop-take, length-drop, take_all, nat_tests, big_number, big_from-take, Fault, Moment}
use Rattle.fs_mrt.proofs.Words.{Reads, whole, Scanner, and, field, gives, gives_for, reads_as, reads_ends, reads_then, said_from, Said}
use Rattle.fs_mrt.proofs.Words.{message, message_behind, message_in, said_in, DumpReason, Cut}
use Rattle.fs_mrt.specs.declared.{fault.DumpReason.TheVariants.{Message as WrongMessage}, heard.What.{What, TheVariants.{Message}}}
use Rattle.std.proofs.Math.Seq.{take-add}
use Rattle.fs_input.proofs.Joining.{needs_true}

header_size : (size : ℕ) (octets : List ℕ) → big_number 2 (drop 16 octets) ≡ size → (big_number 2 (drop 16 (take 18 octets)) == size) ≡ true
header_size size octets told =
    let part : big_number 2 (drop 16 (take 18 octets)) ≡ big_number 2 (drop 16 octets) =
    ap (λ (l : List ℕ). big_number 2 l) (drop-take 16 2 octets) ∙ big_from-take 0 2 2 (drop 16 octets) (omega arith) in
    let same : big_number 2 (drop 16 (take 18 octets)) ≡ size = part ∙ told in
    rw same (let t : (size == size) ≡ true = grind (arith, nat_tests) in t)

joined : (size : ℕ) (one other : List ℕ) → 19 ≤ size → take 18 other ≡ take 18 one
    → take 18 one ++ take (size - 18) (drop 18 other) ≡ take size other
joined size one other some same =
    ap (λ front. front ++ take (size - 18) (drop 18 other)) (sym same) ∙ sym (take-add 18 (size - 18) other)
    ∙ ap (λ n. take n other) (let n : 18 + (size - 18) ≡ size = omega (arith, some) in n)

passed : (size : ℕ) → 19 ≤ size → (place : ℕ) (octets : List ℕ)
    → and (field 18 whole) (message_behind size place) place octets ≡ message_in size place octets
passed size some place octets = let test : nat_le 19 size ≡ true = let s = some in grind (arith, nat_tests) in rw test refl

-- a number that is read of what stands behind the first octets
pub behind_first : (n : ℕ) (octets : List ℕ) → take (length octets - n) (drop n octets) ≡ drop n octets
behind_first n octets = take_all (length octets - n) (drop n octets) (let l = length-drop n octets in omega arith)

-- what stands behind the header, of which these are the first octets
abbrev rest_in : (size : ℕ) → List ℕ → Scanner Said DumpReason
rest_in size front = and (field (size - 18) whole) (λ rest. gives (message (front ++ rest)))

module _ {T : Type 0} {told : Bool} {old now new : Moment} {answer : T} {change : Bool} (plain : change ≡ false) (size : ℕ)
    (one two : List ℕ) (some : 19 ≤ size)
    (says : big_number 2 (drop 16 one) ≡ size)
    (first : Reads told old now (field 18 whole) Cut (λ (_ : T). take 18 one) (Ok answer)) where
  behind_header : {result : Result What (Fault DumpReason)}
      → Reads told now new (rest_in size (take 18 one)) Cut (λ what. said_from what two) result
      → Reads told old new (said_in change size) Cut (λ what. said_from what two) result
  behind_header more =
      reads_as (said_in change size) (λ octets. passed size some old.counted.taken octets
      ∙ ap (λ b. said_in b size old.counted.taken octets) (sym plain))
      (reads_then (message_behind size old.counted.taken) (λ what. said_from what two) first
      (reads_as (message_behind size old.counted.taken (take 18 one))
      (needs_true (big_number 2 (drop 16 (take 18 one)) == size) WrongMessage old.counted.taken (rest_in size (take 18 one))
      (header_size size one says) now.counted.taken) more))

  pub message_ends : {U : Type 0} {fault : Fault DumpReason}
      → Reads told now new (field (size - 18) whole) Cut (λ (_ : U). take (size - 18) (drop 18 two)) (Err fault)
      → Reads told old new (said_in change size) Cut (λ what. said_from what two) (Err fault)
  message_ends second = behind_header (reads_ends (λ rest. gives (message (take 18 one ++ rest))) (λ what. said_from what two) second)

  pub message_reads : {U : Type 0} {last : U} → take 18 two ≡ take 18 one
      → Reads told now new (field (size - 18) whole) Cut (λ (_ : U). take (size - 18) (drop 18 two)) (Ok last)
      → Reads told old new (said_in change size) Cut (λ what. said_from what two) (Ok (Message size))
  message_reads same second =
      behind_header
      (reads_then (λ rest. gives (message (take 18 one ++ rest))) (λ what. said_from what two) second
      (gives_for (message (take 18 one ++ take (size - 18) (drop 18 two))) (λ what. said_from what two) (Message size)
      (ap message (joined size one two some same))))
