-- The first block of a capture, octets of which may have been put back.
use Rattle.fs_pcapng.proofs.Words.{◌≡◌, inl, inr, ℕ, List, [], ◌++◌, Bool, true, false, Some, None, Result, Ok, Err, IsTrue, ◌<◌, ◌≤◌, ◌==◌}
use Rattle.fs_pcapng.proofs.Words.{◌&&◌, not, length, take, refl, ap, sym, ◌∙◌, subst, arith, if◌then◌else◌, nat_le, unwrap_or, nat_tests, at_limit}
use Rattle.fs_pcapng.proofs.Words.{window, End, bad, done, limited, Fault, Read, Limit, Bad, only_told, Moment, Fails}
use Rattle.fs_pcapng.proofs.Words.{HasMore, Reads, again, ahead, end_of, ends_by, whole, and, and_then, field, gives, got, partial, gives_for, reads_as}
use Rattle.fs_pcapng.proofs.Words.{reads_ends, reads_then, big_number, Endian, Packet, Stands, block_in, kind_behind, opened, section_in, nothing}
use Rattle.fs_pcapng.proofs.Words.{packets_to_come, pcapng_of}
use Rattle.fs_pcapng.proofs.Words.{NgReason, Cut}
use Rattle.fs_pcapng.proofs.{Bodies.{header_kind}, Spelled.{block_takes}}
use Rattle.fs_base.specs.Files.{LeavesOthers}
use Rattle.fs_input.proofs.{Advancing.{part_advances}, Again.{ahead_here, ahead_other, nothing_ahead, reads_ahead}, Coming.{end_comes}}
use Rattle.fs_input.specs.Opening.{Begins}

module _ (limit : ℕ) (content : List ℕ) where
  picks : (test : Bool) → (length (window limit 0 content) == 0) && not (at_limit limit 0 content) ≡ test
      → pcapng_of limit content ≡ (if test then ([], bad Cut 0) else packets_to_come limit 0 nothing content)
  picks test is = ap (λ t. if t then ([], bad Cut 0) else packets_to_come limit 0 nothing content) is

  judged : 0 < length (window limit 0 content) → pcapng_of limit content ≡ packets_to_come limit 0 nothing content
  judged some =
      let test : (length (window limit 0 content) == 0) ≡ false = let s = some in grind (arith, nat_tests) in
      picks false (λ i. test i && not (at_limit limit 0 content))

  empty : length (window limit 0 content) ≡ 0 → at_limit limit 0 content ≡ false
      → ends_by (block_in nothing) Cut limit 0 content ≡ Some (bad Cut 0)
  empty none free = λ i.
      end_of Cut (free i) 0 (none i)
      (and_then (kind_behind nothing 0) 0 (window limit 0 content)
      (if nat_le 4 (none i) then got (whole (take 4 (window limit 0 content))) 4 else partial))

  opens_ends : (end : End NgReason) → ends_by (block_in nothing) Cut limit 0 content ≡ Some end → pcapng_of limit content ≡ ([], end)
  opens_ends end h = by (length (window limit 0 content) == 0) refl (at_limit limit 0 content) refl
    where
      later : HasMore limit 0 content → packets_to_come limit 0 nothing content ≡ ([], end)
      later more = ap only_told (end_comes block_in Cut limit 0 nothing content end more h)

      by : (none : Bool) → (length (window limit 0 content) == 0) ≡ none → (reached : Bool) → at_limit limit 0 content ≡ reached
          → pcapng_of limit content ≡ ([], end)
      by true e true r = picks false (λ i. e i && not (r i)) ∙ later (inl r)
      by true e false r =
          let none : length (window limit 0 content) ≡ 0 = let s = e in grind (arith, nat_tests) in
          picks true (λ i. e i && not (r i)) ∙ ap (λ o. ([], unwrap_or o done)) (sym (empty none r) ∙ h)
      by false e reached r =
          let some : 0 < length (window limit 0 content) = let s = e in grind (arith, nat_tests) in
          picks false (λ i. e i && not (at_limit limit 0 content)) ∙ later (inr some)

  fails_to_open : {T : Type 0} (coming : T → List Packet × End NgReason) (fault : Fault NgReason)
      → Fails (ends_by (block_in nothing) Cut limit 0 content) fault → Begins (pcapng_of limit content) coming (Err fault)
  fails_to_open coming Read h = tt
  fails_to_open coming Limit h = opens_ends limited h
  fails_to_open coming (Bad reason place) h = opens_ends (bad reason place) h

module _ {told : Bool} (old new : Moment) {now : Stands} {T : Type 0} where
  -- the first block was read, and gave no packet
  pub opens : {answer : T} → old.counted.taken ≡ 0 → new.counted.back ≡ [] → IsTrue told
      → Reads told (again old) (again new) (block_in nothing) Cut (λ (_ : T). (None, now)) (Ok answer)
      → pcapng_of old.counted.limit (old.counted.back ++ old.left old.counted.slot)
      ≡ packets_to_come new.counted.limit new.counted.taken now (new.left old.counted.slot)
  opens {answer = answer} start none tells_so h =
      let content = ahead old.counted old.left old.counted.slot in
      let took = h.scanned tells_so in
      let held = block_takes nothing old.counted.taken (window old.counted.limit old.counted.taken content) _ took.count took.is in
      let one : 1 ≤ took.count = held.0 in
      let some : 0 < length (window old.counted.limit old.counted.taken content) = omega (arith, one, held.1) in
      let behind : ahead new.counted new.left new.counted.slot ≡ new.left old.counted.slot = λ i. nothing_ahead new.counted new.left none i (h.passes.slot i) in
      ap (λ l. pcapng_of old.counted.limit l) (sym (ahead_here old.counted old.left))
      ∙ judged old.counted.limit content (subst (λ n. 0 < length (window old.counted.limit n content)) start some)
      ∙ ap (λ n. packets_to_come old.counted.limit n nothing content) (sym start)
      ∙ ap only_told (part_advances block_in block_takes Cut nothing tells_so h)
      ∙ ap (λ l. packets_to_come new.counted.limit new.counted.taken now l) behind

  -- the first block could not be read
  pub opens_not : {U : Type 0} {fault : Fault NgReason} (coming : U → List Packet × End NgReason) → old.counted.taken ≡ 0 → IsTrue told
      → Reads told (again old) (again new) (block_in nothing) Cut (λ (_ : T). (None, now)) (Err fault)
      → Begins (pcapng_of old.counted.limit (old.counted.back ++ old.left old.counted.slot)) coming (Err fault)
  opens_not {fault = fault} coming start tells_so h =
      fails_to_open old.counted.limit (old.counted.back ++ old.left old.counted.slot) coming fault
      (subst (λ n. Fails (ends_by (block_in nothing) Cut old.counted.limit n (old.counted.back ++ old.left old.counted.slot)) fault) start
      (subst (λ l. Fails (ends_by (block_in nothing) Cut old.counted.limit old.counted.taken l) fault) (ahead_here old.counted old.left) (h.scanned tells_so)))

  pub opens_others : {result : Result T (Fault NgReason)} → IsTrue told
      → Reads told (again old) (again new) (block_in nothing) Cut (λ (_ : T). (None, now)) result
      → LeavesOthers old.counted.slot old.left new.left old.holds new.holds
  opens_others tells_so h = record {
    others = λ other apart.
        sym (ahead_other new.counted new.left other (λ e. apart (e ∙ h.passes.slot))) ∙ (h.passes.others tells_so).others other apart
        ∙ ahead_other old.counted old.left other apart;
    names = (h.passes.others tells_so).names;
  }

module _ {T U : Type 0} {told : Bool} (old now new : Moment) {answer : T} (later : Stands) (kind : List ℕ)
    (start : old.counted.taken ≡ 0) (is : big_number 4 kind ≡ 0x0a0d0d0a) where
  pub opening_reads : {order : Endian} {last : U} → later ≡ opened order 0 → now.counted.back ≡ [] → new.counted.back ≡ []
      → Reads told (again old) (again now) (field 4 whole) Cut (λ (_ : T). kind) (Ok answer)
      → Reads told now new (section_in 0) Cut (λ (o : Endian). o) (Ok order)
      → Reads told (again old) (again new) (block_in nothing) Cut (λ (_ : U). (None, later)) (Ok last)
  opening_reads {order = order} {last = last} same none none' first second =
      reads_as (block_in nothing) (λ octets. ap (λ n. and (field 4 whole) (kind_behind nothing n) old.counted.taken octets) (sym start))
      (reads_then (kind_behind nothing 0) (λ (_ : U). (None, later)) first
      (reads_as (kind_behind nothing 0 kind) (header_kind nothing 0 kind is now.counted.taken)
      (reads_then (λ order. gives (None, opened order 0)) (λ (_ : U). (None, later)) (reads_ahead now new none none' second)
      (gives_for (None, opened order 0) (λ (_ : U). (None, later)) last (ap (λ s. (None, s)) (sym same))))))

  pub opening_fails : {fault : Fault NgReason} → now.counted.back ≡ [] → new.counted.back ≡ []
      → Reads told (again old) (again now) (field 4 whole) Cut (λ (_ : T). kind) (Ok answer)
      → Reads told now new (section_in 0) Cut (λ (o : Endian). o) (Err fault)
      → Reads told (again old) (again new) (block_in nothing) Cut (λ (_ : U). (None, later)) (Err fault)
  opening_fails none none' first second =
      reads_as (block_in nothing) (λ octets. ap (λ n. and (field 4 whole) (kind_behind nothing n) old.counted.taken octets) (sym start))
      (reads_then (kind_behind nothing 0) (λ (_ : U). (None, later)) first
      (reads_as (kind_behind nothing 0 kind) (header_kind nothing 0 kind is now.counted.taken)
      (reads_ends (λ order. gives (None, opened order 0)) (λ (_ : U). (None, later)) (reads_ahead now new none none' second))))
