-- Calls that read fields one behind the other read the chain.
use Rattle.fs_input.proofs.Words.{◌≡◌, ℕ, List, Bool, true, Result, Ok, Err, length, refl, ap, sym, subst, arith, Rose, at_limit, window}
use Rattle.fs_input.proofs.Words.{Fault, Read, Bad, Scanner, and, fails, field, gives, Fails, Moment, Reads, Scanned, Starts, Took, end_of, whole}
use Rattle.fs_input.proofs.Words.{passes_none}
use Rattle.fs_input.proofs.{Joining.{fails_first}, Stages.{going_more, going_start, going_then}}

-- a chain that says the same of the octets that are left
scanned_as : {T A R : Type 0} (one other : Scanner A R) (cut : R) (old new : Moment) (tells : T → A) (result : Result T (Fault R))
    → ((octets : List ℕ) → one old.counted.taken octets ≡ other old.counted.taken octets)
    → Scanned one cut old.counted.limit old.counted.taken new.counted.taken (old.left old.counted.slot) (new.left old.counted.slot) tells result
    → Scanned other cut old.counted.limit old.counted.taken new.counted.taken (old.left old.counted.slot) (new.left old.counted.slot) tells result
scanned_as one other cut old new tells (Ok answer) same h =
    let now = old.counted in
    let octets = window now.limit now.taken (old.left now.slot) in
    subst (λ scan. Took scan (length octets) now.taken new.counted.taken (old.left now.slot) (new.left now.slot) (tells answer)) (same octets) h
scanned_as one other cut old new tells (Err fault) same h =
    let now = old.counted in
    let octets = window now.limit now.taken (old.left now.slot) in
    subst (λ scan. Fails (end_of cut (at_limit now.limit now.taken (old.left now.slot)) now.taken (length octets) scan) fault) (same octets) h

module _ {told : Bool} {R : Type 0} {cut : R} where
  -- where the first field was read, and then the next
  pub reads_then : {T U A B : Type 0} {first : Scanner A R} {tells : T → A} {old now new : Moment} {answer : T} {result : Result U (Fault R)}
      (next : A → Scanner B R) (tells2 : U → B)
      → Reads told old now first cut tells (Ok answer) → Reads told now new (next (tells answer)) cut tells2 result
      → Reads told old new (and first next) cut tells2 result
  reads_then {first = first} next tells2 one more = going_then (going_more next (going_start (and first next)) one) more

  -- where the first field could not be read
  pub reads_ends : {T U A B : Type 0} {first : Scanner A R} {tells : T → A} {old new : Moment} {fault : Fault R}
      (next : A → Scanner B R) (tells2 : U → B)
      → Reads told old new first cut tells (Err fault) → Reads told old new (and first next) cut tells2 (Err fault)
  reads_ends {old = old} {fault = fault} next tells2 one = record {
    passes = one.passes;
    failed = one.failed;
    scanned = λ tells_so.
        let now = old.counted in
        fails_first next now.taken (window now.limit now.taken (old.left now.slot)) cut _ now.taken _ _ fault (one.scanned tells_so);
  }

  -- a value that takes no octets
  pub reads_gives : {T A : Type 0} {now : Moment} (tells : T → A) (answer : T) → Reads told now now (gives (tells answer)) cut tells (Ok answer)
  reads_gives tells answer = record {
    passes = passes_none;
    failed = tt;
    scanned = λ tells_so. record { count = 0; is = refl; within = (omega arith); taken_is = (omega arith); left_is = refl };
  }

  -- a fault
  pub reads_fails : {T A : Type 0} {now : Moment} (tells : T → A) (reason : R) (place : ℕ)
      → Reads told now now (fails {A = A} reason place) cut tells (Err (Bad reason place))
  reads_fails tells reason place = record {
    passes = passes_none;
    failed = never;
    scanned = λ tells_so. refl;
  } where
    never : {late : ℕ} → ◌≡◌ {A = Fault R} (Bad reason place) Read → Rose late late
    never e = absurd cc

  pub reads_as : {T A : Type 0} {one : Scanner A R} {tells : T → A} {old new : Moment} {result : Result T (Fault R)} (other : Scanner A R)
      → ((octets : List ℕ) → one old.counted.taken octets ≡ other old.counted.taken octets)
      → Reads told old new one cut tells result → Reads told old new other cut tells result
  reads_as {one = one} {tells = tells} {old = old} {new = new} {result = result} other same h = record {
    passes = h.passes;
    failed = h.failed;
    scanned = λ tells_so. scanned_as one other cut old new tells result same (h.scanned tells_so);
  }

  -- what an answer tells of a value that takes no octets
  pub gives_for : {T A : Type 0} {now : Moment} (value : A) (tells : T → A) (answer : T) → value ≡ tells answer
      → Reads told now now (gives value) cut tells (Ok answer)
  gives_for {now = now} value tells answer e =
      reads_as (gives value) (λ octets. ap (λ v. gives v now.counted.taken octets) (sym e)) (reads_gives tells answer)

module _ {told : Bool} {R : Type 0} {old new : Moment} {into : List ℕ} where
  -- the first field of a part, where it was taken
  pub starts_reads : {cut : R} {size : ℕ} → Starts told old new size cut into (Ok true)
      → Reads told old new (field size whole) cut (λ (_ : Bool). into) (Ok true)
  starts_reads h = record { passes = h.passes; failed = tt; scanned = h.started }

  -- the same, where the fault of the format, the size and the answer are known by equations
  pub starts_as : {cut other : R} {result result' : Result Bool (Fault R)} (size : ℕ) → cut ≡ other → length into ≡ size → result ≡ result'
      → Starts told old new (length into) cut into result → Starts told old new size other into result'
  starts_as {cut = cut} {other = other} {result = result} size same sized answered h =
      subst (λ r. Starts told old new size other into r) answered
      (subst (λ n. Starts told old new n other into result) sized (subst (λ c. Starts told old new (length into) c into result) same h))

  pub starts_true : {cut other : R} {found : Bool} (size : ℕ) → Starts told old new (length into) cut into (Ok found)
      → cut ≡ other → length into ≡ size → found ≡ true → Starts told old new size other into (Ok true)
  starts_true size h same sized is = starts_as size same sized (ap Ok is) h
