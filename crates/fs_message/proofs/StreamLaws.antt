-- A message and a fault at the front of a stream stay what they are, whatever follows. So a stream that
-- comes in pieces has the messages, and the fault, of the whole.
use Rattle.fs_message.proofs.Words.{◌≡◌, ℕ, ◌+◌, ◌-◌, ◌<◌, ◌≤◌, Bool, true, false, not, ◌||◌, ◌==◌, nat_lt, List, ◌++◌, length, take, drop, Option}
use Rattle.fs_message.proofs.Words.{Some, None, refl, sym, ap, ◌∙◌, subst, inl, inr, arith, if◌then◌else◌, list_any, length-drop, length-append}
use Rattle.fs_message.proofs.Words.{take-append-le, drop-append-le, take_all, cases_lt, lt-ltb, le-ltb, nat_tests, list_any-append, take-append-add}
use Rattle.fs_message.proofs.Words.{big_number, big_from-append, Shrinks, Stable, MessageFault, Message, message_of, wrong_at, size_of, has_message}
use Rattle.fs_message.proofs.Words.{first_message, fault, marker_wrong, size_wrong, kind_wrong, kind_at, allows, header_fault, size_at}
use Rattle.fs_message.proofs.BegunMessages.{chain, has, has_all, header_sound}
use Rattle.std.proofs.lemmas.Option.{cond_some}

pub has_tells : (wrong : Option MessageFault) (count size : ℕ) → has wrong count size ≡ true → (wrong ≡ None) × (19 ≤ count) × (size ≤ count)
has_tells (Some f) count size h = cc
has_tells None count size h = (refl, grind (arith, nat_tests), grind (arith, nat_tests))

-- The message at the front, with what its header says.
pub record IsFirst (octets : List ℕ) (found : Message × List ℕ) : Type 0 where
  pub sound : wrong_at octets ≡ None
  pub headed : 19 ≤ length octets
  pub sized : size_of octets ≤ length octets
  pub low : 19 ≤ size_of octets
  pub message : found.0 ≡ message_of (take (size_of octets) octets)
  pub behind : found.1 ≡ drop (size_of octets) octets

pub is_first : (octets : List ℕ) (found : Message × List ℕ) → first_message octets ≡ Some found → IsFirst octets found
is_first octets found h =
    let c = cond_some (has_message octets) (message_of (take (size_of octets) octets), drop (size_of octets) octets) found h in
    let t = has_tells (wrong_at octets) (length octets) (size_of octets) c.0 in
    record {
      sound = t.0;
      headed = t.1;
      sized = t.2;
      low = (header_sound octets t.0 t.1).0;
      message = sym (ap (λ (z : Message × List ℕ). z.0) c.1);
      behind = sym (ap (λ (z : Message × List ℕ). z.1) c.1);
    }

pub message_shrinks : Shrinks first_message
message_shrinks octets found h =
    let f = is_first octets found h in
    omega (arith, f.low, f.headed, ap (λ (z : List ℕ). length z) f.behind, length-drop (size_of octets) octets)

pub message_stable : Stable first_message
message_stable octets more found h =
    let f = is_first octets found h in
    let same : take 19 (octets ++ more) ≡ take 19 octets = take-append-le 19 octets more f.headed in
    let size : size_of (octets ++ more) ≡ size_of octets = ap (λ (z : List ℕ). size_at z) same in
    let long : length (octets ++ more) ≡ length octets + length more = length-append octets more in
    let all : has_message (octets ++ more) ≡ true =
    has_all (wrong_at (octets ++ more)) (length (octets ++ more)) (size_of (octets ++ more)) (ap (λ (z : List ℕ). header_fault z) same ∙ f.sound)
    (omega (arith, long, f.headed)) (omega (arith, long, size, f.sized)) in
    let front : take (size_of (octets ++ more)) (octets ++ more) ≡ take (size_of octets) octets =
    ap (λ (n : ℕ). take n (octets ++ more)) size ∙ take-append-le (size_of octets) octets more f.sized in
    let behind : drop (size_of (octets ++ more)) (octets ++ more) ≡ found.1 ++ more =
    ap (λ (n : ℕ). drop n (octets ++ more)) size ∙ drop-append-le (size_of octets) octets more f.sized ∙ ap (λ (z : List ℕ). z ++ more) (sym f.behind) in
    let Pair : Type 0 = Message × List ℕ in
    let pair : Message → List ℕ → Pair = λ m r. (m, r) in
    ap (λ (t : Bool). if t then Some
    (pair (message_of (take (size_of (octets ++ more)) (octets ++ more))) (drop (size_of (octets ++ more)) (octets ++ more))) else None) all
    ∙ ap (λ (z : List ℕ). Some (pair (message_of z) (drop (size_of (octets ++ more)) (octets ++ more)))) front
    ∙ ap (λ (z : List ℕ). Some (pair (message_of (take (size_of octets) octets)) z)) behind
    ∙ ap (λ (z : Message). Some (pair z (found.1 ++ more))) (sym f.message)

marks_stay : (xs ys : List ℕ) → marker_wrong xs ≡ true → marker_wrong (xs ++ ys) ≡ true
marks_stay xs ys h = elim (cases_lt (length xs) 16) [
  | inr long ↦ ap (λ (z : List ℕ). list_any (λ octet. not (octet == 255)) z) (take-append-le 16 xs ys long) ∙ h
  | inl short ↦
      let all : take 16 xs ≡ xs = take_all 16 xs (omega arith) in
      let at : length xs + (16 - length xs) ≡ 16 = omega arith in
      let joined : take 16 (xs ++ ys) ≡ xs ++ take (16 - length xs) ys =
      subst (λ (n : ℕ). take n (xs ++ ys) ≡ xs ++ take (16 - length xs) ys) at (take-append-add xs ys (16 - length xs)) in
      let here : list_any (λ octet. not (octet == 255)) xs ≡ true = subst (λ (z : List ℕ). list_any (λ octet. not (octet == 255)) z ≡ true) all h in
      ap (λ (z : List ℕ). list_any (λ octet. not (octet == 255)) z) joined ∙ list_any-append (λ octet. not (octet == 255)) xs (take (16 - length xs) ys)
      ∙ ap (λ (b : Bool). b || list_any (λ octet. not (octet == 255)) (take (16 - length xs) ys)) here
]

-- the only fault of less than 18 octets
short_marked : (marks short size short' kind allowed : Bool) (f : MessageFault) → short ≡ true → chain marks short size short' kind allowed ≡ Some f
    → (marks ≡ true) × (Some (fault 1 1) ≡ Some f)
short_marked true short size short' kind allowed f e h = (refl, h)
short_marked false true size short' kind allowed f e h = cc
short_marked false false size short' kind allowed f e h = cc

still_marked : (marks short size short' kind allowed : Bool) (f : MessageFault) → marks ≡ true → Some (fault 1 1) ≡ Some f
    → chain marks short size short' kind allowed ≡ Some f
still_marked true short size short' kind allowed f e h = h
still_marked false short size short' kind allowed f e h = cc

-- the only faults of 18 octets
sized_fault : (marks short size short' kind allowed : Bool) (f : MessageFault) → short' ≡ true → chain marks short size short' kind allowed ≡ Some f
    → (short₂ kind₂ allowed₂ : Bool) → chain marks false size short₂ kind₂ allowed₂ ≡ Some f
sized_fault true short size short' kind allowed f e h short₂ kind₂ allowed₂ = h
sized_fault false true size short' kind allowed f e h short₂ kind₂ allowed₂ = cc
sized_fault false false true short' kind allowed f e h short₂ kind₂ allowed₂ = h
sized_fault false false false true kind allowed f e h short₂ kind₂ allowed₂ = cc
sized_fault false false false false kind allowed f e h short₂ kind₂ allowed₂ = cc

abbrev chain_of : List ℕ → Bool → Bool → Bool → Option MessageFault
chain_of header marks short size =
    chain marks short size (nat_lt (length header) 19) (kind_wrong (kind_at header)) (allows (kind_at header) (size_at header))

-- a header's fault, of a header that isn't whole, whatever follows
header_stays : (xs ys : List ℕ) (f : MessageFault) → length xs < 19 → header_fault xs ≡ Some f → header_fault (xs ++ ys) ≡ Some f
header_stays xs ys f short h = elim (cases_lt (length xs) 18) [
  | inl less ↦
      let marked = short_marked (marker_wrong xs) (nat_lt (length xs) 18) (size_wrong (size_at xs)) (nat_lt (length xs) 19)
      (kind_wrong (kind_at xs)) (allows (kind_at xs) (size_at xs)) f (lt-ltb (length xs) 18 less) h in
      still_marked (marker_wrong (xs ++ ys)) (nat_lt (length (xs ++ ys)) 18) (size_wrong (size_at (xs ++ ys))) (nat_lt (length (xs ++ ys)) 19)
      (kind_wrong (kind_at (xs ++ ys))) (allows (kind_at (xs ++ ys)) (size_at (xs ++ ys))) f (marks_stay xs ys marked.0) marked.1
  | inr sized ↦
      let found = sized_fault (marker_wrong xs) (nat_lt (length xs) 18) (size_wrong (size_at xs)) (nat_lt (length xs) 19)
      (kind_wrong (kind_at xs)) (allows (kind_at xs) (size_at xs)) f (lt-ltb (length xs) 19 short) h
      (nat_lt (length (xs ++ ys)) 19) (kind_wrong (kind_at (xs ++ ys))) (allows (kind_at (xs ++ ys)) (size_at (xs ++ ys))) in
      let marks : marker_wrong (xs ++ ys) ≡ marker_wrong xs =
      ap (λ (z : List ℕ). list_any (λ octet. not (octet == 255)) z) (take-append-le 16 xs ys (omega arith)) in
      let part : drop 16 (xs ++ ys) ≡ drop 16 xs ++ ys = drop-append-le 16 xs ys (omega arith) in
      let read : big_number 2 (drop 16 xs ++ ys) ≡ big_number 2 (drop 16 xs) = big_from-append 2 (drop 16 xs) ys (omega (arith, length-drop 16 xs)) in
      let size : size_at (xs ++ ys) ≡ size_at xs = ap (λ (z : List ℕ). big_number 2 z) part ∙ read in
      let long : nat_lt (length (xs ++ ys)) 18 ≡ false = le-ltb (length (xs ++ ys)) 18 (omega (arith, length-append xs ys)) in
      ap (λ (m : Bool). chain_of (xs ++ ys) m (nat_lt (length (xs ++ ys)) 18) (size_wrong (size_at (xs ++ ys)))) marks
      ∙ ap (λ (m : Bool). chain_of (xs ++ ys) (marker_wrong xs) m (size_wrong (size_at (xs ++ ys)))) long
      ∙ ap (λ (n : ℕ). chain_of (xs ++ ys) (marker_wrong xs) false (size_wrong n)) size
      ∙ found
]

pub fault_stays : (octets more : List ℕ) (f : MessageFault) → wrong_at octets ≡ Some f → wrong_at (octets ++ more) ≡ Some f
fault_stays octets more f h = elim (cases_lt (length octets) 19) [
  | inr long ↦ ap (λ (z : List ℕ). header_fault z) (take-append-le 19 octets more long) ∙ h
  | inl short ↦
      let all : take 19 octets ≡ octets = take_all 19 octets (omega arith) in
      let at : length octets + (19 - length octets) ≡ 19 = omega arith in
      let joined : take 19 (octets ++ more) ≡ octets ++ take (19 - length octets) more =
      subst (λ (n : ℕ). take n (octets ++ more) ≡ octets ++ take (19 - length octets) more) at (take-append-add octets more (19 - length octets)) in
      let here : header_fault octets ≡ Some f = subst (λ (z : List ℕ). header_fault z ≡ Some f) all h in
      ap (λ (z : List ℕ). header_fault z) joined ∙ header_stays octets (take (19 - length octets) more) f short here
]
