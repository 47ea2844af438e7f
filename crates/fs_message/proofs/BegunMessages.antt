-- How the octets of a message begun and a piece behind them join.
use Rattle.fs_message.proofs.Words.{◌≡◌, ℕ, ◌+◌, ◌-◌, ◌<◌, ◌≤◌, min, Bool, true, false, not, ◌&&◌, nat_le, nat_lt, get_or, List, ◌++◌, length, take}
use Rattle.fs_message.proofs.Words.{drop, Option, Some, None, Ok, refl, sym, ap, ◌∙◌, subst, inl, inr, arith, if◌then◌else◌, IsTrue, length-take}
use Rattle.fs_message.proofs.Words.{length-drop, length-append, take-append-le, take-take, take_all, take_min, take_rest, append_assoc, drop-take}
use Rattle.fs_message.proofs.Words.{get_or-take, cases_lt, leb-true, nat_tests, take-add, take-append-add, drop-append-add, big_number, big_from-take}
use Rattle.fs_message.proofs.Words.{MessageFault, Message, message_of, wrong_at, size_of, has_message, first_message, fault, marker_wrong, size_wrong}
use Rattle.fs_message.proofs.Words.{kind_wrong, kind_at, allows, header_fault, size_at}
use Rattle.fs_message.specs.Deframer.{IsBegun, IsWhole, IsFraming, Feeds}
use Rattle.std.specs.Option.{is_none}

-- the test for a whole message, over its three parts
abbrev pub has : Option MessageFault → ℕ → ℕ → Bool
has wrong count size = is_none wrong && (nat_le 19 count && nat_le size count)

has_not : (wrong : Option MessageFault) (count size : ℕ) → (19 ≤ count → count < size) → has wrong count size ≡ false
has_not (Some fault) count size h = refl
has_not None count size h = grind (arith, nat_tests)

pub has_all : (wrong : Option MessageFault) (count size : ℕ) → wrong ≡ None → 19 ≤ count → size ≤ count → has wrong count size ≡ true
has_all (Some fault) count size e l h = cc
has_all None count size e l h = grind (arith, nat_tests)

has_short : (count size : ℕ) → has None count size ≡ false → 19 ≤ count → count < size
has_short count size h l = grind (arith, nat_tests)

take_both : (m n : ℕ) (xs : List ℕ) → take (min m n) xs ≡ take m (take n xs)
take_both m n xs = elim (cases_lt n m) [
  | inl less ↦
      let low : min m n ≡ n = omega arith in
      ap (λ (z : ℕ). take z xs) low ∙ sym (take_all m (take n xs) (omega (arith, length-take n xs)))
  | inr more ↦
      let low : min m n ≡ m = omega arith in
      ap (λ (z : ℕ). take z xs) low ∙ sym (take-take m n xs more)
]

-- as far as a goal, a piece behind some octets is its first octets
take_goal : (goal : ℕ) (xs ys : List ℕ) (n : ℕ) → n ≡ min (goal - length xs) (length ys) → take goal (xs ++ take n ys) ≡ take goal (xs ++ ys)
take_goal goal xs ys n e = elim (cases_lt goal (length xs)) [
  | inl less ↦ take-append-le goal xs (take n ys) (omega arith) ∙ sym (take-append-le goal xs ys (omega arith))
  | inr more ↦
      let k : ℕ = goal - length xs in
      let at : length xs + (goal - length xs) ≡ goal = omega arith in
      let left : take (length xs + k) (xs ++ take n ys) ≡ xs ++ take k (take n ys) = take-append-add xs (take n ys) k in
      let right : take (length xs + k) (xs ++ ys) ≡ xs ++ take k ys = take-append-add xs ys k in
      let same : take k (take n ys) ≡ take k ys =
      rw e (ap (λ (z : List ℕ). take k z) (take_min k ys) ∙ take-take k k ys (omega arith)) in
      subst (λ (g : ℕ). take g (xs ++ take n ys) ≡ take g (xs ++ ys)) at (left ∙ ap (λ (z : List ℕ). xs ++ z) same ∙ sym right)
]

-- The header is taken: the octets begun, then those of the piece that the header lacks.
pub record Headed (begun piece next : List ℕ) (count : ℕ) : Type 0 where
  pub begun_is : IsBegun begun
  pub count_is : count ≡ min (19 - length begun) (length piece)
  pub next_is : next ≡ begun ++ take count piece

module _ (begun piece next : List ℕ) (count : ℕ) (h : Headed begun piece next count) where
  header_same : take 19 next ≡ take 19 (begun ++ piece)
  header_same = ap (λ (z : List ℕ). take 19 z) h.next_is ∙ take_goal 19 begun piece count h.count_is

  next_length : (length next ≡ length begun + count) × (count ≤ length piece)
  next_length =
      let counted : count ≤ length piece = omega (arith, h.count_is) in (
        ap (λ (z : List ℕ). length z) h.next_is ∙ length-append begun (take count piece)
            ∙ ap (λ (z : ℕ). length begun + z) (omega (arith, length-take count piece)),
        counted,
      )

  -- less than a header: the whole piece is taken
  pub short_feeds : length next < 19 → wrong_at (begun ++ piece) ≡ None → Feeds begun piece next (Ok (count, false))
  short_feeds short sound =
      let all : count ≡ length piece = omega (arith, next_length.0, h.count_is) in
      let joined : next ≡ begun ++ piece = h.next_is ∙ ap (λ (z : List ℕ). begun ++ z) (take_all count piece (omega (arith, all))) in
      let size : length next ≡ length (begun ++ piece) = ap (λ (z : List ℕ). length z) joined in (
        all,
        joined,
        record {
          sound = sound;
          partial =
              has_not (wrong_at (begun ++ piece)) (length (begun ++ piece)) (size_of (begun ++ piece)) (λ l. absurd (omega (arith, size)));
        },
      )

-- The message's octets are taken too: after those of the header, those of the piece that its length asks for.
record Bodied (begun piece next last : List ℕ) (count more size : ℕ) : Type 0 where
  headed : Headed begun piece next count
  sound : wrong_at (begun ++ piece) ≡ None
  whole_header : 19 ≤ length next
  size_is : size ≡ size_of (begun ++ piece)
  low : 19 ≤ size
  more_is : more ≡ min (size - length next) (length piece - count)
  last_is : last ≡ next ++ take more (drop count piece)

-- What a call does with a piece that has no fault.
pub record Fed (begun piece last : List ℕ) (count : ℕ) (ends : Bool) : Type 0 where
  pub kept : IsFraming last ends None
  pub some : (count ≤ length piece) × (0 < length piece → 0 < count)
  pub exact : Feeds begun piece last (Ok (count, ends))

abbrev found_at : List ℕ → List ℕ → Option (Message × List ℕ)
found_at octets behind = Some (message_of octets, behind)

module _ (begun piece next last : List ℕ) (count more size : ℕ) (b : Bodied begun piece next last count more size) where
  abbrev octets : List ℕ
  octets = begun ++ piece

  abbrev all : ℕ
  all = count + more

  lengths : (length next ≡ length begun + count) × (count ≤ length piece)
  lengths = next_length begun piece next count b.headed

  same : take 19 next ≡ take 19 octets
  same = header_same begun piece next count b.headed

  -- the octets begun were no whole message
  next_within : (length next ≤ size) × (19 ≤ length begun → length next < size)
  next_within = elim (cases_lt (length begun) 19) [
    | inl short ↦ (omega (arith, lengths.0, b.headed.count_is, b.low), λ l. absurd (omega arith))
    | inr long ↦
        let none : count ≡ 0 = omega (arith, b.headed.count_is) in
        let sized : size_of begun ≡ size = ap (λ (z : List ℕ). size_at z) (sym (take-append-le 19 begun piece long)) ∙ sym b.size_is in
        let below : length begun < size_of begun = has_short (length begun) (size_of begun)
        (subst (λ (z : Option MessageFault). has z (length begun) (size_of begun) ≡ false) b.headed.begun_is.sound b.headed.begun_is.partial) long in
        (omega (arith, lengths.0, none, below, sized), λ l. omega (arith, lengths.0, none, below, sized))
  ]

  joined : last ≡ begun ++ take all piece
  joined =
      b.last_is ∙ ap (λ (z : List ℕ). z ++ take more (drop count piece)) b.headed.next_is ∙ append_assoc begun (take count piece) (take more (drop count piece))
      ∙ ap (λ (z : List ℕ). begun ++ z) (sym (take-add count more piece))

  some : (all ≤ length piece) × (0 < length piece → 0 < all)
  some = (
    omega (arith, b.more_is, lengths.1),
    λ l. elim (cases_lt (length begun) 19) [
      | inl short ↦ omega (arith, b.headed.count_is)
      | inr long ↦ let below : length next < size = next_within.1 long in omega (arith, b.headed.count_is, b.more_is, lengths.1)
    ],
  )

  last_length : length last ≡ length begun + all
  last_length =
      ap (λ (z : List ℕ). length z) joined ∙ length-append begun (take all piece)
      ∙ ap (λ (z : ℕ). length begun + z) (omega (arith, length-take all piece, some.0))

  fed : (ends : Bool) → nat_le size (length last) ≡ ends → Fed begun piece last all ends
  fed false e =
      let short : length last < size = grind (arith, nat_tests) in
      let taken : all ≡ length piece = omega (arith, last_length, lengths.0, lengths.1, b.more_is) in
      let is : last ≡ octets = joined ∙ ap (λ (z : List ℕ). begun ++ z) (take_all all piece (omega (arith, taken))) in
      let below : length octets < size_of octets =
      subst (λ (z : ℕ). length octets < z) b.size_is (subst (λ (z : List ℕ). length z < size) is short) in
      let waits : IsBegun octets = record { sound = b.sound; partial = has_not (wrong_at octets) (length octets) (size_of octets) (λ _. below) } in
      record { kept = subst (λ (z : List ℕ). IsBegun z) (sym is) waits; some = some; exact = (taken, is, waits) }
  fed true e =
      let enough : size ≤ length last = leb-true size (length last) e in
      let exact : length begun + all ≡ size = omega (arith, last_length, lengths.0, b.more_is, next_within.0) in
      let total : length octets ≡ length begun + length piece = length-append begun piece in
      let front : take size octets ≡ last = subst (λ (z : ℕ). take z octets ≡ last) exact (take-append-add begun piece all ∙ sym joined) in
      let rest : drop size octets ≡ drop all piece = subst (λ (z : ℕ). drop z octets ≡ drop all piece) exact (drop-append-add begun piece all) in
      let stands : has_message octets ≡ true =
      has_all (wrong_at octets) (length octets) (size_of octets) b.sound (omega (arith, total, exact, b.low, some.0))
      (omega (arith, total, exact, b.size_is, some.0)) in
      let found : first_message octets ≡ found_at (take (size_of octets) octets) (drop (size_of octets) octets) =
      ap (λ (t : Bool). if t then found_at (take (size_of octets) octets) (drop (size_of octets) octets) else None) stands in
      let at_size : found_at (take size octets) (drop size octets) ≡ found_at last (drop all piece) =
      ap (λ (z : List ℕ). found_at z (drop size octets)) front ∙ ap (λ (z : List ℕ). found_at last z) rest in
      let header : take 19 last ≡ take 19 octets =
      ap (λ (z : List ℕ). take 19 z) b.last_is ∙ take-append-le 19 next (take more (drop count piece)) b.whole_header ∙ same in
      let sized : size_of last ≡ size = ap (λ (z : List ℕ). size_at z) header ∙ sym b.size_is in
      record {
        kept = (
          refl,
          record {
            sound = ap (λ (z : List ℕ). header_fault z) header ∙ b.sound;
            headed = omega (arith, b.low);
            sized = omega (arith, last_length, exact, sized);
          },
        );
        some = some;
        exact = (some.0, joined, found ∙ subst (λ (z : ℕ). found_at (take z octets) (drop z octets) ≡ found_at last (drop all piece)) b.size_is at_size);
      }

-- the field Length, read where the whole header stands
pub size_read : (held : List ℕ) (count : ℕ) → 19 ≤ count → big_number 2 (drop 16 held) ≡ size_at (take 19 (take count held))
size_read held count h =
    let whole : take 19 (take count held) ≡ take 19 held = take-take 19 count held h in
    let part : drop 16 (take (16 + 3) held) ≡ take 3 (drop 16 held) = drop-take 16 3 held in
    let same : big_number 2 (take 3 (drop 16 held)) ≡ big_number 2 (drop 16 held) = big_from-take 0 2 3 (drop 16 held) (omega arith) in
    sym (ap (λ (z : List ℕ). size_at z) whole ∙ ap (λ (z : List ℕ). big_number 2 z) part ∙ same)

-- the message in the first octets of a buffer
pub message_front : (held : List ℕ) (count : ℕ) → 19 ≤ count
    → (get_or held 18 0 ≡ get_or (take count held) 18 0) × (take (count - 19) (drop 19 held) ≡ drop 19 (take count held))
message_front held count h =
    let n : 19 + (count - 19) ≡ count = omega arith in (
      sym (get_or-take count held 18 0 (omega arith)),
      sym (subst (λ (z : ℕ). drop 19 (take z held) ≡ take (count - 19) (drop 19 held)) n (drop-take 19 (count - 19) held)),
    )

-- the tests of a header, over Bools
abbrev pub chain : Bool → Bool → Bool → Bool → Bool → Bool → Option MessageFault
chain marks short size short' kind allowed =
    if marks then Some (fault 1 1) else if short then None else if size then Some (fault 1 2) else if short' then None
    else if kind then Some (fault 1 3) else if not allowed then Some (fault 1 2) else None

chain_sound : (marks size kind allowed : Bool) → chain marks false size false kind allowed ≡ None → (size ≡ false) × IsTrue allowed
chain_sound true size kind allowed h = cc
chain_sound false true kind allowed h = cc
chain_sound false false true allowed h = cc
chain_sound false false false true h = (refl, refl)
chain_sound false false false false h = cc

-- a size that is no fault has a header's octets
low_size : (size : ℕ) → size_wrong size ≡ false → 19 ≤ size
low_size size h = grind (arith, nat_tests)

-- a whole header without a fault: its length is at least its own, and one that its type allows
pub header_sound : (octets : List ℕ) → wrong_at octets ≡ None → 19 ≤ length octets
    → (19 ≤ size_of octets) × IsTrue (allows (get_or octets 18 0) (size_of octets))
header_sound octets sound long =
    let header : List ℕ = take 19 octets in
    let size : length header ≡ 19 = omega (arith, length-take 19 octets) in
    let tests = chain_sound (marker_wrong header) (size_wrong (size_at header)) (kind_wrong (kind_at header)) (allows (kind_at header) (size_at header))
    (subst (λ (n : ℕ). chain (marker_wrong header) (nat_lt n 18) (size_wrong (size_at header)) (nat_lt n 19)
    (kind_wrong (kind_at header)) (allows (kind_at header) (size_at header)) ≡ None) size sound) in
    (low_size (size_at header) tests.0, subst (λ (k : ℕ). IsTrue (allows k (size_at header))) (get_or-take 19 octets 18 0 (omega arith)) tests.1)

pub message_allowed : (octets : List ℕ) → IsWhole octets → IsTrue (allows (get_or octets 18 0) (length octets))
message_allowed octets w = subst (λ (n : ℕ). IsTrue (allows (get_or octets 18 0) n)) (sym w.sized) (header_sound octets w.sound w.headed).1

-- what `append` did with the header
pub headed_of : (held : List ℕ) (at : ℕ) (piece next : List ℕ) (count : ℕ) → IsBegun (take at held) → at ≤ length held
    → count ≡ min (19 - at) (length piece) → next ≡ take at held ++ take count piece → Headed (take at held) piece next count
headed_of held at piece next count begun within taken joined = record {
  begun_is = begun;
  count_is = taken ∙ ap (λ (z : ℕ). min (19 - z) (length piece)) (omega (arith, length-take at held));
  next_is = joined;
}

-- the octets of the header in hand, as they are judged
pub header_judged : (held : List ℕ) (at judged : ℕ) (begun piece : List ℕ) (count : ℕ) → Headed begun piece (take at held) count → judged ≡ min 19 at
    → header_fault (take judged held) ≡ wrong_at (begun ++ piece)
header_judged held at judged begun piece count h is =
    ap (λ (z : List ℕ). header_fault z) (ap (λ (z : ℕ). take z held) is ∙ take_both 19 at held ∙ header_same begun piece (take at held) count h)

-- A buffer with a header in its first octets, and the field Length as it is read.
pub record Sized (held : List ℕ) (at judged size : ℕ) : Type 0 where
  pub within : at ≤ length held
  pub long : 19 ≤ at
  pub judged_is : judged ≡ min 19 at
  pub fits : 19 ≤ length (take judged held) → (19 ≤ size_at (take judged held)) × (size_at (take judged held) ≤ 4096)
  pub read : size ≡ big_number 2 (take (length held - 16) (drop 16 held))

module _ (held : List ℕ) (at judged size : ℕ) (s : Sized held at judged size) where
  size_told : size ≡ size_at (take 19 (take at held))
  size_told = s.read ∙ ap (λ (z : List ℕ). big_number 2 z) (take_rest held 16) ∙ size_read held at s.long

  pub size_fits : (19 ≤ size) × (size ≤ 4096)
  size_fits =
      let least : judged ≡ 19 = omega (arith, s.judged_is, s.long) in
      let told : size ≡ size_at (take judged held) =
      size_told ∙ ap (λ (z : List ℕ). size_at z) (take-take 19 at held s.long) ∙ ap (λ (z : ℕ). size_at (take z held)) (sym least) in
      let both = s.fits (omega (arith, least, length-take judged held, s.within, s.long)) in
      let low : 19 ≤ size_at (take judged held) = both.0 in
      let high : size_at (take judged held) ≤ 4096 = both.1 in
      (omega (arith, told, low), omega (arith, told, high))

  -- what the second `append` did, behind a header without a fault
  pub fed_of : (begun piece last : List ℕ) (count more end : ℕ) → Headed begun piece (take at held) count → None ≡ header_fault (take judged held)
      → more ≡ min (size - at) (length (take (length piece - count) (drop count piece)))
      → take end last ≡ take at held ++ take more (take (length piece - count) (drop count piece))
      → end ≡ at + more → length last ≡ 4096 → at ≤ 4096 → Fed begun piece (take end last) (count + more) (nat_le size end)
  fed_of begun piece last count more end h sound taken joined end_is room most =
      let length_is : length (take at held) ≡ at = omega (arith, length-take at held, s.within) in
      let rest : take (length piece - count) (drop count piece) ≡ drop count piece = take_rest piece count in
      let fit = size_fits in
      let high : size ≤ 4096 = fit.1 in
      let all : length (take end last) ≡ end = omega (arith, length-take end last, end_is, taken, room, most, high) in
      let b : Bodied begun piece (take at held) (take end last) count more size = record {
        headed = h;
        sound = sym (header_judged held at judged begun piece count h s.judged_is) ∙ sym sound;
        whole_header = omega (arith, length_is, s.long);
        size_is = size_told ∙ ap (λ (z : List ℕ). size_at z) (header_same begun piece (take at held) count h);
        low = fit.0;
        more_is = taken ∙ ap (λ (z : List ℕ). min (size - at) (length z)) rest ∙ omega (arith, length_is, length-drop count piece);
        last_is = joined ∙ ap (λ (z : List ℕ). take at held ++ take more z) rest;
      } in
      fed begun piece (take at held) (take end last) count more size b (nat_le size end) (ap (λ (n : ℕ). nat_le size n) all)
