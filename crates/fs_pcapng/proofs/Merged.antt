-- A packet's octets, what else its block holds and the total length again, taken as one field.
use Rattle.fs_pcapng.proofs.Words.{◌≡◌, ◌≢◌, ◌+◌, ◌-◌, ◌==◌, ℕ, List, Bool, true, false, length, take, drop, refl, ap, sym, ◌∙◌, arith, nat_le}
use Rattle.fs_pcapng.proofs.Words.{nat_tests, drop-take, length-drop, take-take, number, whole, Scanner, and, and_then, behind, field, gives, got}
use Rattle.fs_pcapng.proofs.Words.{needs, partial, end_in, NgReason, Length, Frame}
use Rattle.std.proofs.lemmas.Grind.{common_steps}

-- what the octets of all three say
abbrev pub closing : Frame → (captured rest : ℕ) → List ℕ → Scanner (List ℕ) NgReason
closing frame captured rest all =
    needs (number frame.order 4 (drop (captured + rest) all) == frame.total) Length (frame.start + frame.total - 4) (gives (take captured all))

finish : (reason : NgReason) (captured rest spot total p1 p2 p3 : ℕ) (front o1 o2 o3 : List ℕ) (test : Bool)
    → behind (captured + rest + 4) (needs test reason spot (gives front) p1 o1)
    ≡ behind captured (and_then (λ (_ : ℕ). gives front) p2 o2 (behind rest (behind 4 (needs test reason spot (gives total) p3 o3))))
finish reason captured rest spot total p1 p2 p3 front o1 o2 o3 true = ap (λ (n : ℕ). got front n) (omega arith)
finish reason captured rest spot total p1 p2 p3 front o1 o2 o3 false = refl

-- the three, one behind the other
pub merged : (frame : Frame) (captured rest place : ℕ) (octets : List ℕ)
    → and (field (captured + rest + 4) whole) (closing frame captured rest) place octets
    ≡ and (field captured whole) (λ o. and (end_in frame rest) (λ _. gives o)) place octets
merged frame captured rest place octets = by (nat_le (captured + rest + 4) (length octets)) refl
  where
    behind_rest : drop rest (drop captured octets) ≡ drop (captured + rest) octets
    behind_rest = grind (arith, common_steps)

    last : take 4 (drop rest (drop captured octets)) ≡ drop (captured + rest) (take (captured + rest + 4) octets)
    last = ap (take 4) behind_rest ∙ sym (drop-take (captured + rest) 4 octets)

    first : take captured (take (captured + rest + 4) octets) ≡ take captured octets
    first = take-take captured (captured + rest + 4) octets (omega arith)

    short : (one two : Bool) → nat_le captured (length octets) ≡ one → nat_le rest (length (drop captured octets)) ≡ two
        → nat_le (captured + rest + 4) (length octets) ≡ false
        → partial ≡ and (field captured whole) (λ o. and (end_in frame rest) (λ _. gives o)) place octets
    short false two e f h = rw e refl
    short true false e f h = rw (e, f) refl
    short true true e f h =
        let none : nat_le 4 (length (drop rest (drop captured octets))) ≡ false =
        let l = length-drop captured octets in let m = length-drop rest (drop captured octets) in grind (arith, nat_tests, e, f, h) in
        rw (e, f, none) refl

    by : (test : Bool) → nat_le (captured + rest + 4) (length octets) ≡ test
        → and (field (captured + rest + 4) whole) (closing frame captured rest) place octets
        ≡ and (field captured whole) (λ o. and (end_in frame rest) (λ _. gives o)) place octets
    by true h =
        let one : nat_le captured (length octets) ≡ true = grind (arith, nat_tests, h) in
        let two : nat_le rest (length (drop captured octets)) ≡ true = let l = length-drop captured octets in grind (arith, nat_tests, h) in
        let three : nat_le 4 (length (drop rest (drop captured octets))) ≡ true =
        let l = length-drop captured octets in let m = length-drop rest (drop captured octets) in grind (arith, nat_tests, h) in
        rw (h, one, two, three, first, last)
        (finish Length captured rest (frame.start + frame.total - 4) frame.total (place + (captured + rest + 4)) (place + captured)
        (place + captured + rest + 4)
        (take captured octets) (drop (captured + rest + 4) octets) (drop captured octets) (drop 4 (drop rest (drop captured octets)))
        (number frame.order 4 (drop (captured + rest) (take (captured + rest + 4) octets)) == frame.total))
    by false h = rw h (short (nat_le captured (length octets)) (nat_le rest (length (drop captured octets))) refl refl h)

-- the last four octets of so many
last_four : (captured rest : ℕ) (into : List ℕ)
    → take (captured + rest + 4 - (captured + rest + 4 - 4)) (drop (captured + rest + 4 - 4) into) ≡ drop (captured + rest) (take (captured + rest + 4) into)
last_four captured rest into =
    let one : captured + rest + 4 - 4 ≡ captured + rest = omega arith in
    let two : captured + rest + 4 - (captured + rest + 4 - 4) ≡ 4 = omega arith in
    (λ i. take (two i) (drop (one i) into)) ∙ sym (drop-take (captured + rest) 4 into)

pub first_of : (captured rest : ℕ) (into : List ℕ) → take captured (take (captured + rest + 4) into) ≡ take captured into
first_of captured rest into = take-take captured (captured + rest + 4) into (omega arith)

-- where the total length was read so again, which stands last: its test is that of all three
pub closes : (frame : Frame) (captured rest read : ℕ) (into : List ℕ)
    → read ≡ number frame.order 4 (take (captured + rest + 4 - (captured + rest + 4 - 4)) (drop (captured + rest + 4 - 4) into))
    → (number frame.order 4 (drop (captured + rest) (take (captured + rest + 4) into)) == frame.total) ≡ (read == frame.total)
closes frame captured rest read into is = sym (ap (λ n. n == frame.total) (is ∙ ap (λ l. number frame.order 4 l) (last_four captured rest into)))

pub is_equal : (a b : ℕ) → a ≡ b → (a == b) ≡ true
is_equal a b h = grind (arith, nat_tests, h)

pub is_other : (a b : ℕ) → a ≢ b → (a == b) ≡ false
is_other a b h = grind (arith, nat_tests, h)
