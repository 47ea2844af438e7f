-- The text of a message is the first message of any octets that begin with it.
use Rattle.std.proofs.Common.{length-append}
use Rattle.fs_message.proofs.Words.{◌≡◌, ℕ, ◌+◌, ◌≤◌, Bool, true, false, List, [], ◌∷◌, ◌++◌, length, take, drop, Option, Some, None, refl, ap, ◌∙◌}
use Rattle.fs_message.proofs.Words.{arith, if◌then◌else◌, replicate, byte_at, take_at, drop_at, nat_tests, big_number, big_number-reads_back}
use Rattle.fs_message.proofs.Words.{size_wrong, kind_wrong, allows, Message, message_of, wrong_at, size_of, has_message, first_message, message_text}
use Rattle.fs_message.proofs.BegunMessages.{chain, has_all}

-- a message with its length in two octets
abbrev headed : ℕ → ℕ → ℕ → List ℕ → List ℕ
headed high low kind rest = replicate 16 255 ++ (high ∷ low ∷ kind ∷ rest)

sound_chain : (a b c d e f : Bool) → a ≡ false → b ≡ false → c ≡ false → d ≡ false → e ≡ false → f ≡ true → chain a b c d e f ≡ None
sound_chain a b c d e f p q r s t u = rw (p, q, r, s, t, u) refl

size_fits : (size : ℕ) → 19 ≤ size → size ≤ 4096 → size_wrong size ≡ false
size_fits size low high = grind (arith, nat_tests)

kind_fits : (kind : ℕ) → 1 ≤ kind → kind ≤ 5 → kind_wrong kind ≡ false
kind_fits kind low high = grind (arith, nat_tests)

found : (test : Bool) (answer : Option (Message × List ℕ)) → test ≡ true → (if test then answer else None) ≡ answer
found test answer h = rw h refl

first_of : (high low kind : ℕ) (body more : List ℕ) → big_number 2 (high ∷ low ∷ kind ∷ []) ≡ 19 + length body → 1 ≤ kind → kind ≤ 5
    → allows kind (19 + length body) ≡ true → 19 + length body ≤ 4096
    → first_message (headed high low kind (body ++ more)) ≡ Some (record { kind = kind; body = body }, more)
first_of high low kind body more size_is one five right long =
    let octets : List ℕ = headed high low kind (body ++ more) in
    let size : size_of octets ≡ 19 + length body = size_is in
    let sound : wrong_at octets ≡ None =
    sound_chain false false (size_wrong (size_of octets)) false (kind_wrong kind) (allows kind (size_of octets)) refl refl
    (ap size_wrong size ∙ size_fits (19 + length body) (omega arith) long) refl (kind_fits kind one five) (ap (λ (n : ℕ). allows kind n) size ∙ right) in
    let both : length (body ++ more) ≡ length body + length more = length-append body more in
    let count : length octets ≡ 19 + length (body ++ more) = omega arith in
    let whole : has_message octets ≡ true =
    has_all (wrong_at octets) (length octets) (size_of octets) sound (omega (arith, count)) (omega (arith, count, both, size)) in
    let front : take (19 + length body) octets ≡ headed high low kind body = take_at (headed high low kind body) more (19 + length body) (omega arith) in
    let behind : drop (19 + length body) octets ≡ more = drop_at (headed high low kind body) more (19 + length body) (omega arith) in
    let pair : List ℕ → List ℕ → Option (Message × List ℕ) = λ head rest. Some (message_of head, rest) in
    found (has_message octets) (pair (take (size_of octets) octets) (drop (size_of octets) octets)) whole
    ∙ ap (λ (n : ℕ). pair (take n octets) (drop n octets)) size
    ∙ ap (λ (z : List ℕ). pair z (drop (19 + length body) octets)) front
    ∙ ap (λ (z : List ℕ). pair (headed high low kind body) z) behind

pub text_first : (kind : ℕ) (body more : List ℕ) → 1 ≤ kind → kind ≤ 5 → allows kind (19 + length body) ≡ true → 19 + length body ≤ 4096
    → first_message (message_text kind body ++ more) ≡ Some (record { kind = kind; body = body }, more)
text_first kind body more one five right long =
    first_of (byte_at 1 (19 + length body)) (byte_at 0 (19 + length body)) kind body more
    (big_number-reads_back 2 (19 + length body) (kind ∷ []) (omega arith)) one five right long
