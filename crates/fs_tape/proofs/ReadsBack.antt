-- A tape is done exactly where it is the text of its items in one of the versions.
use Rattle.fs_tape.proofs.Words.{◌≡◌, ℕ, List, [], ◌∷◌, ◌++◌, Option, Some, None, Result, Ok, Err, Bool, true, false, ◌<◌, ◌≤◌, ◌+◌, ◌==◌, length}
use Rattle.fs_tape.proofs.Words.{take, drop, refl, ap, sym, subst, ◌∙◌, arith, take-append-drop, eqb-true, flat_map, nat_le, nat_lt, if◌then◌else◌}
use Rattle.fs_tape.proofs.Words.{length-drop, length-take, take-take, IsOctets, Config, octets_drop, opened_by, End, done, Whole, Wrong, Partial}
use Rattle.fs_tape.proofs.Words.{opened_whole, all_taken, done_text, text_done, Cut, Version, One, Two, Stands, Fits, IsTapeOf, ReadsBack, after}
use Rattle.fs_tape.proofs.Words.{item_text, difference_from, first_difference, magic_field, magic_of, version_by, Timed, items_to_come, records}
use Rattle.fs_tape.proofs.Words.{stands, tape_of, version_of}
use Rattle.fs_tape.proofs.Items.{has_head, item_read, item_spelled, texts}
use Rattle.fs_tape.specs.declared.fault.TapeReason.{TapeReason}
use Rattle.fs_input.specs.declared.head.Head.{Head}

-- the magic of a version is that of no other

pub magic_size : (version : Version) (body : List ℕ) → length (magic_of version ++ body) ≡ 8 + length body
magic_size One body = omega arith
magic_size Two body = omega arith

pub behind_magic : (version : Version) (body : List ℕ) → drop 8 (magic_of version ++ body) ≡ body
behind_magic One body = refl
behind_magic Two body = refl

magic_read : (limit : Bool) (version : Version) (body : List ℕ)
    → opened_by Cut limit (length (take 8 (magic_of version ++ body))) (magic_field (take 8 (magic_of version ++ body))) ≡ Ok version
magic_read limit One body = refl
magic_read limit Two body = refl

pub magic_opens : (limit : ℕ) (version : Version) (body : List ℕ) → length (magic_of version ++ body) < limit
    → version_of limit (magic_of version ++ body) ≡ Ok version
magic_opens limit version body small =
    let content = magic_of version ++ body in
    ap (λ (octets : List ℕ). opened_by Cut (nat_le limit (length content)) (length (take 8 octets)) (magic_field (take 8 octets)))
    (all_taken limit content (omega (arith, small)))
    ∙ magic_read (nat_le limit (length content)) version body

abbrev pub behind_opening : Config → ℕ → List ℕ → Result Version (End TapeReason) → List Timed × End TapeReason
behind_opening config limit body opened =
    elim opened as (λ _. List Timed × End TapeReason) [
      | Ok version ↦ items_to_come config version limit 8 0 body
      | Err end ↦ ([], end)
    ]

abbrev pub text_at : Stands → Timed → List ℕ
text_at now timed = item_text now.version timed

text_read : (config : Config) (limit : ℕ) (version : Version) (content : List ℕ) (items : List Timed)
    → IsTapeOf config limit version content items → tape_of config limit content ≡ (items, done)
text_read config limit version content items h =
    let body = flat_map (item_text version) items in
    let small : length (magic_of version ++ body) < limit = subst (λ octets. length octets < limit) h.spelled h.below in
    ap (tape_of config limit) h.spelled
    ∙ ap (behind_opening config limit (drop 8 (magic_of version ++ body))) (magic_opens limit version body small)
    ∙ ap (items_to_come config version limit 8 0) (behind_magic version body)
    ∙ text_done records text_at Fits after has_head (λ now. refl) item_read limit 8 (stands config version 0) body items
    (record { spelled = sym (texts config version 0 items); fit = h.fit; below = (omega (arith, small, magic_size version body)) })

same_front : (place : ℕ) (xs ys : List ℕ) → difference_from place xs ys ≡ None → take (length xs) ys ≡ xs
same_front place [] ys h = refl
same_front place (x ∷ xs) [] h = cc
same_front place (x ∷ xs) (y ∷ ys) h = by (x == y) (eqb-true x y) (same_front (place + 1) xs ys) h
  where
    by : (test : Bool) → (test ≡ true → x ≡ y) → (difference_from (place + 1) xs ys ≡ None → take (length xs) ys ≡ xs)
        → (if test then difference_from (place + 1) xs ys else Some place) ≡ None → take (length (x ∷ xs)) (y ∷ ys) ≡ x ∷ xs
    by true same later e = ap (λ more. y ∷ more) (later e) ∙ ap (λ z. z ∷ xs) (sym (same refl))
    by false same later e = cc

-- a version is told by its own magic
version_told : (front : List ℕ) (version : Version) (n : ℕ) → (one two : Option ℕ) → first_difference (magic_of One) front ≡ one
    → first_difference (magic_of Two) front ≡ two → version_by one two ≡ Whole version n → take 8 front ≡ magic_of version
version_told front version n None two a b h =
    let same : One ≡ version = cc in same_front 0 (magic_of One) front a ∙ ap magic_of same
version_told front version n (Some one) None a b h =
    let same : Two ≡ version = cc in same_front 0 (magic_of Two) front b ∙ ap magic_of same
version_told front version n (Some one) (Some two) a b h = cc

magic_told : (front : List ℕ) (version : Version) (n : ℕ) → magic_field front ≡ Whole version n → take 8 front ≡ magic_of version
magic_told front version n h = by (nat_lt (length front) 8) h
  where
    by : (short : Bool) → (if short then Partial else version_by (first_difference (magic_of One) front) (first_difference (magic_of Two) front))
        ≡ Whole version n
        → take 8 front ≡ magic_of version
    by true e = cc
    by false e =
        version_told front version n (first_difference (magic_of One) front) (first_difference (magic_of Two) front) refl refl e

never_done : (limit : Bool) (size : ℕ) (head : Head Version TapeReason) → opened_by Cut limit size head ≡ Err done → ⊥
never_done limit size (Whole found n) h = cc
never_done limit size (Wrong reason place) h = cc
never_done true size Partial h = cc
never_done false size Partial h = cc

magic_stands : (limit : ℕ) (content : List ℕ) (version : Version) → version_of limit content ≡ Ok version
    → (content ≡ magic_of version ++ drop 8 content) × (length content ≡ 8 + length (drop 8 content))
magic_stands limit content version h =
    let front = take 8 (take limit content) in
    let head = opened_whole Cut (nat_le limit (length content)) (length front) (magic_field front) version h in
    let whole : take 8 front ≡ magic_of version = magic_told front version head.0 head.1 in
    let eight : length (take 8 front) ≡ 8 = ap length whole ∙ by version in
    let room : 8 ≤ limit = omega (arith, eight, length-take 8 front, length-take 8 (take limit content), length-take limit content) in
    let held : 8 ≤ length content = omega (arith, eight, length-take 8 front, length-take 8 (take limit content), length-take limit content) in
    let first : take 8 front ≡ take 8 content = take-take 8 8 (take limit content) (omega arith) ∙ take-take 8 limit content room in (
      sym (take-append-drop 8 content) ∙ ap (λ f. f ++ drop 8 content) (sym first ∙ whole),
      omega (arith, held, length-drop 8 content),
    )
  where
    by : (v : Version) → length (magic_of v) ≡ 8
    by One = refl
    by Two = refl

read_text : (config : Config) (limit : ℕ) (content : List ℕ) (items : List Timed) → IsOctets content
    → (opened : Result Version (End TapeReason)) → version_of limit content ≡ opened
    → behind_opening config limit (drop 8 content) opened ≡ (items, done)
    → (version : Version) × IsTapeOf config limit version content items
read_text config limit content items are (Err end) o h =
    let front = take 8 (take limit content) in
    let ended : end ≡ done = ap (λ (p : List Timed × End TapeReason). p.1) h in
    absurd (never_done (nat_le limit (length content)) (length front) (magic_field front) (o ∙ ap (λ e. Err e) ended))
read_text config limit content items are (Ok version) o h =
    let magic = magic_stands limit content version o in
    let text = done_text records text_at Fits after has_head item_spelled limit 8 (stands config version 0) (drop 8 content) items
    (octets_drop 8 content are) h in (
      version,
      record {
        spelled = magic.0 ∙ ap (λ b. magic_of version ++ b) (text.spelled ∙ texts config version 0 items);
        fit = text.fit;
        below = (omega (arith, magic.1, text.below));
      },
    )

pub reads_back : ReadsBack
reads_back config limit content items are = (
  read_text config limit content items are (version_of limit content) refl,
  λ found. text_read config limit found.0 content items found.1,
)
