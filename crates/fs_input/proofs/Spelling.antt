-- Chains of fields and the octets that they take: what a chain gives is spelled by these octets, and octets that spell a
-- value give it.
use Rattle.fs_input.proofs.Words.{◌≡◌, ℕ, List, [], ◌++◌, Bool, true, false, ◌≤◌, ◌+◌, ◌-◌, length, take, drop, refl, ap, sym, subst, ◌∙◌, arith}
use Rattle.fs_input.proofs.Words.{append-nil, append_assoc, length-append, if◌then◌else◌, nat_le, drop-take, drop_at, length-drop, length-take}
use Rattle.fs_input.proofs.Words.{take-append-drop, take_at, nat_tests, take_longer, whole, Scan, Scanner, and, and_then, behind, fails, field, gives}
use Rattle.fs_input.proofs.Words.{got, needs, partial, skips, wrong}
use Rattle.fs_input.proofs.Coming.{behind_takes}

-- what is so of each value that a chain gives, and of the octets that it took
abbrev pub Spells : {A R : Type 0} → (A → List ℕ → Type 0) → Scanner A R → Type 0
Spells {A} P scanner =
    (place : ℕ) (octets : List ℕ) (value : A) (count : ℕ) → scanner place octets ≡ got value count
    → (count ≤ length octets) × P value (take count octets)

pub gives_spells : {A R : Type 0} (P : A → List ℕ → Type 0) (value : A) → P value [] → Spells {R = R} P (gives value)
gives_spells P value p place octets found count h =
    let same : value ≡ found = cc in
    let none : 0 ≡ count = cc in
    (omega arith, subst (λ n. P found (take n octets)) none (subst (λ v. P v []) same p))

pub fails_spells : {A R : Type 0} (P : A → List ℕ → Type 0) (reason : R) (spot : ℕ) → Spells P (fails reason spot)
fails_spells P reason spot place octets found count h = absurd cc

pub needs_spells : {A R : Type 0} (P : A → List ℕ → Type 0) (test : Bool) (reason : R) (spot : ℕ) (next : Scanner A R)
    → (test ≡ true → Spells P next) → Spells P (needs test reason spot next)
needs_spells P true reason spot next h = h refl
needs_spells P false reason spot next h = fails_spells P reason spot

pub field_spells : {A R : Type 0} (P : A → List ℕ → Type 0) (size : ℕ) (read : List ℕ → A)
    → ((part : List ℕ) → length part ≡ size → P (read part) part) → Spells {R = R} P (field size read)
field_spells {A} {R} P size read spells place octets value count h = by (nat_le size (length octets)) refl h
  where
    by : (test : Bool) → nat_le size (length octets) ≡ test
        → ◌≡◌ {A = Scan A R} (if test then got (read (take size octets)) size else partial) (got value count)
        → (count ≤ length octets) × P value (take count octets)
    by true t e =
        let same : read (take size octets) ≡ value = cc in
        let long : size ≡ count = cc in
        let held : size ≤ length octets = grind (arith, nat_tests) in
        let part : length (take size octets) ≡ size = omega (arith, held, length-take size octets) in
        (omega (arith, long, held), subst (λ n. P value (take n octets)) long (subst (λ v. P v (take size octets)) same (spells (take size octets) part)))
    by false t e = absurd cc

pub skips_spells : {R : Type 0} (P : ℕ → List ℕ → Type 0) (size : ℕ) → ((part : List ℕ) → length part ≡ size → P size part)
    → Spells {R = R} P (skips size)
skips_spells {R} P size spells = field_spells {A = ℕ} {R = R} P size (λ _. size) spells

take_both : (n m : ℕ) (octets : List ℕ) → take (n + m) octets ≡ take n octets ++ take m (drop n octets)
take_both n m octets = take_longer n (n + m) octets (omega arith) ∙ ap (λ rest. take n octets ++ rest) (drop-take n m octets)

pub and_spells : {A B R : Type 0} (Q : A → List ℕ → Type 0) (P : B → List ℕ → Type 0) (first : Scanner A R) (next : A → Scanner B R)
    → Spells Q first → ((value : A) (part : List ℕ) → Q value part → Spells (λ found more. P found (part ++ more)) (next value))
    → Spells P (and first next)
and_spells {A} {B} {R} Q P first next one rest place octets found count h = by (first place octets) refl h
  where
    by : (scan : Scan A R) → first place octets ≡ scan → and_then next place octets scan ≡ got found count
        → (count ≤ length octets) × P found (take count octets)
    by (got value n) s e =
        let front = one place octets value n s in
        let more = behind_takes n (next value (place + n) (drop n octets)) found count e in
        let last = rest value (take n octets) front.1 (place + n) (drop n octets) found more.0 more.1 in
        let a : n ≤ length octets = front.0 in
        let b : more.0 ≤ length (drop n octets) = last.0 in (
          omega (arith, more.2, a, b, length-drop n octets),
          subst (P found) (sym (ap (λ k. take k octets) more.2 ∙ take_both n more.0 octets)) last.1,
        )
    by (wrong reason spot) s e = absurd cc
    by partial s e = absurd cc

-- octets of this size
pub record Part (size : ℕ) (read part : List ℕ) : Type 0 where
  pub is : read ≡ part
  pub long : length part ≡ size

pub part_spells : {R : Type 0} (size : ℕ) → Spells {R = R} (Part size) (field size whole)
part_spells size = field_spells (Part size) size whole (λ part long. record { is = refl; long = long })

-- octets in two parts
pub record CutAt (n : ℕ) (octets : List ℕ) : Type 0 where
  pub front : List ℕ
  pub rest : List ℕ
  pub is : octets ≡ front ++ rest
  pub front_size : length front ≡ n
  pub rest_size : length rest ≡ length octets - n

pub cut_at : (n : ℕ) (octets : List ℕ) → n ≤ length octets → CutAt n octets
cut_at n octets held = record {
  front = take n octets;
  rest = drop n octets;
  is = sym (take-append-drop n octets);
  front_size = omega (arith, held, length-take n octets);
  rest_size = length-drop n octets;
}

-- what follows of what is so
pub weaker_spells : {A R : Type 0} (Q P : A → List ℕ → Type 0) (scanner : Scanner A R) → ((value : A) (part : List ℕ) → Q value part → P value part)
    → Spells Q scanner → Spells P scanner
weaker_spells Q P scanner follows spells place octets value count h =
    let s = spells place octets value count h in
    (s.0, follows value (take count octets) s.1)

-- these octets are taken, whatever follows, and give this value
abbrev pub Reads : {A R : Type 0} → Scanner A R → List ℕ → A → Type 0
Reads scanner octets value = (place : ℕ) (rest : List ℕ) → scanner place (octets ++ rest) ≡ got value (length octets)

pub gives_reads : {A R : Type 0} (value : A) → Reads {R = R} (gives value) [] value
gives_reads value place rest = refl

pub needs_reads : {A R : Type 0} (test : Bool) (reason : R) (spot : ℕ) (next : Scanner A R) (octets : List ℕ) (value : A)
    → test ≡ true → Reads next octets value → Reads (needs test reason spot next) octets value
needs_reads test reason spot next octets value t h place rest =
    ap (λ (b : Bool). (if b then next else fails reason spot) place (octets ++ rest)) t ∙ h place rest

pub field_reads : {A R : Type 0} (size : ℕ) (read : List ℕ → A) (octets : List ℕ) → length octets ≡ size
    → Reads {R = R} (field size read) octets (read octets)
field_reads {A} {R} size read octets long place rest =
    let all = octets ++ rest in
    let held : nat_le size (length all) ≡ true = grind (arith, nat_tests, length-append octets rest, long) in
    ap {B = Scan A R} (λ (b : Bool). if b then got (read (take size all)) size else partial) held
    ∙ ap (λ l. got (read l) size) (take_at octets rest size long) ∙ ap (got (read octets)) (sym long)

pub skips_reads : {R : Type 0} (size : ℕ) (octets : List ℕ) → length octets ≡ size → Reads {R = R} (skips size) octets size
skips_reads {R} size octets long = field_reads {A = ℕ} {R = R} size (λ _. size) octets long

pub and_reads : {A B R : Type 0} (first : Scanner A R) (next : A → Scanner B R) (front octets : List ℕ) (value : A) (found : B)
    → Reads first front value → Reads (next value) octets found → Reads (and first next) (front ++ octets) found
and_reads first next front octets value found one more place rest =
    let all = front ++ (octets ++ rest) in
    ap (and first next place) (append_assoc front octets rest)
    ∙ ap (and_then next place all) (one place (octets ++ rest))
    ∙ ap (λ l. behind (length front) (next value (place + length front) l)) (drop_at front (octets ++ rest) (length front) refl)
    ∙ ap (behind (length front)) (more (place + length front) rest)
    ∙ ap (got found) (sym (length-append front octets))

-- a value that is made of another

pub map_spells : {A B R : Type 0} (Q : A → List ℕ → Type 0) (P : B → List ℕ → Type 0) (first : Scanner A R) (make : A → B)
    → Spells Q first → ((value : A) (part : List ℕ) → Q value part → P (make value) part) → Spells P (and first (λ value. gives (make value)))
map_spells Q P first make one made =
    and_spells Q P first (λ value. gives (make value)) one
    (λ value part q. gives_spells (λ found more. P found (part ++ more)) (make value) (subst (P (make value)) (sym (append-nil part)) (made value part q)))

pub map_reads : {A B R : Type 0} (first : Scanner A R) (make : A → B) (octets : List ℕ) (value : A) → Reads first octets value
    → Reads (and first (λ value. gives (make value))) octets (make value)
map_reads first make octets value one place rest =
    ap (and_then (λ value. gives (make value)) place (octets ++ rest)) (one place rest) ∙ ap (got (make value)) (omega arith)
