-- Chains of fields that have so many octets, whatever they say: what is said of the octets in hand stays said.
use Rattle.fs_input.proofs.Words.{◌≡◌, ℕ, List, ◌++◌, Bool, true, false, ◌≤◌, ◌<◌, ◌+◌, length, take, drop, refl, ap, sym, ◌∙◌, subst, arith}
use Rattle.fs_input.proofs.Words.{length-append, if◌then◌else◌, nat_le, ⊤, length-drop, length-take, take-append-le, common_steps, nat_tests, Fills}
use Rattle.fs_input.proofs.Words.{at_limit, window, Scan, Scanner, and, and_then, behind, fails, field, gives, got, needs, partial, wrong, Scanned}
use Rattle.fs_input.proofs.Words.{end_of}
use Rattle.fs_input.proofs.{Coming.{behind_takes}, CutShort.{all_taken, short_fails}}
use Rattle.fs_input.specs.{Judging.{scan_of, settled}, declared.judging.Judged.{Judged, TheVariants.{Whole, Wrong, Partial}}}

-- what was said stays said where more octets follow
abbrev pub Stays : {A R : Type 0} → Scan A R → Scan A R → Type 0
Stays (got value count) later = later ≡ got value count
Stays (wrong reason place) later = later ≡ wrong reason place
Stays partial later = ⊤

pub record IsFixed {A R : Type 0} (size : ℕ) (scanner : Scanner A R) : Type 0 where
  pub stays : (place : ℕ) (octets more : List ℕ) → Stays (scanner place octets) (scanner place (octets ++ more))
  pub takes : (place : ℕ) (octets : List ℕ) (value : A) (count : ℕ) → scanner place octets ≡ got value count
      → (count ≡ size) × (size ≤ length octets)
  pub enough : (place : ℕ) (octets : List ℕ) → scanner place octets ≡ partial → length octets < size

pub gives_fixed : {A R : Type 0} (value : A) → IsFixed {A = A} {R = R} 0 (gives value)
gives_fixed value = record {
  stays = λ place octets more. refl;
  takes = λ place octets found count h. (let none : 0 ≡ count = cc in sym none, omega arith);
  enough = λ place octets h. absurd cc;
}

pub fails_fixed : {A R : Type 0} (size : ℕ) (reason : R) (spot : ℕ) → IsFixed {A = A} size (fails reason spot)
fails_fixed size reason spot = record {
  stays = λ place octets more. refl;
  takes = λ place octets found count h. absurd cc;
  enough = λ place octets h. absurd cc;
}

pub needs_fixed : {A R : Type 0} (size : ℕ) (test : Bool) (reason : R) (spot : ℕ) (next : Scanner A R) → IsFixed size next
    → IsFixed size (needs test reason spot next)
needs_fixed size true reason spot next h = h
needs_fixed size false reason spot next h = fails_fixed size reason spot

pub field_fixed : {A R : Type 0} (size : ℕ) (read : List ℕ → A) → IsFixed {A = A} {R = R} size (field size read)
field_fixed {A} {R} size read = record {
  stays = λ place octets more. stays_by octets more (nat_le size (length octets)) refl;
  takes = λ place octets value count h. takes_by octets value count (nat_le size (length octets)) refl h;
  enough = λ place octets h. enough_by octets (nat_le size (length octets)) refl h;
} where
  stays_by : (octets more : List ℕ) (test : Bool) → nat_le size (length octets) ≡ test
      → Stays {A = A} {R = R} (if test then got (read (take size octets)) size else partial)
      (if nat_le size (length (octets ++ more)) then got (read (take size (octets ++ more))) size else partial)
  stays_by octets more true t =
      let held : size ≤ length octets = grind (arith, nat_tests) in
      let still : nat_le size (length (octets ++ more)) ≡ true =
      let longer = length-append octets more in grind (arith, nat_tests) in
      rw (still, take-append-le size octets more held) refl
  stays_by octets more false t = tt

  takes_by : (octets : List ℕ) (value : A) (count : ℕ) (test : Bool) → nat_le size (length octets) ≡ test
      → ◌≡◌ {A = Scan A R} (if test then got (read (take size octets)) size else partial) (got value count)
      → (count ≡ size) × (size ≤ length octets)
  takes_by octets value count true t h =
      let same : size ≡ count = cc in let held : size ≤ length octets = grind (arith, nat_tests) in (sym same, held)
  takes_by octets value count false t h = absurd cc

  enough_by : (octets : List ℕ) (test : Bool) → nat_le size (length octets) ≡ test
      → ◌≡◌ {A = Scan A R} (if test then got (read (take size octets)) size else partial) partial → length octets < size
  enough_by octets true t h = absurd cc
  enough_by octets false t h = grind (arith, nat_tests)

behind_partial : {A R : Type 0} (n : ℕ) (scan : Scan A R) → behind n scan ≡ partial → scan ≡ partial
behind_partial n (got found m) h = absurd cc
behind_partial n (wrong reason spot) h = absurd cc
behind_partial n partial h = refl

behind_stays : {A R : Type 0} (n : ℕ) (scan later : Scan A R) → Stays scan later → Stays (behind n scan) (behind n later)
behind_stays n (got found m) later h = ap (behind n) h
behind_stays n (wrong reason spot) later h = ap (behind n) h
behind_stays n partial later h = tt

drop_more : (n : ℕ) (octets more : List ℕ) → n ≤ length octets → drop n (octets ++ more) ≡ drop n octets ++ more
drop_more n octets more held = grind (arith, common_steps)

pub and_fixed : {A B R : Type 0} (a b : ℕ) (first : Scanner A R) (next : A → Scanner B R) → IsFixed a first
    → ((value : A) → IsFixed b (next value)) → IsFixed (a + b) (and first next)
and_fixed {A} {B} {R} a b first next one rest = record {
  stays = λ place octets more. stays_by place octets more (first place octets) refl (one.stays place octets more);
  takes = λ place octets value count h. takes_by place octets value count (first place octets) refl h;
  enough = λ place octets h. enough_by place octets (first place octets) refl h;
} where
  stays_by : (place : ℕ) (octets more : List ℕ) (scan : Scan A R) → first place octets ≡ scan
      → Stays (first place octets) (first place (octets ++ more))
      → Stays (and_then next place octets scan) (and_then next place (octets ++ more) (first place (octets ++ more)))
  stays_by place octets more (got value n) s still =
      let held = one.takes place octets value n s in
      let room : n ≤ length octets = omega (arith, held.0, held.1) in
      let later : first place (octets ++ more) ≡ got value n = (subst (λ scan. Stays scan (first place (octets ++ more))) s still) in
      subst (λ scan. Stays (behind n (next value (place + n) (drop n octets))) (and_then next place (octets ++ more) scan)) (sym later)
      (subst (λ left. Stays (behind n (next value (place + n) (drop n octets))) (behind n (next value (place + n) left)))
      (sym (drop_more n octets more room))
      (behind_stays n (next value (place + n) (drop n octets)) (next value (place + n) (drop n octets ++ more))
      ((rest value).stays (place + n) (drop n octets) more)))
  stays_by place octets more (wrong reason spot) s still =
      let later : first place (octets ++ more) ≡ wrong reason spot = (subst (λ scan. Stays scan (first place (octets ++ more))) s still) in
      ap (and_then next place (octets ++ more)) later
  stays_by place octets more partial s still = tt

  takes_by : (place : ℕ) (octets : List ℕ) (value : B) (count : ℕ) (scan : Scan A R) → first place octets ≡ scan
      → and_then next place octets scan ≡ got value count → (count ≡ a + b) × (a + b ≤ length octets)
  takes_by place octets value count (got found n) s h =
      let held = one.takes place octets found n s in
      let more = behind_takes n (next found (place + n) (drop n octets)) value count h in
      let last = (rest found).takes (place + n) (drop n octets) value more.0 more.1 in
      (omega (arith, held.0, last.0, more.2), omega (arith, held.0, held.1, last.1, length-drop n octets))
  takes_by place octets value count (wrong reason spot) s h = absurd cc
  takes_by place octets value count partial s h = absurd cc

  enough_by : (place : ℕ) (octets : List ℕ) (scan : Scan A R) → first place octets ≡ scan
      → and_then next place octets scan ≡ partial → length octets < a + b
  enough_by place octets (got found n) s h =
      let held = one.takes place octets found n s in
      let more = behind_partial n (next found (place + n) (drop n octets)) h in
      let few : length (drop n octets) < b = (rest found).enough (place + n) (drop n octets) more in
      omega (arith, held.0, held.1, few, length-drop n octets)
  enough_by place octets (wrong reason spot) s h = absurd cc
  enough_by place octets partial s h = let few : length octets < a = one.enough place octets s in omega (arith, few)

-- Fields whose octets were taken together, and judged one by one, were read.
module _ {A R : Type 0} (size : ℕ) (scanner : Scanner A R) (fixed : IsFixed size scanner) (cut : R) (limit taken taken' : ℕ)
    (left left' into : List ℕ) (count : ℕ) (filled : Fills (window limit taken left) left left' into count) where
  rest_of : (octets : List ℕ) → take count octets ++ drop count octets ≡ octets
  rest_of octets = grind (arith, common_steps)

  hand : take count into ++ drop count (window limit taken left) ≡ window limit taken left
  hand = ap (λ front. front ++ drop count (window limit taken left)) filled.filled ∙ rest_of (window limit taken left)

  still : Stays (scanner taken (take count into)) (scanner taken (window limit taken left))
  still =
      subst (λ octets. Stays (scanner taken (take count into)) (scanner taken octets)) hand
      (fixed.stays taken (take count into) (drop count (window limit taken left)))

  pub judged_reads : (judged : Judged A R) → scan_of size judged ≡ scanner taken (take count into) → length into ≡ size
      → taken ≤ limit → taken' ≡ taken + count
      → Scanned scanner cut limit taken taken' left left' (λ value. value) (settled cut taken' limit judged)
  judged_reads (Whole value) said room within now =
      let held = fixed.takes taken (take count into) value size (sym said) in
      let all : count ≡ size =
      let enough : size ≤ length (take count into) = held.1 in
      omega (arith, enough, filled.count_is, room, length-take count into) in
      record {
        count = size;
        is = subst (λ scan. Stays scan (scanner taken (window limit taken left))) (sym said) still;
        within = omega (arith, all, filled.count_is);
        taken_is = now ∙ ap (λ n. taken + n) all;
        left_is = filled.left ∙ ap (λ n. drop n left) all;
      }
  judged_reads (Wrong reason place) said room within now =
      let later : scanner taken (window limit taken left) ≡ wrong reason place =
      (subst (λ scan. Stays scan (scanner taken (window limit taken left))) (sym said) still) in
      ap (end_of cut (at_limit limit taken left) taken (length (window limit taken left))) later
  judged_reads Partial said room within now =
      let few : length (take count into) < size = fixed.enough taken (take count into) (sym said) in
      let short : count < length into = omega (arith, few, filled.count_is, room, length-take count into) in
      let all = all_taken limit taken left left' into count filled short in
      let whole : take count into ≡ window limit taken left = filled.filled ∙ all_octets (window limit taken left) all in
      short_fails scanner cut limit taken taken' count left within all now (ap (scanner taken) (sym whole) ∙ sym said)
    where
      all_octets : (octets : List ℕ) → count ≡ length octets → take count octets ≡ octets
      all_octets octets all = grind (arith, common_steps)
