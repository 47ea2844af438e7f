-- What is read of the parts of an action's word is the action.
use Rattle.fs_text.proofs.Words.{◌≡◌, ℕ, ◌+◌, ◌<◌, ◌^◌, List, [], ◌∷◌, ◌++◌, Bool, true, false, Option, Some, None, Result, Ok, Err, length, drop}
use Rattle.fs_text.proofs.Words.{take, refl, sym, ap, subst, ◌∙◌, arith, if◌then◌else◌, codes, decimal, slice_index, find, option_map, option_map_or}
use Rattle.fs_text.proofs.Words.{AllByRecursion, length-drop, take-length, take-append-drop, take_all, eqb-true, none-some, same_Some, big_bytes}
use Rattle.fs_text.proofs.Words.{big_number, encode_lower, IsOctets, octets_at, octets_drop, big_below, big_written, big_octets, kind_of, listed}
use Rattle.fs_text.proofs.Words.{significant_of, cleared, Redirect, action_text, name_at, rate_text, target_text, parts_of, Gives, GivesPlain}
use Rattle.fs_text.proofs.Words.{form_parts, ip4_parts, long_octets, pair_parts, rate_parts, short_octets, IfOk, Compared, IsNamed, Reads}
use Rattle.fs_text.proofs.WordParts.{ip4_runs, one_run, run_decimal, run_octets, two_runs}
use Rattle.fs_text.specs.Pieces.{Part}
use Rattle.std.specs.Prelude.{◌==◌, ◌||◌, bit_and}
use Rattle.fs_actions.specs.declared.community.Redirect.TheVariants.{As2, Ip4, As4}

-- a list of eight
pub record IsEight (a : List ℕ) : Type 0 where
  pub a0 : ℕ
  pub a1 : ℕ
  pub a2 : ℕ
  pub a3 : ℕ
  pub a4 : ℕ
  pub a5 : ℕ
  pub a6 : ℕ
  pub a7 : ℕ
  pub is : a ≡ a0 ∷ a1 ∷ a2 ∷ a3 ∷ a4 ∷ a5 ∷ a6 ∷ a7 ∷ []

pub eight : (a : List ℕ) → length a ≡ 8 → IsEight a
eight (a ∷ b ∷ c ∷ d ∷ e ∷ f ∷ g ∷ i ∷ []) h = record { a0 = a; a1 = b; a2 = c; a3 = d; a4 = e; a5 = f; a6 = g; a7 = i; is = refl }
eight a h = absurd (omega arith)

-- a type, m octets and n as numbers
numbers_whole : (m n : ℕ) (a : List ℕ) → length a ≡ 2 + (m + n) → IsOctets a
    → big_bytes 2 (big_number 2 a) ++ (big_bytes m (big_number m (drop 2 a)) ++ big_bytes n (big_number n (drop m (drop 2 a)))) ≡ a
numbers_whole m n a len octets =
    let rest : List ℕ = drop 2 a in
    let held : length rest ≡ m + n = omega (arith, length-drop 2 a, len) in
    let left : length (drop m rest) ≡ n = omega (arith, length-drop m rest, held) in
    let first : take 2 a ≡ big_bytes 2 (big_number 2 a) = big_written 2 a (omega (arith, len)) octets in
    let second : take m rest ≡ big_bytes m (big_number m rest) = big_written m rest (omega (arith, held)) (octets_drop 2 a octets) in
    let third : take n (drop m rest) ≡ big_bytes n (big_number n (drop m rest)) =
    big_written n (drop m rest) (omega (arith, left)) (octets_drop m rest (octets_drop 2 a octets)) in
    ap (λ (l : List ℕ). big_bytes 2 (big_number 2 a) ++ (big_bytes m (big_number m rest) ++ l)) (sym third ∙ take_all n (drop m rest) (omega (arith, left)))
    ∙ ap (λ (l : List ℕ). big_bytes 2 (big_number 2 a) ++ l) (ap (λ (l : List ℕ). l ++ drop m rest) (sym second) ∙ take-append-drop m rest)
    ∙ ap (λ (l : List ℕ). l ++ rest) (sym first) ∙ take-append-drop 2 a

short_whole : (a : List ℕ) → length a ≡ 8 → IsOctets a → short_octets (kind_of a) (big_number 2 (drop 2 a)) (big_number 4 (drop 4 a)) ≡ a
short_whole a len octets =
    let e = eight a len in
    subst (λ (l : List ℕ). short_octets (kind_of l) (big_number 2 (drop 2 l)) (big_number 4 (drop 4 l)) ≡ l) (sym e.is)
    (numbers_whole 2 4 (e.a0 ∷ e.a1 ∷ e.a2 ∷ e.a3 ∷ e.a4 ∷ e.a5 ∷ e.a6 ∷ e.a7 ∷ []) refl (subst IsOctets e.is octets))

long_whole : (a : List ℕ) → length a ≡ 8 → IsOctets a → long_octets (kind_of a) (big_number 4 (drop 2 a)) (big_number 2 (drop 6 a)) ≡ a
long_whole a len octets =
    let e = eight a len in
    subst (λ (l : List ℕ). long_octets (kind_of l) (big_number 4 (drop 2 l)) (big_number 2 (drop 6 l)) ≡ l) (sym e.is)
    (numbers_whole 4 2 (e.a0 ∷ e.a1 ∷ e.a2 ∷ e.a3 ∷ e.a4 ∷ e.a5 ∷ e.a6 ∷ e.a7 ∷ []) refl (subst IsOctets e.is octets))

-- what holds of each type in a list holds of one that is found there
pub each : {S : Type 0} (f : S → List ℕ) (x : List ℕ) (rows : List (ℕ × S)) (k : ℕ) (P : ℕ → Type 0) → AllByRecursion (λ row. P row.0) rows
    → option_map f (option_map (λ r. r.1) (find (λ r. r.0 == k) rows)) ≡ Some x → P k
each f x [] k P all e = absurd (none-some x e)
each {S} f x (row ∷ rows) k P all e = by (each f x rows k P all.1) (row.0 == k) refl e
  where
    by : (option_map f (option_map (λ r. r.1) (find (λ r. r.0 == k) rows)) ≡ Some x → P k)
        → (b : Bool) → (row.0 == k) ≡ b → option_map f (option_map (λ (r : ℕ × S). r.1) (if b then Some row else find (λ r. r.0 == k) rows)) ≡ Some x → P k
    by there true is e = subst P (eqb-true row.0 k is) all.0
    by there false is e = there e

abbrev target_at : List ℕ → ℕ → Option Redirect
target_at a k =
    if k == 0x8008 then Some (As2 (big_number 2 (drop 2 a)) (big_number 4 (drop 4 a)))
    else if k == 0x8108 then Some (Ip4 (big_number 4 (drop 2 a)) (big_number 2 (drop 6 a)))
    else if k == 0x8208 then Some (As4 (big_number 4 (drop 2 a)) (big_number 2 (drop 6 a)))
    else None

abbrev text_at : List ℕ → ℕ → List ℕ
text_at a k = option_map_or target_text (target_at a k) (if (k == 0x8006) || (k == 0x800c) then rate_text a else decimal (slice_index a 7))

abbrev pub normal_at : List ℕ → ℕ → Option (List ℕ)
normal_at a k = option_map (λ bits. cleared bits a) (significant_of k)

four : (l : List ℕ) → length l ≡ 4 → take 4 l ≡ l
four l len = subst (λ (n : ℕ). take n l ≡ l) len (take-length l)

-- an action of m octets behind its type, and n of them from a place on
two_found : (k m n place : ℕ) (parts_are : ℕ → ℕ → List Part) (octets_are : ℕ → ℕ → ℕ
    → List ℕ) (a : List ℕ) (parts : List Part) (result : Option (List ℕ)) → IsOctets a → kind_of a ≡ k
    → octets_are (kind_of a) (big_number m (drop 2 a)) (big_number n (drop place a)) ≡ a
    → (big_number m (drop 2 a) < 256 ^ m → big_number n (drop place a) < 256 ^ n → parts ≡ parts_are (big_number m (drop 2 a)) (big_number n (drop place a)))
    → Gives (256 ^ m) (256 ^ n) parts_are (octets_are k) parts result → result ≡ Some a
two_found k m n place parts_are octets_are a parts result octets kind whole told gives =
    let low : big_number m (drop 2 a) < 256 ^ m = big_below m (drop 2 a) (octets_drop 2 a octets) in
    let high : big_number n (drop place a) < 256 ^ n = big_below n (drop place a) (octets_drop place a octets) in
    gives (big_number m (drop 2 a)) (big_number n (drop place a)) low high (told low high)
    ∙ ap Some (ap (λ (j : ℕ). octets_are j (big_number m (drop 2 a)) (big_number n (drop place a))) (sym kind) ∙ whole)

rate_found : (k : ℕ) (a : List ℕ) (parts : List Part) (result : Option (List ℕ)) → length a ≡ 8 → IsOctets a → kind_of a ≡ k → parts ≡ parts_of (rate_text a)
    → Gives (2 ^ 16) (2 ^ 32) rate_parts (short_octets k) parts result → result ≡ Some a
rate_found k a parts result len octets kind p gives =
    let id : ℕ = big_number 2 (drop 2 a) in
    let held : length (drop 4 a) ≡ 4 = omega (arith, length-drop 4 a, len) in
    let tail : drop 4 a ≡ big_bytes 4 (big_number 4 (drop 4 a)) =
    sym (four (drop 4 a) held) ∙ big_written 4 (drop 4 a) (omega (arith, held)) (octets_drop 4 a octets) in
    two_found k 2 4 4 rate_parts short_octets a parts result octets kind (short_whole a len octets) (
    λ (low : big_number 2 (drop 2 a) < 2 ^ 16) high.
    p ∙ ap (λ (l : List ℕ). parts_of (decimal id ++ (codes ":" ++ encode_lower l))) tail
    ∙ two_runs (decimal id) (encode_lower (big_bytes 4 (big_number 4 (drop 4 a)))) (run_decimal id (omega (arith, low)))
    (run_octets _ _ (big_octets 4 (big_number 4 (drop 4 a))))
    ) gives

abbrev pub masked : ℕ → List ℕ → List ℕ
masked bits a = take 2 a ++ (0 ∷ 0 ∷ 0 ∷ 0 ∷ 0 ∷ bit_and (slice_index a 7) bits ∷ [])

zero_cells : (bits a b c d e f g i : ℕ) → masked bits (a ∷ b ∷ c ∷ d ∷ e ∷ f ∷ g ∷ i ∷ []) ≡ a ∷ b ∷ c ∷ d ∷ e ∷ f ∷ g ∷ i ∷ []
    → (big_number 2 (c ∷ d ∷ e ∷ f ∷ g ∷ i ∷ []) ≡ 0) × (big_number 4 (e ∷ f ∷ g ∷ i ∷ []) ≡ i)
zero_cells bits a b c d e f g i h =
    let z2 : 0 ≡ c = ap (λ (l : List ℕ). slice_index l 2) h in
    let z3 : 0 ≡ d = ap (λ (l : List ℕ). slice_index l 3) h in
    let z4 : 0 ≡ e = ap (λ (l : List ℕ). slice_index l 4) h in
    let z5 : 0 ≡ f = ap (λ (l : List ℕ). slice_index l 5) h in
    let z6 : 0 ≡ g = ap (λ (l : List ℕ). slice_index l 6) h in
    (omega (arith, z2, z3), omega (arith, z4, z5, z6))

zeros : (bits : ℕ) (a : List ℕ) → length a ≡ 8 → masked bits a ≡ a → (big_number 2 (drop 2 a) ≡ 0) × (big_number 4 (drop 4 a) ≡ slice_index a 7)
zeros bits a len h =
    let e = eight a len in
    subst (λ (l : List ℕ). (big_number 2 (drop 2 l) ≡ 0) × (big_number 4 (drop 4 l) ≡ slice_index l 7)) (sym e.is)
    (zero_cells bits e.a0 e.a1 e.a2 e.a3 e.a4 e.a5 e.a6 e.a7 (subst (λ (l : List ℕ). masked bits l ≡ l) e.is h))

plain_found : (k bits : ℕ) (a : List ℕ) (parts : List Part) (result : Option (List ℕ)) → length a ≡ 8 → IsOctets a → kind_of a ≡ k
    → masked bits a ≡ a → parts ≡ parts_of (decimal (slice_index a 7)) → GivesPlain k parts result → result ≡ Some a
plain_found k bits a parts result len octets kind clear p gives =
    let small : slice_index a 7 < 256 = octets_at a octets 7 in
    let z = zeros bits a len clear in
    gives (slice_index a 7) small (p ∙ one_run (decimal (slice_index a 7)) (run_decimal (slice_index a 7) (omega (arith, small))))
    ∙ ap Some (ap (λ (j : ℕ). short_octets j 0 (slice_index a 7)) (sym kind)
    ∙ ap (λ (j : ℕ). short_octets (kind_of a) j (slice_index a 7)) (sym z.0)
    ∙ ap (λ (j : ℕ). short_octets (kind_of a) (big_number 2 (drop 2 a)) j) (sym z.1) ∙ short_whole a len octets)

decimals : (first last : ℕ) → first < 2 ^ 32 → last < 2 ^ 32 → parts_of (decimal first ++ (codes ":" ++ decimal last)) ≡ pair_parts first last
decimals first last low high = two_runs (decimal first) (decimal last) (run_decimal first (omega (arith, low))) (run_decimal last (omega (arith, high)))

-- what a reader answers, by the name of the action
pub record Readings (name : List ℕ) (parts : List Part) (result : Option (List ℕ)) : Type 0 where
  pub bytes : name ≡ codes "bytes" → Gives (2 ^ 16) (2 ^ 32) rate_parts (short_octets 0x8006) parts result
  pub packets : name ≡ codes "packets" → Gives (2 ^ 16) (2 ^ 32) rate_parts (short_octets 0x800c) parts result
  pub control : name ≡ codes "control" → GivesPlain 0x8007 parts result
  pub mark : name ≡ codes "mark" → GivesPlain 0x8009 parts result
  pub as2 : name ≡ codes "redirect" → (rest : List Part) → parts ≡ form_parts (codes "as2") rest
      → Gives (2 ^ 16) (2 ^ 32) pair_parts (short_octets 0x8008) rest result
  pub ip4 : name ≡ codes "redirect" → (rest : List Part) → parts ≡ form_parts (codes "ip4") rest
      → Gives (2 ^ 32) (2 ^ 16) ip4_parts (long_octets 0x8108) rest result
  pub as4 : name ≡ codes "redirect" → (rest : List Part) → parts ≡ form_parts (codes "as4") rest
      → Gives (2 ^ 32) (2 ^ 16) pair_parts (long_octets 0x8208) rest result

pub found : (name a : List ℕ) (parts : List Part) (result : Option (List ℕ)) → IsNamed name a → parts ≡ parts_of (action_text a)
    → Readings name parts result → result ≡ Some a
found name a parts result is p r =
    each (λ bits. cleared bits a) a listed (kind_of a) P (
      λ k. rate_found 0x8006 a parts result len is.octets k (text k) (r.bytes (named k)),
      (
        λ k. rate_found 0x800c a parts result len is.octets k (text k) (r.packets (named k)),
        (
          λ k. plain_found 0x8007 0x03 a parts result len is.octets k (same_Some _ _ (normal k)) (text k) (r.control (named k)),
          (
            λ k. two_found 0x8008 2 4 4 pair_parts short_octets a _ result is.octets k (short_whole a len is.octets)
                (λ (low : big_number 2 (drop 2 a) < 2 ^ 16) high. decimals _ _ (omega (arith, low)) high) (r.as2 (named k) _ (text k)),
            (
              λ k. two_found 0x8108 4 2 6 ip4_parts long_octets a _ result is.octets k (long_whole a len is.octets)
                  (λ high (low : big_number 2 (drop 6 a) < 2 ^ 16). ip4_runs _ _ (omega (arith, low))) (r.ip4 (named k) _ (text k)),
              (
                λ k. two_found 0x8208 4 2 6 pair_parts long_octets a _ result is.octets k (long_whole a len is.octets)
                    (λ high (low : big_number 2 (drop 6 a) < 2 ^ 16). decimals _ _ high (omega (arith, low))) (r.as4 (named k) _ (text k)),
                (λ k. plain_found 0x8009 0x3f a parts result len is.octets k (same_Some _ _ (normal k)) (text k) (r.mark (named k)), tt),
              ),
            ),
          ),
        ),
      ),
    ) is.normal.normal refl
  where
    P : ℕ → Type 0
    P k = kind_of a ≡ k → result ≡ Some a

    len : length a ≡ 8
    len = is.normal.eight

    text : {k : ℕ} → kind_of a ≡ k → parts ≡ parts_of (text_at a k)
    text kind = p ∙ ap (λ (k : ℕ). parts_of (text_at a k)) kind

    named : {k : ℕ} → kind_of a ≡ k → name ≡ name_at k
    named kind = sym is.named ∙ ap name_at kind

    normal : {k : ℕ} → kind_of a ≡ k → normal_at a k ≡ Some a
    normal kind = sym (ap (normal_at a) kind) ∙ is.normal.normal

pub reads_of : {E : Type 0} (name word octets : List ℕ) (r : Result (Option (List ℕ)) E)
    → ((action : List ℕ) → IsNamed name action → word ≡ action_text action → Some octets ≡ Some action)
    → IfOk r (Compared name word octets) → IfOk r (Reads (IsNamed name) action_text word)
reads_of name word octets (Err error) only h = tt
reads_of name word octets (Ok None) only h = λ action is told.
    let same : action ≡ octets = sym (same_Some _ _ (only action is told)) in
    h (subst (IsNamed name) same is) (told ∙ ap action_text same)
reads_of name word octets (Ok (Some action)) only h =
    (h.0, h.1, λ other is told. sym (same_Some _ _ (only other is told)) ∙ same_Some _ _ (only action h.0 h.1))
