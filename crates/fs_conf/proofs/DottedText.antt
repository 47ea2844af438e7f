-- The dotted texts of std's grammar are those whose octets `ipv4_octets_of` gives.
use Rattle.fs_conf.proofs.Words.{◌≡◌, ℕ, ◌<◌, ◌==◌, nat_lt, ◌&&◌, List, [], ◌∷◌, ◌++◌, length, get_or, map, Some, decimal, refl, arith, append_assoc}
use Rattle.fs_conf.proofs.Words.{append-nil, lt-ltb, ltb-true, eqb-true, lit≤, and_parts, same_Some, bytes_eq-Decides, cond_some, and_then_some}
use Rattle.fs_conf.proofs.Words.{map_some, IsDotted, bytes_eq, digits_value, dot, fields_of, each_of, decimal_octet, ipv4_octets_of}
use Rattle.fs_conf.proofs.Separated.{joined, joined-fields_of, Lacks, Lacks-AllDigits, fields_of-end, fields_of-append}
use Rattle.std.{proofs.{lemmas.Fmt.{decimal_is_IsNumeral}, NetLemmas.Arrays.{four_items}}, specs.Net.Text.{dotted_text}}

decimal_octet-decimal : (n : ℕ) → n < 256 → decimal_octet (decimal n) ≡ Some n
decimal_octet-decimal n small =
    let value = (decimal_is_IsNumeral n (omega arith)).1 in
    rw (value, lt-ltb n 256 small, (bytes_eq-Decides (decimal n) (decimal n)).1 refl)

decimal_octet_sound : (text : List ℕ) (n : ℕ) → decimal_octet text ≡ Some n → (n < 256) × (text ≡ decimal n)
decimal_octet_sound text n e =
    let value = digits_value 10 text in
    let (test, same) = cond_some (nat_lt value 256 && bytes_eq text (decimal value)) value n e in
    let (small, spelled) = and_parts (nat_lt value 256) (bytes_eq text (decimal value)) test in
    rw (← same) (ltb-true value 256 small, (bytes_eq-Decides text (decimal value)).0 spelled)

no_dot : (n : ℕ) → n < 256 → Lacks dot (decimal n)
no_dot n small = Lacks-AllDigits dot 10 (decimal n) (lit≤ tt) (decimal_is_IsNumeral n (omega arith)).0.1

pub regrouped : (a b c d : ℕ) → dotted_text a b c d ≡ decimal a ++ 46 ∷ (decimal b ++ 46 ∷ (decimal c ++ 46 ∷ decimal d))
regrouped a b c d = simp append_assoc

four_fields : (a b c d : ℕ) → (a < 256) × (b < 256) × (c < 256) × (d < 256)
    → fields_of dot (dotted_text a b c d) ≡ decimal a ∷ decimal b ∷ decimal c ∷ decimal d ∷ []
four_fields a b c d fit =
    rw (
      regrouped a b c d,
      fields_of-append dot (decimal a) (decimal b ++ 46 ∷ (decimal c ++ 46 ∷ decimal d)) (no_dot a fit.0),
      fields_of-append dot (decimal b) (decimal c ++ 46 ∷ decimal d) (no_dot b fit.1),
      fields_of-append dot (decimal c) (decimal d) (no_dot c fit.2),
      fields_of-end dot (decimal d) (no_dot d fit.3),
    )

pub ipv4_octets_of_complete : (text octets : List ℕ) → IsDotted text octets → ipv4_octets_of text ≡ Some octets
ipv4_octets_of_complete text octets h =
    rw (
      h.spelled,
      h.value,
      four_fields h.a h.b h.c h.d h.fit,
      decimal_octet-decimal h.a h.fit.0,
      decimal_octet-decimal h.b h.fit.1,
      decimal_octet-decimal h.c h.fit.2,
      decimal_octet-decimal h.d h.fit.3,
    )

abbrev AllSmall : List ℕ → Type 0
AllSmall [] = Unit {0}
AllSmall (n ∷ numbers) = (n < 256) × AllSmall numbers

-- the fields are the numbers' decimal texts
abbrev AreDecimal : List (List ℕ) → List ℕ → Type 0
AreDecimal fields numbers = (fields ≡ map decimal numbers) × AllSmall numbers

more_decimal : (field : List ℕ) (fields : List (List ℕ)) (n : ℕ) (more : List ℕ) → (n < 256) × (field ≡ decimal n) → AreDecimal fields more
    → AreDecimal (field ∷ fields) (n ∷ more)
more_decimal field fields n more first rest = (rw (first.1, rest.0), (first.0, rest.1))

each_of_decimal : (fields : List (List ℕ)) (numbers : List ℕ) → each_of decimal_octet fields ≡ Some numbers → AreDecimal fields numbers
each_of_decimal [] numbers e = rw (← same_Some [] numbers e) (refl, tt)
each_of_decimal (field ∷ fields) numbers e =
    and_then_some _ (decimal_octet field) _ e λ n read kept.
    map_some _ (each_of decimal_octet fields) _ kept λ more rest same.
    rw (← same) (more_decimal field fields n more (decimal_octet_sound field n read) (each_of_decimal fields more rest))

dotted_from : (fields : List (List ℕ)) (a b c d : ℕ) → AreDecimal fields (a ∷ b ∷ c ∷ d ∷ []) → IsDotted (joined dot fields) (a ∷ b ∷ c ∷ d ∷ [])
dotted_from fields a b c d (spelled, small) = record {
  a = a;
  b = b;
  c = c;
  d = d;
  fit = (small.0, small.1.0, small.1.1.0, small.1.1.1.0);
  value = refl;
  spelled = rw (spelled, regrouped a b c d, append-nil (decimal d));
}

four_from : (fields : List (List ℕ)) (octets : List ℕ) → AreDecimal fields octets → length octets ≡ 4 → IsDotted (joined dot fields) octets
four_from fields octets are four =
    let same = four_items octets four in
    rw same (dotted_from fields (get_or octets 0 0) (get_or octets 1 0) (get_or octets 2 0) (get_or octets 3 0) (rw same at are))

pub ipv4_octets_of_sound : (text octets : List ℕ) → ipv4_octets_of text ≡ Some octets → IsDotted text octets
ipv4_octets_of_sound text octets e =
    let fields = fields_of dot text in
    and_then_some _ (each_of decimal_octet fields) _ e λ numbers read kept.
    let (four, same) = cond_some (length numbers == 4) numbers octets kept in
    let dotted = four_from fields numbers (each_of_decimal fields numbers read) (eqb-true (length numbers) 4 four) in
    rw (joined-fields_of dot text, same) at dotted
