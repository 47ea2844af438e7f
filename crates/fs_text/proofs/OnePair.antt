-- A text is that of no two rules with actions.
use Rattle.fs_text.proofs.Words.{◌≡◌, inl, inr, ℕ, ◌+◌, ◌-◌, ◌*◌, ◌/◌, ◌%◌, ◌^◌, ◌<◌, ◌≤◌, ◌==◌, zero, suc, List, [], ◌∷◌, ◌++◌, drop, get_or, Bool}
use Rattle.fs_text.proofs.Words.{true, false, if◌then◌else◌, Option, Some, Result, refl, sym, ap, subst, ◌∙◌, arith, codes, decimal, AllByRecursion}
use Rattle.fs_text.proofs.Words.{bytes_eq, digits_value, div-le_self, mod-lt, cases_lt, eqb-true, same_Some, big_bytes, big_number, decode_sized}
use Rattle.fs_text.proofs.Words.{encode_lower, FromHexError, IsOctets, Family, V4, V6, form_of, prefix_form, Body, V4Body, V6Body, ListBody, Ruled}
use Rattle.fs_text.proofs.Words.{part, ruled, AreNormal, IsNormalAt, IsNormalBody, IsRule, IsAction, action_words, component_words, text_of}
use Rattle.fs_text.proofs.Words.{then_words, words_of, action_name, action_text, hexadecimal, body_text, component_name, list_kind, value_text, Gives}
use Rattle.fs_text.proofs.Words.{GivesPlain, form_parts, ip4_parts, long_octets, pair_parts, rate_parts, short_octets, IsNamed, Run, Delimiter}
use Rattle.fs_text.proofs.Words.{parts_of, GivesV4, GivesV6, range_parts, wide_parts, AreActions, words_in}
use Rattle.fs_text.proofs.{Acted.{no_then}, Found.{Readings, found}, Led.{head_is, no_words, one_family, tail_is}}
use Rattle.fs_text.proofs.Listed.{IsListed, at_most, listed, low_type, prefix_normal, prefix_text}
use Rattle.fs_text.proofs.{Made.{below, number_with}, Numerals.{figure_decoded, figure_read}}
use Rattle.fs_text.proofs.OneList.{decimal_back, hexadecimal_back, octets_in, one_list}
use Rattle.fs_text.proofs.Prefixed.{pattern_back, pattern_small, range_offset, v4_found, v6_found}
use Rattle.fs_text.proofs.Spaceless.{words_back}
use Rattle.fs_text.specs.Pieces.{Part}
use Rattle.fs_nlri.specs.Parts.{Part as AnyPart}

-- what the parts of a word say, read as numbers

abbrev text_in : Part → List ℕ
text_in (Run run) = run
text_in (Delimiter delimiter) = []

abbrev text_at : List Part → ℕ → List ℕ
text_at parts place = text_in (get_or parts place (Delimiter 0))

abbrev number_at : List Part → ℕ → ℕ
number_at parts place = digits_value 10 (text_at parts place)

abbrev group_at : List Part → ℕ → ℕ
group_at parts place = digits_value 16 (text_at parts place)

abbrev figure_of : List ℕ → ℕ
figure_of text = big_number 4 (octets_in (decode_sized text 4))

figure_back : (n : ℕ) → n < 2 ^ 32 → figure_of (encode_lower (big_bytes 4 n)) ≡ n
figure_back n small = ap (λ (r : Result (List ℕ) FromHexError). big_number 4 (octets_in r)) (figure_decoded n) ∙ figure_read n small

octet_back : (n k : ℕ) → digits_value 10 (decimal (n / k % 256)) ≡ n / k % 256
octet_back n k = let small : n / k % 256 < 256 = mod-lt (n / k) (omega arith) in decimal_back (n / k % 256) (omega (arith, small))

-- prefixes

abbrev dotted_at : List Part → ℕ
dotted_at parts = ((number_at parts 0 * 256 + number_at parts 2) * 256 + number_at parts 4) * 256 + number_at parts 6

abbrev address_of : (a b c d : List ℕ) → ℕ
address_of a b c d = ((digits_value 10 a * 256 + digits_value 10 b) * 256 + digits_value 10 c) * 256 + digits_value 10 d

address_back : (n : ℕ) → n < 2 ^ 32
    → address_of (decimal (n / 2 ^ 24 % 256)) (decimal (n / 2 ^ 16 % 256)) (decimal (n / 2 ^ 8 % 256)) (decimal (n % 256)) ≡ n
address_back n small =
    let a : digits_value 10 (decimal (n / 16777216 % 256)) ≡ n / 16777216 % 256 = octet_back n 16777216 in
    let b : digits_value 10 (decimal (n / 65536 % 256)) ≡ n / 65536 % 256 = octet_back n 65536 in
    let c : digits_value 10 (decimal (n / 256 % 256)) ≡ n / 256 % 256 = octet_back n 256 in
    let low : n % 256 < 256 = mod-lt n (omega arith) in
    let d : digits_value 10 (decimal (n % 256)) ≡ n % 256 = decimal_back (n % 256) (omega (arith, low)) in
    omega (arith, a, b, c, d, small)

abbrev v4_at : List Part → Option Body
v4_at parts = Some (V4Body V4 (number_at parts 8) (dotted_at parts))

v4_made : (l len b bits : ℕ) → l ≡ len → b ≡ bits → Some (V4Body V4 l b) ≡ Some (V4Body V4 len bits)
v4_made l len b bits p q =
    ap (λ (k : ℕ). let made : Option Body = Some (V4Body V4 k b) in made) p ∙ ap (λ (k : ℕ). let made : Option Body = Some (V4Body V4 len k) in made) q

v4_gives : (parts : List Part) → GivesV4 parts (v4_at parts)
v4_gives parts len bits short small clear is =
    ap v4_at is ∙ v4_made (digits_value 10 (decimal len)) len _ bits (decimal_back len (omega (arith, short))) (address_back bits small)

abbrev half_of : (a b c d : ℕ) → ℕ
half_of a b c d = ((a * 65536 + b) * 65536 + c) * 65536 + d

half_back : (n : ℕ) → half_of (n / 2 ^ 48 % 2 ^ 16) (n / 2 ^ 32 % 2 ^ 16) (n / 2 ^ 16 % 2 ^ 16) (n % 2 ^ 16) ≡ n % 18446744073709551616
half_back n = omega arith

group_back : (n : ℕ) → digits_value 16 (hexadecimal (n % 2 ^ 16)) ≡ n % 2 ^ 16
group_back n = let small : n % 65536 < 65536 = mod-lt n (omega arith) in hexadecimal_back (n % 65536) (omega (arith, small))

abbrev groups_of : (a b c d : List ℕ) → ℕ
groups_of a b c d = half_of (digits_value 16 a) (digits_value 16 b) (digits_value 16 c) (digits_value 16 d)

same_half : (a b c d p q r s : ℕ) → a ≡ p → b ≡ q → c ≡ r → d ≡ s → half_of a b c d ≡ half_of p q r s
same_half a b c d p q r s e f g h = omega (arith, e, f, g, h)

abbrev own_half : ℕ → ℕ
own_half n =
    groups_of (hexadecimal (n / 2 ^ 48 % 2 ^ 16)) (hexadecimal (n / 2 ^ 32 % 2 ^ 16)) (hexadecimal (n / 2 ^ 16 % 2 ^ 16)) (hexadecimal (n % 2 ^ 16))

groups_back : (n : ℕ) → own_half n ≡ n % 18446744073709551616
groups_back n =
    same_half _ _ _ _ (n / 2 ^ 48 % 2 ^ 16) (n / 2 ^ 32 % 2 ^ 16) (n / 2 ^ 16 % 2 ^ 16) (n % 2 ^ 16) (group_back (n / 2 ^ 48))
    (group_back (n / 2 ^ 32)) (group_back (n / 2 ^ 16)) (group_back n)
    ∙ half_back n

abbrev wide_at : List Part → ℕ
wide_at parts =
    groups_of (text_at parts 0) (text_at parts 2) (text_at parts 4) (text_at parts 6) * 18446744073709551616
    + groups_of (text_at parts 8) (text_at parts 10) (text_at parts 12) (text_at parts 14)

halves_joined : (n : ℕ) → n < 2 ^ 128 → n / 2 ^ 64 % 18446744073709551616 * 18446744073709551616 + n % 18446744073709551616 ≡ n
halves_joined n small = omega (arith, small)

wide_back : (n : ℕ) (tail : List Part) → n < 2 ^ 128 → wide_at (wide_parts n tail) ≡ n
wide_back n tail small =
    ap (λ (h : ℕ). h * 18446744073709551616 + own_half n) (groups_back (n / 2 ^ 64))
    ∙ ap (λ (l : ℕ). n / 2 ^ 64 % 18446744073709551616 * 18446744073709551616 + l) (groups_back n) ∙ halves_joined n small

offset_back : (n len offset : ℕ) → offset < 128 → number_at (wide_parts n (range_parts len offset)) 18 ≡ offset
offset_back n len offset low = by (offset == 0) refl
  where
    by : (b : Bool) → (offset == 0) ≡ b
        → number_at (wide_parts n (Delimiter 47 ∷ Run (decimal len) ∷ (if b then [] else Delimiter 45 ∷ Run (decimal offset) ∷ []))) 18 ≡ offset
    by true e = sym (eqb-true offset 0 e)
    by false e = decimal_back offset (omega (arith, low))

abbrev v6_at : List Part → Option Body
v6_at parts = Some (V6Body (number_at parts 16) (number_at parts 18) (wide_at parts * 2 ^ number_at parts 18 % 340282366920938463463374607431768211456))

v6_made : (l len o offset a n : ℕ) → l ≡ len → o ≡ offset → a ≡ n
    → Some (V6Body l o (a * 2 ^ o % 340282366920938463463374607431768211456))
    ≡ Some (V6Body len offset (n * 2 ^ offset % 340282366920938463463374607431768211456))
v6_made l len o offset a n p q r =
    ap (λ (k : ℕ). let made : Option Body = Some (V6Body k o (a * 2 ^ o % 340282366920938463463374607431768211456)) in made) p
    ∙ ap (λ (k : ℕ). let made : Option Body = Some (V6Body len k (a * 2 ^ k % 340282366920938463463374607431768211456)) in made) q
    ∙ ap (λ (k : ℕ). let made : Option Body = Some (V6Body len offset (k * 2 ^ offset % 340282366920938463463374607431768211456)) in made) r

v6_gives : (parts : List Part) → GivesV6 parts (v6_at parts)
v6_gives parts len offset pattern range clear is =
    let n : ℕ = pattern / 2 ^ offset in
    let short : len ≤ 128 = range.0 in
    let low : offset < 128 = range_offset len offset range in
    let small : pattern < 2 ^ 128 = pattern_small (len - offset) pattern (omega (arith, short)) clear in
    let less : pattern / 2 ^ offset ≤ pattern = div-le_self pattern (2 ^ offset) in
    ap v6_at is
    ∙ v6_made (digits_value 10 (decimal len)) len (number_at (wide_parts (pattern / 2 ^ offset) (range_parts len offset)) 18) offset
    (wide_at (wide_parts (pattern / 2 ^ offset) (range_parts len offset))) (pattern / 2 ^ offset) (decimal_back len (omega (arith, short)))
    (offset_back (pattern / 2 ^ offset) len offset low) (wide_back (pattern / 2 ^ offset) (range_parts len offset) (omega (arith, small, less)))
    ∙ ap (λ (k : ℕ). let made : Option Body = Some (V6Body len offset k) in made) (pattern_back len offset pattern (pattern / 2 ^ offset) range clear refl)

one_prefix : (family : Family) (x y : Body) → IsNormalBody (prefix_form family) x → IsNormalBody (prefix_form family) y → body_text 1 x ≡ body_text 1 y → x ≡ y
one_prefix V4 x y is are e =
    same_Some _ _ (sym (v4_found x (parts_of (body_text 1 x)) (v4_at (parts_of (body_text 1 x))) is refl (v4_gives (parts_of (body_text 1 x))))
    ∙ v4_found y (parts_of (body_text 1 x)) (v4_at (parts_of (body_text 1 x))) are (ap parts_of e) (v4_gives (parts_of (body_text 1 x))))
one_prefix V6 x y is are e =
    same_Some _ _ (sym (v6_found x (parts_of (body_text 1 x)) (v6_at (parts_of (body_text 1 x))) is refl (v6_gives (parts_of (body_text 1 x))))
    ∙ v6_found y (parts_of (body_text 1 x)) (v6_at (parts_of (body_text 1 x))) are (ap parts_of e) (v6_gives (parts_of (body_text 1 x))))

-- components

one_body : (family : Family) (kind : ℕ) (x y : Body) → IsNormalAt (form_of family kind) x → IsNormalAt (form_of family kind) y
    → body_text kind x ≡ body_text kind y → x ≡ y
one_body family kind x y is are e = elim (cases_lt 2 kind) [ inl high ↦ lists high | inr low ↦ prefixes low ]
  where
    prefixes : kind ≤ 2 → x ≡ y
    prefixes low =
        let first : IsNormalBody (prefix_form family) x = prefix_normal family kind x low is in
        let second : IsNormalBody (prefix_form family) y = prefix_normal family kind y low are in
        one_prefix family x y first second (sym (prefix_text family kind x first) ∙ e ∙ prefix_text family kind y second)

    lists : 2 < kind → x ≡ y
    lists high =
        let first : IsListed kind x = listed family kind x is (λ k. absurd (omega (arith, k, high))) (λ k. absurd (omega (arith, k, high))) in
        let second : IsListed kind y = listed family kind y are (λ k. absurd (omega (arith, k, high))) (λ k. absurd (omega (arith, k, high))) in
        let texts : body_text kind (ListBody first.pairs) ≡ body_text kind (ListBody second.pairs) =
        ap (body_text kind) (sym first.body_is) ∙ e ∙ ap (body_text kind) second.body_is in
        first.body_is ∙ ap ListBody (one_list (list_kind kind) first.pairs second.pairs first.normal second.normal texts) ∙ sym second.body_is

kind_back : (kind : ℕ) → 1 ≤ kind → kind ≤ 13 → number_with component_name 14 (component_name kind) ≡ kind
kind_back zero low high = absurd (omega arith)
kind_back (suc k) low high = eqb-true (number_with component_name 14 (component_name (suc k))) (suc k)
    (below (λ n. number_with component_name 14 (component_name (suc n)) == suc n) 13 k refl (omega arith))

one_part : (family : Family) (p q : AnyPart) → IsNormalAt (form_of family p.kind) p.body → IsNormalAt (form_of family q.kind) q.body
    → component_name p.kind ≡ component_name q.kind → value_text p ≡ value_text q → p ≡ q
one_part family p q is are names texts =
    let kind : p.kind ≡ q.kind =
    sym (kind_back p.kind (low_type family p.kind p.body is) (at_most family p.kind p.body is)) ∙ ap (number_with component_name 14) names
    ∙ kind_back q.kind (low_type family q.kind q.body are) (at_most family q.kind q.body are) in
    let moved : IsNormalAt (form_of family q.kind) p.body = subst (λ (k : ℕ). IsNormalAt (form_of family k) p.body) kind is in
    let body : p.body ≡ q.body = one_body family q.kind p.body q.body moved are (ap (λ (k : ℕ). body_text k p.body) (sym kind) ∙ texts) in
    ap (λ (k : ℕ). part k p.body) kind ∙ ap (part q.kind) body

-- actions

made_of : (f : ℕ → ℕ → List ℕ) (a b c d : ℕ) → a ≡ c → b ≡ d → Some (f a b) ≡ Some (f c d)
made_of f a b c d p q = ap (λ (k : ℕ). let made : Option (List ℕ) = Some (f k b) in made) p
    ∙ ap (λ (k : ℕ). let made : Option (List ℕ) = Some (f c k) in made) q

abbrev rate_at : ℕ → List Part → Option (List ℕ)
rate_at kind parts = Some (short_octets kind (number_at parts 0) (figure_of (text_at parts 2)))

abbrev plain_at : ℕ → List Part → Option (List ℕ)
plain_at kind parts = Some (short_octets kind 0 (number_at parts 0))

abbrev pair_at : (ℕ → ℕ → List ℕ) → List Part → Option (List ℕ)
pair_at octets parts = Some (octets (number_at parts 0) (number_at parts 2))

abbrev ip4_at : List Part → Option (List ℕ)
ip4_at parts = Some (long_octets 0x8108 (dotted_at parts) (number_at parts 8))

rate_gives : (kind : ℕ) (parts : List Part) → Gives (2 ^ 16) (2 ^ 32) rate_parts (short_octets kind) parts (rate_at kind parts)
rate_gives kind parts first last low high is =
    ap (rate_at kind) is ∙ made_of (short_octets kind) _ _ first last (decimal_back first (omega (arith, low))) (figure_back last high)

plain_gives : (kind : ℕ) (parts : List Part) → GivesPlain kind parts (plain_at kind parts)
plain_gives kind parts last low is = ap (plain_at kind) is ∙ made_of (short_octets kind) 0 _ 0 last refl (decimal_back last (omega (arith, low)))

pair_gives : (a b : ℕ) → a ≤ 2 ^ 64 → b ≤ 2 ^ 64 → (octets : ℕ → ℕ → List ℕ) (parts : List Part) → Gives a b pair_parts octets parts (pair_at octets parts)
pair_gives a b p q octets parts first last low high is =
    ap (pair_at octets) is ∙ made_of octets _ _ first last (decimal_back first (omega (arith, low, p))) (decimal_back last (omega (arith, high, q)))

ip4_gives : (parts : List Part) → Gives (2 ^ 32) (2 ^ 16) ip4_parts (long_octets 0x8108) parts (ip4_at parts)
ip4_gives parts first last low high is =
    ap ip4_at is ∙ made_of (long_octets 0x8108) _ _ first last (address_back first low) (decimal_back last (omega (arith, high)))

abbrev target_at : List ℕ → List Part → Option (List ℕ)
target_at form rest =
    if bytes_eq form (codes "as2") then pair_at (short_octets 0x8008) rest
    else if bytes_eq form (codes "ip4") then ip4_at rest
    else pair_at (long_octets 0x8208) rest

abbrev action_at : List ℕ → List Part → Option (List ℕ)
action_at name parts =
    if bytes_eq name (codes "bytes") then rate_at 0x8006 parts
    else if bytes_eq name (codes "packets") then rate_at 0x800c parts
    else if bytes_eq name (codes "control") then plain_at 0x8007 parts
    else if bytes_eq name (codes "mark") then plain_at 0x8009 parts
    else target_at (text_at parts 0) (drop 2 parts)

given : {low high : ℕ} {parts_are : ℕ → ℕ → List Part} {octets : ℕ → ℕ → List ℕ} {parts : List Part} (r s : Option (List ℕ)) → r ≡ s
    → Gives low high parts_are octets parts s → Gives low high parts_are octets parts r
given r s e gives first last p q is = e ∙ gives first last p q is

given_plain : (kind : ℕ) (parts : List Part) (r s : Option (List ℕ)) → r ≡ s → GivesPlain kind parts s → GivesPlain kind parts r
given_plain kind parts r s e gives last p is = e ∙ gives last p is

target : (name : List ℕ) (parts rest : List Part) (form : List ℕ) → name ≡ codes "redirect" → parts ≡ form_parts form rest
    → action_at name parts ≡ target_at form rest
target name parts rest form e is = ap (λ (n : List ℕ). action_at n parts) e ∙ ap (λ (l : List Part). target_at (text_at l 0) (drop 2 l)) is

readings : (name : List ℕ) (parts : List Part) → Readings name parts (action_at name parts)
readings name parts = record {
  bytes = λ e. given (action_at name parts) (rate_at 0x8006 parts) (ap (λ (n : List ℕ). action_at n parts) e) (rate_gives 0x8006 parts);
  packets = λ e. given (action_at name parts) (rate_at 0x800c parts) (ap (λ (n : List ℕ). action_at n parts) e) (rate_gives 0x800c parts);
  control = λ e. given_plain 0x8007 parts (action_at name parts) (plain_at 0x8007 parts) (ap (λ (n : List ℕ). action_at n parts) e) (plain_gives 0x8007 parts);
  mark = λ e. given_plain 0x8009 parts (action_at name parts) (plain_at 0x8009 parts) (ap (λ (n : List ℕ). action_at n parts) e) (plain_gives 0x8009 parts);
  as2 = λ e rest is.
      given (action_at name parts) (pair_at (short_octets 0x8008) rest) (target name parts rest (codes "as2") e is)
      (pair_gives (2 ^ 16) (2 ^ 32) (omega arith) (omega arith) (short_octets 0x8008) rest);
  ip4 = λ e rest is. given (action_at name parts) (ip4_at rest) (target name parts rest (codes "ip4") e is) (ip4_gives rest);
  as4 = λ e rest is.
      given (action_at name parts) (pair_at (long_octets 0x8208) rest) (target name parts rest (codes "as4") e is)
      (pair_gives (2 ^ 32) (2 ^ 16) (omega arith) (omega arith) (long_octets 0x8208) rest);
}

one_action : (a b : List ℕ) → IsAction a → IsOctets a → IsAction b → IsOctets b → action_name a ≡ action_name b → action_text a ≡ action_text b → a ≡ b
one_action a b is small are low names texts =
    let parts : List Part = parts_of (action_text a) in
    let first : IsNamed (action_name b) a = record { normal = is; octets = small; named = names } in
    let second : IsNamed (action_name b) b = record { normal = are; octets = low; named = refl } in
    same_Some _ _ (sym (found (action_name b) a (parts_of (action_text a)) (action_at (action_name b) (parts_of (action_text a))) first refl
    (readings (action_name b) (parts_of (action_text a))))
    ∙ found (action_name b) b (parts_of (action_text a)) (action_at (action_name b) (parts_of (action_text a))) second (ap parts_of texts)
    (readings (action_name b) (parts_of (action_text a))))

one_actions : (said told : List (List ℕ)) → AllByRecursion IsAction said → AllByRecursion IsOctets said → AllByRecursion IsAction told
    → AllByRecursion IsOctets told
    → action_words said ≡ action_words told → said ≡ told
one_actions [] [] is small are low e = refl
one_actions [] (b ∷ told) is small are low e = no_words (sym e)
one_actions (a ∷ said) [] is small are low e = no_words e
one_actions (a ∷ said) (b ∷ told) is small are low e =
    ap (λ (x : List ℕ). x ∷ said) (one_action a b is.0 small.0 are.0 low.0 (head_is e) (head_is (tail_is e)))
    ∙ ap (λ (l : List (List ℕ)). b ∷ l) (one_actions said told is.1 small.1 are.1 low.1 (tail_is (tail_is e)))

one_then : (said told : List (List ℕ)) → AreActions said → AreActions told → then_words said ≡ then_words told → said ≡ told
one_then [] [] is are e = refl
one_then [] (b ∷ told) is are e = no_words (sym e)
one_then (a ∷ said) [] is are e = no_words e
one_then (a ∷ said) (b ∷ told) is are e = one_actions (a ∷ said) (b ∷ told) is.rising.each is.octets are.rising.each are.octets (tail_is e)

-- whole texts

abbrev Both : (ps qs : List AnyPart) (said told : List (List ℕ)) → Type 0
Both ps qs said told = (ps ≡ qs) × (said ≡ told)

then_named : {A : Type 0} (q : AnyPart) (more : List (List ℕ)) (said : List (List ℕ)) → then_words said ≡ component_name q.kind ∷ more → A
then_named q more [] e = no_words (sym e)
then_named q more (a ∷ said) e = absurd (no_then q.kind (sym (head_is e)))

one_words : (family : Family) (last low : ℕ) (ps qs : List AnyPart) (said told : List (List ℕ)) → AreNormal family last ps → AreNormal family low qs
    → AreActions said → AreActions told
    → component_words ps ++ then_words said ≡ component_words qs ++ then_words told → Both ps qs said told
one_words family last low [] [] said told is are given_ also e = (refl, one_then said told given_ also e)
one_words family last low [] (q ∷ qs) said told is are given_ also e = then_named q _ said e
one_words family last low (p ∷ ps) [] said told is are given_ also e = then_named p _ told (sym e)
one_words family last low (p ∷ ps) (q ∷ qs) said told is are given_ also e =
    let same : p ≡ q = one_part family p q is.1 are.1 (head_is e) (head_is (tail_is e)) in
    let later : Both ps qs said told = one_words family p.kind q.kind ps qs said told is.2 are.2 given_ also (tail_is (tail_is e)) in
    (ap (λ (x : AnyPart). x ∷ ps) same ∙ ap (λ (l : List AnyPart). q ∷ l) later.0, later.1)

pub one_text : (rule other : Ruled) (said told : List (List ℕ)) → IsRule rule → AreActions said → IsRule other → AreActions told
    → text_of rule said ≡ text_of other told
    → (rule ≡ other) × (said ≡ told)
one_text rule other said told is are also too e =
    let words : words_of rule said ≡ words_of other told =
    sym (words_back rule.family rule.parts said is.normal are) ∙ ap words_in e ∙ words_back other.family other.parts told also.normal too in
    let family : other.family ≡ rule.family = one_family other.family rule.family (head_is words) in
    let moved : AreNormal rule.family 0 other.parts = subst (λ (f : Family). AreNormal f 0 other.parts) family also.normal in
    let both : Both rule.parts other.parts said told = one_words rule.family 0 0 rule.parts other.parts said told is.normal moved are too (tail_is words) in
    (ap (λ (f : Family). ruled f rule.parts) (sym family) ∙ ap (ruled other.family) both.0, both.1)
