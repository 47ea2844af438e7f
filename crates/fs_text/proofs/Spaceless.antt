-- No word of a text has a space, so that a text is cut into its words.
use Rattle.fs_text.proofs.Words.{◌≡◌, ℕ, ◌/◌, ◌%◌, ◌^◌, ◌<◌, ◌≤◌, ◌==◌, List, [], ◌∷◌, ◌++◌, Bool, true, false, Option, ◌||◌, drop, refl, sym, ap}
use Rattle.fs_text.proofs.Words.{subst, ◌∙◌, arith, decimal, flat_map, slice_index, AllByRecursion, join_with_byte, option_map_or, All-from_recursion}
use Rattle.fs_text.proofs.Words.{slice_split_at, slice_split_none, eqb-true, mod-lt, big_number, encode_lower, Family, V4, V6, IsOctets, big_below}
use Rattle.fs_text.proofs.Words.{each_append, octets_at, octets_drop, Kind, joins, width_of, form_of, Body, V4Body, V6Body, ListBody, Part, ruled}
use Rattle.fs_text.proofs.Words.{AreNormal, kind_of, Redirect, action_name, action_text, plain_text, target_text, joined_text, joiner, list_text}
use Rattle.fs_text.proofs.Words.{pair_text, address_text, groups_text, offset_text, wide_address_text, body_text, component_name, list_kind}
use Rattle.fs_text.proofs.Words.{action_words, component_words, family_word, text_of, then_words, words_of, is_plain, AreActions, words_in}
use Rattle.fs_text.proofs.Words.{first_normal}
use Rattle.fs_text.proofs.Pairs.{chosen, pair_all, run_all}
use Rattle.fs_text.proofs.Prefixed.{eight_groups, range_offset, run_hexadecimal, small_group}
use Rattle.fs_text.proofs.WordParts.{plain_octets, run_decimal}
use Rattle.fs_ops.specs.OperatorList.{AreNormal as AreNormalPairs}
use Rattle.fs_nlri.{specs.Sound.{IsSoundBody}, proofs.Sound.{sound_part}}

abbrev Free : List ℕ → Type 0
Free text = AllByRecursion (λ o. (o == 32) ≡ false) text

free_append : (a b : List ℕ) → Free a → Free b → Free (a ++ b)
free_append = each_append (λ o. (o == 32) ≡ false)

plain_free : (o : ℕ) → is_plain o ≡ true → (o == 32) ≡ false
plain_free o h = by (o == 32) refl
  where
    by : (b : Bool) → (o == 32) ≡ b → (o == 32) ≡ false
    by false e = e
    by true e = absurd (let s : o ≡ 32 = eqb-true o 32 e in let k : is_plain 32 ≡ true = subst (λ (x : ℕ). is_plain x ≡ true) s h in cc)

run_free : (run : List ℕ) → AllByRecursion (λ o. is_plain o ≡ true) run → Free run
run_free = run_all (λ o. (o == 32) ≡ false) plain_free

decimal_free : (n : ℕ) → n < 2 ^ 64 → Free (decimal n)
decimal_free n small = run_free (decimal n) (run_decimal n small).1

-- lists

pair_free : (kind : Kind) (pair : ℕ × ℕ) → pair.1 < 256 ^ width_of pair.0 → Free (pair_text kind pair)
pair_free kind pair h =
    pair_all (λ o. (o == 32) ≡ false) (record { bang = refl; star = refl; less = refl; equal = refl; greater = refl; tilde = refl }) plain_free refl kind pair h

joiner_free : (operator : ℕ) → Free (joiner operator)
joiner_free operator = chosen Free (joins operator) _ _ (refl, tt) (refl, tt)

others_free : (kind : Kind) (bits : ℕ) (pair : ℕ × ℕ) (others : List (ℕ × ℕ)) → AreNormalPairs bits (pair ∷ others) → Free (flat_map (joined_text kind) others)
others_free kind bits pair [] normal = tt
others_free kind bits pair (next ∷ others) normal =
    free_append (joined_text kind next) (flat_map (joined_text kind) others)
    (free_append (joiner next.0) (pair_text kind next) (joiner_free next.0) (pair_free kind next (first_normal bits next others normal.2).fits))
    (others_free kind bits next others normal.2)

list_free : (kind : Kind) (bits : ℕ) (pairs : List (ℕ × ℕ)) → AreNormalPairs bits pairs → Free (list_text kind pairs)
list_free kind bits [] normal = tt
list_free kind bits (pair ∷ others) normal =
    free_append (pair_text kind pair) (flat_map (joined_text kind) others) (pair_free kind pair (first_normal bits pair others normal).fits)
    (others_free kind bits pair others normal)

-- prefixes

small_octet : (m : ℕ) → m % 256 < 2 ^ 64
small_octet m = let h : m % 256 < 256 = mod-lt m (omega arith) in omega (arith, h)

address_free : (address : ℕ) → Free (address_text address)
address_free address =
    free_append (decimal (address / 16777216 % 256)) _ (decimal_free (address / 16777216 % 256) (small_octet (address / 16777216))) (
      refl,
      free_append (decimal (address / 65536 % 256)) _ (decimal_free (address / 65536 % 256) (small_octet (address / 65536))) (
        refl,
        free_append (decimal (address / 256 % 256)) _ (decimal_free (address / 256 % 256) (small_octet (address / 256)))
            (refl, decimal_free (address % 256) (small_octet address)),
      ),
    )

groups_free : (g : ℕ) (gs : List ℕ) → AllByRecursion (λ k. k < 2 ^ 64) (g ∷ gs) → Free (groups_text (g ∷ gs))
groups_free g [] small = free_append _ [] (run_free _ (run_hexadecimal g small.0).1) tt
groups_free g (h ∷ gs) small = free_append _ (58 ∷ groups_text (h ∷ gs)) (run_free _ (run_hexadecimal g small.0).1) (refl, groups_free h gs small.1)

eight_free : (a b c d e f g h : ℕ)
    → Free (groups_text ((a % 65536) ∷ (b % 65536) ∷ (c % 65536) ∷ (d % 65536) ∷ (e % 65536) ∷ (f % 65536) ∷ (g % 65536) ∷ (h % 65536) ∷ []))
eight_free a b c d e f g h =
    groups_free (a % 65536) ((b % 65536) ∷ (c % 65536) ∷ (d % 65536) ∷ (e % 65536) ∷ (f % 65536) ∷ (g % 65536) ∷ (h % 65536) ∷ [])
    (small_group a, (small_group b, (small_group c, (small_group d, (small_group e, (small_group f, (small_group g, (small_group h, tt))))))))

wide_free : (n : ℕ) → Free (wide_address_text n)
wide_free n =
    subst (λ (l : List ℕ). Free (groups_text l)) (sym (eight_groups n))
    (eight_free (n / 2 ^ 64 / 2 ^ 48) (n / 2 ^ 64 / 2 ^ 32) (n / 2 ^ 64 / 2 ^ 16) (n / 2 ^ 64) (n / 2 ^ 48) (n / 2 ^ 32) (n / 2 ^ 16) n)

offset_free : (offset : ℕ) → offset < 2 ^ 64 → Free (offset_text offset)
offset_free offset small = chosen Free (offset == 0) _ _ tt (refl, decimal_free offset small)

body_free : (kind : ℕ) (body : Body) → IsSoundBody body → Free (body_text kind body)
body_free kind (V4Body family len bits) is =
    let short : len ≤ 32 = is.1 in
    free_append (address_text bits) (47 ∷ decimal len) (address_free bits) (refl, decimal_free len (omega (arith, short)))
body_free kind (V6Body len offset pattern) is =
    let high : len ≤ 128 = is.0.0 in
    let low : offset < 128 = range_offset len offset is.0 in
    free_append (wide_address_text (pattern / 2 ^ offset)) (47 ∷ (decimal len ++ offset_text offset)) (wide_free (pattern / 2 ^ offset)) (
      refl,
      free_append (decimal len) (offset_text offset) (decimal_free len (omega (arith, high))) (offset_free offset (omega (arith, low))),
    )
body_free kind (ListBody pairs) is = list_free (list_kind kind) _ pairs is.1.normal

name_free : (kind : ℕ) → Free (component_name kind)
name_free kind =
    chosen Free (kind == 1) _ _ (refl, (refl, (refl, tt)))
    (chosen Free (kind == 2) _ _ (refl, (refl, (refl, tt)))
    (chosen Free (kind == 3) _ _ (refl, (refl, (refl, (refl, (refl, tt)))))
    (chosen Free (kind == 4) _ _ (refl, (refl, (refl, (refl, tt))))
    (chosen Free (kind == 5) _ _ (refl, (refl, (refl, (refl, (refl, tt)))))
    (chosen Free (kind == 6) _ _ (refl, (refl, (refl, (refl, (refl, tt)))))
    (chosen Free (kind == 7) _ _ (refl, (refl, (refl, (refl, (refl, tt)))))
    (chosen Free (kind == 8) _ _ (refl, (refl, (refl, (refl, (refl, tt)))))
    (chosen Free (kind == 9) _ _ (refl, (refl, (refl, tt)))
    (chosen Free (kind == 10) _ _ (refl, (refl, (refl, tt)))
    (chosen Free (kind == 11) _ _ (refl, (refl, (refl, (refl, tt))))
    (chosen Free (kind == 12) _ _ (refl, (refl, (refl, (refl, tt)))) (refl, (refl, (refl, (refl, (refl, tt))))))))))))))))

-- actions

action_name_free : (action : List ℕ) → Free (action_name action)
action_name_free action =
    chosen Free (kind_of action == 0x8006) _ _ (refl, (refl, (refl, (refl, (refl, tt)))))
    (chosen Free (kind_of action == 0x800c) _ _ (refl, (refl, (refl, (refl, (refl, (refl, (refl, tt)))))))
    (chosen Free (kind_of action == 0x8007) _ _ (refl, (refl, (refl, (refl, (refl, (refl, (refl, tt)))))))
    (chosen Free (kind_of action == 0x8009) _ _ (refl, (refl, (refl, (refl, tt)))) (
      refl,
      (refl, (refl, (refl, (refl, (refl, (refl, (refl, tt))))))),
    ))))

two_free : (a b : List ℕ) → Free a → Free b → Free (a ++ 58 ∷ b)
two_free a b p q = free_append a (58 ∷ b) p (refl, q)

abbrev TargetFree : List ℕ → Option Redirect → Type 0
TargetFree action target = Free (option_map_or target_text target (plain_text action))

action_free : (action : List ℕ) → IsOctets action → Free (action_text action)
action_free action octets =
    chosen (TargetFree action) (kind_of action == 0x8008) _ _ (
      refl,
      (refl, (refl, (refl, two_free _ _ (decimal_free _ (omega (arith, low2))) (decimal_free _ (omega (arith, high4)))))),
    )
    (chosen (TargetFree action) (kind_of action == 0x8108) _ _ (
      refl,
      (refl, (refl, (refl, two_free _ _ (address_free _) (decimal_free _ (omega (arith, low6)))))),
    )
    (chosen (TargetFree action) (kind_of action == 0x8208) _ _ (
      refl,
      (refl, (refl, (refl, two_free _ _ (decimal_free _ (omega (arith, high2))) (decimal_free _ (omega (arith, low6)))))),
    )
    (chosen Free ((kind_of action == 0x8006) || (kind_of action == 0x800c)) _ _
    (two_free _ _ (decimal_free _ (omega (arith, low2))) (run_free (encode_lower (drop 4 action)) (plain_octets (drop 4 action) (octets_drop 4 action octets))))
    (decimal_free (slice_index action 7) (omega (arith, last))))))
  where
    low2 : big_number 2 (drop 2 action) < 2 ^ 16
    low2 = big_below 2 (drop 2 action) (octets_drop 2 action octets)

    high2 : big_number 4 (drop 2 action) < 2 ^ 32
    high2 = big_below 4 (drop 2 action) (octets_drop 2 action octets)

    high4 : big_number 4 (drop 4 action) < 2 ^ 32
    high4 = big_below 4 (drop 4 action) (octets_drop 4 action octets)

    low6 : big_number 2 (drop 6 action) < 2 ^ 16
    low6 = big_below 2 (drop 6 action) (octets_drop 6 action octets)

    last : slice_index action 7 < 256
    last = octets_at action octets 7

-- texts

components_free : (family : Family) (last : ℕ) (parts : List Part) → AreNormal family last parts → AllByRecursion Free (component_words parts)
components_free family last [] normal = tt
components_free family last (part ∷ parts) normal = (
  name_free part.kind,
  (
    body_free part.kind part.body (sound_part (form_of family part.kind) part.body normal.1),
    components_free family part.kind parts normal.2,
  ),
)

actions_free : (actions : List (List ℕ)) → AllByRecursion IsOctets actions → AllByRecursion Free (action_words actions)
actions_free [] all = tt
actions_free (a ∷ actions) all = (action_name_free a, (action_free a all.0, actions_free actions all.1))

then_free : (actions : List (List ℕ)) → AllByRecursion IsOctets actions → AllByRecursion Free (then_words actions)
then_free [] all = tt
then_free (a ∷ actions) all = ((refl, (refl, (refl, (refl, tt)))), actions_free (a ∷ actions) all)

family_free : (family : Family) → Free (family_word family)
family_free V4 = (refl, (refl, tt))
family_free V6 = (refl, (refl, tt))

split_join : (word : List ℕ) (words : List (List ℕ)) → AllByRecursion Free (word ∷ words) → words_in (join_with_byte 32 (word ∷ words)) ≡ word ∷ words
split_join word [] all = slice_split_none (λ o. o == 32) word (All-from_recursion (λ o. (o == 32) ≡ false) word all.0)
split_join word (next ∷ words) all =
    slice_split_at (λ o. o == 32) word 32 (join_with_byte 32 (next ∷ words)) (All-from_recursion (λ o. (o == 32) ≡ false) word all.0) refl
    ∙ ap (λ (l : List (List ℕ)). word ∷ l) (split_join next words all.1)

-- a text is cut into the words of its rule and its actions
pub words_back : (family : Family) (parts : List Part) (actions : List (List ℕ)) → AreNormal family 0 parts → AreActions actions
    → words_in (text_of (ruled family parts) actions) ≡ words_of (ruled family parts) actions
words_back family parts actions normal are =
    split_join (family_word family) (component_words parts ++ then_words actions)
    (family_free family, each_append Free (component_words parts) (then_words actions) (components_free family 0 parts normal) (then_free actions are.octets))
