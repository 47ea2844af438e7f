-- The texts of std's grammar of IPv6 without a dot are those whose groups `ipv6_groups_of` gives.
use Rattle.std.proofs.Common.{take-append-drop, option_and_then, codes, leb-true}
use Rattle.fs_conf.proofs.Words.{◌≡◌, ℕ, ◌+◌, ◌-◌, ◌<◌, ◌==◌, nat_lt, nat_le, ◌&&◌, Bool, true, false, if◌then◌else◌, List, [], ◌∷◌, ◌++◌, length}
use Rattle.fs_conf.proofs.Words.{take, drop, replicate, Option, Some, None, option_map, decimal, refl, sym, ap, ◌∙◌, arith, inl, inr, append_assoc}
use Rattle.fs_conf.proofs.Words.{append-nil, lt-ltb, ltb-true, le-leb, eqb-true, eq-eqb, lit≤, and_from, and_parts, none-some, same_Some}
use Rattle.fs_conf.proofs.Words.{bytes_eq-Decides, cond_some, and_then_some, map_some, same_parts, digit_value, is_digit, list_all, IsDotted, IsGroup}
use Rattle.fs_conf.proofs.Words.{IsGroupsAfter, IsGroups, IsColonHex, bytes_eq, AllDigits, digits_value, dot, colon, fields_of, each_of, exactly}
use Rattle.fs_conf.proofs.Words.{group_of, groups_of, around_double_colon, ipv6_form_2, ipv6_groups_of}
use Rattle.fs_conf.proofs.DottedText.{regrouped}
use Rattle.fs_conf.proofs.Separated.{each_after, joined, joined-fields_of, fields_some, Lacks, Lacks-not_among, Lacks-back, Lacks-front}
use Rattle.fs_conf.proofs.Separated.{Lacks-AllDigits, fields_of-end, fields_of-append}

all_digits : (text : List ℕ) → list_all (λ octet. is_digit octet 16) text ≡ true → AllDigits 16 text
all_digits [] h = tt
all_digits (octet ∷ text) h =
    let (first, rest) = and_parts (is_digit octet 16) (list_all (λ o. is_digit o 16) text) h in
    (ltb-true (digit_value octet) 16 first, all_digits text rest)

digits_tested : (text : List ℕ) → AllDigits 16 text → list_all (λ octet. is_digit octet 16) text ≡ true
digits_tested [] h = refl
digits_tested (octet ∷ text) h = and_from _ _ (lt-ltb (digit_value octet) 16 h.0) (digits_tested text h.1)

group_of_complete : (text : List ℕ) (n : ℕ) → IsGroup text n → group_of text ≡ Some n
group_of_complete text n h =
    rw (lt-ltb 0 (length text) h.0.0.0, le-leb (length text) 4 h.1, digits_tested text h.0.0.1, h.0.1)

group_of_sound : (text : List ℕ) (n : ℕ) → group_of text ≡ Some n → IsGroup text n
group_of_sound text n e =
    let all = list_all (λ octet. is_digit octet 16) text in
    let (test, same) = cond_some (nat_lt 0 (length text) && nat_le (length text) 4 && all) (digits_value 16 text) n e in
    let (sizes, digits) = and_parts (nat_lt 0 (length text) && nat_le (length text) 4) all test in
    let (some, short) = and_parts (nat_lt 0 (length text)) (nat_le (length text) 4) sizes in
    (((ltb-true 0 (length text) some, all_digits text digits), same), leb-true (length text) 4 short)

-- the groups of fields are groups in std's grammar
each_after_groups : (ipv4 : Bool) (fields : List (List ℕ)) (groups : List ℕ) → each_of group_of fields ≡ Some groups
    → IsGroupsAfter ipv4 (codes ":") (each_after colon fields) groups
each_after_groups ipv4 [] groups e = rw (← same_Some [] groups e) refl
each_after_groups ipv4 (field ∷ fields) groups e =
    and_then_some _ (group_of field) _ e λ n read kept.
    map_some _ (each_of group_of fields) _ kept λ more rest same.
    rw (← same) (inl (field, each_after colon fields, refl, group_of_sound field n read, each_after_groups ipv4 fields more rest))

joined_groups : (ipv4 : Bool) (fields : List (List ℕ)) (groups : List ℕ) → 0 < length fields → each_of group_of fields ≡ Some groups
    → IsGroups ipv4 (joined colon fields) groups
joined_groups ipv4 [] groups some e = absurd (omega arith)
joined_groups ipv4 (field ∷ fields) groups some e =
    and_then_some _ (group_of field) _ e λ n read kept.
    map_some _ (each_of group_of fields) _ kept λ more rest same.
    rw (← same) (inl (field, each_after colon fields, refl, group_of_sound field n read, each_after_groups ipv4 fields more rest))

groups_of_sound : (ipv4 : Bool) (text groups : List ℕ) → groups_of text ≡ Some groups → IsGroups ipv4 text groups
groups_of_sound ipv4 [] groups e = rw (← same_Some [] groups e) refl
groups_of_sound ipv4 (octet ∷ text) groups e =
    let whole = octet ∷ text in
    rw (joined-fields_of colon whole) at (joined_groups ipv4 (fields_of colon whole) groups (fields_some colon whole) e)

no_colon : (text : List ℕ) (n : ℕ) → IsGroup text n → Lacks colon text
no_colon text n h = Lacks-AllDigits colon 16 text (lit≤ tt) h.0.0.1

-- a dotted text has a dot
dotted_has_dot : (text octets : List ℕ) → IsDotted text octets → Lacks dot text → ⊥
dotted_has_dot text octets h lacks =
    let back = decimal h.b ++ 46 ∷ (decimal h.c ++ 46 ∷ decimal h.d) in
    Lacks-not_among dot (decimal h.a) back (rw (h.spelled, regrouped h.a h.b h.c h.d) at lacks)

-- A text without a dot that std's grammar takes as groups behind a colon: nothing, or a colon, a group and
-- more of the kind.
data Behind : List ℕ → List ℕ → Type 0 where
  at_end : Behind [] []
  behind : (group rest : List ℕ) (n : ℕ) (groups : List ℕ) → IsGroup group n → Behind rest groups → Behind (58 ∷ (group ++ rest)) (n ∷ groups)

behind_from : (ipv4 : Bool) (text groups : List ℕ) → Lacks dot text → IsGroupsAfter ipv4 (codes ":") text groups → Behind text groups
behind_from ipv4 text [] lacks h = rw h at_end
behind_from ipv4 text (n ∷ groups) lacks (inl (group, rest, spelled, is_group, more)) =
    let left = Lacks-back dot ((58 ∷ []) ++ group) rest (rw spelled at lacks) in
    rw spelled (behind group rest n groups is_group (behind_from ipv4 rest groups left more))
behind_from ipv4 text (n ∷ groups) lacks (inr (last, octets, allowed, spelled, dotted, value)) =
    absurd (dotted_has_dot last octets dotted (Lacks-back dot (58 ∷ []) last (rw spelled at lacks)))

-- the fields of a group and of what stands behind it
fields_from : (field rest : List ℕ) (n : ℕ) (groups : List ℕ) → IsGroup field n → Behind rest groups
    → each_of group_of (fields_of colon (field ++ rest)) ≡ Some (n ∷ groups)
fields_from field _ n _ is_group at_end =
    rw (append-nil field, fields_of-end colon field (no_colon field n is_group), group_of_complete field n is_group)
fields_from field _ n _ is_group (behind group more m left is_next h) =
    rw (
      fields_of-append colon field (group ++ more) (no_colon field n is_group),
      fields_from group more m left is_next h,
      group_of_complete field n is_group,
    )

-- a text that is nothing, or a group and what stands behind it
data Groups : List ℕ → List ℕ → Type 0 where
  no_group : Groups [] []
  groups_at : (group rest : List ℕ) (n : ℕ) (groups : List ℕ) → IsGroup group n → Behind rest groups → Groups (group ++ rest) (n ∷ groups)

groups_from : (ipv4 : Bool) (text groups : List ℕ) → Lacks dot text → IsGroups ipv4 text groups → Groups text groups
groups_from ipv4 text [] lacks h = rw h no_group
groups_from ipv4 text (n ∷ groups) lacks (inl (group, rest, spelled, is_group, more)) =
    rw spelled (groups_at group rest n groups is_group (behind_from ipv4 rest groups (Lacks-back dot group rest (rw spelled at lacks)) more))
groups_from ipv4 text (n ∷ groups) lacks (inr (last, octets, allowed, spelled, dotted, value)) =
    absurd (dotted_has_dot last octets dotted (rw spelled at lacks))

some_fields : (group rest : List ℕ) (n : ℕ) (groups : List ℕ) → IsGroup group n → Behind rest groups → groups_of (group ++ rest) ≡ Some (n ∷ groups)
some_fields [] rest n groups is_group h = absurd (omega (arith, is_group.0.0.0))
some_fields (octet ∷ group) rest n groups is_group h = fields_from (octet ∷ group) rest n groups is_group h

groups_of_complete : (text groups : List ℕ) → Groups text groups → groups_of text ≡ Some groups
groups_of_complete _ _ no_group = refl
groups_of_complete _ _ (groups_at group rest n groups is_group h) = some_fields group rest n groups is_group h

-- sides with more in front
abbrev prepend : List ℕ → Option (List ℕ × List ℕ) → Option (List ℕ × List ℕ)
prepend front found = option_map (λ sides. (front ++ sides.0, sides.1)) found

prepend-nil : (found : Option (List ℕ × List ℕ)) → found ≡ prepend [] found
prepend-nil None = refl
prepend-nil (Some sides) = refl

prepend-append : (front more : List ℕ) (found : Option (List ℕ × List ℕ)) → prepend front (prepend more found) ≡ prepend (front ++ more) found
prepend-append front more None = refl
prepend-append front more (Some sides) = rw (append_assoc front more sides.0)

no_double : (octet : ℕ) (text : List ℕ) → (octet == colon) ≡ false → bytes_eq (take 2 (octet ∷ text)) (codes "::") ≡ false
no_double octet text h = rw h

no_double_next : (octet : ℕ) (text : List ℕ) → (octet == colon) ≡ false → bytes_eq (take 2 (58 ∷ octet ∷ text)) (codes "::") ≡ false
no_double_next octet text h = rw h

around_field : (field rest : List ℕ) → Lacks colon field → around_double_colon (field ++ rest) ≡ prepend field (around_double_colon rest)
around_field [] rest h = prepend-nil (around_double_colon rest)
around_field (octet ∷ field) rest h =
    rw (no_double octet (field ++ rest) h.0, around_field field rest h.1) (prepend-append (octet ∷ []) field (around_double_colon rest))

-- a colon and a group are no `::`
around_next : (group rest : List ℕ) (n : ℕ) → IsGroup group n → around_double_colon (58 ∷ (group ++ rest)) ≡ prepend (58 ∷ group) (around_double_colon rest)
around_next [] rest n is_group = absurd (omega (arith, is_group.0.0.0))
around_next (octet ∷ group) rest n is_group =
    let lacks = no_colon (octet ∷ group) n is_group in
    rw (no_double_next octet (group ++ rest) lacks.0, around_field (octet ∷ group) rest lacks)
    (prepend-append (58 ∷ []) (octet ∷ group) (around_double_colon rest))

around_behind : (text groups rest : List ℕ) → Behind text groups → around_double_colon (text ++ rest) ≡ prepend text (around_double_colon rest)
around_behind _ _ rest at_end = prepend-nil (around_double_colon rest)
around_behind _ _ rest (behind group more n groups is_group h) =
    rw (append_assoc group more rest, around_next group (more ++ rest) n is_group, around_behind more groups rest h)
    (prepend-append (58 ∷ group) more (around_double_colon rest))

around_groups : (text groups rest : List ℕ) → Groups text groups → around_double_colon (text ++ rest) ≡ prepend text (around_double_colon rest)
around_groups _ _ rest no_group = prepend-nil (around_double_colon rest)
around_groups _ _ rest (groups_at group more n groups is_group h) =
    rw (append_assoc group more rest, around_field group (more ++ rest) (no_colon group n is_group), around_behind more groups rest h)
    (prepend-append group more (around_double_colon rest))

form_1_complete : (text groups : List ℕ) → Groups text groups → length groups ≡ 8 → ipv6_groups_of text ≡ Some groups
form_1_complete text groups h eight =
    let none : around_double_colon text ≡ None = rw append-nil at (around_groups text groups [] h) in
    rw (none, groups_of_complete text groups h, eq-eqb (length groups) 8 eight)

form_2_complete : (front back head tail : List ℕ) → Groups front head → Groups back tail → length head + length tail < 8
    → ipv6_groups_of (front ++ 58 ∷ 58 ∷ back) ≡ Some (head ++ replicate (8 - length head - length tail) 0 ++ tail)
form_2_complete front back head tail is_head is_tail room =
    rw (
      around_groups front head (58 ∷ 58 ∷ back) is_head,
      append-nil front,
      groups_of_complete front head is_head,
      groups_of_complete back tail is_tail,
      lt-ltb (length head + length tail) 8 room,
    )

-- a text without a dot that std's grammar takes
pub ipv6_groups_of_complete : (text groups : List ℕ) → Lacks dot text → IsColonHex text groups → ipv6_groups_of text ≡ Some groups
ipv6_groups_of_complete text groups lacks (inl h) = form_1_complete text groups (groups_from true text groups lacks h.0) h.1
ipv6_groups_of_complete text groups lacks (inr h) =
    let spelled : text ≡ h.head_text ++ 58 ∷ 58 ∷ h.tail_text = h.spelled ∙ append_assoc h.head_text (58 ∷ 58 ∷ []) h.tail_text in
    let all = rw spelled at lacks in
    let head = groups_from false h.head_text h.head (Lacks-front dot h.head_text (58 ∷ 58 ∷ h.tail_text) all) h.head_groups in
    let tail = groups_from true h.tail_text h.tail (Lacks-back dot h.head_text (58 ∷ 58 ∷ h.tail_text) all).1.1 h.tail_groups in
    rw (spelled, h.value) (form_2_complete h.head_text h.tail_text h.head h.tail head tail h.room)

around_by_test : (b : Bool) (octet : ℕ) (text front back : List ℕ) (found : Option (List ℕ × List ℕ)) → bytes_eq (take 2 (octet ∷ text)) (codes "::") ≡ b
    → ((head tail : List ℕ) → found ≡ Some (head, tail) → text ≡ head ++ 58 ∷ 58 ∷ tail)
    → (let here : Option (List ℕ × List ℕ) = Some ([], drop 1 text) in if b then here else option_map (λ sides. (octet ∷ sides.0, sides.1)) found)
    ≡ Some (front, back)
    → octet ∷ text ≡ front ++ 58 ∷ 58 ∷ back
around_by_test true octet text front back found test rest e =
    let (no_front, is_back) = same_parts [] front (drop 1 text) back e in
    let double = (bytes_eq-Decides (take 2 (octet ∷ text)) (codes "::")).0 test in
    rw (← no_front, ← is_back) (sym (take-append-drop 2 (octet ∷ text)) ∙ ap (λ start. start ++ drop 1 text) double)
around_by_test false octet text front back found test rest e =
    map_some _ found _ e λ sides is_found same.
    let (is_front, is_back) = same_parts (octet ∷ sides.0) front sides.1 back (ap Some same) in
    rw (← is_front, ← is_back, rest sides.0 sides.1 is_found)

-- what stands before the first `::` and behind it make the text
around_sound : (text front back : List ℕ) → around_double_colon text ≡ Some (front, back) → text ≡ front ++ 58 ∷ 58 ∷ back
around_sound [] front back e = absurd (none-some (front, back) e)
around_sound (octet ∷ text) front back e =
    around_by_test (bytes_eq (take 2 (octet ∷ text)) (codes "::")) octet text front back (around_double_colon text) refl (around_sound text) e

form_1_sound : (text groups : List ℕ) → option_and_then (exactly 8) (groups_of text) ≡ Some groups → IsColonHex text groups
form_1_sound text groups e =
    and_then_some _ (groups_of text) _ e λ numbers read kept.
    let (eight, same) = cond_some (length numbers == 8) numbers groups kept in
    rw (← same) (inl (groups_of_sound true text numbers read, eqb-true (length numbers) 8 eight))

form_2_sound : (text front back groups : List ℕ) → text ≡ front ++ 58 ∷ 58 ∷ back → ipv6_form_2 (front, back) ≡ Some groups → IsColonHex text groups
form_2_sound text front back groups spelled e =
    and_then_some _ (groups_of front) _ e λ head is_head e₁.
    and_then_some _ (groups_of back) _ e₁ λ tail is_tail e₂.
    let (room, same) = cond_some (nat_lt (length head + length tail) 8) (head ++ replicate (8 - length head - length tail) 0 ++ tail) groups e₂ in
    inr (record {
      head_text = front;
      tail_text = back;
      head = head;
      tail = tail;
      spelled = spelled ∙ sym (append_assoc front (58 ∷ 58 ∷ []) back);
      head_groups = groups_of_sound false front head is_head;
      tail_groups = groups_of_sound true back tail is_tail;
      room = ltb-true (length head + length tail) 8 room;
      value = sym same;
    })

by_sides : (text groups : List ℕ) (found : Option (List ℕ × List ℕ)) → around_double_colon text ≡ found → ipv6_groups_of text ≡ Some groups
    → IsColonHex text groups
by_sides text groups None e h = form_1_sound text groups (rw e at h)
by_sides text groups (Some sides) e h = form_2_sound text sides.0 sides.1 groups (around_sound text sides.0 sides.1 e) (rw e at h)

pub ipv6_groups_of_sound : (text groups : List ℕ) → ipv6_groups_of text ≡ Some groups → IsColonHex text groups
ipv6_groups_of_sound text groups e = by_sides text groups (around_double_colon text) refl e
