-- What is said where rules change: which rules are kept and which messages were said, and how rules go into packs.
use Rattle.fs_peering.proofs.Words.{ℕ, zero, suc, ◌≡◌, ◌+◌, ◌-◌, ◌≤◌, ◌<◌, ◌==◌, ◌||◌, ◌++◌, ◌∷◌, ◌∙◌, Bool, true, false, true≢false, not, List, []}
use Rattle.fs_peering.proofs.Words.{cond, length, map, filter, take, drop, take_all, flat_map, refl, sym, ap, subst, arith, append_assoc, append-nil}
use Rattle.fs_peering.proofs.Words.{length-append, length-drop, flat_map-append, none-some, same_Some, list_all, Sent, is_short}
use Rattle.std.proofs.{Common.{bytes_eq, get_or}, lemmas.{Map.Text.{is_eq-slice_cmp}, Slice.Eq.{bytes_eq-Decides}, Bool.{leb-true, le-leb}}}
use Rattle.std.specs.{BTreeSet.{BTreeSet, insert_key}, List.{list_any}, Ordering.{is_eq, match_ordering, nat_cmp}}
use Rattle.std.specs.{declared.cmp.Ordering.{Ordering, TheVariants.{Less, Equal, Greater}}, Cmp.Lexicographic.{slice_cmp}, Global.{Vec}}
use Rattle.fs_base.proofs.{Bools.{and_first, and_second}, Parts.{all_end, all_step}}
use Rattle.fs_base.specs.{Bits.{afi_of}, Parts.{ShrinksBy}, declared.prefix.Family.{Family, TheVariants.{V4, V6}}}
use Rattle.fs_nlri.specs.{Parts.{Ruled}, Rule.{canonical_frame}}
use Rattle.fs_order.specs.{Comparison.{rule_cmp}, Ranked.{rule_equivalence}, declared.ranked.Ranked.{Ranked}}
use Rattle.fs_message.specs.Write.{message_text}
use Rattle.fs_attrs.specs.{Texts.{rules_text}, Writable.{are_rules_of}, Write.{update_text}, declared.update.{Terms.{Terms}, Update.{Update}}}
use Rattle.fs_peering.proofs.Packing.{fitting_small, frame_small}
use Rattle.fs_peering.specs.Keeper.{first_pack, fitting, fresh, gone, of_family, packs, room_for_rules, withdrawal, withdrawal_text, withdrawals}
use Rattle.fs_peering.specs.Change.{AreSaid, Keeps, fits_alone, has_rule, has_text, joined, unkept, unsaid}

-- Lists.

all_filtered : {A : Type 0} (p q : A → Bool) (xs : List A) → list_all p xs ≡ true → list_all p (filter q xs) ≡ true
all_filtered p q [] h = refl
all_filtered {A} p q (x ∷ xs) h = at (q x) (all_filtered p q xs (and_second (p x) (list_all p xs) h))
  where
    at : (b : Bool) → list_all p (filter q xs) ≡ true → list_all p (cond b (x ∷ filter q xs) (filter q xs)) ≡ true
    at true rest = rw (and_first (p x) (list_all p xs) h) rest
    at false rest = rest

filtered_so : {A : Type 0} (p q : A → Bool) → ((x : A) → p x ≡ q x) → (xs : List A) → filter p xs ≡ filter q xs
filtered_so p q h [] = refl
filtered_so p q h (x ∷ xs) = rw (h x, filtered_so p q h xs) refl

joined_texts : {A : Type 0} (text : A → List ℕ) (xs : List A) → joined (map text xs) ≡ flat_map text xs
joined_texts text [] = refl
joined_texts text (x ∷ xs) = ap (λ l. text x ++ l) (joined_texts text xs)

pub all_texts : {A : Type 0} (text : A → List ℕ) (lent xs : List A) (out now : List ℕ) → lent ≡ xs → now ≡ out ++ flat_map text lent
    → now ≡ out ++ joined (map text xs)
all_texts text lent xs out now e h = h ∙ ap (λ l. out ++ l) (ap (flat_map text) e ∙ sym (joined_texts text xs))

-- what is left is the first one and the others
pub headed : {A : Type 0} (rest : List A) (first : A) → 1 ≤ length rest → first ≡ get_or rest 0 first → rest ≡ first ∷ take (length rest - 1) (drop 1 rest)
headed [] first some is = absurd (omega arith)
headed (x ∷ xs) first some is =
    ap (λ y. y ∷ xs) (sym is) ∙ ap (λ l. first ∷ l) (sym (take_all (length (x ∷ xs) - 1) xs (omega arith)))

pub all_behind : {A : Type 0} (test : A → Bool) (rest : List A) (first : A) (others : List A) → rest ≡ first ∷ others → list_all test rest ≡ true
    → list_all test others ≡ true
all_behind test rest first others e h = and_second (test first) (list_all test others) (subst (λ l. list_all test l ≡ true) e h)

pub said_behind : {A : Type 0} (text : A → List ℕ) (rest : List A) (first : A) (others : List A) (out now all : List ℕ) → rest ≡ first ∷ others
    → now ≡ out ++ text first → out ++ flat_map text rest ≡ all → now ++ flat_map text others ≡ all
said_behind text rest first others out now all e h k =
    ap (λ l. l ++ flat_map text others) h
    ∙ append_assoc out (text first) (flat_map text others)
    ∙ ap (λ l. out ++ flat_map text l) (sym e)
    ∙ k

pub all_taken : {A : Type 0} (test : A → Bool) (n : ℕ) (xs : List A) → list_all test xs ≡ true → list_all test (take n xs) ≡ true
all_taken test zero xs h = refl
all_taken test (suc n) [] h = refl
all_taken test (suc n) (x ∷ xs) h = rw (and_first (test x) (list_all test xs) h) (all_taken test n xs (and_second (test x) (list_all test xs) h))

pub all_dropped : {A : Type 0} (test : A → Bool) (n : ℕ) (xs : List A) → list_all test xs ≡ true → list_all test (drop n xs) ≡ true
all_dropped test zero xs h = h
all_dropped test (suc n) [] h = refl
all_dropped test (suc n) (x ∷ xs) h = all_dropped test n xs (and_second (test x) (list_all test xs) h)

take_one : {A : Type 0} (n : ℕ) (x : A) (xs : List A) → take (1 + n) (x ∷ xs) ≡ x ∷ take n xs
take_one n x xs = let e : 1 + n ≡ suc n = omega arith in ap (λ m. take m (x ∷ xs)) e

drop_one : {A : Type 0} (n : ℕ) (x : A) (xs : List A) → drop (1 + n) (x ∷ xs) ≡ drop n xs
drop_one n x xs = let e : 1 + n ≡ suc n = omega arith in ap (λ m. drop m (x ∷ xs)) e

-- Rules that are kept.

pub same_other_way : (a b : Ruled) → is_eq (rule_cmp a b) ≡ is_eq (rule_cmp b a)
same_other_way a b = rule_equivalence.symm a b

pub unkept_gone : (kept : BTreeSet Ranked) (old new : List Sent) → Keeps kept new → unkept kept old ≡ gone old new
unkept_gone kept old new h =
    filtered_so _ _ (λ sent. ap not (h sent.rule)) _

-- The rules of a family.

pub of_both : (rules : List Sent) → length (of_family V4 rules) + length (of_family V6 rules) ≡ length rules
of_both [] = refl
of_both (sent ∷ rules) = at sent.rule.family (of_both rules)
  where
    at : (family : Family) → length (of_family V4 rules) + length (of_family V6 rules) ≡ length rules
        → length (map (λ (one : Sent). one.rule)
        (cond (afi_of family == afi_of V4) (sent ∷ filter (λ (one : Sent). afi_of one.rule.family == afi_of V4) rules)
        (filter (λ (one : Sent). afi_of one.rule.family == afi_of V4) rules)))
        + length (map (λ (one : Sent). one.rule)
        (cond (afi_of family == afi_of V6) (sent ∷ filter (λ (one : Sent). afi_of one.rule.family == afi_of V6) rules)
        (filter (λ (one : Sent). afi_of one.rule.family == afi_of V6) rules))) ≡ length (sent ∷ rules)
    at V4 rest = omega (arith, rest)
    at V6 rest = omega (arith, rest)

pub are_of_family : (family : Family) (rules : List Sent) → are_rules_of family (of_family family rules) ≡ true
are_of_family family [] = refl
are_of_family family (sent ∷ rules) = at (afi_of sent.rule.family == afi_of family) refl (are_of_family family rules)
  where
    at : (b : Bool) → (afi_of sent.rule.family == afi_of family) ≡ b → are_rules_of family (of_family family rules) ≡ true
        → are_rules_of family (map (λ (one : Sent). one.rule)
        (cond b (sent ∷ filter (λ (one : Sent). afi_of one.rule.family == afi_of family) rules)
        (filter (λ (one : Sent). afi_of one.rule.family == afi_of family) rules))) ≡ true
    at true h rest = rw h rest
    at false h rest = rest

all_ruled : (rules : List Sent) → list_all (λ (sent : Sent). fits_alone sent.rule) rules ≡ true
    → list_all fits_alone (map (λ (sent : Sent). sent.rule) rules) ≡ true
all_ruled [] h = refl
all_ruled (sent ∷ rules) h =
    let first : fits_alone sent.rule ≡ true = and_first (fits_alone sent.rule) (list_all (λ (one : Sent). fits_alone one.rule) rules) h in
    rw first (all_ruled rules (and_second (fits_alone sent.rule) (list_all (λ (one : Sent). fits_alone one.rule) rules) h))

pub unkept_fit : (family : Family) (kept : BTreeSet Ranked) (old : List Sent) → list_all (λ (sent : Sent). fits_alone sent.rule) old ≡ true
    → list_all fits_alone (of_family family (unkept kept old)) ≡ true
unkept_fit family kept old h =
    all_ruled (filter (λ (sent : Sent). afi_of sent.rule.family == afi_of family) (unkept kept old))
    (all_filtered (λ (sent : Sent). fits_alone sent.rule) (λ (sent : Sent). afi_of sent.rule.family == afi_of family) (unkept kept old)
    (all_filtered (λ (sent : Sent). fits_alone sent.rule) (λ (sent : Sent). not (has_rule kept sent.rule)) old h))

-- what is withdrawn of both families
pub both_withdrawn : (terms : Terms) (kept : BTreeSet Ranked) (lent_old old lent_new new : List Sent) (out one both : List ℕ) → Keeps kept lent_new
    → lent_new ≡ new → lent_old ≡ old → one ≡ out ++ withdrawals terms V4 (unkept kept lent_old) → both ≡ one ++ withdrawals terms V6 (unkept kept lent_old)
    → both ≡ out ++ (withdrawals terms V4 (gone old new) ++ withdrawals terms V6 (gone old new))
both_withdrawn terms kept lent_old old lent_new new out one both keeps n o first second =
    let same : unkept kept lent_old ≡ gone old new = unkept_gone _ _ _ keeps ∙ ap (λ l. gone l lent_new) o ∙ ap (gone old) n in
    second
    ∙ ap (λ l. l ++ withdrawals terms V6 (unkept kept lent_old)) first
    ∙ append_assoc out (withdrawals terms V4 (unkept kept lent_old)) (withdrawals terms V6 (unkept kept lent_old))
    ∙ ap (λ l. out ++ (withdrawals terms V4 l ++ withdrawals terms V6 l)) same

pub both_counted : (kept : BTreeSet Ranked) (lent_old old lent_new new : List Sent) (one other : ℕ) → Keeps kept lent_new → lent_new ≡ new → lent_old ≡ old
    → one ≡ length (of_family V4 (unkept kept lent_old)) → other ≡ length (of_family V6 (unkept kept lent_old)) → one + other ≡ length (gone old new)
both_counted kept lent_old old lent_new new one other keeps n o first second =
    let same : unkept kept lent_old ≡ gone old new = unkept_gone _ _ _ keeps ∙ ap (λ l. gone l lent_new) o ∙ ap (gone old) n in
    let whole : one + other ≡ length (unkept kept lent_old) = omega (arith, first, second, of_both (unkept kept lent_old)) in
    whole ∙ ap length same

-- Messages that were said.

abbrev pub text_cmp : Vec ℕ → Vec ℕ → Ordering
text_cmp one other = slice_cmp nat_cmp one.items other.items

bytes_other_way : (a b : List ℕ) → bytes_eq a b ≡ true → b ≡ a
bytes_other_way a b h = sym ((bytes_eq-Decides a b).0 h)

twice : (a r b : Bool) → a ≡ b → (a || r) ≡ (b || (a || r))
twice true r true e = refl
twice true r false e = refl
twice false r true e = absurd (true≢false (sym e))
twice false r false e = refl

swapped : (a b r : Bool) → (a || (b || r)) ≡ (b || (a || r))
swapped true true r = refl
swapped true false r = refl
swapped false b r = refl

inserted : (text : List ℕ) (keys : List (Vec ℕ)) (key : Vec ℕ)
    → list_any (λ (other : Vec ℕ). is_eq (slice_cmp nat_cmp text other.items)) (insert_key text_cmp keys key)
    ≡ (bytes_eq text key.items || list_any (λ (other : Vec ℕ). is_eq (slice_cmp nat_cmp text other.items)) keys)
inserted text [] key = ap (λ b. b || false) (is_eq-slice_cmp text key.items)
inserted text (x ∷ xs) key = at (slice_cmp nat_cmp key.items x.items) refl (inserted text xs key)
  where
    at : (o : Ordering) → slice_cmp nat_cmp key.items x.items ≡ o
        → list_any (λ (other : Vec ℕ). is_eq (slice_cmp nat_cmp text other.items)) (insert_key text_cmp xs key)
        ≡ (bytes_eq text key.items || list_any (λ (other : Vec ℕ). is_eq (slice_cmp nat_cmp text other.items)) xs)
        → list_any (λ (other : Vec ℕ). is_eq (slice_cmp nat_cmp text other.items)) (match_ordering o (key ∷ x ∷ xs) (x ∷ xs) (x ∷ insert_key text_cmp xs key))
        ≡ (bytes_eq text key.items || (is_eq (slice_cmp nat_cmp text x.items) || list_any (λ (other : Vec ℕ). is_eq (slice_cmp nat_cmp text other.items)) xs))
    at Less h rest =
        ap (λ b. b || (is_eq (slice_cmp nat_cmp text x.items) || list_any (λ (other : Vec ℕ). is_eq (slice_cmp nat_cmp text other.items)) xs))
        (is_eq-slice_cmp text key.items)
    at Equal h rest =
        let same : x.items ≡ key.items = bytes_other_way _ _ (sym (is_eq-slice_cmp key.items x.items) ∙ ap is_eq h) in
        twice _ _ _ (is_eq-slice_cmp text x.items ∙ ap (bytes_eq text) same)
    at Greater h rest =
        ap (λ b. is_eq (slice_cmp nat_cmp text x.items) || b) rest
        ∙ swapped (is_eq (slice_cmp nat_cmp text x.items)) (bytes_eq text key.items) _

pub added_text : (text : List ℕ) (old new : List (Vec ℕ)) (key : Vec ℕ) → new ≡ insert_key text_cmp old key
    → list_any (λ (other : Vec ℕ). is_eq (slice_cmp nat_cmp text other.items)) new
    ≡ (bytes_eq text key.items || list_any (λ (other : Vec ℕ). is_eq (slice_cmp nat_cmp text other.items)) old)
added_text text old new key e = ap (list_any (λ (other : Vec ℕ). is_eq (slice_cmp nat_cmp text other.items))) e ∙ inserted text old key

unsaid_fresh : (said : BTreeSet (Vec ℕ)) (old new : List (List ℕ)) → AreSaid said old → unsaid said new ≡ fresh old new
unsaid_fresh said old new h = filtered_so _ _ (λ text. ap not (h text)) _

pub fresh_texts : (said : BTreeSet (Vec ℕ)) (text other : Sent → List ℕ) (lent_old old lent_new new : List Sent) → lent_old ≡ old → lent_new ≡ new
    → AreSaid said (map text lent_old) → unsaid said (map other lent_new) ≡ fresh (map text old) (map other new)
fresh_texts said text other lent_old old lent_new new o n h =
    unsaid_fresh _ _ _ h ∙ ap (λ l. fresh (map text l) (map other lent_new)) o
    ∙ ap (λ l. fresh (map text old) (map other l)) n

-- the first message, where it wasn't said, and the others
unsaid_split : {A : Type 0} (said : BTreeSet (Vec ℕ)) (text_of : A → List ℕ) (rest : List A) (first : A) (others : List A) (text : List ℕ)
    → rest ≡ first ∷ others → text ≡ text_of first → unsaid said (map text_of rest) ≡ unsaid said (text ∷ []) ++ unsaid said (map text_of others)
unsaid_split said text_of rest first others text e h =
    ap (λ l. unsaid said (map text_of l)) e
    ∙ ap (λ t. unsaid said (t ∷ map text_of others)) (sym h)
    ∙ at (not (has_text said text))
  where
    at : (b : Bool) → cond b (text ∷ unsaid said (map text_of others)) (unsaid said (map text_of others)) ≡ cond b (text ∷ []) []
        ++ unsaid said (map text_of others)
    at true = refl
    at false = refl

pub unsaid_behind : {A : Type 0} (said : BTreeSet (Vec ℕ)) (text_of : A → List ℕ) (rest : List A) (first : A) (others : List A) (text out now all : List ℕ)
    → rest ≡ first ∷ others → text ≡ text_of first → now ≡ out ++ joined (unsaid said (text ∷ []))
    → out ++ joined (unsaid said (map text_of rest)) ≡ all → now ++ joined (unsaid said (map text_of others)) ≡ all
unsaid_behind said text_of rest first others text out now all e t h k =
    ap (λ l. l ++ joined (unsaid said (map text_of others))) h
    ∙ append_assoc out (joined (unsaid said (text ∷ []))) (joined (unsaid said (map text_of others)))
    ∙ ap (λ l. out ++ l) (sym (flat_map-append (λ (one : List ℕ). one) (unsaid said (text ∷ [])) (unsaid said (map text_of others))))
    ∙ ap (λ l. out ++ joined l) (sym (unsaid_split _ _ _ _ _ _ e t))
    ∙ k

pub counted_behind : {A : Type 0} (said : BTreeSet (Vec ℕ)) (text_of : A → List ℕ) (rest : List A) (first : A) (others : List A) (text : List ℕ)
    (count more all : ℕ)
    → rest ≡ first ∷ others → text ≡ text_of first → more ≡ length (unsaid said (text ∷ []))
    → count + length (unsaid said (map text_of rest)) ≡ all → (count + more) + length (unsaid said (map text_of others)) ≡ all
counted_behind said text_of rest first others text count more all e t h k =
    let whole : length (unsaid said (map text_of rest)) ≡ length (unsaid said (text ∷ []) ++ unsaid said (map text_of others)) =
    ap length (unsaid_split _ _ _ _ _ _ e t) in
    omega (arith, whole, length-append (unsaid said (text ∷ [])) (unsaid said (map text_of others)), h, k)

at_most_one : (said : BTreeSet (Vec ℕ)) (text : List ℕ) → length (unsaid said (text ∷ [])) ≤ 1
at_most_one said text = at _
  where
    at : (b : Bool) → length (cond b (text ∷ []) []) ≤ 1
    at true = omega arith
    at false = omega arith

pub passed_behind : {A : Type 0} (said : BTreeSet (Vec ℕ)) (rest : List A) (first : A) (others : List A) (text : List ℕ) (count more all : ℕ)
    → rest ≡ first ∷ others → more ≡ length (unsaid said (text ∷ [])) → count + length rest ≤ all → (count + more) + length others ≤ all
passed_behind said rest first others text count more all e h k =
    let whole : length rest ≡ length (first ∷ others) = ap length e in
    omega (arith, whole, at_most_one said text, h, k)

-- Packs.

-- how many rules go into an UPDATE: the first one, and those behind it that fit
abbrev pub pack_size : Ruled → List Ruled → ℕ
pack_size rule rules = 1 + fitting (room_for_rules - length (canonical_frame rule)) rules

pack_room : (rule : Ruled) (rules : List Ruled) → fits_alone rule ≡ true → length (rules_text (take (pack_size rule rules) (rule ∷ rules))) ≤ room_for_rules
pack_room rule rules h =
    let room : ℕ = room_for_rules - length (canonical_frame rule) in
    let others : List Ruled = take (fitting room rules) rules in
    let rest : length (rules_text others) ≤ room = fitting_small _ _ in
    let fits : length (canonical_frame rule) ≤ room_for_rules = leb-true (length (canonical_frame rule)) room_for_rules h in
    rw (take_one _ _ _) (omega (arith, rest, fits, length-append (canonical_frame rule) (rules_text others)))

pub pack_fits : (rest : List Ruled) (first : Ruled) (others pack : List Ruled) (count : ℕ) → rest ≡ first ∷ others → count ≡ pack_size first others
    → pack ≡ take count rest → list_all fits_alone rest ≡ true → length (rules_text pack) ≤ room_for_rules
pack_fits rest first others pack count e n p h =
    let alone : fits_alone first ≡ true = and_first (fits_alone first) (list_all fits_alone others) (subst (λ l. list_all fits_alone l ≡ true) e h) in
    subst (λ (l : List Ruled). length (rules_text l) ≤ room_for_rules)
    (sym (p ∙ ap (λ m. take m rest) n ∙ ap (take (pack_size first others)) e)) (pack_room _ _ alone)

pack_shrinks : ShrinksBy length first_pack
pack_shrinks [] found h = absurd (none-some found h)
pack_shrinks (rule ∷ rules) found h =
    let n : ℕ = fitting (room_for_rules - length (canonical_frame rule)) rules in
    subst (λ (one : List Ruled × List Ruled). length one.1 < length (rule ∷ rules)) (same_Some (rule ∷ take n rules, drop n rules) found h)
    (omega (arith, length-drop n rules))

packs_more : (rule : Ruled) (rules : List Ruled)
    → packs (rule ∷ rules) ≡ take (pack_size rule rules) (rule ∷ rules) ∷ packs (drop (pack_size rule rules) (rule ∷ rules))
packs_more rule rules =
    let n : ℕ = fitting (room_for_rules - length (canonical_frame rule)) rules in
    rw (take_one _ _ _, drop_one _ _ _)
    (ap (λ (parts : List (List Ruled) × List Ruled). parts.0) (all_step length first_pack pack_shrinks (rule ∷ rules) (rule ∷ take n rules, drop n rules) refl))

pub packs_behind : (text : List Ruled → List ℕ) (rest : List Ruled) (first : Ruled) (others pack behind : List Ruled) (count : ℕ) (out now all : List ℕ)
    → rest ≡ first ∷ others → count ≡ pack_size first others → pack ≡ take count rest → behind ≡ drop count rest
    → now ≡ out ++ text pack → out ++ flat_map text (packs rest) ≡ all → now ++ flat_map text (packs behind) ≡ all
packs_behind text rest first others pack behind count out now all e n p b h k =
    let size : ℕ = pack_size first others in
    let one : pack ≡ take size (first ∷ others) = p ∙ ap (λ m. take m rest) n ∙ ap (take size) e in
    let left : behind ≡ drop size (first ∷ others) = b ∙ ap (λ m. drop m rest) n ∙ ap (drop size) e in
    let split : packs rest ≡ pack ∷ packs behind =
    ap packs e ∙ packs_more _ _ ∙ ap (λ l. l ∷ packs (drop size (first ∷ others))) (sym one) ∙ ap (λ l. pack ∷ packs l) (sym left) in
    said_behind _ _ _ _ _ _ _ split h k

packs_none : packs [] ≡ []
packs_none = ap (λ (parts : List (List Ruled) × List Ruled). parts.0) (all_end length first_pack [] refl)

pub all_packed : (text : List Ruled → List ℕ) (rest : List Ruled) (out all : List ℕ) → rest ≡ [] → out ++ flat_map text (packs rest) ≡ all → out ≡ all
all_packed text rest out all e k = sym (append-nil out) ∙ ap (λ l. out ++ flat_map text l) (sym (ap packs e ∙ packs_none)) ∙ k

pub withdrawn : (terms : Terms) (family : Family) (rules : List Ruled) (update : Update) (out now : List ℕ) → update ≡ withdrawal family rules
    → now ≡ out ++ message_text 2 (update_text terms update) → now ≡ out ++ withdrawal_text terms family rules
withdrawn terms family rules update out now e h = subst (λ (one : Update). now ≡ out ++ message_text 2 (update_text terms one)) e h

pub all_fit : (terms : Terms) (numbers : List ℕ) (rules : List Sent) → list_all (is_short terms numbers) rules ≡ true
    → list_all (λ (sent : Sent). fits_alone sent.rule) rules ≡ true
all_fit terms numbers [] h = refl
all_fit terms numbers (sent ∷ rules) h =
    let short : is_short terms numbers sent ≡ true = and_first (is_short terms numbers sent) (list_all (is_short terms numbers) rules) h in
    let first : fits_alone sent.rule ≡ true = le-leb (length (canonical_frame sent.rule)) room_for_rules (frame_small _ _ _ short) in
    rw first (all_fit terms numbers rules (and_second (is_short terms numbers sent) (list_all (is_short terms numbers) rules) h))
