-- The rules that are withdrawn, by the messages that say so: each is read as its withdrawal.
use Rattle.std.{specs.{Prelude.{bit_or}, List.{AllByRecursion}}, proofs.lemmas.List.{Elements.{All-from_recursion, All-nil}, take-append-drop, length-drop}}
use Rattle.byteorder.specs.Endian.{big_bytes}
use Rattle.fs_base.{specs.{Bits.{afi_of}, Parts.{parts_within}, declared.prefix.Family.{Family}}, proofs.Lists.{each_filtered, each_mapped}}
use Rattle.fs_nlri.specs.{Parts.{Ruled}, Rule.{IsRule, canonical_frame}}
use Rattle.fs_attrs.specs.{Attributes.{attribute}, Lists.{IsPrefix}, Texts.{attribute_text, flags_of, long_text, rules_text}, Update.{update_of}}
use Rattle.fs_attrs.specs.{Writable.{are_rules_of, is_writable}, Write.{IsSound, path_in, reach_text, unreach_text, update_text}}
use Rattle.fs_attrs.specs.declared.update.{Routes.TheVariants.{Flow}, Terms.{Terms}}
use Rattle.fs_attrs.proofs.UpdateReadBack.{read_back}
use Rattle.fs_speaker.specs.Sending.{body_by, is_short, path_by, update_by}
use Rattle.fs_peering.specs.Keeper.{first_pack, fitting, of_family, packs, withdrawal}
use Rattle.fs_peering.proofs.Words.{Bool, List, Ok, Sent, Some, [], ap, arith, at_most, cond, drop, false, filter, flat_map, if◌then◌else◌, length}
use Rattle.fs_peering.proofs.Words.{length-append, map, nat_lt, nat_tests, refl, subst, suc, sym, take, true, zero, ℕ, ◌++◌, ◌+◌, ◌-◌, ◌==◌, ◌∙◌, ◌∷◌}
use Rattle.fs_peering.proofs.Words.{◌≡◌, ◌≤◌}

-- SIZES

attribute_most : (kind : ℕ) (value : List ℕ) → length (attribute_text (attribute kind value)) ≤ 4 + length value
attribute_most kind value = at (nat_lt 255 (length value))
  where
    at : (wide : Bool) → length (if wide then bit_or (flags_of kind) 16 ∷ kind ∷ long_text value else flags_of kind ∷ kind ∷ length value ∷ value) ≤ 4
        + length value
    at true = omega (arith, length-append (big_bytes 2 (length value)) value)
    at false = omega arith

attribute_least : (kind : ℕ) (value : List ℕ) → 3 + length value ≤ length (attribute_text (attribute kind value))
attribute_least kind value = at _
  where
    at : (wide : Bool) → 3 + length value ≤ length (if wide then bit_or (flags_of kind) 16 ∷ kind ∷ long_text value
        else flags_of kind ∷ kind ∷ length value ∷ value)
    at true = omega (arith, length-append (big_bytes 2 (length value)) value)
    at false = omega arith

-- two lengths, and the attributes
body_size : (attributes : List ℕ) → length (long_text [] ++ (long_text attributes ++ [])) ≡ 4 + length attributes
body_size attributes =
    let front : List ℕ = long_text [] in
    let first : length front ≡ 2 = refl in
    let behind : length (long_text attributes) ≡ 2 + length attributes = length-append (big_bytes 2 (length attributes)) attributes in
    omega (arith, first, behind, length-append front (long_text attributes ++ []), length-append (long_text attributes) [])

unreach_size : (family : Family) (rules : List Ruled) → length (unreach_text (Flow family rules)) ≡ 3 + length (rules_text rules)
unreach_size family rules = length-append (big_bytes 2 (afi_of family) ++ (133 ∷ [])) (rules_text rules)

abbrev withdrawn : Family → List Ruled → List ℕ
withdrawn family rules = attribute_text (attribute 15 (unreach_text (Flow family rules)))

withdrawal_size : (terms : Terms) (family : Family) (rules : List Ruled)
    → length (update_text terms (withdrawal family rules)) ≡ 4 + length (withdrawn family rules)
withdrawal_size terms family rules =
    body_size _ ∙ ap (λ (n : ℕ). 4 + n) (omega (arith, length-append (withdrawn family rules) []))

pub withdrawal_short : (terms : Terms) (family : Family) (rules : List Ruled) → length (rules_text rules) ≤ 4066
    → 19 + length (update_text terms (withdrawal family rules)) ≤ 4096
withdrawal_short terms family rules small =
    omega (arith, small, withdrawal_size terms family rules, attribute_most 15 (unreach_text (Flow family rules)), unreach_size family rules)

pub withdrawal_long : (terms : Terms) (family : Family) (rules : List Ruled) → 4 ≤ length (update_text terms (withdrawal family rules))
withdrawal_long terms family rules = omega (arith, withdrawal_size terms family rules)

-- a rule whose announcement fits a message has room in a pack
abbrev announced : Terms → Sent → List ℕ
announced terms sent = attribute_text (attribute 14 (reach_text terms.address (Flow sent.rule.family (sent.rule ∷ []))))

abbrev beside : Terms → List ℕ → Sent → List ℕ
beside terms path sent = flat_map attribute_text (path_in terms (update_by terms path sent) (Some (path_by terms path)))

body_is : (terms : Terms) (path : List ℕ) (sent : Sent) → length (body_by terms path sent) ≡ 4 + length (announced terms sent ++ beside terms path sent)
unfolding body_by
body_is terms path sent = body_size _

reach_size : (terms : Terms) (sent : Sent) → length (reach_text terms.address (Flow sent.rule.family (sent.rule ∷ []))) ≡ 5 + length (canonical_frame sent.rule)
reach_size terms sent =
    let head : List ℕ = (big_bytes 2 (afi_of sent.rule.family) ++ (133 ∷ [])) ++ (0 ∷ 0 ∷ []) in
    let five : length head ≡ 5 = refl in
    omega (arith, five, length-append head (canonical_frame sent.rule ++ []), length-append (canonical_frame sent.rule) [])

pub frame_small : (terms : Terms) (path : List ℕ) (sent : Sent) → is_short terms path sent ≡ true → length (canonical_frame sent.rule) ≤ 4066
frame_small terms path sent short =
    let most : 19 + length (body_by terms path sent) ≤ 4096 = at_most (length (body_by terms path sent)) short in
    omega (
      arith,
      most,
      body_is terms path sent,
      length-append (announced terms sent) (beside terms path sent),
      attribute_least 14 (reach_text terms.address (Flow sent.rule.family (sent.rule ∷ []))),
      reach_size terms sent,
    )

some_there : (n : ℕ) → (suc n == 0) ≡ false
some_there n = grind (arith, nat_tests)

-- PACKS

pub record IsPack (family : Family) (pack : List Ruled) : Type 0 where
  pub some : (length pack == 0) ≡ false
  pub of_one : are_rules_of family pack ≡ true
  pub each : AllByRecursion IsRule pack
  pub small : length (rules_text pack) ≤ 4066

-- it is read as the withdrawal of its rules
pub withdrawal_read : (terms : Terms) (family : Family) (pack : List Ruled) → terms.four ≡ true → IsPack family pack
    → update_of terms (update_text terms (withdrawal family pack)) ≡ Ok (withdrawal family pack)
withdrawal_read terms family pack four is = read_back terms (withdrawal family pack) writable sound (withdrawal_short terms family pack is.small) (rw four refl)
  where
    writable : is_writable terms (withdrawal family pack) ≡ true
    writable = rw (is.some, is.of_one) refl

    sound : IsSound (withdrawal family pack)
    sound = record {
      classic_out = All-nil IsPrefix;
      classic_in = All-nil IsPrefix;
      reach = tt;
      unreach = All-from_recursion IsRule pack is.each;
      path = tt;
    }

abbrev HasRoom : Ruled → Type 0
HasRoom rule = IsRule rule × (length (canonical_frame rule) ≤ 4066)

each_taken : {A : Type 0} (P : A → Type 0) (n : ℕ) (xs : List A) → AllByRecursion P xs → AllByRecursion P (take n xs)
each_taken P zero xs all = tt
each_taken P (suc n) [] all = tt
each_taken P (suc n) (x ∷ xs) all = (all.0, each_taken P n xs all.1)

each_dropped : {A : Type 0} (P : A → Type 0) (n : ℕ) (xs : List A) → AllByRecursion P xs → AllByRecursion P (drop n xs)
each_dropped P zero xs all = all
each_dropped P (suc n) [] all = tt
each_dropped P (suc n) (x ∷ xs) all = each_dropped P n xs all.1

abbrev IsOf : Family → Ruled → Type 0
IsOf family rule = (afi_of rule.family == afi_of family) ≡ true

are_of : (family : Family) (rules : List Ruled) → AllByRecursion (IsOf family) rules → are_rules_of family rules ≡ true
are_of family [] all = refl
are_of family (rule ∷ rules) all = rw all.0 (are_of family rules all.1)

rules_only : (rules : List Ruled) → AllByRecursion HasRoom rules → AllByRecursion IsRule rules
rules_only [] all = tt
rules_only (rule ∷ rules) all = (all.0.0, rules_only rules all.1)

pub fitting_small : (room : ℕ) (rules : List Ruled) → length (rules_text (take (fitting room rules) rules)) ≤ room
fitting_small room [] = omega arith
fitting_small room (rule ∷ rules) = by (fitting_small (room - size) rules) (nat_lt room size) refl
  where
    size : ℕ
    size = length (canonical_frame rule)

    by : length (rules_text (take (fitting (room - size) rules) rules)) ≤ room - size → (b : Bool) → nat_lt room size ≡ b
        → length (rules_text (take (if b then 0 else 1 + fitting (room - size) rules) (rule ∷ rules))) ≤ room
    by later true h = omega arith
    by later false h =
        let n : ℕ = fitting (room - size) rules in
        let some : size ≤ room = grind (arith, nat_tests) in
        let one : 1 + n ≡ suc n = omega arith in
        let both : length (canonical_frame rule ++ rules_text (take n rules)) ≡ size + length (rules_text (take n rules)) =
        length-append (canonical_frame rule) (rules_text (take n rules)) in
        let whole : length (rules_text (take (suc n) (rule ∷ rules))) ≤ room = omega (arith, some, later, both) in
        subst (λ (k : ℕ). length (rules_text (take k (rule ∷ rules))) ≤ room) (sym one) whole

module _ (family : Family) where
  -- Packs of rules are whole, one after the other.
  packs_within : (n : ℕ) (rules : List Ruled) → length rules ≤ n → AllByRecursion (IsOf family) rules → AllByRecursion HasRoom rules
      → AllByRecursion (IsPack family) (parts_within first_pack n rules).0
      × (flat_map (λ (pack : List Ruled). pack) (parts_within first_pack n rules).0 ≡ rules)
  unfolding parts_within
  packs_within zero [] l o f = (tt, refl)
  packs_within (suc n) [] l o f = (tt, refl)
  packs_within zero (rule ∷ rules) l o f = absurd (omega (arith, l))
  packs_within (suc n) (rule ∷ rules) l o f =
      let size : ℕ = length (canonical_frame rule) in
      let k : ℕ = fitting (4066 - size) rules in
      let most : size ≤ 4066 = f.0.1 in
      let both : length (canonical_frame rule ++ rules_text (take k rules)) ≡ size + length (rules_text (take k rules)) =
      length-append (canonical_frame rule) (rules_text (take k rules)) in
      let shorter : length (drop k rules) ≤ n = omega (arith, l, length-drop k rules) in
      let later = packs_within n (drop k rules) shorter (each_dropped (IsOf family) k rules o.1) (each_dropped HasRoom k rules f.1) in
      let pack : IsPack family (rule ∷ take k rules) = record {
        some = some_there _;
        of_one = are_of family (rule ∷ take k rules) (o.0, each_taken (IsOf family) k rules o.1);
        each = (f.0.0, rules_only _ (each_taken _ _ _ f.1));
        small = omega (arith, most, both, fitting_small (4066 - size) rules);
      } in
      ((pack, later.0), ap (λ (z : List Ruled). (rule ∷ take k rules) ++ z) later.1 ∙ ap (λ (z : List Ruled). rule ∷ z) (take-append-drop k rules))

  are_in : (rules : List Sent) → AllByRecursion (IsOf family) (of_family family rules)
  are_in [] = tt
  are_in (sent ∷ rules) = by (are_in rules) (afi_of sent.rule.family == afi_of family) refl
    where
      by : AllByRecursion (IsOf family) (of_family family rules) → (b : Bool) → (afi_of sent.rule.family == afi_of family) ≡ b
          → AllByRecursion (IsOf family)
          (map (λ (s : Sent). s.rule) (cond b (sent ∷ filter (λ (s : Sent). afi_of s.rule.family == afi_of family) rules)
          (filter (λ (s : Sent). afi_of s.rule.family == afi_of family) rules)))
      by rest true h = (h, rest)
      by rest false h = rest

  pub packs_are : (rules : List Sent) → AllByRecursion (λ (sent : Sent). HasRoom sent.rule) rules
      → AllByRecursion (IsPack family) (packs (of_family family rules))
      × (flat_map (λ (pack : List Ruled). pack) (packs (of_family family rules)) ≡ of_family family rules)
  packs_are rules all =
      packs_within _ _ (omega arith) (are_in _)
      (each_mapped (λ (s : Sent). s.rule) HasRoom (filter (λ (s : Sent). afi_of s.rule.family == afi_of family) rules)
      (each_filtered (λ (s : Sent). HasRoom s.rule) (λ (s : Sent). afi_of s.rule.family == afi_of family) rules all))

-- the rules that may be sent have room
pub has_room : (terms : Terms) (path : List ℕ) (sent : Sent) → IsRule sent.rule → is_short terms path sent ≡ true
    → IsRule sent.rule × (length (canonical_frame sent.rule) ≤ 4066)
has_room terms path sent is short = (is, frame_small _ _ _ short)
