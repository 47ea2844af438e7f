-- What the updates of a change of rules leave a peer holding: exactly the new ones.
use Rattle.std.{specs.{Prelude.{option_and_then}, List.{list_any}, Option.{option_or}}}
use Rattle.fs_base.{specs.{Bits.{afi_of}, declared.prefix.Family.{Family, TheVariants.{V4, V6}}}, proofs.Bools.{and_parts, false_of_not, not_of_true, or_false}}
use Rattle.fs_nlri.specs.Parts.{Ruled}
use Rattle.fs_order.specs.Ranked.{rule_equivalence}
use Rattle.fs_attrs.specs.declared.update.Terms.{Terms}
use Rattle.fs_speaker.specs.Sending.{path_by, update_by}
use Rattle.fs_desk.specs.Updates.{Given, flow_left, given_with, is_rule, last_such, rule_given, tells_of_rule}
use Rattle.fs_peering.specs.{Keeper.{gone, is_same, of_family, withdrawal}, KeeperLaws.{are_single, given_by}}
use Rattle.fs_peering.proofs.Words.{Bool, List, None, Option, ℕ, ◌==◌, Sending, Sent, Some, Update, [], ap, append-nil, append_assoc, cond, false}
use Rattle.fs_peering.proofs.Words.{filter, find, flat_map, if◌then◌else◌, is_some, map, not, option_map, refl, same_Some, subst, sym, true}
use Rattle.fs_peering.proofs.Words.{true≢false, ◌++◌, ◌||◌, ◌∙◌, ◌∷◌, ◌≡◌}

-- TESTS OF LISTS

any_alike : {A : Type 0} (p q : A → Bool) → ((x : A) → p x ≡ q x) → (xs : List A) → list_any p xs ≡ list_any q xs
any_alike p q h [] = refl
any_alike p q h (x ∷ xs) = rw (h x, any_alike p q h xs) refl

any_joined : {A : Type 0} (p : A → Bool) (xs ys : List A) → list_any p (xs ++ ys) ≡ (list_any p xs || list_any p ys)
any_joined p [] ys = refl
any_joined p (x ∷ xs) ys = ap (λ (b : Bool). p x || b) (any_joined p xs ys) ∙ by (p x) (list_any p xs) (list_any p ys)
  where
    by : (a b c : Bool) → (a || (b || c)) ≡ ((a || b) || c)
    by true b c = refl
    by false b c = refl

any_found : {A : Type 0} (p : A → Bool) (xs : List A) → list_any p xs ≡ is_some (find p xs)
any_found p [] = refl
any_found {A} p (x ∷ xs) = by (any_found p xs) (p x)
  where
    by : list_any p xs ≡ is_some (find p xs) → (b : Bool) → (b || list_any p xs) ≡ is_some (cond b (Some x) (find p xs))
    by rest true = refl
    by rest false = rest

pub nowhere : {A : Type 0} (p : A → Bool) (xs : List A) → list_any p xs ≡ false → find p xs ≡ None
nowhere {A} p xs e = by (find p xs) refl
  where
    by : (o : Option A) → find p xs ≡ o → find p xs ≡ None
    by None f = f
    by (Some x) f = absurd (true≢false (sym (any_found _ xs ∙ ap is_some f) ∙ e))

never_there : {A : Type 0} (p : A → Bool) (xs : List A) → find p xs ≡ None → list_any p xs ≡ false
never_there p xs e = any_found p xs ∙ ap is_some e

pub found_passes : {A : Type 0} (p : A → Bool) (xs : List A) (y : A) → find p xs ≡ Some y → p y ≡ true
found_passes p [] y e = absurd cc
found_passes {A} p (x ∷ xs) y e = by (found_passes p xs y) (p x) refl e
  where
    by : (find p xs ≡ Some y → p y ≡ true) → (b : Bool) → p x ≡ b → cond b (Some x) (find p xs) ≡ Some y → p y ≡ true
    by rest true h f = subst (λ (z : A). p z ≡ true) (same_Some x y f) h
    by rest false h f = rest f

any_filtered : {A : Type 0} (p q : A → Bool) (xs : List A) → list_any p xs ≡ false → list_any p (filter q xs) ≡ false
any_filtered p q [] e = refl
any_filtered {A} p q (x ∷ xs) e = by (any_filtered p q xs parts.1) (q x)
  where
    parts : (p x ≡ false) × (list_any p xs ≡ false)
    parts = or_false (p x) (list_any p xs) e

    by : list_any p (filter q xs) ≡ false → (b : Bool) → list_any p (cond b (x ∷ filter q xs) (filter q xs)) ≡ false
    by rest true = rw (parts.0) rest
    by rest false = rest

-- what passes the first test doesn't pass the other
none_kept : {A : Type 0} (p q : A → Bool) → ((x : A) → p x ≡ true → q x ≡ false) → (xs : List A) → list_any p (filter q xs) ≡ false
none_kept p q h [] = refl
none_kept {A} p q h (x ∷ xs) = by (none_kept p q h xs) (p x) (q x) refl refl
  where
    by : list_any p (filter q xs) ≡ false → (a b : Bool) → p x ≡ a → q x ≡ b → list_any p (cond b (x ∷ filter q xs) (filter q xs)) ≡ false
    by rest a false f g = rest
    by rest true true f g = absurd (true≢false (sym g ∙ h x f))
    by rest false true f g = rw f rest

-- what passes the first test passes the other
all_kept : {A : Type 0} (p q : A → Bool) → ((x : A) → p x ≡ true → q x ≡ true) → (xs : List A) → list_any p (filter q xs) ≡ list_any p xs
all_kept p q h [] = refl
all_kept {A} p q h (x ∷ xs) = by (all_kept p q h xs) (p x) (q x) refl refl
  where
    by : list_any p (filter q xs) ≡ list_any p xs → (a b : Bool) → p x ≡ a → q x ≡ b
        → list_any p (cond b (x ∷ filter q xs) (filter q xs)) ≡ (p x || list_any p xs)
    by rest a true f g = ap (λ (b : Bool). p x || b) rest
    by rest true false f g = absurd (true≢false (sym (h x f) ∙ g))
    by rest false false f g = rest ∙ sym (ap (λ (b : Bool). b || list_any p xs) f)

-- RULES

-- the rule of one that was sent is this one
abbrev pub fits : Ruled → Sent → Bool
fits rule sent = is_rule rule sent.rule

same_class : (a b c : Ruled) → is_rule a b ≡ true → is_rule a c ≡ is_rule b c
same_class a b c h = rule_equivalence.congr a b c h

any_same : (rule : Ruled) (sent : Sent) (rules : List Sent) → fits rule sent ≡ true → list_any (fits rule) rules ≡ list_any (is_same sent) rules
any_same rule sent rules h = any_alike _ _ (λ (other : Sent). same_class rule sent.rule other.rule h) rules

pub single_first : (sent : Sent) (rules : List Sent) → are_single (sent ∷ rules) ≡ true → (list_any (is_same sent) rules ≡ false) × (are_single rules ≡ true)
single_first sent rules e =
    let parts = and_parts (not (list_any (is_same sent) rules)) (are_single rules) e in
    (false_of_not (list_any (is_same sent) rules) parts.0, parts.1)

-- no later one is the same
pub alone : (rule : Ruled) (sent : Sent) (rules : List Sent) → are_single (sent ∷ rules) ≡ true → fits rule sent ≡ true → list_any (fits rule) rules ≡ false
alone rule sent rules e h = any_same rule sent rules h ∙ (single_first sent rules e).0

single_filtered : (q : Sent → Bool) (rules : List Sent) → are_single rules ≡ true → are_single (filter q rules) ≡ true
single_filtered q [] e = refl
single_filtered q (sent ∷ rules) e = by (single_filtered q rules parts.1) (q sent)
  where
    parts : (list_any (is_same sent) rules ≡ false) × (are_single rules ≡ true)
    parts = single_first sent rules e

    by : are_single (filter q rules) ≡ true → (b : Bool) → are_single (cond b (sent ∷ filter q rules) (filter q rules)) ≡ true
    by rest true = rw (any_filtered _ _ _ parts.0) rest
    by rest false = rest

-- of single rules the one that is found is kept, or no other
found_kept : (rule : Ruled) (q : Sent → Bool) (rules : List Sent) (sent : Sent) → are_single rules ≡ true → find (fits rule) rules ≡ Some sent
    → find (fits rule) (filter q rules) ≡ (if q sent then Some sent else None)
found_kept rule q [] sent e f = absurd cc
found_kept rule q (other ∷ rules) sent e f = by (found_kept rule q rules sent (single_first other rules e).1) (fits rule other) refl f
  where
    goes : (b : Bool) → fits rule other ≡ false → find (fits rule) (filter q rules) ≡ (if q sent then Some sent else None)
        → find (fits rule) (cond b (other ∷ filter q rules) (filter q rules)) ≡ (if q sent then Some sent else None)
    goes true h k = rw h k
    goes false h k = k

    kept : (b : Bool) → fits rule other ≡ true → find (fits rule) (cond b (other ∷ filter q rules) (filter q rules)) ≡ (if b then Some other else None)
    kept true h = rw h refl
    kept false h = nowhere (fits rule) (filter q rules) (any_filtered (fits rule) q rules (alone rule other rules e h))

    by : (find (fits rule) rules ≡ Some sent → find (fits rule) (filter q rules) ≡ (if q sent then Some sent else None)) → (b : Bool) → fits rule other ≡ b
        → cond b (Some other) (find (fits rule) rules) ≡ Some sent
        → find (fits rule) (cond (q other) (other ∷ filter q rules) (filter q rules)) ≡ (if q sent then Some sent else None)
    by rest true h g = kept (q other) h ∙ ap (λ (s : Sent). if q s then Some s else None) (same_Some other sent g)
    by rest false h g = goes (q other) h (rest g)

-- THE LAST UPDATE

last_joined : {A : Type 0} (test : A → Bool) (xs ys : List A) → last_such test (xs ++ ys) ≡ option_or (last_such test ys) (last_such test xs)
last_joined {A} test [] ys = by (last_such test ys)
  where
    by : (o : Option A) → o ≡ option_or o None
    by None = refl
    by (Some y) = refl
last_joined {A} test (x ∷ xs) ys = ap or_first (last_joined test xs ys) ∙ by (last_such test ys)
  where
    or_first : Option A → Option A
    or_first o = elim o [ Some found ↦ Some found | None ↦ if test x then Some x else None ]

    by : (o : Option A) → or_first (option_or o (last_such test xs)) ≡ option_or o (or_first (last_such test xs))
    by (Some y) = refl
    by None = refl

module _ (rule : Ruled) where
  abbrev shows : Update → Option Given
  shows update = option_and_then (given_with update) (rule_given rule update)

  -- what is left where this is the last update that tells of the rule, or none does
  abbrev told_last : Option Given → Option Update → Option Given
  told_last before (Some update) = shows update
  told_last before None = before

  -- the later ones decide where one of them tells of the rule
  left_more : (taken more : List Update)
      → flow_left rule (taken ++ more) ≡ told_last (flow_left rule taken) (last_such (tells_of_rule rule) more)
  left_more taken more = ap (option_and_then shows) (last_joined (tells_of_rule rule) taken more) ∙ by (last_such (tells_of_rule rule) more)
    where
      by : (o : Option Update) → option_and_then shows (option_or o (last_such (tells_of_rule rule) taken))
          ≡ told_last (flow_left rule taken) o
      by (Some update) = refl
      by None = refl

  -- RULES THAT ARE ANNOUNCED
  module _ (terms : Terms) (path : List ℕ) where
    abbrev announced : Sent → Update
    announced sent = update_by terms path sent

    abbrev pub gives : Sent → Given
    gives sent = (sent.rule, path_by terms path, sent.actions)

    -- what is left where this is the one that is announced, or none is
    abbrev pub given_last : Option Given → Option Sent → Option Given
    given_last before (Some sent) = Some (gives sent)
    given_last before None = before

    tells_one : (sent : Sent) → tells_of_rule rule (announced sent) ≡ fits rule sent
    tells_one sent = by _
      where
        by : (b : Bool) → is_some (if b then Some sent.rule else None) ≡ b
        by true = refl
        by false = refl

    shows_one : (sent : Sent) → fits rule sent ≡ true → shows (announced sent) ≡ Some (gives sent)
    shows_one sent h = ap (λ (b : Bool). option_and_then (given_with (announced sent)) (if b then Some sent.rule else None)) h

    last_mapped : (rules : List Sent) → are_single rules ≡ true
        → last_such (tells_of_rule rule) (map announced rules) ≡ option_map announced (find (fits rule) rules)
    last_mapped [] e = refl
    last_mapped (sent ∷ rules) e =
        ap (or_first (tells_of_rule rule (announced sent))) (last_mapped rules (single_first sent rules e).1)
        ∙ ap (λ (b : Bool). or_first b (option_map announced (find (fits rule) rules))) (tells_one sent)
        ∙ choose (fits rule sent) refl
      where
        or_first : Bool → Option Update → Option Update
        or_first b o = elim o [ Some found ↦ Some found | None ↦ if b then Some (announced sent) else None ]

        still : (o : Option Sent) → or_first false (option_map announced o) ≡ option_map announced o
        still None = refl
        still (Some s) = refl

        choose : (b : Bool) → fits rule sent ≡ b → or_first b (option_map announced (find (fits rule) rules))
            ≡ option_map announced (cond b (Some sent) (find (fits rule) rules))
        choose true h = rw (nowhere (fits rule) rules (alone rule sent rules e h)) refl
        choose false h = still (find (fits rule) rules)

    pub announced_left : (taken : List Update) (rules : List Sent) → are_single rules ≡ true
        → flow_left rule (taken ++ map announced rules) ≡ given_last (flow_left rule taken) (find (fits rule) rules)
    announced_left taken rules e =
        left_more taken (map announced rules)
        ∙ ap (told_last (flow_left rule taken)) (last_mapped _ e)
        ∙ by _ refl
      where
        by : (o : Option Sent) → find (fits rule) rules ≡ o
            → told_last (flow_left rule taken) (option_map announced o) ≡ given_last (flow_left rule taken) o
        by None f = refl
        by (Some sent) f = shows_one _ (found_passes (fits rule) _ _ f)

  -- RULES THAT ARE WITHDRAWN
  one_withdrawn : (family : Family) (pack : List Ruled) (taken : List Update)
      → flow_left rule (taken ++ withdrawal family pack ∷ []) ≡ (if list_any (is_rule rule) pack then None else flow_left rule taken)
  one_withdrawn family pack taken =
      left_more taken (withdrawal family pack ∷ [])
      ∙ ap (λ (rules : List Ruled). told_last (flow_left rule taken) (if (list_any (is_rule rule) rules || false) then Some (withdrawal family pack)
      else None)) (append-nil pack)
      ∙ by (list_any (is_rule rule) pack)
    where
      by : (b : Bool) → told_last (flow_left rule taken) (if (b || false) then Some (withdrawal family pack) else None)
          ≡ (if b then None else flow_left rule taken)
      by true = refl
      by false = refl

  withdrawn_left : (family : Family) (packs : List (List Ruled)) (taken : List Update)
      → flow_left rule (taken ++ map (withdrawal family) packs) ≡ (if list_any (is_rule rule) (flat_map (λ (pack : List Ruled). pack) packs) then None
      else flow_left rule taken)
  withdrawn_left family [] taken = ap (flow_left rule) (append-nil taken)
  withdrawn_left family (pack ∷ packs) taken =
      ap (flow_left rule) (sym (append_assoc taken (withdrawal family pack ∷ []) (map (withdrawal family) packs)))
      ∙ withdrawn_left family packs (taken ++ withdrawal family pack ∷ [])
      ∙ ap (λ (o : Option Given). if list_any (is_rule rule) rest then None else o) (one_withdrawn family pack taken)
      ∙ by (list_any (is_rule rule) pack) (list_any (is_rule rule) rest)
      ∙ ap (λ (b : Bool). if b then None else flow_left rule taken) (sym (any_joined (is_rule rule) pack rest))
    where
      rest : List Ruled
      rest = flat_map (λ (pack : List Ruled). pack) packs

      by : (a b : Bool) → (if b then None else (if a then None else flow_left rule taken)) ≡ (if (a || b) then None else flow_left rule taken)
      by true true = refl
      by true false = refl
      by false b = refl

  -- each rule is of one of both families
  any_families : (rules : List Sent)
      → (list_any (is_rule rule) (of_family V4 rules) || list_any (is_rule rule) (of_family V6 rules)) ≡ list_any (fits rule) rules
  any_families [] = refl
  any_families (sent ∷ rules) = by (any_families rules) sent.rule.family
    where
      four : List Sent
      four = filter (λ (s : Sent). afi_of s.rule.family == afi_of V4) rules

      six : List Sent
      six = filter (λ (s : Sent). afi_of s.rule.family == afi_of V6) rules

      first : (a x y z : Bool) → (x || y) ≡ z → ((a || x) || y) ≡ (a || z)
      first true x y z h = refl
      first false x y z h = h

      second : (a x y z : Bool) → (x || y) ≡ z → (x || (a || y)) ≡ (a || z)
      second true true y z h = refl
      second true false y z h = refl
      second false x y z h = h

      Rest : Type 0
      Rest = (list_any (is_rule rule) (of_family V4 rules) || list_any (is_rule rule) (of_family V6 rules)) ≡ list_any (fits rule) rules

      by : Rest → (family : Family)
          → (list_any (is_rule rule) (map (λ (s : Sent). s.rule) (cond (afi_of family == afi_of V4) (sent ∷ four) four))
          || list_any (is_rule rule) (map (λ (s : Sent). s.rule) (cond (afi_of family == afi_of V6) (sent ∷ six) six)))
          ≡ (fits rule sent || list_any (fits rule) rules)
      by rest V4 = first (fits rule sent) _ _ _ rest
      by rest V6 = second (fits rule sent) (list_any (is_rule rule) (of_family V4 rules)) _ _ rest

  -- A CHANGE
  module _ (terms : Terms) (old new : Sending) (is_fresh : Sent → Bool) (four six : List (List Ruled))
      (fours : flat_map (λ (pack : List Ruled). pack) four ≡ of_family V4 (gone old.rules new.rules))
      (sixes : flat_map (λ (pack : List Ruled). pack) six ≡ of_family V6 (gone old.rules new.rules)) (single : are_single new.rules ≡ true)
      (known : (sent : Sent) → find (fits rule) new.rules ≡ Some sent → is_fresh sent ≡ false → given_by terms old rule ≡ given_by terms new rule)
      (taken : List Update) (held : flow_left rule taken ≡ given_by terms old rule) where
    abbrev left : List Sent
    left = gone old.rules new.rules

    abbrev is_gone : Sent → Bool
    is_gone sent = not (list_any (is_same sent) new.rules)

    abbrev with_gone : List Update
    with_gone = (taken ++ map (withdrawal V4) four) ++ map (withdrawal V6) six

    gone_left : flow_left rule with_gone ≡ (if list_any (fits rule) left then None else given_by terms old rule)
    gone_left =
        withdrawn_left V6 six (taken ++ map (withdrawal V4) four)
        ∙ ap (λ (rules : List Ruled). if list_any (is_rule rule) rules then None else flow_left rule (taken ++ map (withdrawal V4) four)) sixes
        ∙ ap (λ (o : Option Given). if list_any (is_rule rule) (of_family V6 left) then None else o)
        (withdrawn_left V4 four taken ∙ ap (λ (rules : List Ruled). if list_any (is_rule rule) rules then None else flow_left rule taken) fours)
        ∙ by (list_any (is_rule rule) (of_family V4 left)) _
        ∙ ap (λ (b : Bool). if b then None else flow_left rule taken) (any_families _)
        ∙ ap (λ (o : Option Given). if list_any (fits rule) left then None else o) held
      where
        by : (a b : Bool) → (if b then None else (if a then None else flow_left rule taken)) ≡ (if (a || b) then None else flow_left rule taken)
        by true true = refl
        by true false = refl
        by false b = refl

    -- the rule is a new one
    stays : (sent : Sent) → find (fits rule) new.rules ≡ Some sent → list_any (fits rule) left ≡ false
    stays sent f =
        none_kept _ _
        (λ other h. not_of_true (list_any (is_same other) new.rules) (sym (any_same rule other new.rules h) ∙ any_found (fits rule) new.rules
        ∙ ap is_some f)) _

    -- it isn't
    goes : find (fits rule) new.rules ≡ None → (if list_any (fits rule) left then None else given_by terms old rule) ≡ None
    goes f =
        ap (λ (b : Bool). if b then None else given_by terms old rule)
        (all_kept (fits rule) is_gone (λ other h. ap not (sym (any_same rule other new.rules h) ∙ never_there (fits rule) new.rules f)) old.rules
        ∙ any_found (fits rule) old.rules)
        ∙ by (find (fits rule) old.rules)
      where
        by : (o : Option Sent) → (if is_some o then None else option_map (gives terms old.as_path) o) ≡ None
        by None = refl
        by (Some sent) = refl

    pub changed_left : flow_left rule (with_gone ++ map (update_by terms new.as_path) (filter is_fresh new.rules)) ≡ given_by terms new rule
    changed_left =
        announced_left terms new.as_path with_gone (filter is_fresh new.rules) (single_filtered is_fresh new.rules single)
        ∙ ap (λ (o : Option Given). given_last terms new.as_path o (find (fits rule) (filter is_fresh new.rules))) gone_left
        ∙ by (find (fits rule) new.rules) refl
      where
        before : Option Given
        before = if list_any (fits rule) left then None else given_by terms old rule

        found : (sent : Sent) → find (fits rule) new.rules ≡ Some sent → (b : Bool) → is_fresh sent ≡ b
            → given_last terms new.as_path (given_by terms old rule) (if b then Some sent else None) ≡ given_by terms new rule
        found sent f true h = sym (ap (option_map (gives terms new.as_path)) f)
        found sent f false h = known sent f h

        by : (o : Option Sent) → find (fits rule) new.rules ≡ o
            → given_last terms new.as_path before (find (fits rule) (filter is_fresh new.rules)) ≡ given_by terms new rule
        by None f =
            ap (given_last terms new.as_path before)
            (nowhere (fits rule) (filter is_fresh new.rules) (any_filtered (fits rule) is_fresh new.rules (never_there (fits rule) new.rules f)))
            ∙ goes f ∙ sym (ap (option_map (gives terms new.as_path)) f)
        by (Some sent) f =
            ap (given_last terms new.as_path before)
            (found_kept rule is_fresh new.rules sent single f)
            ∙ ap (λ (b : Bool). given_last terms new.as_path (if b then None else given_by terms old rule) (if is_fresh sent then Some sent
            else None)) (stays sent f)
            ∙ found sent f (is_fresh sent) refl
