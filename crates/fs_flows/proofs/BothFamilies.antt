-- The routes of IPv4 stand before those of IPv6.
use Rattle.fs_flows.proofs.Words.{ℕ, ◌≡◌, ◌+◌, sym, ap, ap₂, subst, ◌∙◌, Bool, true, false, not, ◌&&◌, ◌==◌, cond, List, [], ◌∷◌, ◌++◌, filter, map}
use Rattle.fs_flows.proofs.Words.{nat_cmp, is_eq, Result, Ok, Err, OnOk, OnErr, arith, append-nil, map-append, list_any, AllByRecursion}
use Rattle.fs_flows.proofs.Words.{ordering_then, afi_of, Config, Family, V4, V6, Prefix, and_first, each_weaker, each_append, filter-append}
use Rattle.fs_flows.proofs.Words.{filter_all, filter_none, each_filtered, same_family_of, Ruled, IsRule, parts_cmp, Route, Kept, is_key, is_of_family}
use Rattle.fs_flows.proofs.Words.{is_valid, related_count, Noted, AreSorted, routes_of, put_kept, mended, retested, is_related_kept, IsRightAt}
use Rattle.fs_flows.proofs.Words.{is_beaten, is_chosen, chosen, of_family, is_other_key, HaveRules, Entry, IsSound, AreLent, MendsKept, AllBefore}
use Rattle.fs_flows.proofs.Words.{RuleBefore}
use Rattle.fs_flows.proofs.{Apart.{each_back, each_front, families_before}, ChosenParts.{chosen-append}}
use Rattle.fs_flows.proofs.Changed.{any_back, any_front, each-filtered, each-put, left_back, left_front}
use Rattle.fs_flows.proofs.{Mending.{marked_families}, Placing.{related-append}}
use Rattle.fs_flows.proofs.PuttingInGroups.{put_left, put_right, sorted_front, sorted_back}
use Rattle.fs_flows.specs.Flows.{AreOfFamilies}

before_each : (xs ys : List Kept) → AreOfFamilies xs ys → AllBefore xs ys
before_each xs ys h = each_weaker (IsSound V4) (λ x. AllByRecursion (RuleBefore x) ys)
    (λ x s. each_weaker (IsSound V6) (RuleBefore x) (λ y t. families_before x y s t) ys h.second) xs h.first

-- what a put leaves of each
pub each_now : {T E : Type 0} (P : Kept → Type 0) (k : Kept) (old new : List Kept) (r : Result T E) → P k → AllByRecursion P old
    → OnOk r (new ≡ put_kept k old) → OnErr r (new ≡ old) → AllByRecursion P new
each_now P k old new (Ok t) h all ok err = subst (AllByRecursion P) (sym ok) (each-put P k h old all)
each_now P k old new (Err e) h all ok err = subst (AllByRecursion P) (sym err) all

pub put_first : (k : Kept) (xs ys : List Kept) → IsSound V4 k → AreOfFamilies xs ys → put_kept k xs ++ ys ≡ put_kept k (xs ++ ys)
put_first k xs ys h g = sym (put_left k xs ys (each_weaker (IsSound V6) (RuleBefore k) (λ y t. families_before k y h t) ys g.second))

pub put_second : (k : Kept) (xs ys : List Kept) → IsSound V6 k → AreOfFamilies xs ys → xs ++ put_kept k ys ≡ put_kept k (xs ++ ys)
put_second k xs ys h g = sym (put_right k xs ys (each_weaker (IsSound V4) (λ x. RuleBefore x k) (λ x s. families_before x k s h) xs g.first))

pub rules_of : (f : Family) (ks : List Kept) → AllByRecursion (IsSound f) ks → HaveRules ks
rules_of f ks h = each_weaker (IsSound f) (λ k. IsRule k.route.rule) (λ k s. s.rule) ks h

abbrev test_at : Ruled → ℕ → Kept → Family → Family → Bool
test_at rule peer k f g = is_eq
    (ordering_then (ordering_then (nat_cmp (afi_of f) (afi_of g)) (parts_cmp rule.parts k.route.rule.parts)) (nat_cmp peer k.route.peer))

-- a key of one family is no route's of the other
none_second : (rule : Ruled) (peer : ℕ) (ys : List Kept) → rule.family ≡ V4 → AllByRecursion (IsSound V6) ys
    → AllByRecursion (λ k. is_key rule peer k.route ≡ false) ys
none_second rule peer ys h g = each_weaker (IsSound V6) (λ k. is_key rule peer k.route ≡ false) (λ k s. ap₂ (test_at rule peer k) h s.family) ys g

none_first : (rule : Ruled) (peer : ℕ) (xs : List Kept) → rule.family ≡ V6 → AllByRecursion (IsSound V4) xs
    → AllByRecursion (λ k. is_key rule peer k.route ≡ false) xs
none_first rule peer xs h g = each_weaker (IsSound V4) (λ k. is_key rule peer k.route ≡ false) (λ k s. ap₂ (test_at rule peer k) h s.family) xs g

pub take_first : (rule : Ruled) (peer : ℕ) (xs ys : List Kept) → rule.family ≡ V4 → AreOfFamilies xs ys
    → filter (is_other_key rule peer) xs ++ ys ≡ filter (is_other_key rule peer) (xs ++ ys)
take_first rule peer xs ys h g = left_front (λ k. is_key rule peer k.route) xs ys (none_second rule peer ys h g.second)

pub take_second : (rule : Ruled) (peer : ℕ) (xs ys : List Kept) → rule.family ≡ V6 → AreOfFamilies xs ys
    → xs ++ filter (is_other_key rule peer) ys ≡ filter (is_other_key rule peer) (xs ++ ys)
take_second rule peer xs ys h g = left_back (λ k. is_key rule peer k.route) xs ys (none_first rule peer xs h g.first)

pub held_first : (rule : Ruled) (peer : ℕ) (xs ys : List Kept) → rule.family ≡ V4 → AreOfFamilies xs ys
    → list_any (λ k. is_key rule peer k.route) xs ≡ list_any (λ k. is_key rule peer k.route) (xs ++ ys)
held_first rule peer xs ys h g = any_front (λ k. is_key rule peer k.route) xs ys (none_second rule peer ys h g.second)

pub held_second : (rule : Ruled) (peer : ℕ) (xs ys : List Kept) → rule.family ≡ V6 → AreOfFamilies xs ys
    → list_any (λ k. is_key rule peer k.route) ys ≡ list_any (λ k. is_key rule peer k.route) (xs ++ ys)
held_second rule peer xs ys h g = any_back (λ k. is_key rule peer k.route) xs ys (none_first rule peer xs h g.first)

pub filtered : (keeps : Kept → Bool) (f : Family) (old new : List Kept) → new ≡ filter keeps old → AllByRecursion (IsSound f) old
    → AllByRecursion (IsSound f) new
filtered keeps f old new e h = subst (AllByRecursion (IsSound f)) (sym e) (each_filtered (IsSound f) keeps old h)

mended_sound : (f : Family) (p : Prefix) (unicast : List Route) (config : Config) (ks : List Kept) → AllByRecursion (IsSound f) ks
    → AllByRecursion (IsSound f) (map (mended p unicast config) ks)
mended_sound f p unicast config [] h = tt
mended_sound f p unicast config (k ∷ ks) h = (at (is_related_kept p k), mended_sound f p unicast config ks h.1) where
  at : (b : Bool) → IsSound f (cond b (retested unicast config k) k)
  at true = record { family = h.0.family; rule = h.0.rule }
  at false = h.0

pub mended_now : (f : Family) (p : Prefix) (unicast : List Route) (config : Config) (old new : List Kept) → new ≡ map (mended p unicast config) old
    → AllByRecursion (IsSound f) old → AllByRecursion (IsSound f) new
mended_now f p unicast config old new e h = subst (AllByRecursion (IsSound f)) (sym e) (mended_sound f p unicast config old h)

-- one family behind the other
module _ (p : Prefix) (unicast : List Route) (config : Config) where
  pub mends_families : {xs ys xs' ys' : List Kept} {noted between more : Noted} {before amid after : ℕ}
      → MendsKept p unicast config xs xs' noted between before amid → MendsKept p unicast config ys ys' between more amid after
      → MendsKept p unicast config (xs ++ ys) (xs' ++ ys') noted more before after
  mends_families {xs} {ys} {between = between} {more} h k = record {
    kept = ap₂ (λ a b. a ++ b) h.kept k.kept ∙ sym (map-append (mended p unicast config) xs ys);
    stays = λ rule n. k.stays rule (h.stays rule n);
    marked = marked_families unicast config p xs ys between more k.stays h.marked k.marked;
    quiet = λ r. k.quiet (each_back (IsRightAt p unicast config) xs ys r) ∙ h.quiet (each_front (IsRightAt p unicast config) xs ys r);
    later = omega (arith, h.later, k.later);
    steps = let e : related_count p (routes_of (xs ++ ys)) ≡ related_count p (routes_of xs) + related_count p (routes_of ys) =
        related-append p xs ys in omega (arith, h.steps, k.steps);
  }

-- What is read of a family.
of_other : (family f g : Family) (k : Kept) → family ≡ f → IsSound g k → is_of_family family k.route ≡ (afi_of g == afi_of f)
of_other family f g k h s = ap₂ (λ a b. afi_of a == afi_of b) s.family h

not_chosen : (family : Family) (ks : List Kept) (k : Kept) → is_of_family family k.route ≡ false → is_chosen family ks k ≡ false
not_chosen family ks k h = ap (λ b. b && (is_valid k.validity && not (is_beaten ks k))) h

pub chosen_first : (family : Family) (xs ys : List Kept) → family ≡ V4 → AreOfFamilies xs ys → chosen family xs ≡ chosen family (xs ++ ys)
chosen_first family xs ys h g = sym (chosen-append family xs ys (before_each xs ys g)
    ∙ ap (λ zs. chosen family xs ++ zs)
    (filter_none (is_chosen family ys) ys
    (each_weaker (IsSound V6) (λ k. is_chosen family ys k ≡ false) (λ k s. not_chosen family ys k (of_other family V4 V6 k h s)) ys g.second))
    ∙ append-nil (chosen family xs))

pub chosen_second : (family : Family) (xs ys : List Kept) → family ≡ V6 → AreOfFamilies xs ys → chosen family ys ≡ chosen family (xs ++ ys)
chosen_second family xs ys h g = sym (chosen-append family xs ys (before_each xs ys g)
    ∙ ap (λ zs. zs ++ chosen family ys)
    (filter_none (is_chosen family xs) xs
    (each_weaker (IsSound V4) (λ k. is_chosen family xs k ≡ false) (λ k s. not_chosen family xs k (of_other family V6 V4 k h s)) xs g.first)))

sound_where : (family g : Family) (k : Kept) → IsSound g k → is_of_family family k.route ≡ true → IsSound family k
sound_where family g k s h = record { family = s.family ∙ same_family_of g family (sym (ap (λ f. afi_of f == afi_of family) s.family) ∙ h); rule = s.rule }

-- what is chosen of a family has rules of it
pub chosen_each : (family : Family) (xs ys now : List Kept) → xs ++ ys ≡ now → AreOfFamilies xs ys → AllByRecursion (IsSound family) (chosen family now)
chosen_each family xs ys now e h =
    subst (λ ks. AllByRecursion (IsSound family) (chosen family ks)) e
    (each-filtered (λ k. is_of_family family k.route ≡ true → IsSound family k) (IsSound family) (is_chosen family (xs ++ ys))
    (λ k h e. h (and_first (is_of_family family k.route) (is_valid k.validity && not (is_beaten (xs ++ ys) k)) e)) (xs ++ ys)
    (each_append (λ k. is_of_family family k.route ≡ true → IsSound family k) xs ys
    (each_weaker (IsSound V4) (λ k. is_of_family family k.route ≡ true → IsSound family k) (λ k s. sound_where family V4 k s) xs h.first)
    (each_weaker (IsSound V6) (λ k. is_of_family family k.route ≡ true → IsSound family k) (λ k s. sound_where family V6 k s) ys h.second)))

pub family_first : (family : Family) (xs ys : List Kept) → family ≡ V4 → AreOfFamilies xs ys → xs ≡ filter (λ k. is_of_family family k.route) (xs ++ ys)
family_first family xs ys h g = sym (filter-append (λ k. is_of_family family k.route) xs ys
    ∙ ap₂ (λ a b. a ++ b) (filter_all (λ k. is_of_family family k.route) xs
    (each_weaker (IsSound V4) (λ k. is_of_family family k.route ≡ true) (λ k s. of_other family V4 V4 k h s) xs g.first))
    (filter_none (λ k. is_of_family family k.route) ys
    (each_weaker (IsSound V6) (λ k. is_of_family family k.route ≡ false) (λ k s. of_other family V4 V6 k h s) ys g.second)) ∙ append-nil xs)

pub family_second : (family : Family) (xs ys : List Kept) → family ≡ V6 → AreOfFamilies xs ys → ys ≡ filter (λ k. is_of_family family k.route) (xs ++ ys)
family_second family xs ys h g = sym (filter-append (λ k. is_of_family family k.route) xs ys
    ∙ ap₂ (λ a b. a ++ b) (filter_none (λ k. is_of_family family k.route) xs
    (each_weaker (IsSound V4) (λ k. is_of_family family k.route ≡ false) (λ k s. of_other family V6 V4 k h s) xs g.first))
    (filter_all (λ k. is_of_family family k.route) ys
    (each_weaker (IsSound V6) (λ k. is_of_family family k.route ≡ true) (λ k s. of_other family V6 V6 k h s) ys g.second)))

pub sound_at : (family f : Family) → family ≡ f → (ks : List Kept) → AllByRecursion (IsSound f) ks → AllByRecursion (IsSound family) ks
sound_at family f e ks h = subst (λ g. AllByRecursion (IsSound g) ks) (sym e) h

-- what is lent of one family's routes tells of all
pub lent_family : (family : Family) (ks now : List Kept) (es : List Entry) (rest : List Kept) → chosen family ks ≡ chosen family now
    → ks ≡ of_family family now → AreLent family (chosen family ks) ks es rest → AreLent family (chosen family now) (of_family family now) es rest
lent_family family ks now es rest e f lent =
    subst (λ held. AreLent family (chosen family now) held es rest) f (subst (λ admits. AreLent family admits ks es rest) e lent)

pub sorted_first : (xs ys now : List Kept) → xs ++ ys ≡ now → AreSorted (routes_of now) → AreSorted (routes_of xs)
sorted_first xs ys now e h = sorted_front xs ys (subst (λ ks. AreSorted (routes_of ks)) (sym e) h)

pub sorted_second : (xs ys now : List Kept) → xs ++ ys ≡ now → AreSorted (routes_of now) → AreSorted (routes_of ys)
sorted_second xs ys now e h = sorted_back xs ys (subst (λ ks. AreSorted (routes_of ks)) (sym e) h)

pub rules_each : (xs ys now : List Kept) → xs ++ ys ≡ now → AreOfFamilies xs ys → HaveRules now
rules_each xs ys now e h = subst HaveRules e (each_append (λ k. IsRule k.route.rule) xs ys (rules_of V4 xs h.first) (rules_of V6 ys h.second))
