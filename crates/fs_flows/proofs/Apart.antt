-- Rules of different destinations are in the order of these.
use Rattle.fs_flows.proofs.Words.{ℕ, zero, suc, drop, take, ◌≡◌, refl, sym, ap, ap₂, ◌∙◌, true, false, true≢false, List, [], ◌∷◌, ◌++◌, Option, Some}
use Rattle.fs_flows.proofs.Words.{None, option_map, Ordering, Less, Equal, Greater, is_eq, nat_cmp, Result, Ok, Err, OnOk, OnErr, IfOk}
use Rattle.fs_flows.proofs.Words.{AllByRecursion, keys_of, ordering_then, ordering_reverse, sorted_head, Family, V4, V6, Prefix, afi_of, prefix_cmp}
use Rattle.fs_flows.proofs.Words.{each_weaker, each_both, each_append, Ruled, IsRule, shown, destination_prefix, destination_shown, rule_cmp}
use Rattle.fs_flows.proofs.Words.{parts_cmp, rule_total, destination_cmp, Kept, RuleBefore, AllBefore, key_cmp, is_key, same_rule, Entry, kept_in}
use Rattle.fs_flows.proofs.Words.{IsTo, ArePlaced, AreInOrder, IsSound}
use Rattle.fs_order.proofs.{First.{destinations_first}, Same.{same_rules}}

-- rules without a destination come last
abbrev pub to_cmp : Option Prefix → Option Prefix → Ordering
to_cmp None None = Equal
to_cmp None (Some q) = Greater
to_cmp (Some p) None = Less
to_cmp (Some p) (Some q) = prefix_cmp p q

pub to_shown : (p q : Option Prefix) → destination_cmp (option_map shown p) (option_map shown q) ≡ to_cmp p q
to_shown None None = refl
to_shown None (Some q) = refl
to_shown (Some p) None = refl
to_shown (Some p) (Some q) = refl

by_destination : (family : Family) (a b : Kept) → IsSound family a → IsSound family b
    → rule_cmp a.route.rule b.route.rule ≡ ordering_then (to_cmp (destination_prefix a.route.rule) (destination_prefix b.route.rule))
    (rule_cmp a.route.rule b.route.rule)
by_destination family a b h k = destinations_first a.route.rule b.route.rule h.rule k.rule (h.family ∙ sym k.family)
    ∙ ap (λ o. ordering_then o (rule_cmp a.route.rule b.route.rule))
    (ap₂ destination_cmp (destination_shown a.route.rule h.rule) (destination_shown b.route.rule k.rule)
    ∙ to_shown (destination_prefix a.route.rule) (destination_prefix b.route.rule))

-- the route with the earlier destination has the earlier rule
pub earlier : (family : Family) (a b : Kept) (p q : Option Prefix) → IsSound family a → IsSound family b → IsTo p a → IsTo q b → to_cmp p q ≡ Less
    → rule_cmp a.route.rule b.route.rule ≡ Less
earlier family a b p q h k d e less = by_destination family a b h k ∙ ap (λ o. ordering_then o (rule_cmp a.route.rule b.route.rule)) (ap₂ to_cmp d e ∙ less)

pub key_less : (a b : Kept) → RuleBefore a b → key_cmp a.route.rule a.route.peer b.route ≡ Less
key_less a b h = ap (λ o. ordering_then o (nat_cmp a.route.peer b.route.peer)) h

pub rule_after : (a b : Kept) → RuleBefore a b → rule_cmp b.route.rule a.route.rule ≡ Greater
rule_after a b h = rule_total.antisymm b.route.rule a.route.rule ∙ ap ordering_reverse h

pub key_greater : (a b : Kept) → RuleBefore a b → key_cmp b.route.rule b.route.peer a.route ≡ Greater
key_greater a b h = ap (λ o. ordering_then o (nat_cmp b.route.peer a.route.peer)) (rule_after a b h)

pub not_same : (a b : Kept) → RuleBefore a b → same_rule a.route b.route ≡ false
not_same a b h = ap is_eq h

pub not_same_back : (a b : Kept) → RuleBefore a b → same_rule b.route a.route ≡ false
not_same_back a b h = ap is_eq (rule_after a b h)

-- what holds of each of a whole holds of its parts
pub each_front : {X : Type 0} (P : X → Type 0) (xs ys : List X) → AllByRecursion P (xs ++ ys) → AllByRecursion P xs
each_front P [] ys h = tt
each_front P (x ∷ xs) ys h = (h.0, each_front P xs ys h.1)

pub each_back : {X : Type 0} (P : X → Type 0) (xs ys : List X) → AllByRecursion P (xs ++ ys) → AllByRecursion P ys
each_back P [] ys h = h
each_back P (x ∷ xs) ys h = each_back P xs ys h.1

pub take_each : {X : Type 0} (P : X → Type 0) (n : ℕ) (ks : List X) → AllByRecursion P ks → AllByRecursion P (take n ks)
take_each P zero ks h = tt
take_each P (suc n) [] h = tt
take_each P (suc n) (k ∷ ks) h = (h.0, take_each P n ks h.1)

pub drop_each : {X : Type 0} (P : X → Type 0) (n : ℕ) (ks : List X) → AllByRecursion P ks → AllByRecursion P (drop n ks)
drop_each P zero ks h = h
drop_each P (suc n) [] h = tt
drop_each P (suc n) (k ∷ ks) h = drop_each P n ks h.1

-- the routes of groups behind a destination, and those without one
abbrev pub IsBehind : Option Prefix → Kept → Type 0
IsBehind p y = to_cmp p (destination_prefix y.route.rule) ≡ Less

pub behind_each : (p : Prefix) (es : List Entry) (rest : List Kept) → AllByRecursion (λ q. prefix_cmp p q ≡ Less) (keys_of es) → ArePlaced es
    → AllByRecursion (IsTo None) rest → AllByRecursion (IsBehind (Some p)) (kept_in es rest)
behind_each p [] rest keys placed bare = each_weaker (IsTo None) (IsBehind (Some p)) (λ y h. ap (to_cmp (Some p)) h) rest bare
behind_each p (e ∷ es) rest keys placed bare =
    each_append (IsBehind (Some p)) e.1 (kept_in es rest)
    (each_weaker (IsTo (Some e.0)) (IsBehind (Some p)) (λ y h. ap (to_cmp (Some p)) h ∙ keys.0) e.1 placed.0)
    (behind_each p es rest keys.1 placed.1 bare)

-- a route to p stands before each that is behind p
pub before_behind : (family : Family) (p : Option Prefix) (k : Kept) → IsSound family k → IsTo p k → (ys : List Kept)
    → AllByRecursion (IsSound family) ys → AllByRecursion (IsBehind p) ys → AllByRecursion (RuleBefore k) ys
before_behind family p k h d ys sound behind =
    each_both (IsSound family) (IsBehind p) (RuleBefore k) (λ y s b. earlier family k y p (destination_prefix y.route.rule) h s d refl b) ys sound
    behind

-- the first group stands before all behind it
pub group_before : (family : Family) (e : Entry) (es : List Entry) (rest : List Kept) → AreInOrder (e ∷ es) → ArePlaced (e ∷ es)
    → AllByRecursion (IsTo None) rest → AllByRecursion (IsSound family) (e.1 ++ kept_in es rest) → AllBefore e.1 (kept_in es rest)
group_before family e es rest ordered placed bare sound = each_both (IsSound family) (IsTo (Some e.0)) (λ x. AllByRecursion (RuleBefore x) (kept_in es rest))
    (λ x s d. before_behind family (Some e.0) x s d (kept_in es rest) (each_back (IsSound family) e.1 (kept_in es rest) sound) behind) e.1
    (each_front (IsSound family) e.1 (kept_in es rest) sound) placed.0 where
      behind : AllByRecursion (IsBehind (Some e.0)) (kept_in es rest)
      behind = behind_each e.0 es rest (sorted_head prefix_cmp e.0 (keys_of es) ordered) placed.1 bare

-- the families stand one behind the other
pub families_before : (a b : Kept) → IsSound V4 a → IsSound V6 b → RuleBefore a b
families_before a b h k = ap₂ (λ f g. ordering_then (nat_cmp (afi_of f) (afi_of g)) (parts_cmp a.route.rule.parts b.route.rule.parts)) h.family k.family

-- a key is of one destination, and of one family
pub key_same : (rule : Ruled) (peer : ℕ) (x : Kept) → IsRule rule → IsRule x.route.rule → is_key rule peer x.route ≡ true → rule ≡ x.route.rule
key_same rule peer x h k e = same_rules rule x.route.rule h k (first (rule_cmp rule x.route.rule) (nat_cmp peer x.route.peer) e) where
  first : (o p : Ordering) → is_eq (ordering_then o p) ≡ true → o ≡ Equal
  first Less p g = absurd (true≢false (sym g))
  first Equal p g = refl
  first Greater p g = absurd (true≢false (sym g))

pub ok_weaker : {T E : Type 0} (A B : Type 0) (r : Result T E) → (A → B) → OnOk r A → OnOk r B
ok_weaker A B (Ok t) f h = f h
ok_weaker A B (Err e) f h = tt

pub err_weaker : {T E : Type 0} (A B : Type 0) (r : Result T E) → (A → B) → OnErr r A → OnErr r B
err_weaker A B (Ok t) f h = tt
err_weaker A B (Err e) f h = f h

-- what an answer says that isn't for want of memory
pub ok_along : {T E A : Type 0} (f : T → A) (a b : A) (r : Result T E) → a ≡ b → IfOk r (λ t. f t ≡ a) → IfOk r (λ t. f t ≡ b)
ok_along f a b (Ok t) e h = h ∙ e
ok_along f a b (Err x) e h = tt
