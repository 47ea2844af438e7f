-- Lists: what holds of each element, filters, and an ordered map's entries after a change.
use Rattle.fs_base.proofs.Words.{◌≡◌, refl, sym, ap, subst, ◌∙◌, Bool, true, false, cond, ◌&&◌, ◌||◌, List, [], ◌∷◌, ◌++◌, filter, map, true≢false}
use Rattle.fs_base.proofs.Words.{Some, Ordering, Less, Equal, Greater, is_eq, is_le, AllByRecursion, list_any, list_all, find, match_ordering}
use Rattle.fs_base.proofs.Bools.{or_false, or_first, or_second}
pub use Rattle.std.proofs.lemmas.List.Elements.{filter-append}
use Rattle.std.specs.{List.Sorted.{IsStrictlySortedBy}, BTreeMap.{insert_entry}, Map.{keys_of, remove_entry}}
use Rattle.std.proofs.lemmas.Map.Keys.{sorted_head, sorted_tail}

pub each_weaker : {X : Type 0} (P Q : X → Type 0) → ((x : X) → P x → Q x) → (xs : List X) → AllByRecursion P xs → AllByRecursion Q xs
each_weaker P Q h [] k = tt
each_weaker P Q h (x ∷ xs) k = (h x k.0, each_weaker P Q h xs k.1)

pub each : {X : Type 0} (P : X → Type 0) → ((x : X) → P x) → (xs : List X) → AllByRecursion P xs
each P h [] = tt
each P h (x ∷ xs) = (h x, each P h xs)

pub each_both : {X : Type 0} (P Q R : X → Type 0) → ((x : X) → P x → Q x → R x) → (xs : List X) → AllByRecursion P xs → AllByRecursion Q xs
    → AllByRecursion R xs
each_both P Q R h [] k l = tt
each_both P Q R h (x ∷ xs) k l = (h x k.0 l.0, each_both P Q R h xs k.1 l.1)

pub each_mapped : {X Y : Type 0} (f : X → Y) (P : Y → Type 0) (xs : List X) → AllByRecursion (λ x. P (f x)) xs → AllByRecursion P (map f xs)
each_mapped f P [] k = tt
each_mapped f P (x ∷ xs) k = (k.0, each_mapped f P xs k.1)

pub each_of_map : {X Y : Type 0} (f : X → Y) (P : Y → Type 0) (xs : List X) → AllByRecursion P (map f xs) → AllByRecursion (λ x. P (f x)) xs
each_of_map f P [] k = tt
each_of_map f P (x ∷ xs) k = (k.0, each_of_map f P xs k.1)

pub each_append : {X : Type 0} (P : X → Type 0) (xs ys : List X) → AllByRecursion P xs → AllByRecursion P ys → AllByRecursion P (xs ++ ys)
each_append P [] ys h k = k
each_append P (x ∷ xs) ys h k = (h.0, each_append P xs ys h.1 k)

-- two filters that agree on the list
pub filter_on : {X : Type 0} (p q : X → Bool) (xs : List X) → AllByRecursion (λ x. p x ≡ q x) xs → filter p xs ≡ filter q xs
filter_on p q [] h = refl
filter_on p q (x ∷ xs) h = at (p x) (q x) h.0 (filter_on p q xs h.1) where
  at : (a b : Bool) → a ≡ b → filter p xs ≡ filter q xs → cond a (x ∷ filter p xs) (filter p xs) ≡ cond b (x ∷ filter q xs) (filter q xs)
  at a b e ih = cc

pub filter_none : {X : Type 0} (p : X → Bool) (xs : List X) → AllByRecursion (λ x. p x ≡ false) xs → filter p xs ≡ []
filter_none p [] h = refl
filter_none p (x ∷ xs) h = at (p x) h.0 (filter_none p xs h.1) where
  at : (a : Bool) → a ≡ false → filter p xs ≡ [] → cond a (x ∷ filter p xs) (filter p xs) ≡ []
  at true e ih = absurd (true≢false e)
  at false e ih = ih

pub filter_all : {X : Type 0} (p : X → Bool) (xs : List X) → AllByRecursion (λ x. p x ≡ true) xs → filter p xs ≡ xs
filter_all p [] h = refl
filter_all p (x ∷ xs) h = at (p x) h.0 (filter_all p xs h.1) where
  at : (a : Bool) → a ≡ true → filter p xs ≡ xs → cond a (x ∷ filter p xs) (filter p xs) ≡ x ∷ xs
  at true e ih = ap (λ ys. x ∷ ys) ih
  at false e ih = absurd (true≢false (sym e))

-- an element that passes is one of the filtered list
pub any_filter : {X : Type 0} (p q : X → Bool) (xs : List X) → list_any q (filter p xs) ≡ list_any (λ x. p x && q x) xs
any_filter p q [] = refl
any_filter p q (x ∷ xs) = at (p x) (any_filter p q xs) where
  at : (a : Bool) → list_any q (filter p xs) ≡ list_any (λ x. p x && q x) xs
      → list_any q (cond a (x ∷ filter p xs) (filter p xs)) ≡ ((a && q x) || list_any (λ x. p x && q x) xs)
  at true ih = ap (λ b. q x || b) ih
  at false ih = ih

pub any_on : {X : Type 0} (p q : X → Bool) (xs : List X) → AllByRecursion (λ x. p x ≡ q x) xs → list_any p xs ≡ list_any q xs
any_on p q [] h = refl
any_on p q (x ∷ xs) h = let e : p x ≡ q x = h.0 in let k : list_any p xs ≡ list_any q xs = any_on p q xs h.1 in cc

pub all_on : {X : Type 0} (p q : X → Bool) (xs : List X) → AllByRecursion (λ x. p x ≡ q x) xs → list_all p xs ≡ list_all q xs
all_on p q [] h = refl
all_on p q (x ∷ xs) h = let e : p x ≡ q x = h.0 in let k : list_all p xs ≡ list_all q xs = all_on p q xs h.1 in cc

-- none passes
pub none_each : {X : Type 0} (p : X → Bool) (xs : List X) → list_any p xs ≡ false → AllByRecursion (λ x. p x ≡ false) xs
none_each p [] h = tt
none_each p (x ∷ xs) h = let k : (p x ≡ false) × (list_any p xs ≡ false) = or_false (p x) (list_any p xs) h in (k.0, none_each p xs k.1)

pub each_none : {X : Type 0} (p : X → Bool) (xs : List X) → AllByRecursion (λ x. p x ≡ false) xs → list_any p xs ≡ false
each_none p [] h = refl
each_none p (x ∷ xs) h = let e : p x ≡ false = h.0 in let k : list_any p xs ≡ false = each_none p xs h.1 in cc

-- of an element that passes, what holds of each holds
pub any_each : {X : Type 0} (p : X → Bool) (P : X → Type 0) (G : Type 0) (xs : List X) → list_any p xs ≡ true → AllByRecursion P xs
    → ((x : X) → p x ≡ true → P x → G) → G
any_each p P G [] h k f = absurd (true≢false (sym h))
any_each p P G (x ∷ xs) h k f = at (p x) refl (λ e. any_each p P G xs e k.1 f) h where
  at : (a : Bool) → p x ≡ a → (list_any p xs ≡ true → G) → (a || list_any p xs) ≡ true → G
  at true e ih g = f x e k.0
  at false e ih g = ih g

pub all_each : {X : Type 0} (p : X → Bool) (xs : List X) → list_all p xs ≡ true → AllByRecursion (λ x. p x ≡ true) xs
all_each p [] h = tt
all_each p (x ∷ xs) h = at (p x) refl (all_each p xs) h where
  at : (a : Bool) → p x ≡ a → (list_all p xs ≡ true → AllByRecursion (λ x. p x ≡ true) xs) → (a && list_all p xs) ≡ true
      → (p x ≡ true) × AllByRecursion (λ x. p x ≡ true) xs
  at true e ih g = (e, ih g)
  at false e ih g = absurd (true≢false (sym g))

pub each_all : {X : Type 0} (p : X → Bool) (xs : List X) → AllByRecursion (λ x. p x ≡ true) xs → list_all p xs ≡ true
each_all p [] h = refl
each_all p (x ∷ xs) h = let e : p x ≡ true = h.0 in let k : list_all p xs ≡ true = each_all p xs h.1 in cc

-- The entries of an ordered map after an insertion and after a removal.
pub each_insert : {K X : Type 0} (cmp : K → K → Ordering) (P : K → Type 0) (k : K) (v : X) → P k → (es : List (K × X))
    → AllByRecursion (λ e. P e.0) es → AllByRecursion (λ e. P e.0) (insert_entry cmp es k v)
each_insert cmp P k v h [] all = (h, tt)
each_insert cmp P k v h (e ∷ es) all = at (cmp k e.0) (each_insert cmp P k v h es all.1) where
  at : (o : Ordering) → AllByRecursion (λ e. P e.0) (insert_entry cmp es k v)
      → AllByRecursion (λ e. P e.0) (match_ordering o ((k, v) ∷ e ∷ es) ((e.0, v) ∷ es) (e ∷ insert_entry cmp es k v))
  at Less ih = (h, all)
  at Equal ih = (all.0, all.1)
  at Greater ih = (all.0, ih)

pub each_remove : {K X : Type 0} (P : K × X → Type 0) (test : K → Bool) (es : List (K × X)) → AllByRecursion P es → AllByRecursion P (remove_entry test es)
each_remove P test [] all = tt
each_remove P test (e ∷ es) all = at (test e.0) (each_remove P test es all.1) where
  at : (b : Bool) → AllByRecursion P (remove_entry test es) → AllByRecursion P (cond b es (e ∷ remove_entry test es))
  at true ih = all.1
  at false ih = (all.0, ih)

-- a filter on keys that leaves the inserted key out, and those equal to it
pub filter-insert_other : {K X : Type 0} (cmp : K → K → Ordering) (test : K → Bool) (k : K) (v : X) → test k ≡ false
    → ((q : K) → cmp k q ≡ Equal → test q ≡ false)
    → (es : List (K × X)) → filter (λ e. test e.0) (insert_entry cmp es k v) ≡ filter (λ e. test e.0) es
filter-insert_other {K} {X} cmp test k v h same [] = at (test k) h where
  at : (b : Bool) → b ≡ false → cond {A = List (K × X)} b ((k, v) ∷ []) [] ≡ []
  at true e = absurd (true≢false e)
  at false e = refl
filter-insert_other {K} {X} cmp test k v h same (e ∷ es) = at (cmp k e.0) refl (filter-insert_other cmp test k v h same es) where
  put : (b : Bool) → b ≡ false → (xs ys : List (K × X)) → cond b ((k, v) ∷ xs) xs ≡ xs
  put true f xs ys = absurd (true≢false f)
  put false f xs ys = refl

  over : (b : Bool) → b ≡ false → (x y : K × X) (xs : List (K × X)) → cond b (x ∷ xs) xs ≡ cond b (y ∷ xs) xs
  over true f x y xs = absurd (true≢false f)
  over false f x y xs = refl

  on : (b : Bool) (xs ys : List (K × X)) → xs ≡ ys → cond b (e ∷ xs) xs ≡ cond b (e ∷ ys) ys
  on b xs ys f = cc

  at : (o : Ordering) → cmp k e.0 ≡ o → filter (λ e. test e.0) (insert_entry cmp es k v) ≡ filter (λ e. test e.0) es
      → filter (λ e. test e.0) (match_ordering o ((k, v) ∷ e ∷ es) ((e.0, v) ∷ es) (e ∷ insert_entry cmp es k v)) ≡ filter (λ e. test e.0) (e ∷ es)
  at Less f ih = put (test k) h (filter (λ e. test e.0) (e ∷ es)) []
  at Equal f ih = over (test e.0) (same e.0 f) (e.0, v) e (filter (λ e. test e.0) es)
  at Greater f ih = on (test e.0) (filter (λ e. test e.0) (insert_entry cmp es k v)) (filter (λ e. test e.0) es) ih

pub filter-remove_other : {K X : Type 0} (test out : K → Bool) → ((q : K) → out q ≡ true → test q ≡ false) → (es : List (K × X))
    → filter (λ e. test e.0) (remove_entry out es) ≡ filter (λ e. test e.0) es
filter-remove_other test out h [] = refl
filter-remove_other {K} {X} test out h (e ∷ es) = at (out e.0) refl (filter-remove_other test out h es) where
  gone : (b : Bool) → b ≡ false → (xs : List (K × X)) → xs ≡ cond b (e ∷ xs) xs
  gone true f xs = absurd (true≢false f)
  gone false f xs = refl

  on : (b : Bool) (xs ys : List (K × X)) → xs ≡ ys → cond b (e ∷ xs) xs ≡ cond b (e ∷ ys) ys
  on b xs ys f = cc

  at : (b : Bool) → out e.0 ≡ b → filter (λ e. test e.0) (remove_entry out es) ≡ filter (λ e. test e.0) es
      → filter (λ e. test e.0) (cond b es (e ∷ remove_entry out es)) ≡ filter (λ e. test e.0) (e ∷ es)
  at true f ih = gone (test e.0) (h e.0 f) (filter (λ e. test e.0) es)
  at false f ih = on (test e.0) (filter (λ e. test e.0) (remove_entry out es)) (filter (λ e. test e.0) es) ih

less_is_le : (o : Ordering) → o ≡ Less → is_le o ≡ true
less_is_le Less h = refl
less_is_le Equal h = refl
less_is_le Greater h = cc

-- Of entries in order, the first that passes is there, passes, and isn't after any that does.
pub record IsLeast {K X : Type 0} (cmp : K → K → Ordering) (test : K → Bool) (es : List (K × X)) (first : K) : Type 0 where
  pub there : list_any (λ e. is_eq (cmp first e.0)) es ≡ true
  pub passes : test first ≡ true
  pub least : AllByRecursion (λ e. test e.0 ≡ true → is_le (cmp first e.0) ≡ true) es

pub filter_first : {K X : Type 0} (cmp : K → K → Ordering) → ((q : K) → cmp q q ≡ Equal) → (test : K → Bool) (es : List (K × X))
    → IsStrictlySortedBy cmp (keys_of es)
    → (x : K × X) (rest : List (K × X)) → filter (λ e. test e.0) es ≡ x ∷ rest → IsLeast cmp test es x.0
filter_first cmp same test [] sorted x rest h = cc
filter_first {K} {X} cmp same test (e ∷ es) sorted x rest h =
    at (test e.0) refl (filter_first cmp same test es (sorted_tail cmp e.0 (keys_of es) sorted) x rest) h where
      head : (xs ys : List (K × X)) (y z : K × X) → y ∷ xs ≡ z ∷ ys → y ≡ z
      head xs ys y z k = cc

      behind : AllByRecursion (λ f. cmp e.0 f.0 ≡ Less) es
      behind = each_of_map (λ f. f.0) (λ k. cmp e.0 k ≡ Less) es (sorted_head cmp e.0 (keys_of es) sorted)

      here : test e.0 ≡ true → IsLeast cmp test (e ∷ es) e.0
      here passes = record {
        there = or_first (is_eq (cmp e.0 e.0)) (list_any (λ f. is_eq (cmp e.0 f.0)) es) (ap is_eq (same e.0));
        passes = passes;
        least = (
          λ _. ap is_le (same e.0),
          each_weaker (λ f. cmp e.0 f.0 ≡ Less) (λ f. test f.0 ≡ true → is_le (cmp e.0 f.0) ≡ true) (λ f less _. less_is_le (cmp e.0 f.0) less) es behind,
        );
      }

      at : (b : Bool) → test e.0 ≡ b → (filter (λ e. test e.0) es ≡ x ∷ rest → IsLeast cmp test es x.0)
          → cond b (e ∷ filter (λ e. test e.0) es) (filter (λ e. test e.0) es) ≡ x ∷ rest → IsLeast cmp test (e ∷ es) x.0
      at true p ih k = subst (λ y. IsLeast cmp test (e ∷ es) y.0) (head (filter (λ e. test e.0) es) rest e x k) (here p)
      at false p ih k = let l : IsLeast cmp test es x.0 = ih k in record {
        there = or_second (is_eq (cmp x.0 e.0)) (list_any (λ f. is_eq (cmp x.0 f.0)) es) l.there;
        passes = l.passes;
        least = ((λ t. absurd (true≢false (sym t ∙ p))), l.least);
      }

-- nothing passes a filter that leaves nothing
pub filter_empty : {X : Type 0} (p : X → Bool) (xs : List X) → filter p xs ≡ [] → AllByRecursion (λ x. p x ≡ false) xs
filter_empty p [] h = tt
filter_empty p (x ∷ xs) h = at (p x) refl (filter_empty p xs) h where
  at : (b : Bool) → p x ≡ b → (filter p xs ≡ [] → AllByRecursion (λ x. p x ≡ false) xs)
      → cond b (x ∷ filter p xs) (filter p xs) ≡ [] → (p x ≡ false) × AllByRecursion (λ x. p x ≡ false) xs
  at true e ih k = cc
  at false e ih k = (e, ih k)

pub any_weaker : {X : Type 0} (p q : X → Bool) → ((x : X) → p x ≡ true → q x ≡ true) → (xs : List X) → list_any p xs ≡ true → list_any q xs ≡ true
any_weaker p q h [] k = k
any_weaker p q h (x ∷ xs) k = at (p x) refl (any_weaker p q h xs) k where
  at : (b : Bool) → p x ≡ b → (list_any p xs ≡ true → list_any q xs ≡ true) → (b || list_any p xs) ≡ true → (q x || list_any q xs) ≡ true
  at true e ih g = or_first (q x) (list_any q xs) (h x e)
  at false e ih g = or_second (q x) (list_any q xs) (ih g)

-- the first of a filtered list that passes
pub find_filter : {X : Type 0} (p q : X → Bool) (xs : List X) → find q (filter p xs) ≡ find (λ x. p x && q x) xs
find_filter p q [] = refl
find_filter p q (x ∷ xs) = at (p x) (find_filter p q xs) where
  at : (b : Bool) → find q (filter p xs) ≡ find (λ x. p x && q x) xs
      → find q (cond b (x ∷ filter p xs) (filter p xs)) ≡ cond (b && q x) (Some x) (find (λ x. p x && q x) xs)
  at true ih = ap (λ rest. cond (q x) (Some x) rest) ih
  at false ih = ih

pub find_on : {X : Type 0} (p q : X → Bool) (xs : List X) → AllByRecursion (λ x. p x ≡ q x) xs → find p xs ≡ find q xs
find_on p q [] h = refl
find_on p q (x ∷ xs) h = let e : p x ≡ q x = h.0 in let k : find p xs ≡ find q xs = find_on p q xs h.1 in cc

pub each_filtered : {X : Type 0} (P : X → Type 0) (p : X → Bool) (xs : List X) → AllByRecursion P xs → AllByRecursion P (filter p xs)
each_filtered P p [] h = tt
each_filtered P p (x ∷ xs) h = at (p x) (each_filtered P p xs h.1) where
  at : (b : Bool) → AllByRecursion P (filter p xs) → AllByRecursion P (cond b (x ∷ filter p xs) (filter p xs))
  at true ih = (h.0, ih)
  at false ih = ih

pub filter_filtered : {X : Type 0} (p q : X → Bool) → ((x : X) → p x ≡ true → q x ≡ true) → (xs : List X) → filter p (filter q xs) ≡ filter p xs
filter_filtered p q h [] = refl
filter_filtered {X} p q h (x ∷ xs) = at (q x) (p x) (h x) refl (filter_filtered p q h xs) where
  at : (b c : Bool) → (c ≡ true → b ≡ true) → p x ≡ c → filter p (filter q xs) ≡ filter p xs
      → filter p (cond b (x ∷ filter q xs) (filter q xs)) ≡ cond c (x ∷ filter p xs) (filter p xs)
  at true c g e ih = ap (λ d. cond d (x ∷ filter p (filter q xs)) (filter p (filter q xs))) e ∙ ap (λ ys. cond c (x ∷ ys) ys) ih
  at false true g e ih = absurd (true≢false (sym (g refl)))
  at false false g e ih = ih
