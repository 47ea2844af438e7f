-- Validating anew the groups whose destination passes a test, and noting those in which a validity changed.
use Rattle.fs_flows.proofs.Words.{set, map_over_more, ℕ, zero, suc, ◌≡◌, ◌↔◌, ◌⊎◌, inl, inr, ◌+◌, ◌<◌, ◌≤◌, refl, sym, ap, ap₂, subst, ◌∙◌, Bool}
use Rattle.fs_flows.proofs.Words.{true, false, true≢false, ◌&&◌, ◌||◌, cond, List, [], ◌∷◌, ◌++◌, map, length, take, drop, get_or, Option, Some, None}
use Rattle.fs_flows.proofs.Words.{is_eq, arith, length-map, map-append, take_more, same_Some, AllByRecursion, IsStrictlySortedBy, is_at, keys_of}
use Rattle.fs_flows.proofs.Words.{lookup, set_value, sorted_head, sorted_tail, Config, Prefix, prefix_cmp, false_from, or_false, or_none}
use Rattle.fs_flows.proofs.Words.{same_from_cmp, each_append, each_both, each_mapped, each_of_map, each_weaker, Route, Swap, IsSwap, is_related}
use Rattle.fs_flows.proofs.Words.{validity_to, FlowRoute, Kept, Noted, StaysNoted, IsNotedAt, is_noted, IsRight, AreRight, AreRightTo, IsMarked}
use Rattle.fs_flows.proofs.Words.{IsRightAt, retested, retested_to, mended, routes_of, has_related, related_count, Entry, kept_in, IsTo, ArePlaced}
use Rattle.fs_flows.proofs.Words.{AreInOrder, touched, size, Marks, Mends, Progress, progress, IsRightEither, IsRightWhere, AreRightSince, WereRight}
use Rattle.fs_flows.proofs.{Apart.{each_front, each_back}, Placing.{get_or_again, related-append}, TakingFromGroups.{other_keys}}

-- a flag is down exactly where one fact holds, and so another
pub told_as : {P Q : Type 0} (b : Bool) → (P → Q) → (Q → P) → (b ≡ false) ↔ P → (b ≡ false) ↔ Q
told_as b f g t = ((λ e. f (t.0 e)), (λ q. t.1 (g q)))

module _ {X : Type 0} (f : X → X) (P : X → Type 0) where
  -- one after another is validated anew
  right_next : (xs : List X) (x : X) (a b : Bool) → (a ≡ false) ↔ AllByRecursion P xs → (b ≡ false) ↔ P x → ((a || b) ≡ false) ↔ AllByRecursion P (xs ++ x ∷ [])
  right_next xs x a b s t = (
    (λ h. let both = or_false a b h in each_append P xs (x ∷ []) (s.0 both.0) (t.0 both.1, tt)),
    (λ r. or_none a b (t.1 (each_back P xs (x ∷ []) r).0) ∙ s.1 (each_front P xs (x ∷ []) r)),
  )

  told_next : (xs ys : List X) (i : ℕ) (d x : X) (a b : Bool) → i < length xs → ys ≡ map f (take i xs) ++ drop i xs → x ≡ get_or ys i d
      → (a ≡ false) ↔ AllByRecursion P (take i xs) → (b ≡ false) ↔ P x → ((a || b) ≡ false) ↔ AllByRecursion P (take (i + 1) xs)
  told_next xs ys i d x a b inside e at s t =
      subst (λ ks. ((a || b) ≡ false) ↔ AllByRecursion P ks) (sym (take_more xs i d inside))
      (right_next (take i xs) (get_or xs i d) a b s (subst (λ (k : X). (b ≡ false) ↔ P k) (at ∙ ap (λ zs. get_or zs i d) e ∙ same xs i inside) t))
    where
      same : (zs : List X) (n : ℕ) → n < length zs → get_or (map f (take n zs) ++ drop n zs) n d ≡ get_or zs n d
      same [] n h = absurd (omega arith)
      same (z ∷ zs) zero h = refl
      same (z ∷ zs) (suc n) h = same zs n (omega arith)

  -- the element at one place more
  pub judged_next : (xs ys : List X) (i : ℕ) (d x : X) (a b : Bool) → i < length xs → i < length ys → ys ≡ map f (take i xs) ++ drop i xs
      → x ≡ f (get_or ys i d)
      → (a ≡ false) ↔ AllByRecursion P (take i xs) → (b ≡ false) ↔ P (get_or ys i d)
      → (set ys i x ≡ map f (take (i + 1) xs) ++ drop (i + 1) xs) × (((a || b) ≡ false) ↔ AllByRecursion P (take (i + 1) xs))
  judged_next xs ys i d x a b inside there e judged s t = (
    ap (set ys i) judged ∙ map_over_more f xs ys i (get_or ys i d) inside e (get_or_again ys i d there),
    told_next xs ys i d (get_or ys i d) a b inside e refl s t,
  )

abbrev pub Same : (t u : Prefix → Bool) → Entry → Type 0
Same t u e = t e.0 ≡ u e.0

module _ (unicast : List Route) (config : Config) where
  abbrev touches : (Prefix → Bool) → List Entry → List Entry
  touches t es = map (touched unicast config t) es

  touched_on : (t u : Prefix → Bool) (es : List Entry) → AllByRecursion (Same t u) es → touches t es ≡ touches u es
  touched_on t u [] h = refl
  touched_on t u (e ∷ es) h = ap₂ (λ x xs. x ∷ xs) (ap (λ b. cond b (e.0, map (retested_to unicast config e.0) e.1) e) h.0) (touched_on t u es h.1)

  size_on : (t u : Prefix → Bool) (es : List Entry) → AllByRecursion (Same t u) es → size t es ≡ size u es
  size_on t u [] h = refl
  size_on t u (e ∷ es) h = ap₂ (λ m n. m + n) (ap (λ b. cond b (length e.1) 0) h.0) (size_on t u es h.1)

  -- what is known of a group: that it is noted, or that its validities are right
  abbrev IsKnown : Noted → Prefix → List Kept → Type 0
  IsKnown noted d ks = IsNotedAt noted d ⊎ AreRightTo unicast config d ks

  abbrev IsKnownOf : (Prefix → Bool) → Noted → Entry → Type 0
  IsKnownOf t noted e = t e.0 ≡ true → IsKnown noted e.0 e.1

  -- by tests that agree on the keys
  pub mends_on : (t u : Prefix → Bool) {old new : Progress} → Mends unicast config t old new → AllByRecursion (Same t u) old.groups
      → Mends unicast config u old new
  mends_on t u {old} {new} m h = record {
    entries = m.entries ∙ touched_on t u old.groups h;
    stays = m.stays;
    marks = each_both (Same t u) (IsKnownOf t new.noted) (IsKnownOf u new.noted) (λ e s d k. d (s ∙ k)) old.groups h m.marks;
    quiet = λ r. m.quiet (each_both (Same t u) (IsRightWhere unicast config u) (IsRightWhere unicast config t) (λ e s d k. d (sym s ∙ k)) old.groups h r);
    later = m.later;
    steps = subst (λ n. new.steps ≤ old.steps + n) (size_on t u old.groups h) m.steps;
  }

  touched_none : (t : Prefix → Bool) (es : List Entry) → AllByRecursion (λ e. t e.0 ≡ false) es → touches t es ≡ es
  touched_none t [] h = refl
  touched_none t (e ∷ es) h = ap₂ (λ x xs. x ∷ xs) (ap (λ b. cond b (e.0, map (retested_to unicast config e.0) e.1) e) h.0) (touched_none t es h.1)

  none_known : (t : Prefix → Bool) (noted : Noted) (es : List Entry) → AllByRecursion (λ e. t e.0 ≡ false) es → AllByRecursion (IsKnownOf t noted) es
  none_known t noted es h = each_weaker (λ e. t e.0 ≡ false) (IsKnownOf t noted) (λ e f k. absurd (true≢false (sym k ∙ f))) es h

  -- where no key passes nothing is done
  pub mends_none : (t : Prefix → Bool) (now : Progress) → AllByRecursion (λ e. t e.0 ≡ false) now.groups → Mends unicast config t now now
  mends_none t now h = record {
    entries = sym (touched_none t now.groups h);
    stays = λ rule k. k;
    marks = none_known t now.noted now.groups h;
    quiet =
        λ r. refl;
    later = omega arith;
    steps = omega arith;
  }

  key_stays : (t : Prefix → Bool) (e : Entry) → (touched unicast config t e).0 ≡ e.0
  key_stays t e = at (t e.0) where
    at : (b : Bool) → (cond b (e.0, map (retested_to unicast config e.0) e.1) e).0 ≡ e.0
    at true = refl
    at false = refl

  keys_touched : (t : Prefix → Bool) (es : List Entry) → keys_of (touches t es) ≡ keys_of es
  keys_touched t [] = refl
  keys_touched t (e ∷ es) = ap₂ (λ x xs. x ∷ xs) (key_stays t e) (keys_touched t es)

  -- the keys stay
  pub mends_keys : (t : Prefix → Bool) {old new : Progress} → Mends unicast config t old new → keys_of new.groups ≡ keys_of old.groups
  mends_keys t {old} {new} m = ap keys_of m.entries ∙ keys_touched t old.groups

  -- what is known of the keys behind it was so before
  pub along_keys : (P : Prefix → Type 0) (t : Prefix → Bool) {old new : Progress} → Mends unicast config t old new
      → AllByRecursion (λ e. P e.0) new.groups → AllByRecursion (λ e. P e.0) old.groups
  along_keys P t {old} {new} m h = each_of_map (λ e. e.0) P old.groups (subst (AllByRecursion P) (mends_keys t m) (each_mapped (λ e. e.0) P new.groups h))

  -- one test after another, of which no key passes both
  again : (t u : Prefix → Bool) (e : Entry) → (t e.0 && u e.0) ≡ false
      → touched unicast config u (touched unicast config t e) ≡ touched unicast config (λ q. t q || u q) e
  again t u e h = at (t e.0) (u e.0) refl h where
    at : (a b : Bool) → u e.0 ≡ b → (a && b) ≡ false
        → touched unicast config u (cond a (e.0, map (retested_to unicast config e.0) e.1) e)
        ≡ cond (a || b) (e.0, map (retested_to unicast config e.0) e.1) e
    at true true f g = absurd (true≢false g)
    at true false f g = ap (λ c. cond c (e.0, map (retested_to unicast config e.0) (map (retested_to unicast config e.0) e.1)) (
      e.0,
      map (retested_to unicast config e.0) e.1,
    )) f
    at false b f g = ap (λ c. cond c (e.0, map (retested_to unicast config e.0) e.1) e) f

  both_touched : (t u : Prefix → Bool) (es : List Entry) → AllByRecursion (λ e. (t e.0 && u e.0) ≡ false) es
      → touches u (touches t es) ≡ touches (λ q. t q || u q) es
  both_touched t u [] h = refl
  both_touched t u (e ∷ es) h = ap₂ (λ x xs. x ∷ xs) (again t u e h.0) (both_touched t u es h.1)

  size_touched : (t u : Prefix → Bool) (es : List Entry) → size u (touches t es) ≡ size u es
  size_touched t u [] = refl
  size_touched t u (e ∷ es) = ap₂ (λ m n. m + n) (at (t e.0)) (size_touched t u es) where
    at : (b : Bool) → cond (u (cond b (e.0, map (retested_to unicast config e.0) e.1) e).0)
        (length (cond b (e.0, map (retested_to unicast config e.0) e.1) e).1) 0 ≡ cond (u e.0) (length e.1) 0
    at true = ap (λ n. cond (u e.0) n 0) (length-map e.1 (retested_to unicast config e.0))
    at false = refl

  size_both : (t u : Prefix → Bool) (es : List Entry) → AllByRecursion (λ e. (t e.0 && u e.0) ≡ false) es → size t es + size u es ≡ size (λ q. t q || u q) es
  size_both t u [] h = refl
  size_both t u (e ∷ es) h = let one : cond (t e.0) (length e.1) 0 + cond (u e.0) (length e.1) 0 ≡ cond (t e.0 || u e.0) (length e.1) 0 =
      at (t e.0) (u e.0) h.0 in
      let more : size t es + size u es ≡ size (λ q. t q || u q) es = size_both t u es h.1 in omega arith where
        at : (a b : Bool) → (a && b) ≡ false → cond a (length e.1) 0 + cond b (length e.1) 0 ≡ cond (a || b) (length e.1) 0
        at true true g = absurd (true≢false g)
        at true false g = omega arith
        at false b g = omega arith

  known_more : (t : Prefix → Bool) (es : List Entry) (noted more : Noted) → StaysNoted noted more → AllByRecursion (IsKnownOf t noted) es
      → AllByRecursion (IsKnownOf t more) es
  known_more t es noted more stays m = each_weaker (IsKnownOf t noted) (IsKnownOf t more) (λ e f k. at e (f k)) es m where
    at : (e : Entry) → IsKnown noted e.0 e.1 → IsKnown more e.0 e.1
    at e (inl n) = inl (λ rule h d. stays rule (n rule h d))
    at e (inr r) = inr r

  known_both : (t u : Prefix → Bool) (es : List Entry) (noted : Noted) → AllByRecursion (λ e. (t e.0 && u e.0) ≡ false) es
      → AllByRecursion (IsKnownOf t noted) es → AllByRecursion (IsKnownOf u noted) (touches t es)
      → AllByRecursion (IsKnownOf (λ q. t q || u q) noted) es
  known_both t u [] noted h c d = tt
  known_both t u (e ∷ es) noted h c d = (at (t e.0) h.0 c.0 d.0, known_both t u es noted h.1 c.1 d.1) where
    at : (b : Bool) → (b && u e.0) ≡ false → (b ≡ true → IsKnown noted e.0 e.1)
        → IsKnownOf u noted (cond b (e.0, map (retested_to unicast config e.0) e.1) e) → (b || u e.0) ≡ true → IsKnown noted e.0 e.1
    at true g f k p = f refl
    at false g f k p = k p

  -- what one test leaves to another is right, where all is
  right_both : (t u : Prefix → Bool) (es : List Entry) → AllByRecursion (λ e. (t e.0 && u e.0) ≡ false) es
      → AllByRecursion (IsRightWhere unicast config (λ q. t q || u q)) es
      → AllByRecursion (IsRightWhere unicast config t) es × AllByRecursion (IsRightWhere unicast config u) (touches t es)
  right_both t u [] h r = (tt, tt)
  right_both t u (e ∷ es) h r = let both = right_both t u es h.1 r.1 in
      ((λ k. r.0 (ap (λ b. b || u e.0) k), both.0), (at (t e.0) refl h.0, both.1)) where
        at : (b : Bool) → t e.0 ≡ b → (b && u e.0) ≡ false → IsRightWhere unicast config u (cond b (e.0, map (retested_to unicast config e.0) e.1) e)
        at true f g k = absurd (true≢false (sym k ∙ g))
        at false f g k = r.0 (ap (λ b. b || u e.0) f ∙ k)

  pub mends_both : (t u : Prefix → Bool) {old mid new : Progress} → Mends unicast config t old mid → Mends unicast config u mid new
      → AllByRecursion (λ e. (t e.0 && u e.0) ≡ false) old.groups
      → Mends unicast config (λ q. t q || u q) old new
  mends_both t u {old} {mid} {new} m n h = record {
    entries = n.entries ∙ ap (touches u) m.entries ∙ both_touched t u es h;
    stays = λ rule k. n.stays rule (m.stays rule k);
    marks = known_both t u es new.noted h (known_more t es mid.noted new.noted n.stays m.marks)
        (subst (AllByRecursion (IsKnownOf u new.noted)) m.entries n.marks);
    quiet = λ r. let both = right_both t u es h r in n.quiet (subst (AllByRecursion (IsRightWhere unicast config u)) (sym m.entries) both.1) ∙ m.quiet both.0;
    later = omega (arith, m.later, n.later);
    steps = let a : size u mid.groups ≡ size u es = ap (size u) m.entries ∙ size_touched t u es in
        let b : size t es + size u es ≡ size (λ q. t q || u q) es = size_both t u es h in omega (arith, m.steps, n.steps);
  } where
    es : List Entry
    es = old.groups

  others : (p : Prefix) (e : Entry) (es : List Entry) → is_eq (prefix_cmp p e.0) ≡ true → AreInOrder (e ∷ es)
      → AllByRecursion (λ e. is_eq (prefix_cmp p e.0) ≡ false) es
  others p e es t ordered = each_of_map (λ e. e.0) (λ q. is_eq (prefix_cmp p q) ≡ false) es
      (other_keys p e.0 (keys_of es) t (sorted_head prefix_cmp e.0 (keys_of es) ordered))

  -- the group at one key
  set_is : (p : Prefix) (es : List Entry) (group : List Kept) → AreInOrder es → lookup (is_at (prefix_cmp p)) es ≡ Some group
      → set_value (is_at (prefix_cmp p)) es (map (retested_to unicast config p) group) ≡ touches (is_at (prefix_cmp p)) es
  set_is p [] group ordered h = refl
  set_is p (e ∷ es) group ordered h = at (is_eq (prefix_cmp p e.0)) refl h (set_is p es group (sorted_tail prefix_cmp e.0 (keys_of es) ordered)) where
    at : (b : Bool) → is_eq (prefix_cmp p e.0) ≡ b → cond b (Some e.1) (lookup (is_at (prefix_cmp p)) es) ≡ Some group
        → (lookup (is_at (prefix_cmp p)) es ≡ Some group
        → set_value (is_at (prefix_cmp p)) es (map (retested_to unicast config p) group) ≡ touches (is_at (prefix_cmp p)) es)
        → cond b ((e.0, map (retested_to unicast config p) group) ∷ es)
        (e ∷ set_value (is_at (prefix_cmp p)) es (map (retested_to unicast config p) group))
        ≡ cond b (e.0, map (retested_to unicast config e.0) e.1) e ∷ touches (is_at (prefix_cmp p)) es
    at true t g ih = ap₂ (λ x xs. x ∷ xs) (ap₂ (λ q ks. (e.0, map (retested_to unicast config q) ks)) (same_from_cmp p e.0 t) (sym (same_Some e.1 group g)))
        (sym (touched_none (is_at (prefix_cmp p)) es (others p e es t ordered)))
    at false t g ih = ap (λ fs. e ∷ fs) (ih g)

  size_found : (p : Prefix) (es : List Entry) (group : List Kept) → lookup (is_at (prefix_cmp p)) es ≡ Some group
      → length group ≤ size (is_at (prefix_cmp p)) es
  size_found p [] group h = cc
  size_found p (e ∷ es) group h = at (is_eq (prefix_cmp p e.0)) h (size_found p es group) where
    at : (b : Bool) → cond b (Some e.1) (lookup (is_at (prefix_cmp p)) es) ≡ Some group
        → (lookup (is_at (prefix_cmp p)) es ≡ Some group → length group ≤ size (is_at (prefix_cmp p)) es)
        → length group ≤ cond b (length e.1) 0 + size (is_at (prefix_cmp p)) es
    at true g ih = let f : length e.1 ≡ length group = ap length (same_Some e.1 group g) in omega arith
    at false g ih = let f : length group ≤ size (is_at (prefix_cmp p)) es = ih g in omega arith

  found_known : (p : Prefix) (es : List Entry) (group : List Kept) (noted : Noted) → AreInOrder es → lookup (is_at (prefix_cmp p)) es ≡ Some group
      → IsKnown noted p group → AllByRecursion (IsKnownOf (is_at (prefix_cmp p)) noted) es
  found_known p [] group noted ordered h r = tt
  found_known p (e ∷ es) group noted ordered h r =
      at (is_eq (prefix_cmp p e.0)) refl h (found_known p es group noted (sorted_tail prefix_cmp e.0 (keys_of es) ordered)) where
        at : (b : Bool) → is_eq (prefix_cmp p e.0) ≡ b → cond b (Some e.1) (lookup (is_at (prefix_cmp p)) es) ≡ Some group
            → (lookup (is_at (prefix_cmp p)) es ≡ Some group → IsKnown noted p group → AllByRecursion (IsKnownOf (is_at (prefix_cmp p)) noted) es)
            → AllByRecursion (IsKnownOf (is_at (prefix_cmp p)) noted) (e ∷ es)
        at true t g ih = (
          (λ k. subst (λ q. IsKnown noted q e.1) (same_from_cmp p e.0 t) (subst (IsKnown noted p) (sym (same_Some e.1 group g)) r)),
          none_known (is_at (prefix_cmp p)) noted es (others p e es t ordered),
        )
        at false t g ih = ((λ k. absurd (true≢false (sym k ∙ t))), ih g r)

  found_right : (p : Prefix) (es : List Entry) (group : List Kept) → lookup (is_at (prefix_cmp p)) es ≡ Some group
      → AllByRecursion (IsRightWhere unicast config (is_at (prefix_cmp p))) es → AreRightTo unicast config p group
  found_right p [] group h r = cc
  found_right p (e ∷ es) group h r = at (is_eq (prefix_cmp p e.0)) refl h (λ g. found_right p es group g r.1) where
    at : (b : Bool) → is_eq (prefix_cmp p e.0) ≡ b → cond b (Some e.1) (lookup (is_at (prefix_cmp p)) es) ≡ Some group
        → (lookup (is_at (prefix_cmp p)) es ≡ Some group → AreRightTo unicast config p group) → AreRightTo unicast config p group
    at true t g ih = subst (λ q. AreRightTo unicast config q group) (sym (same_from_cmp p e.0 t))
        (subst (AreRightTo unicast config e.0) (same_Some e.1 group g) (r.0 t))
    at false t g ih = ih g

  -- the group that stands at a key
  pub mends_found : (p d : Prefix) (group after : List Kept) (old new : Progress) → AreInOrder old.groups
      → lookup (is_at (prefix_cmp p)) old.groups ≡ Some group
      → new.groups ≡ set_value (is_at (prefix_cmp p)) old.groups after → after ≡ map (retested_to unicast config d) group → d ≡ p
      → StaysNoted old.noted new.noted → IsKnown new.noted d group → (AreRightTo unicast config d group → new.noted ≡ old.noted)
      → old.steps ≤ new.steps → new.steps ≤ old.steps + length group → Mends unicast config (is_at (prefix_cmp p)) old new
  mends_found p d group after old new ordered there written retested same stays known quiet later steps = record {
    entries = written ∙ ap (set_value (is_at (prefix_cmp p)) old.groups) (retested ∙ ap (λ q. map (retested_to unicast config q) group) same)
        ∙ set_is p old.groups group ordered there;
    stays = stays;
    marks = found_known p old.groups group new.noted ordered there (subst (λ q. IsKnown new.noted q group) same known);
    quiet = λ r. quiet (subst (λ q. AreRightTo unicast config q group) (sym same) (found_right p old.groups group there r));
    later = later;
    steps = omega (arith, steps, size_found p old.groups group there);
  }

  pub none_found : (p : Prefix) (es : List Entry) → lookup (is_at (prefix_cmp p)) es ≡ None → AllByRecursion (λ e. is_eq (prefix_cmp p e.0) ≡ false) es
  none_found p [] h = tt
  none_found p (e ∷ es) h = at (is_eq (prefix_cmp p e.0)) refl h (none_found p es) where
    at : (b : Bool) → is_eq (prefix_cmp p e.0) ≡ b → cond b (Some e.1) (lookup (is_at (prefix_cmp p)) es) ≡ None
        → (lookup (is_at (prefix_cmp p)) es ≡ None → AllByRecursion (λ e. is_eq (prefix_cmp p e.0) ≡ false) es)
        → AllByRecursion (λ e. is_eq (prefix_cmp p e.0) ≡ false) (e ∷ es)
    at true t g ih = cc
    at false t g ih = (t, ih g)

  pub mends_missing : (p : Prefix) (old new : List Entry) (noted : Noted) (steps : ℕ) → lookup (is_at (prefix_cmp p)) old ≡ None → new ≡ old
      → Mends unicast config (is_at (prefix_cmp p)) (progress old noted steps) (progress new noted steps)
  mends_missing p old new noted steps h e =
      subst (λ es. Mends unicast config (is_at (prefix_cmp p)) now (progress es noted steps)) (sym e)
      (mends_none (is_at (prefix_cmp p)) now (none_found p old h)) where
        now : Progress
        now = progress old noted steps

  -- What is right stays as it is, validated anew.
  pub right_stays : (d : Prefix) (ks : List Kept) → AreRightTo unicast config d ks → ks ≡ map (retested_to unicast config d) ks
  right_stays d [] r = refl
  right_stays d (k ∷ ks) r = ap₂ (λ v xs. record { route = k.route; validity = v } ∷ xs) r.0 (right_stays d ks r.1)

  -- and what was right is so still, where each route to the destination has the validity that it had
  still_right : (earlier : List Route) (d : Prefix) (ks : List Kept)
      → ((route : FlowRoute) → validity_to earlier config route (Some d) ≡ validity_to unicast config route (Some d))
      → AreRightTo earlier config d ks ⊎ AreRightTo unicast config d ks → AreRightTo unicast config d ks
  still_right earlier d ks same (inl r) =
      each_weaker (λ k. k.validity ≡ validity_to earlier config k.route (Some d)) (λ k. k.validity ≡ validity_to unicast config k.route (Some d))
      (λ k e. e ∙ same k.route) ks r
  still_right earlier d ks same (inr r) = r

  -- what is known of each group, of the one that stands at a key
  at_key : (P : Prefix → List Kept → Type 0) (p : Prefix) (es : List Entry) (group : List Kept) → lookup (is_at (prefix_cmp p)) es ≡ Some group
      → AllByRecursion (λ e. P e.0 e.1) es → P p group
  at_key P p [] group there all = cc
  at_key P p (e ∷ es) group there all = at (is_eq (prefix_cmp p e.0)) refl there (λ g. at_key P p es group g all.1) where
    at : (b : Bool) → is_eq (prefix_cmp p e.0) ≡ b → cond b (Some e.1) (lookup (is_at (prefix_cmp p)) es) ≡ Some group
        → (lookup (is_at (prefix_cmp p)) es ≡ Some group → P p group) → P p group
    at true t g ih = subst (λ q. P q group) (sym (same_from_cmp p e.0 t)) (subst (P e.0) (same_Some e.1 group g) all.0)
    at false t g ih = ih g

  -- a group that the swap leaves right
  pub right_left : (swap : Swap) (p d : Prefix) (es : List Entry) (group : List Kept) → AreRightSince swap unicast config es
      → lookup (is_at (prefix_cmp p)) es ≡ Some group → d ≡ p
      → ((earlier : List Route) → IsSwap swap earlier unicast → (route : FlowRoute)
      → validity_to earlier config route (Some d) ≡ validity_to unicast config route (Some d)) → AreRightTo unicast config d group
  right_left swap p d es group since there same judged = still_right since.earlier d group (judged since.earlier since.swapped)
      (at_key (λ q ks. AreRightTo since.earlier config q ks ⊎ AreRightTo unicast config q ks) d es group
      (subst (λ q. lookup (is_at (prefix_cmp q)) es ≡ Some group) (sym same) there) since.right)

  touched_right : (earlier : List Route) (t : Prefix → Bool) (es : List Entry) → AllByRecursion (IsRightEither earlier unicast config) es
      → AllByRecursion (IsRightEither earlier unicast config) (touches t es)
  touched_right earlier t [] h = tt
  touched_right earlier t (e ∷ es) h = (at (t e.0), touched_right earlier t es h.1) where
    now_right : (ks : List Kept) → AreRightTo unicast config e.0 (map (retested_to unicast config e.0) ks)
    now_right [] = tt
    now_right (k ∷ ks) = (refl, now_right ks)

    at : (b : Bool) → IsRightEither earlier unicast config (cond b (e.0, map (retested_to unicast config e.0) e.1) e)
    at true = inr (now_right e.1)
    at false = h.0

  -- while groups are validated anew
  pub right_since : (swap : Swap) (t : Prefix → Bool) {old new : Progress} → Mends unicast config t old new
      → AreRightSince swap unicast config old.groups → AreRightSince swap unicast config new.groups
  right_since swap t {old} {new} m since = record {
    earlier = since.earlier;
    swapped = since.swapped;
    right = subst (AllByRecursion (IsRightEither since.earlier unicast config)) (sym m.entries) (touched_right since.earlier t old.groups since.right);
  }

  -- From all routes to the entries.
  right_to : (earlier : List Route) (d : Prefix) (ks : List Kept) → AllByRecursion (IsTo (Some d)) ks → AreRight earlier config ks
      → AreRightTo earlier config d ks
  right_to earlier d [] to r = tt
  right_to earlier d (k ∷ ks) to r = (r.0 ∙ ap (validity_to earlier config k.route) to.0, right_to earlier d ks to.1 r.1)

  groups_right : (earlier : List Route) (es : List Entry) (rest : List Kept) → ArePlaced es → AreRight earlier config (kept_in es rest)
      → AllByRecursion (IsRightEither earlier unicast config) es
  groups_right earlier [] rest placed r = tt
  groups_right earlier (e ∷ es) rest placed r = (
    inl (right_to earlier e.0 e.1 placed.0 (each_front (IsRight earlier config) e.1 (kept_in es rest) r)),
    groups_right earlier es rest placed.1 (each_back (IsRight earlier config) e.1 (kept_in es rest) r),
  )

  pub right_in : (swap : Swap) (es : List Entry) (rest : List Kept) → ArePlaced es → WereRight swap unicast config (kept_in es rest)
      → AreRightSince swap unicast config es
  right_in swap es rest placed were = record { earlier = were.earlier; swapped = were.swapped; right = groups_right were.earlier es rest placed were.right }

  -- of both families
  pub right_first : (swap : Swap) (xs ys : List Kept) → WereRight swap unicast config (xs ++ ys) → WereRight swap unicast config xs
  right_first swap xs ys were = record { earlier = were.earlier; swapped = were.swapped; right = each_front (IsRight were.earlier config) xs ys were.right }

  pub right_second : (swap : Swap) (xs ys : List Kept) → WereRight swap unicast config (xs ++ ys) → WereRight swap unicast config ys
  right_second swap xs ys were = record { earlier = were.earlier; swapped = were.swapped; right = each_back (IsRight were.earlier config) xs ys were.right }

  -- From the entries to all routes.
  mended_all : (p : Prefix) (destination : Option Prefix) (b : Bool) → has_related p destination ≡ b → (ks : List Kept)
      → AllByRecursion (IsTo destination) ks → map (mended p unicast config) ks ≡ cond b (map (retested unicast config) ks) ks
  mended_all p destination true h [] to = refl
  mended_all p destination false h [] to = refl
  mended_all p destination true h (k ∷ ks) to =
      ap₂ (λ x xs. x ∷ xs) (ap (λ b. cond b (retested unicast config k) k) (ap (has_related p) to.0 ∙ h)) (mended_all p destination true h ks to.1)
  mended_all p destination false h (k ∷ ks) to =
      ap₂ (λ x xs. x ∷ xs) (ap (λ b. cond b (retested unicast config k) k) (ap (has_related p) to.0 ∙ h)) (mended_all p destination false h ks to.1)

  all_to : (destination : Prefix) (ks : List Kept) → AllByRecursion (IsTo (Some destination)) ks
      → map (retested_to unicast config destination) ks ≡ map (retested unicast config) ks
  all_to destination [] to = refl
  all_to destination (k ∷ ks) to =
      ap₂ (λ d xs. record { route = k.route; validity = validity_to unicast config k.route d } ∷ xs) (sym to.0) (all_to destination ks to.1)

  pub mended_in : (p : Prefix) (es : List Entry) (rest : List Kept) → ArePlaced es → AllByRecursion (IsTo None) rest
      → kept_in (touches (is_related p) es) rest ≡ map (mended p unicast config) (kept_in es rest)
  mended_in p [] rest placed bare = sym (mended_all p None false refl rest bare)
  mended_in p (e ∷ es) rest placed bare =
      ap₂ (λ xs ys. xs ++ ys) (group (is_related p e.0) refl ∙ sym (mended_all p (Some e.0) (is_related p e.0) refl e.1 placed.0))
      (mended_in p es rest placed.1 bare) ∙ sym (map-append (mended p unicast config) e.1 (kept_in es rest)) where
        group : (b : Bool) → is_related p e.0 ≡ b
            → (cond b (e.0, map (retested_to unicast config e.0) e.1) e).1 ≡ cond b (map (retested unicast config) e.1) e.1
        group true t = all_to e.0 e.1 placed.0
        group false t = refl

  related_all : (p : Prefix) (destination : Option Prefix) (b : Bool) → has_related p destination ≡ b → (ks : List Kept)
      → AllByRecursion (IsTo destination) ks → related_count p (routes_of ks) ≡ cond b (length ks) 0
  related_all p destination true h [] to = refl
  related_all p destination false h [] to = refl
  related_all p destination true h (k ∷ ks) to =
      ap₂ (λ m n. m + n) (ap (λ b. cond b 1 0) (ap (has_related p) to.0 ∙ h)) (related_all p destination true h ks to.1) ∙ omega arith
  related_all p destination false h (k ∷ ks) to =
      ap₂ (λ m n. m + n) (ap (λ b. cond b 1 0) (ap (has_related p) to.0 ∙ h)) (related_all p destination false h ks to.1) ∙ omega arith

  pub size_related : (p : Prefix) (es : List Entry) (rest : List Kept) → ArePlaced es → size (is_related p) es ≤ related_count p (routes_of (kept_in es rest))
  size_related p [] rest placed = omega arith
  size_related p (e ∷ es) rest placed = let a : related_count p (routes_of e.1) ≡ cond (is_related p e.0) (length e.1) 0 =
      related_all p (Some e.0) (is_related p e.0) refl e.1 placed.0 in
      let b : size (is_related p) es ≤ related_count p (routes_of (kept_in es rest)) = size_related p es rest placed.1 in
      let c : related_count p (routes_of (e.1 ++ kept_in es rest)) ≡ related_count p (routes_of e.1) + related_count p (routes_of (kept_in es rest)) =
      related-append p e.1 (kept_in es rest) in omega arith

  placed_touched : (t : Prefix → Bool) (es : List Entry) → ArePlaced es → ArePlaced (touches t es)
  placed_touched t [] h = tt
  placed_touched t (e ∷ es) h = (at (t e.0), placed_touched t es h.1) where
    mapped : (ks : List Kept) → AllByRecursion (IsTo (Some e.0)) ks → AllByRecursion (IsTo (Some e.0)) (map (retested_to unicast config e.0) ks)
    mapped [] g = tt
    mapped (k ∷ ks) g = (g.0, mapped ks g.1)

    at : (b : Bool) → AllByRecursion (IsTo (Some (cond b (e.0, map (retested_to unicast config e.0) e.1) e).0))
        (cond b (e.0, map (retested_to unicast config e.0) e.1) e).1
    at true = mapped e.1 h.0
    at false = h.0

  pub mends_placed : (t : Prefix → Bool) {old new : Progress} → Mends unicast config t old new → ArePlaced old.groups → ArePlaced new.groups
  mends_placed t {old} m h = subst ArePlaced (sym m.entries) (placed_touched t old.groups h)

  pub mends_ordered : (t : Prefix → Bool) {old new : Progress} → Mends unicast config t old new → AreInOrder old.groups → AreInOrder new.groups
  mends_ordered t m h = subst (IsStrictlySortedBy prefix_cmp) (sym (mends_keys t m)) h

  -- From the entries to all routes: those without a destination are related to no prefix.
  pub right_all : (p : Prefix) (destination : Option Prefix) (ks : List Kept) → AllByRecursion (IsTo destination) ks
      → (has_related p destination ≡ true → AreRight unicast config ks) → AllByRecursion (IsRightAt p unicast config) ks
  right_all p destination [] to r = tt
  right_all p destination (k ∷ ks) to r = (
    (λ h. (r (sym (ap (has_related p) to.0) ∙ h)).0),
    right_all p destination ks to.1 (λ h. (r h).1),
  )

  pub right_here : (destination : Prefix) (ks : List Kept) → AllByRecursion (IsTo (Some destination)) ks → AreRightTo unicast config destination ks
      → AreRight unicast config ks
  right_here destination [] to r = tt
  right_here destination (k ∷ ks) to r = (r.0 ∙ ap (validity_to unicast config k.route) (sym to.0), right_here destination ks to.1 r.1)

  -- From the entries to all routes.
  group_marked : (p d : Prefix) (ks : List Kept) (noted : Noted) → AllByRecursion (IsTo (Some d)) ks → (is_related p d ≡ true → IsKnown noted d ks)
      → AllByRecursion (IsMarked noted p unicast config) ks
  group_marked p d ks noted to m = at (is_related p d) refl where
    weaker : AllByRecursion (IsRightAt p unicast config) ks → AllByRecursion (IsMarked noted p unicast config) ks
    weaker r = each_weaker (IsRightAt p unicast config) (IsMarked noted p unicast config) (λ k f _ _. f) ks r

    known : IsKnown noted d ks → AllByRecursion (IsMarked noted p unicast config) ks
    known (inl n) = each_weaker (IsTo (Some d)) (IsMarked noted p unicast config)
        (λ k e rule none. absurd (true≢false (sym (n k.route.rule rule e) ∙ none))) ks to
    known (inr r) = weaker (right_all p (Some d) ks to (λ _. right_here d ks to r))

    at : (b : Bool) → is_related p d ≡ b → AllByRecursion (IsMarked noted p unicast config) ks
    at true e = known (m e)
    at false e = weaker (right_all p (Some d) ks to (λ h. absurd (true≢false (sym h ∙ e))))

  pub marks_kept : (p : Prefix) (es : List Entry) (rest : List Kept) (noted : Noted) → ArePlaced es → AllByRecursion (IsTo None) rest
      → Marks unicast config (is_related p) es noted → AllByRecursion (IsMarked noted p unicast config) (kept_in es rest)
  marks_kept p [] rest noted placed bare m =
      each_weaker (IsRightAt p unicast config) (IsMarked noted p unicast config) (λ k f _ _. f) rest
      (right_all p None rest bare (λ h. absurd (true≢false (sym h))))
  marks_kept p (e ∷ es) rest noted placed bare m =
      each_append (IsMarked noted p unicast config) e.1 (kept_in es rest) (group_marked p e.0 e.1 noted placed.0 m.0)
      (marks_kept p es rest noted placed.1 bare m.1)

  -- from all routes to the entries
  group_right : (p d : Prefix) (ks : List Kept) → AllByRecursion (IsTo (Some d)) ks → is_related p d ≡ true
      → AllByRecursion (IsRightAt p unicast config) ks → AreRightTo unicast config d ks
  group_right p d [] to e r = tt
  group_right p d (k ∷ ks) to e r = (
    r.0 (ap (has_related p) to.0 ∙ e) ∙ ap (validity_to unicast config k.route) to.0,
    group_right p d ks to.1 e r.1,
  )

  pub right_where : (p : Prefix) (es : List Entry) (rest : List Kept) → ArePlaced es → AllByRecursion (IsRightAt p unicast config) (kept_in es rest)
      → AllByRecursion (IsRightWhere unicast config (is_related p)) es
  right_where p [] rest placed r = tt
  right_where p (e ∷ es) rest placed r = (
    (λ h. group_right p e.0 e.1 placed.0 h (each_front (IsRightAt p unicast config) e.1 (kept_in es rest) r)),
    right_where p es rest placed.1 (each_back (IsRightAt p unicast config) e.1 (kept_in es rest) r),
  )

  -- of the routes of both families
  pub marked_families : (p : Prefix) (xs ys : List Kept) (noted more : Noted) → StaysNoted noted more
      → AllByRecursion (IsMarked noted p unicast config) xs → AllByRecursion (IsMarked more p unicast config) ys
      → AllByRecursion (IsMarked more p unicast config) (xs ++ ys)
  marked_families p xs ys noted more stays h k = each_append (IsMarked more p unicast config) xs ys
      (each_weaker (IsMarked noted p unicast config) (IsMarked more p unicast config)
      (λ x f rule none. f rule (false_from (is_noted noted x.route.rule) (λ t. true≢false (sym (stays x.route.rule t) ∙ none)))) xs h) k
