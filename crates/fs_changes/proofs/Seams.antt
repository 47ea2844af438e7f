-- The lines of lists in order, one key after the other.
use Rattle.fs_changes.proofs.Words.{Bool, List, Option, Some, [], ap, ap₂, arith, cond, false, length, map, true, refl, sym, ℕ, ◌++◌, ◌+◌, ◌∙◌, ◌∷◌}
use Rattle.fs_changes.proofs.Words.{◌≡◌, append-nil, length-map, map-append, AllByRecursion, filter, Ordering, Less, Line, difference}
use Rattle.fs_changes.proofs.{Leading.{no_lines}, Parts.{IsBehind, IsFront, parts}}
use Rattle.fs_changes.proofs.Filters.{IsOrder, Parted, IsLater, alike, alike_reached, before_next, between, equal_is, is_past, is_up, less_is, lower}
use Rattle.fs_changes.proofs.Filters.{lower_reached, past_later, reached, up_lower, up_parted}

no_start : (m n : ℕ) → m ≡ n → 0 + m ≡ n
no_start m n e = omega (arith, e)

-- each passes the test
pub each_tested : {X : Type 0} (P : X → Type 0) (test : X → Bool) (xs : List X) → AllByRecursion P xs
    → AllByRecursion (λ x. P x × (test x ≡ true)) (filter test xs)
each_tested P test [] each = tt
each_tested {X} P test (x ∷ xs) each = at (test x) refl (each_tested P test xs each.1) where
  at : (b : Bool) → test x ≡ b → AllByRecursion (λ y. P y × (test y ≡ true)) (filter test xs)
      → AllByRecursion (λ y. P y × (test y ≡ true)) (cond b (x ∷ filter test xs) (filter test xs))
  at true e ih = ((each.0, e), ih)
  at false e ih = ih

module _ {X K T : Type 0} (place : K → K → Ordering) (key : X → K) (act : X → T) (before same : T → T → Bool) (Q : X → Type 0) where
  -- What has the lower key is before the other, and neither after it nor the same.
  pub record StandApart : Type 0 where
    pub order : IsOrder place
    pub before_it : (x y : X) → Q x → Q y → place (key y) (key x) ≡ Less → before (act x) (act y) ≡ true
    pub not_after : (x y : X) → Q x → Q y → place (key y) (key x) ≡ Less → before (act y) (act x) ≡ false
    pub not_same : (x y : X) → Q x → Q y → place (key y) (key x) ≡ Less → same (act x) (act y) ≡ false
    pub never : (t : T) → before t t ≡ false
    pub itself : (t : T) → same t t ≡ true

  abbrev lines : ℕ → (old new : List X) → List (Line T)
  lines k old new = difference before same k (map act old) (map act new)

  -- each of the first stands before each of the others
  abbrev Below : (P R : X → Type 0) → Type 0
  Below P R = (x y : X) → P x → R y → Q x × Q y × (place (key y) (key x) ≡ Less)

  behind : StandApart → (P R : X → Type 0) → Below P R → (los his : List X) → AllByRecursion P los → AllByRecursion R his
      → AllByRecursion (IsBehind before same (map act his)) (map act los)
  behind s P R b [] his p r = tt
  behind s P R b (x ∷ los) [] p r = (tt, behind s P R b los [] p.1 r)
  behind s P R b (x ∷ los) (y ∷ his) p r =
      let f : Q x × Q y × (place (key y) (key x) ≡ Less) = b x y p.0 r.0 in
      ((s.not_after x y f.0 f.1 f.2, s.not_same x y f.0 f.1 f.2), behind s P R b los (y ∷ his) p.1 r)

  front : StandApart → (P R : X → Type 0) → Below P R → (los his : List X) → AllByRecursion P los → AllByRecursion R his
      → AllByRecursion (IsFront before (map act his)) (map act los)
  front s P R b [] his p r = tt
  front s P R b (x ∷ los) [] p r = (tt, front s P R b los [] p.1 r)
  front s P R b (x ∷ los) (y ∷ his) p r =
      let f : Q x × Q y × (place (key y) (key x) ≡ Less) = b x y p.0 r.0 in
      (s.before_it x y f.0 f.1 f.2, front s P R b los (y ∷ his) p.1 r)

  -- where the lows of both lists stand below the highs
  seam : StandApart → (P R : X → Type 0) → Below P R → (old high new news : List X) → AllByRecursion P old → AllByRecursion R high
      → AllByRecursion P new → AllByRecursion R news
      → lines 0 (old ++ high) (new ++ news) ≡ lines 0 old new ++ lines (length new) high news
  seam s P R b old high new news p r q t =
      ap₂ (difference before same 0) (map-append act old high) (map-append act new news)
      ∙ parts before same 0 (map act old) (map act high) (map act new) (map act news) (behind s P R b old news p t) (front s P R b new high q r)
      ∙ ap (λ k. lines 0 old new ++ lines k high news) (no_start (length (map act new)) (length new) (length-map new act))

  below_next : (l : Option K) → StandApart → Below (λ x. Q x × (is_up place key l x ≡ true)) (λ y. Q y × (is_past place key l y ≡ true))
  below_next l s x y p r = (p.0, r.0, up_lower place key s.order l (key y) (past_later place key s.order l y r.1) x p.1)

  below_it : (t : K) → StandApart → Below (λ x. Q x × (lower place key t x ≡ true)) (λ y. Q y × (alike place key t y ≡ true))
  below_it t s x y p r = (p.0, r.0, ap (λ k. place k (key x)) (s.order.equal t (key y) (equal_is (place t (key y)) r.1)) ∙ less_is (place t (key x)) p.1)

  each_kept : (P : X → Type 0) (test : X → Bool) (xs : List X) → AllByRecursion P xs → AllByRecursion P (filter test xs)
  each_kept P test [] each = tt
  each_kept P test (x ∷ xs) each = at (test x) (each_kept P test xs each.1) where
    at : (b : Bool) → AllByRecursion P (filter test xs) → AllByRecursion P (cond b (x ∷ filter test xs) (filter test xs))
    at true ih = (each.0, ih)
    at false ih = ih

  each_between : (l : Option K) (t : K) (xs : List X) → AllByRecursion Q xs
      → AllByRecursion (λ y. Q y × (is_past place key l y ≡ true)) (between place key l t xs)
  each_between l t xs each = each_kept (λ y. Q y × (is_past place key l y ≡ true)) (lower place key t) (filter (is_past place key l) xs)
      (each_tested Q (is_past place key l) xs each)

  -- up to the next key nothing is said behind what is said up to the last one
  lines_before : StandApart → (l : Option K) (t : K) (old new : List X) → AllByRecursion Q old → AllByRecursion Q new → IsLater place key l t
      → ((k : K) → Parted place key k old) → ((k : K) → Parted place key k new)
      → between place key l t old ≡ between place key l t new
      → lines 0 (filter (lower place key t) old) (filter (lower place key t) new) ≡ lines 0 (filter (is_up place key l) old) (filter (is_up place key l) new)
  lines_before s l t old new q r h p p' same_between =
      ap₂ (lines 0) (before_next place key s.order l t old h p ∙ ap (λ b. up old ++ b) same_between) (before_next place key s.order l t new h p')
      ∙ seam s (λ x. Q x × (is_up place key l x ≡ true)) (λ y. Q y × (is_past place key l y ≡ true)) (below_next l s) (up old)
      (between place key l t new) (up new) (between place key l t new)
      (each_tested Q (is_up place key l) old q) (each_between l t new r) (each_tested Q (is_up place key l) new r) (each_between l t new r)
      ∙ ap (λ b. lines 0 (up old) (up new) ++ b) (no_lines before same (length (up new)) (map act (between place key l t new)) s.never s.itself)
      ∙ append-nil (lines 0 (up old) (up new)) where
        up : List X → List X
        up xs = filter (is_up place key l) xs

  -- With the lines of the next key all are told up to it.
  pub lines_next : StandApart → (l : Option K) (t : K) (old new : List X) → AllByRecursion Q old → AllByRecursion Q new → IsLater place key l t
      → ((k : K) → Parted place key k old) → ((k : K) → Parted place key k new)
      → between place key l t old ≡ between place key l t new
      → lines 0 (filter (is_up place key l) old) (filter (is_up place key l) new)
      ++ lines (length (filter (lower place key t) (reached place key l old new))) (filter (alike place key t) (reached place key l old new))
      (filter (alike place key t) new)
      ≡ lines 0 (filter (is_up place key (Some t)) old) (filter (is_up place key (Some t)) new)
  lines_next s l t old new q r h p p' same_between =
      ap₂ (λ a b. a ++ b) (sym (lines_before s l t old new q r h p p' same_between))
      (ap₂ (λ ls xs. lines (length ls) xs (filter (alike place key t) new)) (lower_reached place key s.order l t old new h p' same_between)
      (alike_reached place key s.order l t old new h))
      ∙ sym (seam s (λ x. Q x × (lower place key t x ≡ true)) (λ y. Q y × (alike place key t y ≡ true)) (below_it t s)
      (filter (lower place key t) old) (filter (alike place key t) old) (filter (lower place key t) new) (filter (alike place key t) new)
      (each_tested Q (lower place key t) old q) (each_tested Q (alike place key t) old q) (each_tested Q (lower place key t) new r)
      (each_tested Q (alike place key t) new r))
      ∙ sym (ap₂ (lines 0) (up_parted place key s.order t old (p t)) (up_parted place key s.order t new (p' t)))

  -- Where nothing is left to change, all is told.
  pub lines_last : StandApart → (l : Option K) (old new : List X) → AllByRecursion Q old → AllByRecursion Q new
      → (filter (is_up place key l) old ++ filter (is_past place key l) old ≡ old)
      → (filter (is_up place key l) new ++ filter (is_past place key l) new ≡ new)
      → filter (is_past place key l) old ≡ filter (is_past place key l) new
      → lines 0 (filter (is_up place key l) old) (filter (is_up place key l) new) ≡ lines 0 old new
  lines_last s l old new q r p p' same_past =
      sym (append-nil (lines 0 (up old) (up new)))
      ∙ ap (λ b. lines 0 (up old) (up new) ++ b) (sym (no_lines before same (length (up new)) (map act (filter (is_past place key l) new)) s.never s.itself))
      ∙ sym (seam s (λ x. Q x × (is_up place key l x ≡ true)) (λ y. Q y × (is_past place key l y ≡ true)) (below_next l s) (up old)
      (filter (is_past place key l) new) (up new) (filter (is_past place key l) new)
      (each_tested Q (is_up place key l) old q) (each_tested Q (is_past place key l) new r) (each_tested Q (is_up place key l) new r)
      (each_tested Q (is_past place key l) new r))
      ∙ ap₂ (lines 0) (ap (λ b. up old ++ b) (sym same_past) ∙ p) p' where
        up : List X → List X
        up xs = filter (is_up place key l) xs
