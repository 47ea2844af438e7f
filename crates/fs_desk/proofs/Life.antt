use Rattle.fs_desk.proofs.Words.{◌≡◌, ℕ, List, [], ◌∷◌, ◌++◌, Bool, true, false, ◌||◌, Option, Some, None, if◌then◌else◌, option_map, refl, ap, sym}
use Rattle.fs_desk.proofs.Words.{◌∙◌, true≢false, append_assoc, append-nil, list_any, list_any-append, or_none, Item, bounds_life, sent_in, sent_by}
use Rattle.fs_desk.proofs.Words.{begins_life, life}

-- What one more item of a tape changes of a peer's life.

-- one more element of a list that is searched
pub any-more : {A : Type 0} (test : A → Bool) (xs : List A) (x : A) → list_any test (xs ++ x ∷ []) ≡ (list_any test xs || test x)
any-more test xs x = list_any-append test xs (x ∷ []) ∙ ap (λ (b : Bool). list_any test xs || b) (or_none (test x) false refl)

sent-more : (peer : ℕ) (items : List Item) (item : Item) → sent_by peer (items ++ item ∷ []) ≡ sent_by peer items ++ sent_in peer item
sent-more peer [] item = append-nil (sent_in peer item)
sent-more peer (first ∷ items) item =
    ap (λ octets. sent_in peer first ++ octets) (sent-more peer items item)
    ∙ sym (append_assoc (sent_in peer first) (sent_by peer items) (sent_in peer item))

-- what bounds a life decides
bounded : (b c : Bool) (x y : Option (List ℕ)) → c ≡ true → (if (b || c) then x else y) ≡ x
bounded true c x y e = refl
bounded false true x y e = refl
bounded false false x y e = absurd (true≢false (sym e))

-- the last bound of a life stands at the end
pub life-bound : (peer : ℕ) (items : List Item) (item : Item) → bounds_life peer item ≡ true
    → life peer (items ++ item ∷ []) ≡ (if begins_life peer item then Some [] else None)
life-bound peer [] item e = refl
life-bound peer (first ∷ items) item e =
    ap (λ b. if b then life peer (items ++ item ∷ []) else if begins_life peer first then Some (sent_by peer (items ++ item ∷ [])) else None)
    (any-more (bounds_life peer) items item)
    ∙ bounded (list_any (bounds_life peer) items) (bounds_life peer item) _ _ e
    ∙ life-bound peer items item e

-- no bound: the life goes on with what the peer sent
pub life-more : (peer : ℕ) (items : List Item) (item : Item) → bounds_life peer item ≡ false → begins_life peer item ≡ false
    → life peer (items ++ item ∷ []) ≡ option_map (λ octets. octets ++ sent_in peer item) (life peer items)
life-more peer [] item e f = ap (λ b. if b then Some [] else None) f
life-more peer (first ∷ items) item e f =
    ap (λ b. if b then life peer (items ++ item ∷ []) else if begins_life peer first then Some (sent_by peer (items ++ item ∷ [])) else None)
    (any-more (bounds_life peer) items item)
    ∙ at (list_any (bounds_life peer) items) (bounds_life peer item) (begins_life peer first) e (life-more peer items item e f) (sent-more peer items item)
  where
    at : (b c u : Bool) → c ≡ false → life peer (items ++ item ∷ []) ≡ option_map (λ octets. octets ++ sent_in peer item) (life peer items)
        → sent_by peer (items ++ item ∷ []) ≡ sent_by peer items ++ sent_in peer item
        → (if (b || c) then life peer (items ++ item ∷ []) else if u then Some (sent_by peer (items ++ item ∷ [])) else None)
        ≡ option_map (λ octets. octets ++ sent_in peer item) (if b then life peer items else if u then Some (sent_by peer items) else None)
    at true c u n later s = later
    at false true u n later s = absurd (true≢false n)
    at false false true n later s = ap Some s
    at false false false n later s = refl
