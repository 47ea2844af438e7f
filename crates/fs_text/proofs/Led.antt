-- The words of a text that were read, and what goes on from there.
use Rattle.std.proofs.Common.{append-nil}
use Rattle.fs_text.proofs.Words.{append_assoc, ◌≡◌, inl, inr, ⊎_elim, ℕ, zero, suc, map, get_or, ◌+◌, ◌<◌, List, [], ◌∷◌, ◌++◌, take, drop, length}
use Rattle.fs_text.proofs.Words.{length-append, refl, sym, ap, subst, ◌∙◌, arith, codes, slice_index, take-append-drop, take-append_seam}
use Rattle.fs_text.proofs.Words.{IsStrictlySortedBy, slice_cmp, nat_cmp, Family, V4, V6, Part, AreNormal, component_name, value_text, component_words}
use Rattle.fs_text.proofs.Words.{family_word, then_words, AreActions, AreWords, Begin, IsBadWord, IsWhole, Continues, Goes, Led, front, last_kind}
use Rattle.fs_text.proofs.Words.{FitsBehind, IsBadName, IsBadValue, IsNext, IsNoEnd, part_name}

pub head_is : {X : Type 0} {x y : X} {xs ys : List X} → x ∷ xs ≡ y ∷ ys → x ≡ y
head_is e = cc

pub tail_is : {X : Type 0} {x y : X} {xs ys : List X} → x ∷ xs ≡ y ∷ ys → xs ≡ ys
tail_is e = cc

pub no_words : {X : Type 0} {A : Type 0} {x : X} {xs : List X} → x ∷ xs ≡ [] → A
no_words e = absurd cc

-- one word behind a front
pub bad_at : (words front : List (List ℕ)) (word : List ℕ) (tail : List (List ℕ)) (place : ℕ) → words ≡ front ++ word ∷ tail → place ≡ length front
    → Begin front → (Begin (front ++ word ∷ []) → ⊥) → IsBadWord words place
bad_at words front word tail place split here begin none = record {
  before = subst Begin (sym first) begin;
  at = inl (omega (arith, here, ap length split, length-append front (word ∷ tail)), λ b. none (subst Begin second b));
}
  where
    first : take place words ≡ front
    first = ap (λ (k : ℕ). take k words) here ∙ ap (take (length front)) split ∙ take-append_seam front (word ∷ tail)

    size : place + 1 ≡ length (front ++ word ∷ [])
    size = omega (arith, here, length-append front (word ∷ []))

    second : take (place + 1) words ≡ front ++ word ∷ []
    second =
        ap (λ (k : ℕ). take k words) size ∙ ap (take (length (front ++ word ∷ []))) (split ∙ sym (append_assoc front (word ∷ []) tail))
        ∙ take-append_seam (front ++ word ∷ []) tail

-- all words are a front
pub bad_end : (words front : List (List ℕ)) (place : ℕ) → words ≡ front ++ [] → place ≡ length front → Begin front → (AreWords front → ⊥)
    → IsBadWord words place
bad_end words front place split here begin none = record {
  before = subst Begin (sym first) begin;
  at = inr (here ∙ ap length (sym same), λ w. none (subst AreWords same w));
}
  where
    same : words ≡ front
    same = split ∙ append-nil front

    first : take place words ≡ front
    first = ap (λ (k : ℕ). take k words) here ∙ ap (take (length front)) split ∙ take-append_seam front []

-- a name, and a value that none has: what stands behind the name is a value of one that fits
pub bad_value : {A : Type 0} (Fits : A → Type 0) (name value : A → List ℕ) (words ahead : List (List ℕ)) (place : ℕ)
    → words ≡ ahead ++ drop place words → place ≡ length ahead
    → (bad : IsBadValue Fits name value (drop place words)) → Begin (ahead ++ name bad.item ∷ [])
    → ((more : List (List ℕ)) → AreWords (ahead ++ name bad.item ∷ more) → (a : A) × (rest : List (List ℕ)) × Fits a × (name a ≡ name bad.item)
    × (more ≡ value a ∷ rest))
    → IsBadWord words (place + 1)
bad_value Fits name value words ahead place at here bad begin valued = by bad.tail refl
  where
    named : List (List ℕ)
    named = ahead ++ name bad.item ∷ []

    split : words ≡ named ++ bad.tail
    split = at ∙ ap (λ (l : List (List ℕ)). ahead ++ l) bad.split ∙ sym (append_assoc ahead (name bad.item ∷ []) bad.tail)

    there : place + 1 ≡ length named
    there = omega (arith, here, length-append ahead (name bad.item ∷ []))

    assoc : (word : List ℕ) (more : List (List ℕ)) → (named ++ word ∷ []) ++ more ≡ ahead ++ name bad.item ∷ word ∷ more
    assoc word more = append_assoc named (word ∷ []) more ∙ append_assoc ahead (name bad.item ∷ []) (word ∷ more)

    by : (tail : List (List ℕ)) → bad.tail ≡ tail → IsBadWord words (place + 1)
    by [] e = bad_end words named (place + 1) (split ∙ ap (λ (l : List (List ℕ)). named ++ l) e) there begin (λ w. no_words (sym (valued [] w).4))
    by (word ∷ tail) e =
        bad_at words named word tail (place + 1) (split ∙ ap (λ (l : List (List ℕ)). named ++ l) e) there begin (
        λ b.
        let v = valued (word ∷ b.more) (subst AreWords (assoc word b.more) b.whole) in
        bad.none word tail e v.0 v.2 v.3 (head_is v.4)
        )

-- a text has no bad word
pub never_bad : (words : List (List ℕ)) (place : ℕ) → IsBadWord words place → AreWords words → ⊥
never_bad words place bad whole =
    ⊎_elim (λ in_. in_.1 (record { more = drop (place + 1) words; whole = subst AreWords (sym (take-append-drop (place + 1) words)) whole }))
    (λ end. end.1 whole) bad.at

none_rising : IsStrictlySortedBy (slice_cmp nat_cmp) []
unfolding IsStrictlySortedBy
none_rising = tt

pub no_actions : AreActions []
no_actions = record { rising = record { each = tt; rising = none_rising }; octets = tt }

abbrev second_of : List ℕ → ℕ
second_of word = slice_index word 1

pub one_family : (f family : Family) → family_word family ≡ family_word f → f ≡ family
one_family V4 V4 e = refl
one_family V4 V6 e = let same : 54 ≡ 52 = ap second_of e in absurd (omega (arith, same))
one_family V6 V4 e = let same : 52 ≡ 54 = ap second_of e in absurd (omega (arith, same))
one_family V6 V6 e = refl

normal_more : (family : Family) (last : ℕ) (parts : List Part) (part : Part) → AreNormal family last parts
    → FitsBehind family (last_kind last parts) part → AreNormal family last (parts ++ part ∷ [])
normal_more family last [] part is fits = (fits.0, fits.1, tt)
normal_more family last (p ∷ parts) part is fits = (is.0, is.1, normal_more family p.kind parts part is.2 fits)

last_more : (last : ℕ) (parts : List Part) (part : Part) → last_kind last (parts ++ part ∷ []) ≡ part.kind
last_more last [] part = refl
last_more last (p ∷ parts) part = last_more p.kind parts part

words_more : (parts : List Part) (part : Part) → component_words (parts ++ part ∷ []) ≡ component_words parts ++ part_name part ∷ value_text part ∷ []
words_more [] part = refl
words_more (p ∷ parts) part = ap (λ (l : List (List ℕ)). component_name p.kind ∷ value_text p ∷ l) (words_more parts part)

front_more : (family : Family) (parts : List Part) (part : Part) (tail : List (List ℕ))
    → front family (parts ++ part ∷ []) ++ tail ≡ front family parts ++ part_name part ∷ value_text part ∷ tail
front_more family parts part tail =
    ap (λ (l : List (List ℕ)). family_word family ∷ (l ++ tail)) (words_more parts part)
    ∙ ap (λ (l : List (List ℕ)). family_word family ∷ l) (append_assoc (component_words parts) (part_name part ∷ value_text part ∷ []) tail)

-- a word that goes on is the name of a component, or the word behind them
abbrev Named : Family → ℕ → List ℕ → List (List ℕ) → List Part → Type 0
Named family last word more others =
    (part : Part) × (ps : List Part) × (others ≡ part ∷ ps) × FitsBehind family last part × (word ≡ part_name part) × AreNormal family part.kind ps

next_named : (family : Family) (last : ℕ) (word : List ℕ) (more : List (List ℕ)) (others : List Part) (said : List (List ℕ)) → AreNormal family last others
    → (word ≡ codes "then" → ⊥) → word ∷ more ≡ component_words others ++ then_words said → Named family last word more others
next_named family last word more [] [] normal not_then is = no_words is
next_named family last word more [] (a ∷ said) normal not_then is = absurd (not_then (head_is is))
next_named family last word more (p ∷ ps) said normal not_then is = (p, ps, refl, (normal.0, normal.1), head_is is, normal.2)

pub led_next : (words : List (List ℕ)) (family : Family) (parts : List Part) (last place : ℕ) (part : Part) (tail : List (List ℕ))
    → Led words family parts last place → IsNext (FitsBehind family last) part_name value_text (drop place words) tail part
    → tail ≡ drop (place + 2) words → IsNoEnd (drop place words) → Led words family (parts ++ part ∷ []) part.kind (place + 2)
led_next words family parts last place part tail led next tail_is_ no_end = record {
  split =
      led.split ∙ ap (λ (l : List (List ℕ)). front family parts ++ l) (next.split ∙ ap (λ (l : List (List ℕ)). part_name part ∷ value_text part ∷ l) tail_is_)
      ∙ sym (front_more family parts part (drop (place + 2) words));
  here = omega (arith, led.here, ap length (words_more parts part), length-append (component_words parts) (part_name part ∷ value_text part ∷ []));
  normal = normal_more family 0 parts part led.normal (subst (λ (k : ℕ). FitsBehind family k part) led.last_is next.fits);
  last_is = sym (last_more 0 parts part);
  goes = goes;
}
  where
    not_then : part_name part ≡ codes "then" → ⊥
    not_then e = no_end.1 (value_text part ∷ tail) (next.split ∙ ap (λ (l : List ℕ). l ∷ value_text part ∷ tail) e)

    by : (more : List (List ℕ)) (f : Family) (ps : List Part) (said : List (List ℕ)) → f ≡ family → (others : List Part) → ps ≡ parts ++ others
        → AreNormal family (last_kind 0 parts) others → part_name part ∷ value_text part ∷ more ≡ component_words others ++ then_words said
        → Continues family (parts ++ part ∷ []) more f ps said
    by more f ps [] same [] split normal behind = no_words behind
    by more f ps (a ∷ said) same [] split normal behind = absurd (not_then (head_is behind))
    by more f ps said same (q ∷ qs) split normal behind =
        let fits : FitsBehind family last q = (subst (λ (k : ℕ). k < q.kind) (sym led.last_is) normal.0, normal.1) in
        let one : q ≡ part = next.only q fits (sym (head_is behind)) (sym (head_is (tail_is behind))) in
        record {
          same = same;
          others = qs;
          split = split ∙ ap (λ (p : Part). parts ++ p ∷ qs) one ∙ sym (append_assoc parts (part ∷ []) qs);
          normal = subst (λ (k : ℕ). AreNormal family k qs) (ap (λ (p : Part). p.kind) one ∙ sym (last_more 0 parts part)) normal.2;
          behind = tail_is (tail_is behind);
        }

    goes : Goes family (parts ++ part ∷ [])
    goes more f ps said normal is =
        let c : Continues family parts (part_name part ∷ value_text part ∷ more) f ps said =
        led.goes (part_name part ∷ value_text part ∷ more) f ps said normal (sym (front_more family parts part more) ∙ is) in
        by more f ps said c.same c.others c.split c.normal c.behind

begin_parts : (family : Family) (parts : List Part) → AreNormal family 0 parts → Begin (front family parts)
begin_parts family parts normal = record {
  more = [];
  whole = record { family = family; parts = parts; actions = []; normal = normal; actions_are = no_actions; words_are = refl };
}

-- a name that none has
pub bad_part_name : (words : List (List ℕ)) (family : Family) (parts : List Part) (last place : ℕ) → Led words family parts last place
    → IsBadName (FitsBehind family last) part_name (drop place words) → IsNoEnd (drop place words) → IsBadWord words place
bad_part_name words family parts last place led bad no_end =
    bad_at words (front family parts) bad.word bad.tail place (led.split ∙ ap (λ (l : List (List ℕ)). front family parts ++ l) bad.split) led.here
    (begin_parts family parts led.normal) none
  where
    not_then : bad.word ≡ codes "then" → ⊥
    not_then e = no_end.1 bad.tail (bad.split ∙ ap (λ (l : List ℕ). l ∷ bad.tail) e)

    none : Begin (front family parts ++ bad.word ∷ []) → ⊥
    none b =
        let c : Continues family parts (bad.word ∷ b.more) b.whole.family b.whole.parts b.whole.actions =
        led.goes (bad.word ∷ b.more) b.whole.family b.whole.parts b.whole.actions b.whole.normal
        (sym (append_assoc (front family parts) (bad.word ∷ []) b.more) ∙ b.whole.words_are) in
        let n : Named family (last_kind 0 parts) bad.word b.more c.others =
        next_named family (last_kind 0 parts) bad.word b.more c.others b.whole.actions c.normal not_then c.behind in
        bad.none n.0 (subst (λ (k : ℕ). FitsBehind family k n.0) (sym led.last_is) n.3) (sym n.4)

begin_named : (family : Family) (parts : List Part) (part : Part) → AreNormal family 0 parts → FitsBehind family (last_kind 0 parts) part
    → Begin (front family parts ++ part_name part ∷ [])
begin_named family parts part normal fits = record {
  more = value_text part ∷ [];
  whole = record {
    family = family;
    parts = parts ++ part ∷ [];
    actions = [];
    normal = normal_more family 0 parts part normal fits;
    actions_are = no_actions;
    words_are =
        append_assoc (front family parts) (part_name part ∷ []) (value_text part ∷ []) ∙ sym (front_more family parts part []);
  };
}

-- a name, and a value that none has
pub bad_part_value : (words : List (List ℕ)) (family : Family) (parts : List Part) (last place : ℕ) → Led words family parts last place
    → IsBadValue (FitsBehind family last) part_name value_text (drop place words) → IsNoEnd (drop place words) → IsBadWord words (place + 1)
bad_part_value words family parts last place led bad no_end =
    bad_value (FitsBehind family last) part_name value_text words (front family parts) place led.split led.here bad
    (begin_named family parts bad.item led.normal (subst (λ (k : ℕ). FitsBehind family k bad.item) led.last_is bad.fits)) valued
  where
    not_then : part_name bad.item ≡ codes "then" → ⊥
    not_then e = no_end.1 bad.tail (bad.split ∙ ap (λ (l : List ℕ). l ∷ bad.tail) e)

    -- the words behind the name are a value of a component that has it
    valued : (more : List (List ℕ)) (w : AreWords (front family parts ++ part_name bad.item ∷ more))
        → (part : Part) × (rest : List (List ℕ)) × FitsBehind family last part × (part_name part ≡ part_name bad.item) × (more ≡ value_text part ∷ rest)
    valued more w =
        let c : Continues family parts (part_name bad.item ∷ more) w.family w.parts w.actions =
        led.goes (part_name bad.item ∷ more) w.family w.parts w.actions w.normal w.words_are in
        let n : Named family (last_kind 0 parts) (part_name bad.item) more c.others =
        next_named family (last_kind 0 parts) (part_name bad.item) more c.others w.actions c.normal not_then c.behind in (
          n.0,
          component_words n.1 ++ then_words w.actions,
          subst (λ (k : ℕ). FitsBehind family k n.0) (sym led.last_is) n.3,
          sym n.4,
          tail_is (c.behind ∙ ap (λ (l : List Part). component_words l ++ then_words w.actions) n.2),
        )

-- where nothing stands behind the components, they are all
pub whole_parts : (words : List (List ℕ)) (family : Family) (parts : List Part) (last place : ℕ) → Led words family parts last place → drop place words ≡ []
    → IsWhole words family parts []
whole_parts words family parts last place led none = record {
  normal = led.normal;
  actions_are = no_actions;
  words_are = led.split ∙ ap (λ (l : List (List ℕ)). front family parts ++ l) none;
  only = λ f ps said normal are is.
      let c : Continues family parts [] f ps said =
      led.goes [] f ps said normal (sym (led.split ∙ ap (λ (l : List (List ℕ)). front family parts ++ l) none) ∙ is) in
      let e = nothing c.others said (sym c.behind) in
      (c.same, c.split ∙ ap (λ (l : List Part). parts ++ l) e.0 ∙ append-nil parts, e.1);
}
  where
    nothing : (others : List Part) (said : List (List ℕ)) → component_words others ++ then_words said ≡ [] → (others ≡ []) × (said ≡ [])
    nothing [] [] e = (refl, refl)
    nothing [] (a ∷ said) e = no_words e
    nothing (p ∷ others) said e = no_words e

-- the first word
begin_none : Begin []
begin_none = record {
  more = family_word V4 ∷ [];
  whole = record { family = V4; parts = []; actions = []; normal = tt; actions_are = no_actions; words_are = refl };
}

pub bad_family : (words : List (List ℕ)) (word : List ℕ) (tail : List (List ℕ)) → words ≡ word ∷ tail
    → ((family : Family) → family_word family ≡ word → ⊥) → IsBadWord words 0
bad_family words word tail split none =
    bad_at words [] word tail 0 split refl begin_none (λ b. none b.whole.family (sym (head_is b.whole.words_are)))

pub no_family : (words : List (List ℕ)) → words ≡ [] → IsBadWord words 0
no_family words split = bad_end words [] 0 split refl begin_none (λ w. no_words (sym w.words_are))

-- a word among the texts of words
pub word_in : {X : Type 0} (f : X → List ℕ) (words : List X) (place : ℕ) (d : X) → place < length words
    → drop place (map f words) ≡ f (get_or words place d) ∷ drop (place + 1) (map f words)
word_in f [] place d h = absurd (omega (arith, h))
word_in f (x ∷ words) zero d h = refl
word_in f (x ∷ words) (suc place) d h =
    word_in f words place d (omega (arith, h))
    ∙ ap (λ (k : ℕ). f (get_or words place d) ∷ drop k (f x ∷ map f words)) {x = suc (place + 1)} {y = suc place + 1} (omega arith)
