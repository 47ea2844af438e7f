-- The words of a text up to its actions and among them, and what goes on from there.
use Rattle.std.proofs.Common.{append-nil}
use Rattle.fs_text.proofs.Words.{append_assoc, ◌≡◌, ℕ, ◌+◌, ◌==◌, false, List, [], ◌∷◌, ◌++◌, drop, length, length-append, Some, None, refl, sym, ap}
use Rattle.fs_text.proofs.Words.{subst, ◌∙◌, arith, codes, bytes_eq, last_or, IsStrictlySortedBy, slice_cmp, nat_cmp, Family, IsOctets, each_append}
use Rattle.fs_text.proofs.Words.{each_at, Part, AreNormal, IsAction, IsAbove, action_name, action_text, component_name, action_words, component_words}
use Rattle.fs_text.proofs.Words.{then_words, AreActions, AreWords, Begin, IsBadWord, IsWhole, Acts, Continues, Led, Rests, RestsOf, ahead, front}
use Rattle.fs_text.proofs.Words.{FitsAbove, IsBadName, IsBadValue, IsNext}
use Rattle.fs_text.proofs.{Greatest.{octets_eight}, Pairs.{chosen}}
use Rattle.fs_text.proofs.Led.{bad_at, bad_end, bad_value, head_is, no_actions, no_words, tail_is}
use Rattle.fs_actions.proofs.Behind.{actions_more}

above_last : (x : List ℕ) (xs : List (List ℕ)) (a : List ℕ) (rest : List (List ℕ)) → IsStrictlySortedBy (slice_cmp nat_cmp) (x ∷ (xs ++ a ∷ rest))
    → IsAbove (last_or (Some x) xs) a
unfolding IsStrictlySortedBy
above_last x [] a rest s = s.0.0
above_last x (y ∷ ys) a rest s = above_last y ys a rest s.1

-- the first action behind others is above the last of them
above : (xs : List (List ℕ)) (a : List ℕ) (rest : List (List ℕ)) → IsStrictlySortedBy (slice_cmp nat_cmp) (xs ++ a ∷ rest) → IsAbove (last_or None xs) a
above [] a rest s = tt
above (x ∷ xs) a rest s = above_last x xs a rest s

are_more : (xs : List (List ℕ)) (a : List ℕ) → AreActions xs → FitsAbove xs a → AreActions (xs ++ a ∷ [])
are_more xs a are fits = record {
  rising = actions_more xs a are.rising fits.normal fits.above;
  octets = each_append IsOctets xs (a ∷ []) are.octets (fits.octets, tt);
}

fits_at : (xs : List (List ℕ)) (a : List ℕ) (rest : List (List ℕ)) → AreActions (xs ++ a ∷ rest) → FitsAbove xs a
fits_at xs a rest are = record {
  normal = each_at IsAction xs a rest are.rising.each;
  octets = each_at IsOctets xs a rest are.octets;
  above = above xs a rest are.rising.rising;
}

abbrev IsOther : List ℕ → Type 0
IsOther word = bytes_eq word (codes "then") ≡ false

-- no component is named so
pub no_then : (kind : ℕ) → component_name kind ≡ codes "then" → ⊥
no_then kind e = absurd (let same : bytes_eq (codes "then") (codes "then") ≡ false = subst IsOther e other in cc)
  where
    other : IsOther (component_name kind)
    other =
        chosen IsOther (kind == 1) _ _ refl (chosen IsOther (kind == 2) _ _ refl (chosen IsOther (kind == 3) _ _ refl (chosen IsOther (kind == 4) _ _ refl
        (chosen IsOther (kind == 5) _ _ refl (chosen IsOther (kind == 6) _ _ refl (chosen IsOther (kind == 7) _ _ refl (chosen IsOther (kind == 8) _ _ refl
        (chosen IsOther (kind == 9) _ _ refl
        (chosen IsOther (kind == 10) _ _ refl (chosen IsOther (kind == 11) _ _ refl (chosen IsOther (kind == 12) _ _ refl refl)))))))))))

ahead_first : (family : Family) (parts : List Part) (tail : List (List ℕ)) → ahead family parts [] ++ tail ≡ front family parts ++ codes "then" ∷ tail
ahead_first family parts tail = append_assoc (front family parts) (codes "then" ∷ []) tail

pub acts_first : (words : List (List ℕ)) (family : Family) (parts : List Part) (last place : ℕ) → Led words family parts last place
    → drop place words ≡ codes "then" ∷ drop (place + 1) words → Acts words family parts [] (place + 1)
acts_first words family parts last place led behind = record {
  split = led.split ∙ ap (λ (l : List (List ℕ)). front family parts ++ l) behind ∙ sym (ahead_first family parts (drop (place + 1) words));
  here = omega (arith, led.here, length-append (front family parts) (codes "then" ∷ []));
  normal = led.normal;
  actions_are = no_actions;
  goes = goes;
}
  where
    goes : RestsOf family parts []
    goes tail f ps said normal are is =
        let c : Continues family parts (codes "then" ∷ tail) f ps said =
        led.goes (codes "then" ∷ tail) f ps said normal (sym (ahead_first family parts tail) ∙ is) in
        by c.same c.others said c.split c.behind
      where
        by : f ≡ family → (others : List Part) (said : List (List ℕ)) → ps ≡ parts ++ others → codes "then" ∷ tail ≡ component_words others ++ then_words said
            → Rests family parts [] tail f ps said
        by same [] [] split behind = no_words behind
        by same [] (a ∷ said) split behind = record {
          same = same;
          all = split ∙ append-nil parts;
          others = a ∷ said;
          split = refl;
          behind = tail_is behind;
          some = λ e. no_words e;
        }
        by same (q ∷ qs) said split behind = absurd (no_then q.kind (sym (head_is behind)))

words_more : (actions : List (List ℕ)) (a : List ℕ) → action_words (actions ++ a ∷ []) ≡ action_words actions ++ action_name a ∷ action_text a ∷ []
words_more [] a = refl
words_more (b ∷ actions) a = ap (λ (l : List (List ℕ)). action_name b ∷ action_text b ∷ l) (words_more actions a)

ahead_more : (family : Family) (parts : List Part) (actions : List (List ℕ)) (a : List ℕ) (tail : List (List ℕ))
    → ahead family parts (actions ++ a ∷ []) ++ tail ≡ ahead family parts actions ++ action_name a ∷ action_text a ∷ tail
ahead_more family parts actions a tail =
    ap (λ (l : List (List ℕ)). (front family parts ++ codes "then" ∷ l) ++ tail) (words_more actions a)
    ∙ append_assoc (front family parts) (codes "then" ∷ (action_words actions ++ action_name a ∷ action_text a ∷ [])) tail
    ∙ ap (λ (l : List (List ℕ)). front family parts ++ codes "then" ∷ l) (append_assoc (action_words actions) (action_name a ∷ action_text a ∷ []) tail)
    ∙ sym (append_assoc (front family parts) (codes "then" ∷ action_words actions) (action_name a ∷ action_text a ∷ tail))

-- a word that goes on is the name of an action
abbrev Named : List (List ℕ) → List ℕ → List (List ℕ) → List (List ℕ) → Type 0
Named actions word more others = (a : List ℕ) × (rest : List (List ℕ)) × (others ≡ a ∷ rest) × FitsAbove actions a × (word ≡ action_name a)
    × (more ≡ action_text a ∷ action_words rest)

next_named : (actions : List (List ℕ)) (word : List ℕ) (more others said : List (List ℕ)) → AreActions said → said ≡ actions ++ others
    → word ∷ more ≡ action_words others
    → Named actions word more others
next_named actions word more [] said are split is = no_words is
next_named actions word more (a ∷ rest) said are split is = (a, rest, refl, fits_at actions a rest (subst AreActions split are), head_is is, tail_is is)

pub acts_next : (words : List (List ℕ)) (family : Family) (parts : List Part) (actions : List (List ℕ)) (place : ℕ) (action : List ℕ) (tail : List (List ℕ))
    → Acts words family parts actions place → IsNext (FitsAbove actions) action_name action_text (drop place words) tail action
    → tail ≡ drop (place + 2) words → Acts words family parts (actions ++ action ∷ []) (place + 2)
acts_next words family parts actions place action tail acts next tail_is_ = record {
  split =
      acts.split ∙ ap (λ (l : List (List ℕ)). ahead family parts actions ++ l) (next.split
      ∙ ap (λ (l : List (List ℕ)). action_name action ∷ action_text action ∷ l) tail_is_)
      ∙ sym (ahead_more family parts actions action (drop (place + 2) words));
  here = size;
  normal = acts.normal;
  actions_are = are_more actions action acts.actions_are next.fits;
  goes = goes;
}
  where
    size : place + 2 ≡ length (ahead family parts (actions ++ action ∷ []))
    size =
        let more : length (ahead family parts (actions ++ action ∷ []) ++ [])
        ≡ length (ahead family parts actions ++ action_name action ∷ action_text action ∷ []) =
        ap length (ahead_more family parts actions action []) in
        omega (
          arith,
          acts.here,
          more,
          length-append (ahead family parts (actions ++ action ∷ [])) [],
          length-append (ahead family parts actions) (action_name action ∷ action_text action ∷ []),
        )

    goes : RestsOf family parts (actions ++ action ∷ [])
    goes more f ps said normal are is =
        let r : Rests family parts actions (action_name action ∷ action_text action ∷ more) f ps said =
        acts.goes (action_name action ∷ action_text action ∷ more) f ps said normal are (sym (ahead_more family parts actions action more) ∙ is) in
        let n : Named actions (action_name action) (action_text action ∷ more) r.others =
        next_named actions (action_name action) (action_text action ∷ more) r.others said are r.split r.behind in
        let one : n.0 ≡ action = next.only n.0 n.3 (sym n.4) (sym (head_is n.5)) in
        record {
          same = r.same;
          all = r.all;
          others = n.1;
          split = r.split ∙ ap (λ (l : List (List ℕ)). actions ++ l) (n.2 ∙ ap (λ (a : List ℕ). a ∷ n.1) one) ∙ sym (append_assoc actions (action ∷ []) n.1);
          behind = tail_is n.5;
          some = r.some;
        }

nothing : (others : List (List ℕ)) → action_words others ≡ [] → others ≡ []
nothing [] e = refl
nothing (a ∷ others) e = no_words e

-- an action that can stand alone
abbrev one_action : List ℕ
one_action = 0x80 ∷ 0x06 ∷ 0 ∷ 0 ∷ 0 ∷ 0 ∷ 0 ∷ 0 ∷ []

one_fits : FitsAbove [] one_action
one_fits = record { normal = record { eight = refl; normal = refl }; octets = octets_of; above = tt }
  where
    octets_of : IsOctets one_action
    octets_of = octets_eight 0x80 0x06 0 0 0 0 0 0 (omega arith) (omega arith) (omega arith) (omega arith) (omega arith) (omega arith) (omega arith)
        (omega arith)

begin_acts : (family : Family) (parts : List Part) (actions : List (List ℕ)) → AreNormal family 0 parts → AreActions actions
    → Begin (ahead family parts actions)
begin_acts family parts [] normal are = record {
  more = action_name one_action ∷ action_text one_action ∷ [];
  whole = record {
    family = family;
    parts = parts;
    actions = one_action ∷ [];
    normal = normal;
    actions_are = are_more [] one_action no_actions one_fits;
    words_are = ahead_first family parts (action_name one_action ∷ action_text one_action ∷ []);
  };
}
begin_acts family parts (a ∷ actions) normal are = record {
  more = [];
  whole = record {
    family = family;
    parts = parts;
    actions = a ∷ actions;
    normal = normal;
    actions_are = are;
    words_are =
        append-nil (ahead family parts (a ∷ actions));
  };
}

then_some : (actions : List (List ℕ)) (a : List ℕ) → then_words (actions ++ a ∷ []) ≡ codes "then" ∷ action_words (actions ++ a ∷ [])
then_some [] a = refl
then_some (b ∷ actions) a = refl

pub bad_action_name : (words : List (List ℕ)) (family : Family) (parts : List Part) (actions : List (List ℕ)) (place : ℕ)
    → Acts words family parts actions place
    → IsBadName (FitsAbove actions) action_name (drop place words) → IsBadWord words place
bad_action_name words family parts actions place acts bad =
    bad_at words (ahead family parts actions) bad.word bad.tail place (acts.split
    ∙ ap (λ (l : List (List ℕ)). ahead family parts actions ++ l) bad.split) acts.here
    (begin_acts family parts actions acts.normal acts.actions_are) (
    λ b.
    let r : Rests family parts actions (bad.word ∷ b.more) b.whole.family b.whole.parts b.whole.actions =
    acts.goes (bad.word ∷ b.more) b.whole.family b.whole.parts b.whole.actions b.whole.normal b.whole.actions_are
    (sym (append_assoc (ahead family parts actions) (bad.word ∷ []) b.more) ∙ b.whole.words_are) in
    let n : Named actions bad.word b.more r.others = next_named actions bad.word b.more r.others b.whole.actions b.whole.actions_are r.split r.behind in
    bad.none n.0 n.3 (sym n.4)
    )

-- nothing stands behind the word that is before actions
pub no_action : (words : List (List ℕ)) (family : Family) (parts : List Part) (place : ℕ) → Acts words family parts [] place → drop place words ≡ []
    → IsBadWord words place
no_action words family parts place acts none =
    bad_end words (ahead family parts []) place (acts.split ∙ ap (λ (l : List (List ℕ)). ahead family parts [] ++ l) none) acts.here
    (begin_acts family parts [] acts.normal no_actions) (
    λ w.
    let r : Rests family parts [] [] w.family w.parts w.actions =
    acts.goes [] w.family w.parts w.actions w.normal w.actions_are (append-nil (ahead family parts []) ∙ w.words_are) in
    r.some (r.split ∙ nothing r.others (sym r.behind))
    )

begin_named : (family : Family) (parts : List Part) (actions : List (List ℕ)) (a : List ℕ) → AreNormal family 0 parts → AreActions actions → FitsAbove actions a
    → Begin (ahead family parts actions ++ action_name a ∷ [])
begin_named family parts actions a normal are fits = record {
  more = action_text a ∷ [];
  whole = record {
    family = family;
    parts = parts;
    actions = actions ++ a ∷ [];
    normal = normal;
    actions_are = are_more actions a are fits;
    words_are =
        append_assoc (ahead family parts actions) (action_name a ∷ []) (action_text a ∷ [])
        ∙ sym (ahead_more family parts actions a []) ∙ append-nil (ahead family parts (actions ++ a ∷ []))
        ∙ ap (λ (l : List (List ℕ)). front family parts ++ l) (sym (then_some actions a));
  };
}

pub bad_action_value : (words : List (List ℕ)) (family : Family) (parts : List Part) (actions : List (List ℕ)) (place : ℕ)
    → Acts words family parts actions place
    → IsBadValue (FitsAbove actions) action_name action_text (drop place words) → IsBadWord words (place + 1)
bad_action_value words family parts actions place acts bad =
    bad_value (FitsAbove actions) action_name action_text words (ahead family parts actions) place acts.split acts.here bad
    (begin_named family parts actions bad.item acts.normal acts.actions_are bad.fits) valued
  where
    valued : (more : List (List ℕ)) (w : AreWords (ahead family parts actions ++ action_name bad.item ∷ more))
        → (a : List ℕ) × (rest : List (List ℕ)) × FitsAbove actions a × (action_name a ≡ action_name bad.item) × (more ≡ action_text a ∷ rest)
    valued more w =
        let r : Rests family parts actions (action_name bad.item ∷ more) w.family w.parts w.actions =
        acts.goes (action_name bad.item ∷ more) w.family w.parts w.actions w.normal w.actions_are w.words_are in
        let n : Named actions (action_name bad.item) more r.others =
        next_named actions (action_name bad.item) more r.others w.actions w.actions_are r.split r.behind in
        (n.0, action_words n.1, n.3, sym n.4, n.5)

-- where nothing stands behind the actions, they are all
pub whole_actions : (words : List (List ℕ)) (family : Family) (parts : List Part) (actions : List (List ℕ)) (a : List ℕ) (place : ℕ)
    → Acts words family parts (actions ++ a ∷ []) place → drop place words ≡ [] → IsWhole words family parts (actions ++ a ∷ [])
whole_actions words family parts actions a place acts none = record {
  normal = acts.normal;
  actions_are = acts.actions_are;
  words_are = same ∙ ap (λ (l : List (List ℕ)). front family parts ++ l) (sym (then_some actions a));
  only = λ f ps said normal are is.
      let r : Rests family parts (actions ++ a ∷ []) [] f ps said =
      acts.goes [] f ps said normal are (append-nil (ahead family parts (actions ++ a ∷ [])) ∙ sym same ∙ is) in
      (r.same, r.all, r.split ∙ ap (λ (l : List (List ℕ)). (actions ++ a ∷ []) ++ l) (nothing r.others (sym r.behind)) ∙ append-nil (actions ++ a ∷ []));
}
  where
    same : words ≡ ahead family parts (actions ++ a ∷ [])
    same =
        acts.split ∙ ap (λ (l : List (List ℕ)). ahead family parts (actions ++ a ∷ []) ++ l) none ∙ append-nil (ahead family parts (actions ++ a ∷ []))
