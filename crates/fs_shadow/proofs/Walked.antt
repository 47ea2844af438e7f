-- A rule of which an earlier one takes all packets is walked by none.
use Rattle.fs_shadow.proofs.Words.{◌≡◌, ◌≢◌, ℕ, zero, suc, ◌+◌, ◌<◌, Bool, true, false, not, Option, Some, None, List, [], ◌∷◌, ◌++◌, if◌then◌else◌}
use Rattle.fs_shadow.proofs.Words.{length, refl, sym, ap, subst, ◌∙◌, inl, inr, arith, append_assoc, AllByRecursion, slice_get, and_parts, cases_Bool}
use Rattle.fs_shadow.proofs.Words.{not-true, true≢false, none-some, same_Some, Viewed, is_match, IsSmall, Listed, covered_by, first_taking}
use Rattle.fs_shadow.proofs.Words.{report_behind, takes_all, ConfirmedNeverWalks, CoveredNeverWalks, NeverWalks}
use Rattle.fs_shadow.proofs.Matched.{contained_matches}
use Rattle.fs_shadow.specs.Contains.{contains}
use Rattle.fs_base.proofs.Lists.{each_append}
use Rattle.fs_rules.specs.Walk.{goes_on, walk_from, walk_of}

abbrev Entry : Type 0
Entry = ℕ × List (List ℕ)

-- no entry has this number
abbrev Without : ℕ → List Entry → Type 0
Without number entries = AllByRecursion (λ entry. entry.0 ≢ number) entries

-- one rule more at the front of a walk
step : (number : ℕ) (met on : Bool) (entry : Entry) (rest : List Entry) → (met ≡ true → entry.0 ≢ number) → (met ≡ true → on ≡ true → Without number rest)
    → (met ≡ false → Without number rest) → Without number (if met then entry ∷ (if on then rest else []) else rest)
step number true true entry rest first behind other = (first refl, behind refl refl)
step number true false entry rest first behind other = (first refl, tt)
step number false on entry rest first behind other = other refl

module _ (view : Viewed) where
  -- the numbers rise
  above : (rules : List Listed) (number place : ℕ) → number < place → Without number (walk_from place view rules)
  above [] number place less = tt
  above (rule ∷ rules) number place less =
      let rest : Without number (walk_from (place + 1) view rules) = above rules number (place + 1) (omega (arith, less)) in
      step number (is_match rule.rule view) (goes_on rule.actions) (place, rule.actions) (walk_from (place + 1) view rules)
      (λ h e. omega (arith, less, e)) (λ h g. rest) (λ h. rest)

  numbered : (rules : List Listed) (place k : ℕ) → Without (place + 1 + k) (walk_from (place + 1) view rules)
      → Without (place + suc k) (walk_from (place + 1) view rules)
  numbered rules place k = subst (λ n. Without n (walk_from (place + 1) view rules)) (let e : place + 1 + k ≡ place + suc k = omega arith in e)

  -- a rule that doesn't match isn't walked
  unmatched : (rules : List Listed) (place k : ℕ) (later : Listed) → slice_get rules k ≡ Some later → is_match later.rule view ≡ false
      → Without (place + k) (walk_from place view rules)
  unmatched [] place k later at none = tt
  unmatched (rule ∷ rules) place zero later at none =
      let rest : Without (place + 0) (walk_from (place + 1) view rules) = above rules (place + 0) (place + 1) (omega arith) in
      step (place + 0) (is_match rule.rule view) (goes_on rule.actions) (place, rule.actions) (walk_from (place + 1) view rules)
      (λ h. absurd (true≢false (sym h ∙ ap (λ (r : Listed). is_match r.rule view) (same_Some rule later at) ∙ none))) (λ h g. rest) (λ h. rest)
  unmatched (rule ∷ rules) place (suc k) later at none =
      let rest : Without (place + suc k) (walk_from (place + 1) view rules) = numbered rules place k (unmatched rules (place + 1) k later at none) in
      step (place + suc k) (is_match rule.rule view) (goes_on rule.actions) (place, rule.actions) (walk_from (place + 1) view rules)
      (λ h e. omega (arith, e)) (λ h g. rest) (λ h. rest)

  missed : (earlier later : Listed) → (is_match later.rule view ≡ true → is_match earlier.rule view ≡ true) → is_match earlier.rule view ≡ false
      → is_match later.rule view ≡ false
  missed earlier later all h = elim (cases_Bool (is_match later.rule view)) [ inl met ↦ absurd (true≢false (sym (all met) ∙ h)) | inr none ↦ none ]

  -- nor is one of which an earlier rule, which ends the walk, matches all packets
  ended : (rules : List Listed) (place j k : ℕ) (earlier later : Listed) → j < k → slice_get rules j ≡ Some earlier → slice_get rules k ≡ Some later
      → goes_on earlier.actions ≡ false → (is_match later.rule view ≡ true → is_match earlier.rule view ≡ true)
      → Without (place + k) (walk_from place view rules)
  ended [] place j k earlier later less at_j at_k ends all = tt
  ended (rule ∷ rules) place j zero earlier later less at_j at_k ends all = absurd (omega (arith, less))
  ended (rule ∷ rules) place zero (suc k) earlier later less at_j at_k ends all =
      let same : rule ≡ earlier = same_Some rule earlier at_j in
      step (place + suc k) (is_match rule.rule view) (goes_on rule.actions) (place, rule.actions) (walk_from (place + 1) view rules)
      (λ h e. omega (arith, e)) (λ h g. absurd (true≢false (sym g ∙ ap (λ (r : Listed). goes_on r.actions) same ∙ ends)))
      (λ h. numbered rules place k (unmatched rules (place + 1) k later at_k
      (missed earlier later all (sym (ap (λ (r : Listed). is_match r.rule view) same) ∙ h))))
  ended (rule ∷ rules) place (suc j) (suc k) earlier later less at_j at_k ends all =
      let rest : Without (place + suc k) (walk_from (place + 1) view rules) =
      numbered rules place k (ended rules (place + 1) j k earlier later (omega (arith, less)) at_j at_k ends all) in
      step (place + suc k) (is_match rule.rule view) (goes_on rule.actions) (place, rule.actions) (walk_from (place + 1) view rules)
      (λ h e. omega (arith, e)) (λ h g. rest) (λ h. rest)

pub confirmed_never_walks : ConfirmedNeverWalks
confirmed_never_walks rules view j k earlier later small less at_j at_k ends holds =
    subst (λ n. Without n (walk_of view rules)) (let e : 1 + k ≡ k + 1 = omega arith in e)
    (ended view rules 1 j k earlier later less at_j at_k ends (contained_matches earlier.rule later.rule view small holds))

-- the first rule that takes all packets of another is one of these
record Takes (place : ℕ) (rules : List Listed) (later : Listed) (found : ℕ) : Type 0 where
  j : ℕ
  is : found ≡ place + j
  within : j < length rules
  earlier : Listed
  at : slice_get rules j ≡ Some earlier
  takes : takes_all earlier later ≡ true

behind : (place : ℕ) (rule : Listed) (rules : List Listed) (later : Listed) (found : ℕ) → Takes (place + 1) rules later found
    → Takes place (rule ∷ rules) later found
behind place rule rules later found t = record {
  j = suc t.j;
  is = t.is ∙ (let e : place + 1 + t.j ≡ place + suc t.j = omega arith in e);
  within = (let l : t.j < length rules = t.within in omega (arith, l));
  earlier = t.earlier;
  at = t.at;
  takes = t.takes;
}

taken : (place : ℕ) (rules : List Listed) (later : Listed) (found : ℕ) → first_taking place rules later ≡ Some found → Takes place rules later found
taken place [] later found e = absurd (none-some found e)
taken place (rule ∷ rules) later found e = by (taken (place + 1) rules later found) (takes_all rule later) refl e where
  by : (first_taking (place + 1) rules later ≡ Some found → Takes (place + 1) rules later found) → (b : Bool) → takes_all rule later ≡ b
      → (if b then Some place else first_taking (place + 1) rules later) ≡ Some found → Takes place (rule ∷ rules) later found
  by rest true h f = record {
    j = 0;
    is = sym (same_Some place found f) ∙ (let e : place ≡ place + 0 = omega arith in e);
    within = omega arith;
    earlier = rule;
    at = refl;
    takes = h;
  }
  by rest false h f = behind place rule rules later found (rest f)

at_front : (front rest : List Listed) (j : ℕ) (rule : Listed) → slice_get front j ≡ Some rule → slice_get (front ++ rest) j ≡ Some rule
at_front [] rest j rule e = absurd (none-some rule e)
at_front (r ∷ front) rest zero rule e = e
at_front (r ∷ front) rest (suc j) rule e = at_front front rest j rule e

at_next : (front rest : List Listed) (rule : Listed) → slice_get (front ++ rule ∷ rest) (length front) ≡ Some rule
at_next [] rest rule = refl
at_next (r ∷ front) rest rule = at_next front rest rule

module _ (view : Viewed) (small : IsSmall view) (all : List Listed) where
  abbrev Never : ℕ × ℕ → Type 0
  Never pair = NeverWalks all view pair.0

  each : (front rules : List Listed) → front ++ rules ≡ all → AllByRecursion Never (report_behind front rules)
  each front [] whole = tt
  each front (rule ∷ rules) whole =
      each_append Never (covered_by (length front) (first_taking 0 front rule)) (report_behind (front ++ rule ∷ []) rules)
      (first (first_taking 0 front rule) refl)
      (each (front ++ rule ∷ []) rules (append_assoc front (rule ∷ []) rules ∙ whole)) where
        first : (o : Option ℕ) → first_taking 0 front rule ≡ o → AllByRecursion Never (covered_by (length front) o)
        first None e = tt
        first (Some found) e =
            let t = taken 0 front rule found e in
            let both = and_parts (not (goes_on t.earlier.actions)) (contains t.earlier.rule rule.rule) t.takes in (
              confirmed_never_walks all view t.j (length front) t.earlier rule small t.within
                  (subst (λ (rs : List Listed). slice_get rs t.j ≡ Some t.earlier) whole (at_front front (rule ∷ rules) t.j t.earlier t.at))
                  (subst (λ (rs : List Listed). slice_get rs (length front) ≡ Some rule) whole (at_next front rules rule))
                  (not-true (goes_on t.earlier.actions) both.0) both.1,
              tt,
            )

pub covered_never_walks : CoveredNeverWalks
covered_never_walks rules view small = each view small rules [] rules refl
