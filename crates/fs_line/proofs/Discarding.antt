-- What is printed of actions that discard and say no more.
use Rattle.fs_line.proofs.Words.{◌≡◌, ℕ, ◌==◌, Bool, true, false, List, [], ◌∷◌, ◌++◌, length, get_or, Option, Some, None, refl, sym, ◌∙◌, ap, subst}
use Rattle.fs_line.proofs.Words.{arith, append-nil, append_assoc, IsTrue, not, true≢false, ◌<◌, ◌||◌, codes, decimal, if◌then◌else◌, AllByRecursion}
use Rattle.fs_line.proofs.Words.{list_any, option_map_or, common_steps, first_of, has_flag, is_discard, limit_of, mark_of, redirect_of, Walked}
use Rattle.fs_line.proofs.Words.{SaysDiscard, discarded_line, effects_text, line_of, mark_text, rates_text, redirect_text, sample_text, verdict_text}
use Rattle.fs_line.proofs.Words.{entries}
use Rattle.fs_line.proofs.Walks.{rates_text-append, rates_text-none}

abbrev pub AllDiscard : List (List ℕ) → Type 0
AllDiscard actions = AllByRecursion (λ action. is_discard action ≡ true) actions

no_mark : (action : List ℕ) → is_discard action ≡ true → mark_of action ≡ None
no_mark action is = grind (arith, common_steps)

no_redirect : (action : List ℕ) → is_discard action ≡ true → redirect_of action ≡ None
no_redirect action is = grind (arith, common_steps)

no_sample : (action : List ℕ) → is_discard action ≡ true → has_flag 2 action ≡ false
no_sample action is = grind (arith, common_steps)

no_limit : (action : List ℕ) → is_discard action ≡ true → limit_of action ≡ None
no_limit action is = grind (arith, common_steps)

first_none : {A : Type 0} (meaning : List ℕ → Option A) → ((action : List ℕ) → is_discard action ≡ true → meaning action ≡ None)
    → (actions : List (List ℕ)) → AllDiscard actions → first_of meaning actions ≡ None
first_none meaning none [] all = refl
first_none {A} meaning none (action ∷ actions) all =
    ap (λ (o : Option A). elim o [ Some s ↦ Some s | None ↦ first_of meaning actions ]) (none action all.0) ∙ first_none meaning none actions all.1

samples_none : (actions : List (List ℕ)) → AllDiscard actions → list_any (has_flag 2) actions ≡ false
samples_none [] all = refl
samples_none (action ∷ actions) all = let head = no_sample action all.0 in let rest = samples_none actions all.1 in grind (arith, common_steps)

rates_none : (actions : List (List ℕ)) → AllDiscard actions → rates_text actions ≡ []
rates_none [] all = refl
rates_none (action ∷ actions) all =
    rates_text-append (action ∷ []) actions
    ∙ ap (λ (front : List ℕ). front ++ rates_text actions) (sym (rates_text-none action (no_limit action all.0))) ∙ rates_none actions all.1

silent : (actions : List (List ℕ)) → AllDiscard actions → effects_text actions ≡ []
silent actions all =
    ap (λ (o : Option ℕ). option_map_or mark_text o []
    ++ (option_map_or redirect_text (first_of redirect_of actions) [] ++ (sample_text actions ++ rates_text actions)))
    (first_none mark_of no_mark actions all)
    ∙ ap (λ o. option_map_or redirect_text o [] ++ (sample_text actions ++ rates_text actions)) (first_none redirect_of no_redirect actions all)
    ∙ ap (λ (b : Bool). (if b then codes " sample" else []) ++ rates_text actions) (samples_none actions all) ∙ rates_none actions all

pub joined : (o a w b e : List ℕ) → (((o ++ a) ++ w) ++ b) ++ e ≡ o ++ (a ++ (w ++ (b ++ e)))
joined o a w b e = append_assoc ((o ++ a) ++ w) b e ∙ append_assoc (o ++ a) w (b ++ e) ∙ append_assoc o a (w ++ (b ++ e))

-- some actions, each of which discards
pub says_discard : (actions : List (List ℕ)) → AllDiscard actions → 0 < length actions → SaysDiscard actions
says_discard [] all some = let never : ⊥ = omega (arith, some) in absurd never
says_discard (action ∷ actions) all some = record {
  discards = ap (λ (b : Bool). b || list_any is_discard actions) all.0;
  silent = silent (action ∷ actions) all;
}

-- one rule walked, which discards
pub one_discards : (number : ℕ) (walked : List Walked) (rule : Walked) → length walked ≡ 1 → rule ≡ get_or walked 0 rule → SaysDiscard rule.actions.now
    → discarded_line number rule.number ≡ line_of number (entries walked)
one_discards number [] rule one is says = let never : ⊥ = omega (arith, one) in absurd never
one_discards number (first ∷ second ∷ walked) rule one is says = let never : ⊥ = omega (arith, one) in absurd never
one_discards number (first ∷ []) rule one is says =
    subst (λ (w : Walked). discarded_line number rule.number ≡ line_of number (entries (w ∷ []))) is (of_rule rule says)
  where
    of_rule : (w : Walked) → SaysDiscard w.actions.now → discarded_line number w.number ≡ line_of number (entries (w ∷ []))
    of_rule w says =
        let all : w.actions.now ++ [] ≡ w.actions.now = append-nil w.actions.now in
        let verdict : codes " discard" ≡ verdict_text (w.actions.now ++ []) =
        sym (ap verdict_text all ∙ ap (λ (b : Bool). if b then codes " discard" else codes " pass") says.discards) in
        let effects : [] ≡ effects_text (w.actions.now ++ []) = sym (ap effects_text all ∙ says.silent) in
        ap (λ (rest : List ℕ). decimal number ++ (codes " discard rules " ++ (rest ++ codes "\n"))) (sym (append-nil (decimal w.number)))
        ∙ ap (λ (v : List ℕ). decimal number ++ (v ++ (((codes " rules " ++ decimal w.number) ++ []) ++ codes "\n"))) verdict
        ∙ ap (λ (e : List ℕ). decimal number
        ++ (verdict_text (w.actions.now ++ []) ++ (((codes " rules " ++ decimal w.number) ++ []) ++ (e ++ codes "\n")))) effects

pub nonempty : (actions : List (List ℕ)) (empty : Bool) → empty ≡ (length actions == 0) → IsTrue (not empty) → 0 < length actions
nonempty [] empty is some = absurd (true≢false (sym (subst (λ b. IsTrue (not b)) is some)))
nonempty (action ∷ actions) empty is some = omega arith
