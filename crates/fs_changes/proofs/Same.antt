-- Acts that are the same.
use Rattle.fs_changes.proofs.Words.{Bool, List, ap, ap₂, false, true, true≢false, refl, sym, ℕ, ◌&&◌, ◌∙◌, ◌≡◌, is_eq, is_gt, tied_itself, IsRule}
use Rattle.fs_changes.proofs.Words.{rule_cmp, rule_total, same_rules, Equal, Act, Gone, Stays, Tells, is_same, same_actions, same_actions_decides}
use Rattle.fs_changes.proofs.{Filters.{equal_is}, Leading.{IsSound}}

pub same_itself : (act : Act) → is_same act act ≡ true
same_itself act = ap₂ (λ o b. is_eq o && b) (tied_itself rule_total act.rule) ((same_actions_decides act.actions act.actions).1 refl)

both_true : (b c : Bool) → (b && c) ≡ true → (b ≡ true) × (c ≡ true)
both_true true true e = (refl, refl)
both_true true false e = absurd (true≢false (sym e))
both_true false c e = absurd (true≢false (sym e))

pub sound : IsSound (λ (act : Act). IsRule act.rule) is_same
sound x y own other e =
    let b : (is_eq (rule_cmp x.rule y.rule) ≡ true) × (same_actions x.actions y.actions ≡ true) =
    both_true (is_eq (rule_cmp x.rule y.rule)) (same_actions x.actions y.actions) e in
    ap₂ (λ rule actions. record { rule = rule; actions = actions }) (same_rules x.rule y.rule own other (equal_is (rule_cmp x.rule y.rule) b.0))
    ((same_actions_decides x.actions y.actions).0 b.1)

-- a test decides whether actions are the same
pub told_same : (b : Bool) (xs ys : List (List ℕ)) → (b ≡ true → xs ≡ ys) → (xs ≡ ys → b ≡ true) → b ≡ same_actions xs ys
told_same b xs ys one other = at (same_actions xs ys) refl b refl where
  at : (c : Bool) → same_actions xs ys ≡ c → (d : Bool) → b ≡ d → d ≡ c
  at true e true f = refl
  at false e false f = refl
  at true e false f = sym (sym (other ((same_actions_decides xs ys).0 e)) ∙ f)
  at false e true f = sym (sym e ∙ (same_actions_decides xs ys).1 (one f))

-- what becomes of a rule with old and with new actions
pub stays : (o n : Act) → rule_cmp o.rule n.rule ≡ Equal → same_actions o.actions n.actions ≡ true → Tells Stays o n
stays o n e f = (ap is_gt e, ap₂ (λ x b. is_eq x && b) e f)

pub goes : (o n : Act) → rule_cmp o.rule n.rule ≡ Equal → same_actions o.actions n.actions ≡ false → Tells Gone o n
goes o n e f = (ap is_gt e, ap₂ (λ x b. is_eq x && b) e f)
