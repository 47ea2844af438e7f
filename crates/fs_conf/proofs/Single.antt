use Rattle.fs_conf.proofs.Words.{◌≡◌, ◌||◌, ◌&&◌, Bool, true, false, not, List, [], ◌∷◌, refl, ap, sym, ◌∙◌, list_all, list_any, is_eq, Ruled}
use Rattle.fs_conf.proofs.Words.{rule_cmp, Sent, are_single, is_same}

-- Rules of which no two are one, tried one after the other beside those before.

abbrev pub is_fresh : (Ruled → Bool) → Sent → Bool
is_fresh has sent = not (has sent.rule)

-- none of them is one of these, and no two are one
abbrev pub are_fresh : (Ruled → Bool) → List Sent → Bool
are_fresh has rules = list_all (is_fresh has) rules && are_single rules

all_same : (has other : Ruled → Bool) → ((rule : Ruled) → has rule ≡ other rule) → (rules : List Sent)
    → list_all (is_fresh has) rules ≡ list_all (is_fresh other) rules
all_same has other h [] = refl
all_same has other h (sent ∷ rules) = rw (h sent.rule, all_same has other h rules) refl

neither : (a b c d : Bool) → (not (a || b) && (c && not d)) ≡ ((not b && c) && not (a || d))
neither true true c d = refl
neither true false true d = refl
neither true false false d = refl
neither false true c d = refl
neither false false c d = refl

split : (sent : Sent) (has : Ruled → Bool) (rules : List Sent)
    → list_all (is_fresh (λ rule. is_eq (rule_cmp sent.rule rule) || has rule)) rules ≡ (list_all (is_fresh has) rules && not (list_any (is_same sent) rules))
split sent has [] = refl
split sent has (other ∷ rules) =
    rw (split sent has rules) (neither (is_same sent other) (has other.rule) (list_all (is_fresh has) rules) (list_any (is_same sent) rules))

regrouped : (a b c : Bool) → (a && (b && c)) ≡ ((a && b) && c)
regrouped true b c = refl
regrouped false b c = refl

-- one more that is new
pub fresh_more : (has now : Ruled → Bool) (sent : Sent) (rules : List Sent) → true ≡ not (has sent.rule)
    → ((rule : Ruled) → now rule ≡ (is_eq (rule_cmp sent.rule rule) || has rule)) → are_fresh has (sent ∷ rules) ≡ are_fresh now rules
fresh_more has now sent rules new h =
    let rest : Bool = list_all (is_fresh has) rules in
    let apart : Bool = not (list_any (is_same sent) rules) in
    ap (λ b. (b && rest) && (apart && are_single rules)) (sym new)
    ∙ regrouped rest apart (are_single rules)
    ∙ ap (λ b. b && are_single rules) (sym (all_same now (λ rule. is_eq (rule_cmp sent.rule rule) || has rule) h rules ∙ split sent has rules))

-- one that isn't
pub not_fresh : (has : Ruled → Bool) (sent : Sent) (rules : List Sent) → false ≡ not (has sent.rule) → are_fresh has (sent ∷ rules) ≡ false
not_fresh has sent rules old = ap (λ b. (b && list_all (is_fresh has) rules) && (not (list_any (is_same sent) rules) && are_single rules)) (sym old)

pub fresh_none : (has : Ruled → Bool) (rules : List Sent) → ((rule : Ruled) → has rule ≡ false) → are_single rules ≡ are_fresh has rules
fresh_none has rules h = ap (λ b. b && are_single rules) (sym (all has rules h))
  where
    all : (has : Ruled → Bool) (rules : List Sent) → ((rule : Ruled) → has rule ≡ false) → list_all (is_fresh has) rules ≡ true
    all has [] h = refl
    all has (sent ∷ rules) h = rw (h sent.rule, all has rules h) refl
