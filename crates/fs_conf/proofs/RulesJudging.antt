-- Loops that look for the first fault of rules.
use Rattle.fs_conf.proofs.Words.{◌≡◌, ℕ, suc, ◌+◌, ◌<◌, ◌≤◌, Bool, true, false, not, ◌||◌, if◌then◌else◌, List, [], ◌∷◌, length, drop, get_or, Option}
use Rattle.fs_conf.proofs.Words.{Some, None, refl, sym, ap, ◌∙◌, arith, zero, drop_more, is_eq, rule_cmp, Ruled, Sent, Value, view}
use Rattle.fs_conf.proofs.Words.{items_view, nat_le, codes, is_some, option_map, has_seen, Bor, nat_lt, ltb-true}
use Rattle.fs_conf.proofs.Judging.{count_is}
use Rattle.std.{specs.{BTreeSet.{BTreeSet}, Option.{option_or}, Prelude.{IfSome}}, proofs.Common.{ltb-false}}
use Rattle.fs_order.specs.declared.ranked.Ranked.{Ranked}
use Rattle.fs_conf.specs.Fault.{each_fault, own_fault, unfit}
use Rattle.fs_conf.specs.RuleFault.{first_same, item_at, number_fault, numbers_fault}
use Rattle.fs_conf.specs.declared.fault.KeyReason.TheVariants.{Value as NoValue}

-- an item by its place

pub item_is : (items : List Value) (i : ℕ) (value : Value) → i < length items → value ≡ get_or items i value → item_at i (items_view items) ≡ Some (view value)
item_is [] i value inside is = absurd (omega (arith, inside))
item_is (v ∷ items) zero value inside is = ap (λ (x : Value). Some (view x)) (sym is)
item_is (v ∷ items) (suc i) value inside is = item_is items i value (omega (arith, inside)) is

pub item_past : (items : List Value) (i : ℕ) → length items ≤ i → item_at i (items_view items) ≡ None
item_past [] zero past = refl
item_past [] (suc i) past = refl
item_past (v ∷ items) zero past = absurd (omega (arith, past))
item_past (v ∷ items) (suc i) past = item_past items i (omega (arith, past))

pub item_of : (items : List Value) (place : ℕ) (found : Option (Bor Value)) → is_some found ≡ nat_lt place (length items)
    → IfSome found (λ x. x.now ≡ get_or items place x.now)
    → option_map (λ value. view value.now) found ≡ item_at place (items_view items)
item_of items place None e h = sym (item_past items place (ltb-false place (length items) (sym e)))
item_of items place (Some x) e h = sym (item_is items place x.now (ltb-true place (length items) (sym e)) h)

-- rules of which one is an earlier one too

pub nothing_seen : (seen : BTreeSet Ranked) → seen.keys ≡ [] → (rule : Ruled) → has_seen seen rule ≡ false
nothing_seen seen e rule = rw e refl

pub same_has : (has other : Ruled → Bool) → ((rule : Ruled) → has rule ≡ other rule) → (place : ℕ) (rules : List Sent)
    → first_same has place rules ≡ first_same other place rules
same_has has other h place [] = refl
same_has has other h place (sent ∷ rules) =
    ap (λ b. if b then Some place else first_same (λ rule. is_eq (rule_cmp sent.rule rule) || has rule) (suc place) rules) (h sent.rule)
    ∙ ap (λ (rest : Option ℕ). if other sent.rule then Some place else rest)
    (same_has (λ rule. is_eq (rule_cmp sent.rule rule) || has rule) (λ rule. is_eq (rule_cmp sent.rule rule) || other rule)
    (λ rule. ap (λ b. is_eq (rule_cmp sent.rule rule) || b) (h rule)) (suc place) rules)

flipped : (b new : Bool) → new ≡ not b → b ≡ not new
flipped true new e = ap not (sym e)
flipped false new e = ap not (sym e)

pub same_next : (has now : Ruled → Bool) (rules : List Sent) (i place : ℕ) (sent : Sent) (new : Bool) → i < length rules → sent ≡ get_or rules i sent
    → place ≡ suc i
    → new ≡ not (has sent.rule) → true ≡ new → ((rule : Ruled) → now rule ≡ (is_eq (rule_cmp sent.rule rule) || has rule))
    → first_same has (suc i) (drop i rules) ≡ first_same now (suc place) (drop (i + 1) rules)
same_next has now rules i place sent new inside is same fresh is_new seen =
    let behind : List Sent = drop (i + 1) rules in
    let old : has sent.rule ≡ false = flipped (has sent.rule) new fresh ∙ ap not (sym is_new) in
    ap (first_same has (suc i)) (drop_more rules i sent inside ∙ ap (λ (s : Sent). s ∷ behind) (sym is))
    ∙ ap (λ b. if b then Some (suc i) else first_same (λ rule. is_eq (rule_cmp sent.rule rule) || has rule) (suc (suc i)) behind) old
    ∙ same_has (λ rule. is_eq (rule_cmp sent.rule rule) || has rule) now (λ rule. sym (seen rule)) (suc (suc i)) behind
    ∙ ap (λ k. first_same now (suc k) behind) (sym same)

pub same_found : (has : Ruled → Bool) (rules : List Sent) (i place : ℕ) (sent : Sent) (new : Bool) → i < length rules → sent ≡ get_or rules i sent
    → place ≡ suc i
    → new ≡ not (has sent.rule) → false ≡ new → first_same has (suc i) (drop i rules) ≡ Some place
same_found has rules i place sent new inside is same fresh is_old =
    let behind : List Sent = drop (i + 1) rules in
    let old : has sent.rule ≡ true = flipped (has sent.rule) new fresh ∙ ap not (sym is_old) in
    ap (first_same has (suc i)) (drop_more rules i sent inside ∙ ap (λ (s : Sent). s ∷ behind) (sym is))
    ∙ ap (λ b. if b then Some (suc i) else first_same (λ rule. is_eq (rule_cmp sent.rule rule) || has rule) (suc (suc i)) behind) old
    ∙ ap Some (sym same)

-- rules of which one isn't taken

-- tests one after the other

pub two_in_turn : {A : Type 0} (a b : Option A) → option_or a b ≡ option_or a (option_or b None)
two_in_turn (Some x) b = refl
two_in_turn None (Some x) = refl
two_in_turn None None = refl

pub four_in_turn : {A : Type 0} (a b c d : Option A) → option_or (option_or (option_or a b) c) d ≡ option_or a (option_or b (option_or c (option_or d None)))
four_in_turn (Some x) b c d = refl
four_in_turn None (Some x) c d = refl
four_in_turn None None (Some x) d = refl
four_in_turn None None None (Some x) = refl
four_in_turn None None None None = refl

-- the count of the numbers of a path

pub numbers_within : (items : List Value) → true ≡ nat_le (length items) 255
    → numbers_fault (Some (items_view items)) ≡ each_fault number_fault 1 (items_view items)
numbers_within items e = rw (count_is items, ← e) refl

pub numbers_without : (items : List Value) → false ≡ nat_le (length items) 255
    → numbers_fault (Some (items_view items)) ≡ Some (own_fault (unfit (codes "as_path") NoValue))
numbers_without items e = rw (count_is items, ← e) refl

-- what stands at `rule`

or_none : {A : Type 0} (found : Option A) → option_or found None ≡ found
or_none None = refl
or_none (Some x) = refl
