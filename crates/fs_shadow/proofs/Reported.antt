-- The report, rule by rule: of each the first of the earlier rules that may contain it.
use Rattle.fs_shadow.proofs.Words.{◌≡◌, ℕ, zero, suc, ◌+◌, ◌-◌, ◌<◌, ◌≤◌, Bool, true, false, Some, List, [], ◌∷◌, ◌++◌, if◌then◌else◌, get_or, length}
use Rattle.fs_shadow.proofs.Words.{take, drop, refl, sym, ap, subst, ◌∙◌, arith, slice_get, get_or_from_slice_get, none-some, same_Some}
use Rattle.fs_shadow.proofs.Words.{slice_get_within, append-nil, drop_all, drop_more, length-take-le, take_all, take_more, Listed, spans_of}
use Rattle.fs_shadow.proofs.Words.{each_dropped, each_taken, Outline, AreInOrder, AreOutlinesOf, IsOutlineOf, begins_anew, first_taker, covered_by}
use Rattle.fs_shadow.proofs.Words.{first_taking, report_behind, takes_all}
use Rattle.fs_shadow.proofs.{Destinations.{AreApart, anew_apart}, Measuring.{taker_says}}
use Rattle.std.proofs.lemmas.List.{append_assoc}

-- the search may begin behind those that don't take all packets of the rule
skips : (later : Listed) (s place : ℕ) (rules : List Listed) → ((i : ℕ) (a : Listed) → i < s → slice_get rules i ≡ Some a → takes_all a later ≡ false)
    → first_taking place rules later ≡ first_taking (place + s) (drop s rules) later
skips later zero place rules none = ap (λ k. first_taking k rules later) (let e : place ≡ place + 0 = omega arith in e)
skips later (suc s) place [] none = refl
skips later (suc s) place (r ∷ rs) none =
    ap (λ (b : Bool). if b then Some place else first_taking (place + 1) rs later) (none 0 r (omega arith) refl)
    ∙ skips later s (place + 1) rs (λ i a less e. none (suc i) a (omega (arith, less)) e)
    ∙ ap (λ k. first_taking k (drop s rs) later) (let e : place + 1 + s ≡ place + suc s = omega arith in e)

get_taken : (n i : ℕ) (rules : List Listed) (a : Listed) → slice_get (take n rules) i ≡ Some a → slice_get rules i ≡ Some a
get_taken zero i rules a e = absurd (none-some a e)
get_taken (suc n) i [] a e = absurd (none-some a e)
get_taken (suc n) zero (r ∷ rs) a e = e
get_taken (suc n) (suc i) (r ∷ rs) a e = get_taken n i rs a e

drop_taken : (s n : ℕ) (rules : List Listed) → drop s (take n rules) ≡ take (n - s) (drop s rules)
drop_taken zero n rules = ap (λ k. take k rules) (let e : n ≡ n - 0 = omega arith in e)
drop_taken (suc s) zero rules = ap (λ k. take k (drop (suc s) rules)) (let e : 0 ≡ 0 - suc s = omega arith in e)
drop_taken (suc s) (suc n) [] = sym (take_all (suc n - suc s) [] (omega arith))
drop_taken (suc s) (suc n) (r ∷ rs) = drop_taken s n rs ∙ ap (λ k. take k (drop s rs)) (let e : n - s ≡ suc n - suc s = omega arith in e)

-- the first of the rules that may take all packets of the rule of a number
pub taker_is : (rules : List Listed) (outlines : List Outline) (start number : ℕ) (later : Listed) (o : Outline) → AreOutlinesOf rules outlines
    → IsOutlineOf later o → AreApart rules start number
    → slice_get rules number ≡ Some later
    → first_taker start (take (number - start) (drop start outlines)) o ≡ first_taking 0 (take number rules) later
taker_is rules outlines start number later o all one apart at =
    taker_says later o one start (take (number - start) (drop start rules)) (take (number - start) (drop start outlines))
    (each_taken IsOutlineOf (number - start) (drop start rules) (drop start outlines) (each_dropped IsOutlineOf start rules outlines all))
    ∙ ap (λ (rs : List Listed). first_taking start rs later) (sym (drop_taken start number rules))
    ∙ sym (skips later start 0 (take number rules) (λ i a less e. apart i number a later less (omega arith) (get_taken number i rules a e) at)
    ∙ ap (λ k. first_taking k (drop start (take number rules)) later) (let e : 0 + start ≡ start = omega arith in e))

-- the outline at a place is of the rule there
pub record HasRule (rules : List Listed) (number : ℕ) (o : Outline) : Type 0 where
  pub rule : Listed
  pub is : slice_get rules number ≡ Some rule
  pub outline : IsOutlineOf rule o

pub outlined_at : (rules : List Listed) (outlines : List Outline) (number : ℕ) (o : Outline) → AreOutlinesOf rules outlines
    → slice_get outlines number ≡ Some o → HasRule rules number o
outlined_at [] [] number o all e = absurd (none-some o e)
outlined_at [] (x ∷ xs) number o all e = absurd all
outlined_at (r ∷ rs) [] number o all e = absurd all
outlined_at (r ∷ rs) (x ∷ xs) zero o all e = record { rule = r; is = refl; outline = subst (IsOutlineOf r) (same_Some x o e) all.0 }
outlined_at (r ∷ rs) (x ∷ xs) (suc number) o all e =
    let h = outlined_at rs xs number o all.1 e in
    record { rule = h.rule; is = h.is; outline = h.outline }

-- one rule more
pub report_more : (rules : List Listed) (n : ℕ) (a : Listed) → slice_get rules n ≡ Some a
    → report_behind (take n rules) (drop n rules) ≡ covered_by n (first_taking 0 (take n rules) a) ++ report_behind (take (n + 1) rules) (drop (n + 1) rules)
report_more rules n a e =
    ap (report_behind (take n rules)) (drop_more rules n a within ∙ ap (λ x. x ∷ drop (n + 1) rules) is)
    ∙ (λ i. covered_by (length-take-le n rules (omega (arith, within)) i) (first_taking 0 (take n rules) a) ++ report_behind (sym one i) (drop (n + 1) rules))
  where
    within : n < length rules
    within = slice_get_within rules n a e

    is : get_or rules n a ≡ a
    is = get_or_from_slice_get rules n a a e

    one : take (n + 1) rules ≡ take n rules ++ a ∷ []
    one = take_more rules n a within ∙ ap (λ x. take n rules ++ x ∷ []) is

-- what the loop does with the rule of a number
pub report_step : (rules : List Listed) (outlines : List Outline) (start n : ℕ) (o : Outline) (pairs new whole : List (ℕ × ℕ))
    → AreOutlinesOf rules outlines → slice_get outlines n ≡ Some o
    → AreApart rules start n → new ≡ pairs ++ covered_by n (first_taker start (take (n - start) (drop start outlines)) o)
    → pairs ++ report_behind (take n rules) (drop n rules) ≡ whole → new ++ report_behind (take (n + 1) rules) (drop (n + 1) rules) ≡ whole
report_step rules outlines start n o pairs new whole all at apart e rest =
    ap (λ (front : List (ℕ × ℕ)). front ++ report_behind (take (n + 1) rules) (drop (n + 1) rules)) (e ∙ ap (λ found. pairs ++ covered_by n found) found_is)
    ∙ append_assoc pairs (covered_by n (first_taking 0 (take n rules) h.rule)) (report_behind (take (n + 1) rules) (drop (n + 1) rules))
    ∙ ap (λ (more : List (ℕ × ℕ)). pairs ++ more) (sym (report_more rules n h.rule h.is))
    ∙ rest
  where
    h : HasRule rules n o
    h = outlined_at rules outlines n o all at

    found_is : first_taker start (take (n - start) (drop start outlines)) o ≡ first_taking 0 (take n rules) h.rule
    found_is = taker_is rules outlines start n h.rule o all h.outline apart h.is

pub report_ends : (rules : List Listed) (n : ℕ) (pairs whole : List (ℕ × ℕ)) → length rules ≤ n
    → pairs ++ report_behind (take n rules) (drop n rules) ≡ whole → pairs ≡ whole
report_ends rules n pairs whole most rest =
    sym (append-nil pairs) ∙ ap (λ rs. pairs ++ report_behind (take n rules) rs) (sym (drop_all n rules most)) ∙ rest

-- where the stretch begins now
pub stretch_apart : (rules : List Listed) (start n : ℕ) → AreInOrder rules → n < length rules → AreApart rules start n
    → AreApart rules (if begins_anew (spans_of rules) n then n else start) n
stretch_apart rules start n order inside apart = at (begins_anew (spans_of rules) n) refl
  where
    at : (b : Bool) → begins_anew (spans_of rules) n ≡ b → AreApart rules (if b then n else start) n
    at true e = anew_apart rules n order inside e
    at false e = apart

pub apart_later : (rules : List Listed) (start n : ℕ) → AreApart rules start n → AreApart rules start (n + 1)
apart_later rules start n apart i j a b less from e f = apart i j a b less (omega (arith, from)) e f
