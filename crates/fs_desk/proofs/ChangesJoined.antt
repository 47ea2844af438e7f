-- Changes of the table one after the other, up to that of an update.
use Rattle.fs_desk.proofs.Words.{◌≡◌, ◌==◌, ◌<◌, ◌+◌, ℕ, List, [], ◌∷◌, ◌++◌, Bool, true, false, ◌||◌, Option, Some, None, Result, Ok, Err, OnOk}
use Rattle.fs_desk.proofs.Words.{if◌then◌else◌, option_map, length, take, map, get_or, refl, ap, sym, ◌∙◌, append_assoc, append-nil, is_some}
use Rattle.fs_desk.proofs.Words.{◌⊎◌, inl, inr, list_any, take_more, map-append, list_any-append, or_none, Path, Prefix, Ruled, shown}
use Rattle.fs_desk.proofs.Words.{Held, Shown, Update, unicast_in, flows_in, given_prefixes, unicast_at, flow_at, last_such, Given, is_prefix, is_rule}
use Rattle.fs_desk.proofs.Words.{given_with, Changes, same, taken_of, given_at, rules_taken, rules_given, given_or, told, told_of}
use Rattle.fs_desk.proofs.{Life.{any-more}, Updates.{last-more, later_of}}
use Rattle.std.proofs.lemmas.Option.{none-some}

pub on_ok : {T E P Q : Type 0} (result : Result T E) → (P → Q) → OnOk result P → OnOk result Q
on_ok (Ok t) f p = f p
on_ok (Err e) f p = p

-- one more prefix of a list that a loop goes over
pub shown_more : (prefixes : List Prefix) (i : ℕ) (prefix : Prefix) → i < length prefixes → prefix ≡ get_or prefixes i prefix
    → map shown (take (i + 1) prefixes) ≡ map shown (take i prefixes) ++ shown prefix ∷ []
shown_more prefixes i prefix within at =
    ap (map shown) (take_more prefixes i prefix within)
    ∙ map-append shown (take i prefixes) (get_or prefixes i prefix ∷ [])
    ∙ ap (λ (x : Prefix). map shown (take i prefixes) ++ shown x ∷ []) (sym at)

-- nothing changes
pub changes_none : (peer : ℕ) (held : Held) → Changes peer same same held held
changes_none peer held = record {
  config_is = refl;
  listed = λ l. l;
  unicast = λ l place. either_way (place.peer == peer) (unicast_at place held.unicast);
  flows = λ l rule other. either_way (other == peer) (flow_at rule other held.flows);
}
  where
    either_way : {A : Type 0} (b : Bool) (a : A) → a ≡ (if b then a else a)
    either_way true a = refl
    either_way false a = refl

-- one change and then another
pub changes_then : (peer : ℕ) (f f' : Prefix → Option Path → Option Path) (g g' : Ruled → Option Given → Option Given) (old mid new : Held)
    → Changes peer f g old mid → Changes peer f' g' mid new
    → Changes peer (λ p o. f' p (f p o)) (λ r o. g' r (g r o)) old new
changes_then peer f f' g g' old mid new t u = record {
  config_is = u.config_is ∙ t.config_is;
  listed = λ l. u.listed (t.listed l);
  unicast = λ l place.
      u.unicast (t.listed l) place
      ∙ joined (place.peer == peer) (f' place.prefix) (f place.prefix) (unicast_at place mid.unicast) (unicast_at place old.unicast) (t.unicast l place);
  flows = λ l rule other.
      u.flows (t.listed l) rule other
      ∙ joined (other == peer) (g' rule) (g rule) (flow_at rule other mid.flows) (flow_at rule other old.flows) (t.flows l rule other);
}
  where
    joined : {A : Type 0} (b : Bool) (f' f : A → A) (mid old : A) → mid ≡ (if b then f old else old)
        → (if b then f' mid else mid) ≡ (if b then f' (f old) else old)
    joined true f' f mid old h = ap f' h
    joined false f' f mid old h = h

-- a change may be said in other words
pub changes_as : (peer : ℕ) (f f' : Prefix → Option Path → Option Path) (g g' : Ruled → Option Given → Option Given) (old new : Held)
    → ((p : Prefix) (o : Option Path) → f p o ≡ f' p o) → ((r : Ruled) (o : Option Given) → g r o ≡ g' r o)
    → Changes peer f g old new → Changes peer f' g' old new
changes_as peer f f' g g' old new a b t = record {
  config_is = t.config_is;
  listed = t.listed;
  unicast = λ l place. t.unicast l place ∙ said (place.peer == peer) _ _ _ (a place.prefix (unicast_at place old.unicast));
  flows = λ l rule other. t.flows l rule other ∙ said (other == peer) _ _ _ (b rule (flow_at rule other old.flows));
}
  where
    said : {A : Type 0} (b : Bool) (x y old : A) → x ≡ y → (if b then x else old) ≡ (if b then y else old)
    said true x y old h = h
    said false x y old h = refl

-- the later of two choices counts, where both choose one value
both_chosen : {A : Type 0} (a b : Bool) (value before : A)
    → (if (b || false) then value else (if a then value else before)) ≡ (if (a || b) then value else before)
both_chosen true true value before = refl
both_chosen true false value before = refl
both_chosen false true value before = refl
both_chosen false false value before = refl

-- one more prefix taken, or given
abbrev set_at : Option Path → List Shown → Prefix → Option Path → Option Path
set_at value prefixes p o = if list_any (is_prefix p) prefixes then value else o

pub prefixes_more : (peer : ℕ) (value : Option Path) (prefixes : List Shown) (prefix : Shown) (old mid new : Held)
    → Changes peer (set_at value prefixes) same old mid → Changes peer (set_at value (prefix ∷ [])) same mid new
    → Changes peer (set_at value (prefixes ++ prefix ∷ [])) same old new
prefixes_more peer value prefixes prefix old mid new t u =
    changes_as peer (λ p o. set_at value (prefix ∷ []) p (set_at value prefixes p o)) (set_at value (prefixes ++ prefix ∷ [])) (λ r o. o) same old new
    (λ p o.
    both_chosen (list_any (is_prefix p) prefixes) (is_prefix p prefix) value o
    ∙ ap (λ (b : Bool). if b then value else o) (sym (any-more (is_prefix p) prefixes prefix)))
    (λ r o. refl)
    (changes_then peer (set_at value prefixes) (set_at value (prefix ∷ [])) same same old mid new t u)

pub rules_taken_more : (peer : ℕ) (rules : List Ruled) (rule : Ruled) (old mid new : Held)
    → Changes peer same (rules_taken rules) old mid → Changes peer same (rules_taken (rule ∷ [])) mid new
    → Changes peer same (rules_taken (rules ++ rule ∷ [])) old new
rules_taken_more peer rules rule old mid new t u =
    changes_as peer (λ p o. o) same (λ r o. rules_taken (rule ∷ []) r (rules_taken rules r o)) (rules_taken (rules ++ rule ∷ [])) old new
    (λ p o. refl)
    (λ r o.
    both_chosen (list_any (is_rule r) rules) (is_rule r rule) None o
    ∙ ap (λ (b : Bool). if b then None else o) (sym (any-more (is_rule r) rules rule)))
    (changes_then peer same same (rules_taken rules) (rules_taken (rule ∷ [])) old mid new t u)

given_twice : (before : Option Given) (a b : Option Ruled) (path : Path) (actions : List (List ℕ))
    → given_or (given_or before a path actions) b path actions ≡ given_or before (later_of a b) path actions
given_twice before a (Some rule) path actions = refl
given_twice before a None path actions = refl

pub rules_given_more : (peer : ℕ) (path : Path) (actions : List (List ℕ)) (rules : List Ruled) (rule : Ruled) (old mid new : Held)
    → Changes peer same (rules_given rules path actions) old mid → Changes peer same (rules_given (rule ∷ []) path actions) mid new
    → Changes peer same (rules_given (rules ++ rule ∷ []) path actions) old new
rules_given_more peer path actions rules rule old mid new t u =
    changes_as peer (λ p o. o) same (λ r o. rules_given (rule ∷ []) path actions r (rules_given rules path actions r o))
    (rules_given (rules ++ rule ∷ []) path actions) old new
    (λ p o. refl)
    (λ r o.
    given_twice o (last_such (is_rule r) rules) (if is_rule r rule then Some rule else None) path actions
    ∙ ap (λ (a : Option Ruled). given_or o a path actions) (sym (last-more (is_rule r) rules rule)))
    (changes_then peer same same (rules_given rules path actions) (rules_given (rule ∷ []) path actions) old mid new t u)

joined_choice : {A : Type 0} (a b : Bool) (value before : A) → (if b then value else (if a then value else before)) ≡ (if (a || b) then value else before)
joined_choice true true value before = refl
joined_choice true false value before = refl
joined_choice false true value before = refl
joined_choice false false value before = refl

pub given_join : (peer : ℕ) (path : Path) (first later : List Shown) (rules : Ruled → Option Given → Option Given) (old mid new : Held)
    → Changes peer (given_at first path) same old mid → Changes peer (given_at later path) rules mid new
    → Changes peer (given_at (first ++ later) path) rules old new
given_join peer path first later rules old mid new t u =
    changes_as peer (λ p o. given_at later path p (given_at first path p o)) (given_at (first ++ later) path) rules rules old new
    (λ p o.
    joined_choice (list_any (is_prefix p) first) (list_any (is_prefix p) later) (Some path) o
    ∙ ap (λ (b : Bool). if b then Some path else o) (sym (list_any-append (is_prefix p) first later)))
    (λ r o. refl)
    (changes_then peer (given_at first path) (given_at later path) same rules old mid new t u)

all_any : (p : Prefix) (u : Update) (rest : List Shown)
    → list_any (is_prefix p) (u.classic_out ++ (unicast_in u.unreach ++ rest))
    ≡ (list_any (is_prefix p) (u.classic_out ++ unicast_in u.unreach) || list_any (is_prefix p) rest)
all_any p u rest =
    ap (list_any (is_prefix p)) (sym (append_assoc u.classic_out (unicast_in u.unreach) rest))
    ∙ list_any-append (is_prefix p) (u.classic_out ++ unicast_in u.unreach) rest

back_prefix : (u : Update) → u.as_withdraw ≡ true → (p : Prefix) (o : Option Path)
    → taken_of (u.classic_in ++ unicast_in u.reach) p (taken_of (u.classic_out ++ unicast_in u.unreach) p o) ≡ told u p o
back_prefix u h p o =
    joined_choice (list_any (is_prefix p) (u.classic_out ++ unicast_in u.unreach)) (list_any (is_prefix p) (given_prefixes u)) None o
    ∙ ap (λ (b : Bool). if b then None else o) (sym (all_any p u (given_prefixes u)))
    ∙ ap (λ (w : Bool). if list_any (is_prefix p) (if w then [] else given_prefixes u) then u.path
    else if list_any (is_prefix p) (u.classic_out ++ (unicast_in u.unreach ++ (if w then given_prefixes u else []))) then None else o) (sym h)

none_prefix : (u : Update) → u.as_withdraw ≡ false → u.path ≡ None → (p : Prefix) (o : Option Path)
    → taken_of (u.classic_in ++ unicast_in u.reach) p (taken_of (u.classic_out ++ unicast_in u.unreach) p o) ≡ told u p o
none_prefix u h n p o =
    ap (λ (b : Bool). if list_any (is_prefix p) (given_prefixes u) then None else if b then None else o)
    (sym (or_none (list_any (is_prefix p) (u.classic_out ++ unicast_in u.unreach)) false refl) ∙ sym (all_any p u []))
    ∙ ap (λ (path : Option Path). if list_any (is_prefix p) (given_prefixes u) then path
    else if list_any (is_prefix p) (u.classic_out ++ (unicast_in u.unreach ++ [])) then None else o) (sym n)
    ∙ ap (λ (w : Bool). if list_any (is_prefix p) (if w then [] else given_prefixes u) then u.path
    else if list_any (is_prefix p) (u.classic_out ++ (unicast_in u.unreach ++ (if w then given_prefixes u else []))) then None else o) (sym h)

some_prefix : (u : Update) (path : Path) → u.as_withdraw ≡ false → u.path ≡ Some path → (p : Prefix) (o : Option Path)
    → given_at (u.classic_in ++ unicast_in u.reach) path p (taken_of (u.classic_out ++ unicast_in u.unreach) p o) ≡ told u p o
some_prefix u path h n p o =
    ap (λ (b : Bool). if list_any (is_prefix p) (given_prefixes u) then Some path else if b then None else o)
    (sym (or_none (list_any (is_prefix p) (u.classic_out ++ unicast_in u.unreach)) false refl) ∙ sym (all_any p u []))
    ∙ ap (λ (path : Option Path). if list_any (is_prefix p) (given_prefixes u) then path
    else if list_any (is_prefix p) (u.classic_out ++ (unicast_in u.unreach ++ [])) then None else o) (sym n)
    ∙ ap (λ (w : Bool). if list_any (is_prefix p) (if w then [] else given_prefixes u) then u.path
    else if list_any (is_prefix p) (u.classic_out ++ (unicast_in u.unreach ++ (if w then given_prefixes u else []))) then None else o) (sym h)

-- likewise of rules
told_rule_with : Bool → Update → Ruled → Option Given → Option Given
told_rule_with w update rule before = elim (last_such (is_rule rule) (if w then [] else flows_in update.reach)) [
  | Some given ↦ given_with update given
  | None ↦ if list_any (is_rule rule) (flows_in update.unreach ++ (if w then flows_in update.reach else [])) then None else before
]

back_rule : (u : Update) → u.as_withdraw ≡ true → (r : Ruled) (o : Option Given)
    → rules_taken (flows_in u.reach) r (rules_taken (flows_in u.unreach) r o) ≡ told_of u r o
unfolding told_rule_with
back_rule u h r o =
    joined_choice (list_any (is_rule r) (flows_in u.unreach)) (list_any (is_rule r) (flows_in u.reach)) None o
    ∙ ap (λ (b : Bool). if b then None else o) (sym (list_any-append (is_rule r) (flows_in u.unreach) (flows_in u.reach)))
    ∙ ap (λ (w : Bool). told_rule_with w u r o) (sym h)

-- the last of a list that passes is there exactly where some element passes
pub last_there : (r : Ruled) (rules : List Ruled) → list_any (is_rule r) rules ≡ is_some (last_such (is_rule r) rules)
last_there r [] = refl
last_there r (x ∷ xs) = at (is_rule r x) (last_such (is_rule r) xs) (last_there r xs)
  where
    at : (b : Bool) (o : Option Ruled) → list_any (is_rule r) xs ≡ is_some o
        → (b || list_any (is_rule r) xs) ≡ is_some (elim o [ Some found ↦ Some found | None ↦ if b then Some x else None ])
    at true (Some found) h = refl
    at true None h = refl
    at false (Some found) h = h
    at false None h = h

none_choice : (u : Update) (found : Option Ruled) (o : Option Given) → u.path ≡ None
    → (if is_some found then None else o) ≡ elim found [ Some given ↦ given_with u given | None ↦ o ]
none_choice u (Some given) o n = ap (λ (path : Option Path). option_map (λ p. (given, p, u.actions)) path) (sym n)
none_choice u None o n = refl

none_rule : (u : Update) → u.as_withdraw ≡ false → u.path ≡ None → (r : Ruled) (o : Option Given)
    → rules_taken (flows_in u.reach) r (rules_taken (flows_in u.unreach) r o) ≡ told_of u r o
unfolding told_rule_with
none_rule u h n r o =
    ap (λ (b : Bool). if b then None else rules_taken (flows_in u.unreach) r o) (last_there r (flows_in u.reach))
    ∙ none_choice u (last_such (is_rule r) (flows_in u.reach)) (rules_taken (flows_in u.unreach) r o) n
    ∙ ap (λ (rules : List Ruled). elim
    (last_such (is_rule r) (flows_in u.reach)) [ Some given ↦ given_with u given | None ↦ if list_any (is_rule r) rules then None else o ])
    (sym (append-nil (flows_in u.unreach)))
    ∙ ap (λ (w : Bool). told_rule_with w u r o) (sym h)

some_choice : (u : Update) (path : Path) (found : Option Ruled) (o : Option Given) → u.path ≡ Some path
    → given_or o found path u.actions ≡ elim found [ Some given ↦ given_with u given | None ↦ o ]
some_choice u path (Some given) o n = ap (λ (q : Option Path). option_map (λ p. (given, p, u.actions)) q) (sym n)
some_choice u path None o n = refl

some_rule : (u : Update) (path : Path) → u.as_withdraw ≡ false → u.path ≡ Some path → (r : Ruled) (o : Option Given)
    → rules_given (flows_in u.reach) path u.actions r (rules_taken (flows_in u.unreach) r o) ≡ told_of u r o
unfolding told_rule_with
some_rule u path h n r o =
    some_choice u path (last_such (is_rule r) (flows_in u.reach)) (rules_taken (flows_in u.unreach) r o) n
    ∙ ap (λ (rules : List Ruled). elim
    (last_such (is_rule r) (flows_in u.reach)) [ Some given ↦ given_with u given | None ↦ if list_any (is_rule r) rules then None else o ])
    (sym (append-nil (flows_in u.unreach)))
    ∙ ap (λ (w : Bool). told_rule_with w u r o) (sym h)

-- whether an update gives a path
pub path_back : (w : Bool) (path given : Option Path) → given ≡ (if w then None else path) → given ≡ None → (w ≡ true) ⊎ ((w ≡ false) × (path ≡ None))
path_back true path given e n = inl refl
path_back false path given e n = inr (refl, sym e ∙ n)

pub path_there : (w : Bool) (path given : Option Path) (found : Path) → given ≡ (if w then None else path) → given ≡ Some found
    → (w ≡ false) × (path ≡ Some found)
path_there true path given found e n = absurd (none-some found (sym e ∙ n))
path_there false path given found e n = (refl, sym e ∙ n)

-- an update that only takes
pub told_back : (peer : ℕ) (u : Update) (old mid new : Held) → (u.as_withdraw ≡ true) ⊎ ((u.as_withdraw ≡ false) × (u.path ≡ None))
    → Changes peer (taken_of (u.classic_out ++ unicast_in u.unreach)) (rules_taken (flows_in u.unreach)) old mid
    → Changes peer (taken_of (u.classic_in ++ unicast_in u.reach)) (rules_taken (flows_in u.reach)) mid new
    → Changes peer (told u) (told_of u) old new
told_back peer u old mid new (inl h) t v =
    changes_as peer (λ p o. taken_of (u.classic_in ++ unicast_in u.reach) p (taken_of (u.classic_out ++ unicast_in u.unreach) p o)) (told u)
    (λ r o. rules_taken (flows_in u.reach) r (rules_taken (flows_in u.unreach) r o)) (told_of u) old new (back_prefix u h) (back_rule u h)
    (changes_then peer _ _ _ _ old mid new t v)
told_back peer u old mid new (inr h) t v =
    changes_as peer (λ p o. taken_of (u.classic_in ++ unicast_in u.reach) p (taken_of (u.classic_out ++ unicast_in u.unreach) p o)) (told u)
    (λ r o. rules_taken (flows_in u.reach) r (rules_taken (flows_in u.unreach) r o)) (told_of u) old new (none_prefix u h.0 h.1) (none_rule u h.0 h.1)
    (changes_then peer _ _ _ _ old mid new t v)

-- an update that gives
pub told_given : (peer : ℕ) (u : Update) (path : Path) (old mid new : Held) → u.as_withdraw ≡ false → u.path ≡ Some path
    → Changes peer (taken_of (u.classic_out ++ unicast_in u.unreach)) (rules_taken (flows_in u.unreach)) old mid
    → Changes peer (given_at (u.classic_in ++ unicast_in u.reach) path) (rules_given (flows_in u.reach) path u.actions) mid new
    → Changes peer (told u) (told_of u) old new
told_given peer u path old mid new h n t v =
    changes_as peer (λ p o. given_at (u.classic_in ++ unicast_in u.reach) path p (taken_of (u.classic_out ++ unicast_in u.unreach) p o)) (told u)
    (λ r o. rules_given (flows_in u.reach) path u.actions r (rules_taken (flows_in u.unreach) r o)) (told_of u) old new (some_prefix u path h n)
    (some_rule u path h n)
    (changes_then peer _ _ _ _ old mid new t v)
