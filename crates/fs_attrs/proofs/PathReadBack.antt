-- The attributes of a path that are written are none of the causes of treat-as-withdraw, and say that path.
use Rattle.fs_attrs.proofs.Words.{◌≡◌, ℕ, ◌^◌, ◌<◌, ◌≤◌, ◌==◌, Bool, true, false, not, ◌&&◌, ◌||◌, nat_le, nat_lt, List, [], ◌∷◌, length, Option}
use Rattle.fs_attrs.proofs.Words.{Some, None, refl, sym, ap, subst, ◌∙◌, arith, if◌then◌else◌, option_map, option_and_then, unwrap_or, IfSome}
use Rattle.fs_attrs.proofs.Words.{is_none, option_map_or, AllByRecursion, list_all, list_any, recursion_from_All, append-nil, nil_from_length}
use Rattle.fs_attrs.proofs.Words.{and_parts, eqb-true, nat_tests, big_number, big_bytes, big_number-reads_back, Segment, Path, Terms, Update}
use Rattle.fs_attrs.proofs.Words.{value_of, values_of, is_confederation, is_written_segment, AreNumbers, are_low, four_octets, path_of, withdraws}
use Rattle.fs_attrs.proofs.Words.{written_attributes, IsPath, is_path_of_session}
use Rattle.fs_attrs.proofs.TextsReadBack.{FitsAs, FitsSegment, segments_whole, segments_read}
use Rattle.fs_attrs.proofs.WrittenAttributes.{none_value, origin_value, segments_value, pref_octets, pref_value, originator_value, actions_octets}
use Rattle.fs_attrs.proofs.WrittenAttributes.{actions_value}
use Rattle.fs_actions.{specs.Actions.{are_communities, IsActions, actions_of}, proofs.ReadBack.{read_back as actions_back, whole_joined}}

-- segments

low_numbers : (numbers : List ℕ) → list_all (λ (asn : ℕ). nat_le asn 65535) numbers ≡ true → AllByRecursion (FitsAs false) numbers
low_numbers [] h = tt
low_numbers (asn ∷ numbers) h =
    let parts = and_parts (nat_le asn 65535) (list_all (λ (n : ℕ). nat_le n 65535) numbers) h in
    let first : nat_le asn 65535 ≡ true = parts.0 in
    (grind (arith, nat_tests), low_numbers numbers parts.1)

fits_numbers : (four : Bool) (numbers : List ℕ) → AllByRecursion (λ (asn : ℕ). asn < 2 ^ 32) numbers
    → (four || list_all (λ (asn : ℕ). nat_le asn 65535) numbers) ≡ true
    → AllByRecursion (FitsAs four) numbers
fits_numbers true numbers all h = all
fits_numbers false numbers all h = low_numbers numbers h

or_of_all : (four first rest : Bool) → (four || (first && rest)) ≡ true → ((four || first) ≡ true) × ((four || rest) ≡ true)
or_of_all true first rest h = (refl, refl)
or_of_all false first rest h = and_parts first rest h

highest_form : (external : Bool) (form : ℕ) → nat_le form (if external then 2 else 4) ≡ true → form ≤ 4
highest_form true form h = grind (arith, nat_tests)
highest_form false form h = grind (arith, nat_tests)

fits_segment : (four external : Bool) (given : Segment) → is_written_segment external given ≡ true → AreNumbers given → (four || are_low given) ≡ true
    → FitsSegment four given
fits_segment four external given h numbers kept =
    let last = and_parts ((nat_le 1 (length given.numbers) && nat_le (length given.numbers) 255) && nat_le 1 given.form)
    (nat_le given.form (if external then 2 else 4)) h in
    let middle = and_parts (nat_le 1 (length given.numbers) && nat_le (length given.numbers) 255) (nat_le 1 given.form) last.0 in
    let first = and_parts (nat_le 1 (length given.numbers)) (nat_le (length given.numbers) 255) middle.0 in
    let some : nat_le 1 (length given.numbers) ≡ true = first.0 in
    let lowest : nat_le 1 given.form ≡ true = middle.1 in
    record {
      some = grind (arith, nat_tests);
      lowest = grind (arith, nat_tests);
      highest = highest_form external given.form last.1;
      numbers = fits_numbers four given.numbers (recursion_from_All (λ (asn : ℕ). asn < 2 ^ 32) given.numbers numbers) kept;
    }

pub fit_segments : (four external : Bool) (segments : List Segment) → list_all (is_written_segment external) segments ≡ true
    → AllByRecursion AreNumbers segments
    → (four || list_all are_low segments) ≡ true → AllByRecursion (FitsSegment four) segments
fit_segments four external [] h all kept = tt
fit_segments four external (given ∷ segments) h all kept =
    let parts = and_parts (is_written_segment external given) (list_all (is_written_segment external) segments) h in
    let low = or_of_all four (are_low given) (list_all are_low segments) kept in
    (fits_segment four external given parts.0 all.0 low.0, fit_segments four external segments parts.1 all.1 low.1)

no_confederation : (segments : List Segment) → list_all (is_written_segment true) segments ≡ true → list_any is_confederation segments ≡ false
no_confederation [] h = refl
no_confederation (given ∷ segments) h =
    let parts = and_parts (is_written_segment true given) (list_all (is_written_segment true) segments) h in
    let form : nat_le given.form 2 ≡ true =
    (and_parts ((nat_le 1 (length given.numbers) && nat_le (length given.numbers) 255) && nat_le 1 given.form) (nat_le given.form 2) parts.0).1 in
    let high : nat_le 3 given.form ≡ false = grind (arith, nat_tests) in
    rw (high) (no_confederation segments parts.1)

none_barred : (external : Bool) (segments : List Segment) → list_all (is_written_segment external) segments ≡ true
    → (external && list_any is_confederation segments) ≡ false
none_barred true segments h = no_confederation segments h
none_barred false segments h = refl

-- numbers of four octets

four_back : (number : ℕ) → number < 2 ^ 32 → four_octets (big_bytes 4 number) ≡ Some number
four_back number small =
    let back : big_number 4 (big_bytes 4 number) ≡ number =
    ap (λ (l : List ℕ). big_number 4 l) (sym (append-nil (big_bytes 4 number))) ∙ big_number-reads_back 4 number [] small in
    ap (λ (n : ℕ). Some n) back

number_right : (external : Bool) (number : ℕ) → (not external && not (length (big_bytes 4 number) == 4)) ≡ false
number_right true number = refl
number_right false number = refl

pref_right : (external : Bool) (number : ℕ)
    → option_map_or (λ (value : List ℕ). not external && not (length value == 4)) (pref_octets external number) false ≡ false
pref_right true number = refl
pref_right false number = number_right false number

originator_right : (external : Bool) (id : Option ℕ)
    → option_map_or (λ (value : List ℕ). not external && not (length value == 4)) (option_map (big_bytes 4) id) false ≡ false
originator_right external None = refl
originator_right external (Some id) = number_right external id

pref_back : (external : Bool) (number : ℕ) → number < 2 ^ 32 → (external ≡ true → number ≡ 100)
    → unwrap_or (if external then None else option_and_then four_octets (pref_octets external number)) 100 ≡ number
pref_back true number small same = sym (same refl)
pref_back false number small same = ap (λ (z : Option ℕ). unwrap_or z 100) (four_back number small)

originator_back : (external : Bool) (id : Option ℕ) → IfSome id (λ (n : ℕ). n < 2 ^ 32) → (external ≡ true → id ≡ None)
    → (if external then None else option_and_then four_octets (option_map (big_bytes 4) id)) ≡ id
originator_back true id small same = sym (same refl)
originator_back false None small same = refl
originator_back false (Some id) small same = four_back id small

-- actions

communities_at : (empty : Bool) (actions : List (List ℕ)) → (length actions == 0) ≡ empty → IsActions actions
    → option_map_or (λ (value : List ℕ). not (are_communities value)) (actions_octets empty actions) false ≡ false
communities_at true actions e is = refl
communities_at false actions e is =
    let some : nat_lt 0 (length actions) ≡ true = grind (arith, nat_tests) in
    ap not (whole_joined actions is ∙ some)

actions_at : (empty : Bool) (actions : List (List ℕ)) → (length actions == 0) ≡ empty → IsActions actions
    → actions_of (unwrap_or (actions_octets empty actions) []) ≡ actions
actions_at true actions e is = let none : actions ≡ [] = nil_from_length actions (eqb-true (length actions) 0 e) in sym none
actions_at false actions e is = actions_back actions is

pub actions_read : (terms : Terms) (update : Update) (path : Path) → update.path ≡ Some path → IsActions update.actions
    → actions_of (unwrap_or (value_of 16 (written_attributes terms update)) []) ≡ update.actions
actions_read terms update path there is =
    ap (λ (z : Option (List ℕ)). actions_of (unwrap_or z [])) (actions_value terms update path there)
    ∙ actions_at (length update.actions == 0) update.actions refl is

-- the whole path

none_is : (id : Option ℕ) → is_none id ≡ true → id ≡ None
none_is None h = refl
none_is (Some id) h = cc

-- an external session's path has no preference and no originator of its own
session_own : (terms : Terms) (path : Path) → is_path_of_session terms path ≡ true → terms.external ≡ true → (path.local_pref ≡ 100) × (path.originator ≡ None)
session_own terms path h external =
    let both : ((path.external && (path.local_pref == 100)) && is_none path.originator) ≡ true =
    subst (λ (b : Bool). (if b then (path.external && (path.local_pref == 100)) && is_none path.originator else not path.external) ≡ true) external h in
    let parts = and_parts (path.external && (path.local_pref == 100)) (is_none path.originator) both in
    (eqb-true path.local_pref 100 (and_parts path.external (path.local_pref == 100) parts.0).1, none_is path.originator parts.1)

same_kind : (external own : Bool) (pref none : Bool) → (if external then (own && pref) && none else not own) ≡ true → external ≡ own
same_kind true true pref none h = refl
same_kind true false pref none h = cc
same_kind false true pref none h = cc
same_kind false false pref none h = refl

pub record IsGiven (terms : Terms) (actions : List (List ℕ)) (path : Path) : Type 0 where
  pub session : is_path_of_session terms path ≡ true
  pub origin : nat_le path.origin 2 ≡ true
  pub written : list_all (is_written_segment terms.external) path.segments ≡ true
  pub sound : IsPath actions path
  pub kept : (terms.four || list_all are_low path.segments) ≡ true

pub path_back : (terms : Terms) (update : Update) (path : Path) → update.path ≡ Some path → IsGiven terms update.actions path
    → (path_of terms (values_of (written_attributes terms update)) ≡ path) × (withdraws terms (values_of (written_attributes terms update)) true ≡ false)
path_back terms update path there given =
    let fits = fit_segments terms.four terms.external path.segments given.written (recursion_from_All AreNumbers path.segments given.sound.segments)
    given.kept in
    rw (
      origin_value terms update path there,
      segments_value terms update path there,
      pref_value terms update path there,
      originator_value terms update path there,
      segments_read terms.four path.segments fits,
    ) (
      rw (
        pref_back terms.external path.local_pref given.sound.local_pref (λ e. (session_own terms path given.session e).0),
        originator_back terms.external path.originator given.sound.originator (λ e. (session_own terms path given.session e).1),
        same_kind terms.external path.external (path.local_pref == 100) (is_none path.originator) given.session,
      ) refl,
      rw (
        actions_value terms update path there,
        given.origin,
        segments_whole terms.four path.segments fits,
        none_barred terms.external path.segments given.written,
        pref_right terms.external path.local_pref,
        originator_right terms.external path.originator,
        communities_at (length update.actions == 0) update.actions refl given.sound.actions,
      ) refl,
    )

pub none_given : (terms : Terms) (update : Update) → update.path ≡ None → withdraws terms (values_of (written_attributes terms update)) false ≡ false
none_given terms update none =
    rw (
      none_value 1 terms update none refl refl,
      none_value 2 terms update none refl refl,
      none_value 5 terms update none refl refl,
      none_value 9 terms update none refl refl,
      none_value 16 terms update none refl refl,
    ) refl
