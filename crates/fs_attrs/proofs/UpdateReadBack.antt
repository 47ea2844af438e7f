-- The body that is written is read as the update that it was written of.
use Rattle.fs_attrs.proofs.Words.{◌≡◌, ℕ, suc, ◌+◌, ◌<◌, ◌≤◌, ◌==◌, Bool, true, false, not, ◌&&◌, ◌||◌, nat_le, nat_lt, List, [], ◌∷◌, ◌++◌, length}
use Rattle.fs_attrs.proofs.Words.{drop, Option, Some, None, Result, Ok, Err, refl, sym, ap, subst, ◌∙◌, arith, length-append, append_assoc}
use Rattle.fs_attrs.proofs.Words.{option_map, flat_map, IfSome, is_some, AllByRecursion, list_all, recursion_from_All, drop_at, nil_from_length}
use Rattle.fs_attrs.proofs.Words.{and_parts, not-true, eqb-true, nat_tests, big_number, big_bytes, big_number-reads_back, Family, V4, V6, Path}
use Rattle.fs_attrs.proofs.Words.{width_of, afi_of, cleared, Ruled, IsRule, canonical_frame, Frames, canonical_is_frame, Terms, Routes, Unicast, Flow}
use Rattle.fs_attrs.proofs.Words.{Update, UpdateFault, Attribute, body, body_of, value_of, stands_before, routes_doubled, Valued, values_of, Shown}
use Rattle.fs_attrs.proofs.Words.{prefixes_of, withdraws, Wrong, reach_of, unreach_of, routes_of, is_read, unicast_routes, flow_routes, if_there}
use Rattle.fs_attrs.proofs.Words.{both_of, optional_of, has_routes, long_text, prefixes_text, rules_text, attribute_text, hop_of, routes_text}
use Rattle.fs_attrs.proofs.Words.{reach_text, unreach_text, written_attributes, update_text, AreRoutes, IfRoutes, IsPath, IsSound, path_kept}
use Rattle.fs_attrs.proofs.Words.{keeps_numbers, ReadsBack, are_prefixes_of, are_rules_of, are_attribute_routes, if_routes, is_path_of_session}
use Rattle.fs_attrs.proofs.Words.{is_written_path, announces, has_its_path, is_writable, is_written_segment, are_low, IsPrefix}
use Rattle.fs_attrs.proofs.{RuleOctets.{frames_are}, FieldOutcome.{flow_found}, PathReadBack.{IsGiven, path_back, none_given, actions_read}}
use Rattle.fs_attrs.proofs.TextsReadBack.{long_read, attributes_read, IsShown, prefixes_whole, prefixes_read}
use Rattle.fs_attrs.proofs.WrittenAttributes.{reach_value, unreach_value, reach_once, unreach_once}
use Rattle.fs_attrs.specs.{declared.update.UpdateFault.TheVariants.{List as ListFault}, Attributes.{Body}}
use Rattle.fs_attrs.specs.Update.{gives_routes, updated_with, updated, read_body}
use Rattle.std.specs.Prelude.{if◌then◌else◌}
use Rattle.fs_base.{specs.declared.config.Address.{Address}, proofs.Covers.{same_family_of}}

-- the fields

abbrev body_at : List ℕ → List ℕ → Bool → Bool → Valued → Option Body
body_at out announced whole doubled values = option_map (λ values. body out values announced) (if whole && not doubled then Some values else None)

fields_read : (out announced : List ℕ) (list : List Attribute) → length out < 65536 → length (flat_map attribute_text list) < 65536
    → routes_doubled list ≡ false
    → body_of (long_text out ++ (long_text (flat_map attribute_text list) ++ announced)) ≡ Some (body out (values_of list) announced)
fields_read out announced list a b once =
    rw (long_read out (long_text (flat_map attribute_text list) ++ announced) a, long_read (flat_map attribute_text list) announced b)
    (ap (λ (z : List Attribute × List ℕ). body_at out announced (length z.1 == 0) (routes_doubled z.0) (values_of z.0)) (attributes_read list b)
    ∙ ap (λ (doubled : Bool). body_at out announced true doubled (values_of list)) once)

-- families

shown_in : (family : Family) (prefixes : List Shown) → are_prefixes_of family prefixes ≡ true → AllByRecursion IsPrefix prefixes
    → AllByRecursion (IsShown family) prefixes
shown_in family [] h all = tt
shown_in family (prefix ∷ prefixes) h all =
    let parts = and_parts (afi_of prefix.0 == afi_of family) (are_prefixes_of family prefixes) h in
    let same : prefix.0 ≡ family = same_family_of prefix.0 family parts.0 in (
      record {
        same = same;
        short = subst (λ (f : Family). prefix.2 ≤ width_of f) same all.0.short;
        clear = subst (λ (f : Family). prefix.1 ≡ cleared (width_of f) prefix.2 prefix.1) same all.0.clear;
      },
      shown_in family prefixes parts.1 all.1,
    )

frames_of : (family : Family) (rules : List Ruled) → are_rules_of family rules ≡ true → AllByRecursion IsRule rules → Frames family (rules_text rules) rules
frames_of family [] h all = refl
frames_of family (rule ∷ rules) h all =
    let parts = and_parts (afi_of rule.family == afi_of family) (are_rules_of family rules) h in (
      canonical_frame rule,
      rules_text rules,
      refl,
      same_family_of rule.family family parts.0,
      canonical_is_frame rule all.0,
      frames_of family rules parts.1 all.1,
    )

-- the routes of attributes

unicast_back : (prefixes : List Shown) → are_prefixes_of V6 prefixes ≡ true → AllByRecursion IsPrefix prefixes
    → unicast_routes V6 (prefixes_text prefixes) ≡ Ok (Some (Unicast V6 prefixes))
unicast_back prefixes h all =
    let shown = shown_in V6 prefixes h all in
    rw (prefixes_whole V6 prefixes shown, prefixes_read V6 prefixes shown) refl

-- the afi and the safi that are written of routes
abbrev safi_of : Routes → ℕ
safi_of (Unicast family prefixes) = 1
safi_of (Flow family rules) = 133

abbrev afi_at : Routes → ℕ
afi_at (Unicast family prefixes) = afi_of family
afi_at (Flow family rules) = afi_of family

flow_back : (family : Family) (rules : List Ruled) → are_rules_of family rules ≡ true → AllByRecursion IsRule rules
    → flow_routes family (rules_text rules) ≡ Ok (Some (Flow family rules))
flow_back family rules h all = flow_found family (rules_text rules) rules (frames_are rules all) (frames_of family rules h all)

routes_back : (routes : Routes) → are_attribute_routes routes ≡ true → AreRoutes routes
    → routes_of (afi_at routes) (safi_of routes) (routes_text routes) ≡ Ok (Some routes)
routes_back (Unicast V4 prefixes) h all = cc
routes_back (Unicast V6 prefixes) h all =
    unicast_back prefixes (and_parts (not (length prefixes == 0)) (are_prefixes_of V6 prefixes) h).1 (recursion_from_All IsPrefix prefixes all)
routes_back (Flow V4 rules) h all = flow_back V4 rules (and_parts (not (length rules == 0)) (are_rules_of V4 rules) h).1 (recursion_from_All IsRule rules all)
routes_back (Flow V6 rules) h all = flow_back V6 rules (and_parts (not (length rules == 0)) (are_rules_of V6 rules) h).1 (recursion_from_All IsRule rules all)

abbrev head_of : ℕ → ℕ → List ℕ
head_of afi safi = big_bytes 2 afi ++ (safi ∷ [])

unreach_at : (afi safi : ℕ) (routes : List ℕ) → afi < 65536 → unreach_of (head_of afi safi ++ routes) ≡ routes_of afi safi routes
unreach_at afi safi routes small =
    let number : big_number 2 (big_bytes 2 afi ++ (safi ∷ routes)) ≡ afi = big_number-reads_back 2 afi (safi ∷ routes) small in
    let long : nat_lt (length (head_of afi safi ++ routes)) 3 ≡ false = grind (arith, nat_tests) in
    rw (long, number) refl

reach_at : (afi safi : ℕ) (hop routes : List ℕ) → afi < 65536 → is_read afi safi ≡ true
    → reach_of (head_of afi safi ++ ((length hop ∷ hop) ++ (0 ∷ routes))) ≡ routes_of afi safi routes
reach_at afi safi hop routes small read =
    let value : List ℕ = head_of afi safi ++ ((length hop ∷ hop) ++ (0 ∷ routes)) in
    let number : big_number 2 (big_bytes 2 afi ++ (safi ∷ ((length hop ∷ hop) ++ (0 ∷ routes)))) ≡ afi =
    big_number-reads_back 2 afi (safi ∷ ((length hop ∷ hop) ++ (0 ∷ routes))) small in
    let both : length (hop ++ (0 ∷ routes)) ≡ length hop + suc (length routes) = length-append hop (0 ∷ routes) in
    let three : nat_lt (length value) 3 ≡ false = grind (arith, nat_tests) in
    let four : nat_lt (length value) 4 ≡ false = grind (arith, nat_tests) in
    let hops : nat_lt (length value) (5 + length hop) ≡ false = grind (arith, nat_tests) in
    let front : List ℕ = head_of afi safi ++ (length hop ∷ (hop ++ (0 ∷ []))) in
    let joined : value ≡ front ++ routes = ap (λ (z : List ℕ). head_of afi safi ++ (length hop ∷ z)) (sym (append_assoc hop (0 ∷ []) routes)) in
    let ends : length (hop ++ (0 ∷ [])) ≡ length hop + 1 = length-append hop (0 ∷ []) in
    let size : length front ≡ 5 + length hop = omega arith in
    let behind : drop (5 + length hop) value ≡ routes = ap (λ (z : List ℕ). drop (5 + length hop) z) joined ∙ drop_at front routes (5 + length hop) size in
    rw (three, number, read, four, hops, behind) refl

-- what is written of them is read by its family and its hop
routes_text_back : (address : Address) (routes : Routes) → are_attribute_routes routes ≡ true → AreRoutes routes
    → (reach_of (reach_text address routes) ≡ Ok (Some routes)) × (unreach_of (unreach_text routes) ≡ Ok (Some routes))
routes_text_back address (Unicast V4 prefixes) h all = cc
routes_text_back address (Unicast V6 prefixes) h all =
    let back = routes_back (Unicast V6 prefixes) h all in (
      reach_at 2 1 (hop_of address (Unicast V6 prefixes)) (prefixes_text prefixes) (omega arith) refl
          ∙ back,
      unreach_at 2 1 (prefixes_text prefixes) (omega arith) ∙ back,
    )
routes_text_back address (Flow V4 rules) h all =
    let back = routes_back (Flow V4 rules) h all in
    (reach_at 1 133 [] (rules_text rules) (omega arith) refl ∙ back, unreach_at 1 133 (rules_text rules) (omega arith) ∙ back)
routes_text_back address (Flow V6 rules) h all =
    let back = routes_back (Flow V6 rules) h all in
    (reach_at 2 133 [] (rules_text rules) (omega arith) refl ∙ back, unreach_at 2 133 (rules_text rules) (omega arith) ∙ back)

reach_there : (address : Address) (reach : Option Routes) → if_routes reach ≡ true → IfRoutes reach
    → if_there reach_of (option_map (reach_text address) reach) ≡ Ok reach
reach_there address None h all = refl
reach_there address (Some routes) h all = (routes_text_back address routes h all).0

unreach_there : (address : Address) (unreach : Option Routes) → if_routes unreach ≡ true → IfRoutes unreach
    → if_there unreach_of (option_map unreach_text unreach) ≡ Ok unreach
unreach_there address None h all = refl
unreach_there address (Some routes) h all = (routes_text_back address routes h all).1

both_ok : (reach unreach : Option Routes) (first : Bool) → both_of (Ok reach) (Ok unreach) first ≡ Ok (reach, unreach)
both_ok reach unreach true = refl
both_ok reach unreach false = refl

optional_read : (terms : Terms) (update : Update) → if_routes update.reach ≡ true → if_routes update.unreach ≡ true → IsSound update
    → optional_of (values_of (written_attributes terms update)) ≡ Ok (update.reach, update.unreach)
optional_read terms update r u sound =
    let attributes : List Attribute = written_attributes terms update in
    let first : Bool = stands_before 15 14 attributes in
    let reach : if_there reach_of (value_of 14 attributes) ≡ Ok update.reach =
    ap (λ (z : Option (List ℕ)). if_there reach_of z) (reach_value terms update) ∙ reach_there terms.address update.reach r sound.reach in
    let unreach : if_there unreach_of (value_of 15 attributes) ≡ Ok update.unreach =
    ap (λ (z : Option (List ℕ)). if_there unreach_of z) (unreach_value terms update) ∙ unreach_there terms.address update.unreach u sound.unreach in
    ap (λ (z : Result (Option Routes) Wrong). both_of z (if_there unreach_of (value_of 15 attributes)) first) reach
    ∙ ap (λ (z : Result (Option Routes) Wrong). both_of (Ok update.reach) z first) unreach
    ∙ both_ok update.reach update.unreach first

routes_given : (reach : Option Routes) → if_routes reach ≡ true → has_routes reach ≡ is_some reach
routes_given None h = refl
routes_given (Some (Unicast V4 prefixes)) h = cc
routes_given (Some (Unicast V6 prefixes)) h = (and_parts (not (length prefixes == 0)) (are_prefixes_of V6 prefixes) h).0
routes_given (Some (Flow family rules)) h = (and_parts (not (length rules == 0)) (are_rules_of family rules) h).0

-- the update

same_update : (update : Update) (out announced : List Shown) (unreach reach : Option Routes) (path : Option Path) (actions : List (List ℕ)) (withdrawn : Bool)
    → out ≡ update.classic_out → unreach ≡ update.unreach → reach ≡ update.reach → announced ≡ update.classic_in → path ≡ update.path
    → actions ≡ update.actions → withdrawn ≡ update.as_withdraw
    → record { classic_out = out; unreach = unreach; reach = reach; classic_in = announced; path = path; actions = actions; as_withdraw = withdrawn } ≡ update
same_update update out announced unreach reach path actions withdrawn a b c d e f g = rw (a, b, c, d, e, f, g) refl

abbrev fields : Terms → Update → Body
fields terms update = body (prefixes_text update.classic_out) (values_of (written_attributes terms update)) (prefixes_text update.classic_in)

-- the parts of the test
pub record IsWritten (terms : Terms) (update : Update) : Type 0 where
  pub plain : update.as_withdraw ≡ false
  pub out : are_prefixes_of V4 update.classic_out ≡ true
  pub announced : are_prefixes_of V4 update.classic_in ≡ true
  pub reach : if_routes update.reach ≡ true
  pub unreach : if_routes update.unreach ≡ true
  pub path : has_its_path terms update update.path ≡ true

pub written_parts : (terms : Terms) (update : Update) → is_writable terms update ≡ true → IsWritten terms update
written_parts terms update h =
    let plain : Bool = not update.as_withdraw in
    let out : Bool = are_prefixes_of V4 update.classic_out in
    let announced : Bool = are_prefixes_of V4 update.classic_in in
    let reach : Bool = if_routes update.reach in
    let unreach : Bool = if_routes update.unreach in
    let five = and_parts ((((plain && out) && announced) && reach) && unreach) (has_its_path terms update update.path) h in
    let four = and_parts (((plain && out) && announced) && reach) unreach five.0 in
    let three = and_parts ((plain && out) && announced) reach four.0 in
    let two = and_parts (plain && out) announced three.0 in
    let one = and_parts plain out two.0 in
    record { plain = not-true update.as_withdraw one.0; out = one.1; announced = two.1; reach = three.1; unreach = four.1; path = five.1 }

routes_once : (terms : Terms) (update : Update) → routes_doubled (written_attributes terms update) ≡ false
routes_once terms update = rw (reach_once terms update, unreach_once terms update) refl

body_read : (terms : Terms) (update : Update) → IsWritten terms update → IsSound update
    → read_body terms (fields terms update) ≡ Ok (updated terms (fields terms update) (update.reach, update.unreach))
body_read terms update is sound =
    rw (
      prefixes_whole V4 update.classic_out (shown_in V4 update.classic_out is.out (recursion_from_All IsPrefix update.classic_out sound.classic_out)),
      prefixes_whole V4 update.classic_in (shown_in V4 update.classic_in is.announced (recursion_from_All IsPrefix update.classic_in sound.classic_in)),
      optional_read terms update is.reach is.unreach sound,
    ) refl

gives_is : (terms : Terms) (update : Update) → IsWritten terms update → IsSound update → gives_routes (fields terms update) update.reach ≡ announces update
gives_is terms update is sound =
    rw (
      routes_given update.reach is.reach,
      prefixes_read V4 update.classic_in
          (shown_in V4 update.classic_in is.announced (recursion_from_All IsPrefix update.classic_in sound.classic_in)),
    ) refl

abbrev updated_at : Terms → Update → Bool → Bool → Update
updated_at terms update gives withdrawn = updated_with terms (fields terms update) (update.reach, update.unreach) gives withdrawn

out_read : (terms : Terms) (update : Update) → IsWritten terms update → IsSound update → prefixes_of V4 (prefixes_text update.classic_out) ≡ update.classic_out
out_read terms update is sound =
    prefixes_read V4 update.classic_out (shown_in V4 update.classic_out is.out (recursion_from_All IsPrefix update.classic_out sound.classic_out))

announced_read : (terms : Terms) (update : Update) → IsWritten terms update → IsSound update
    → prefixes_of V4 (prefixes_text update.classic_in) ≡ update.classic_in
announced_read terms update is sound =
    prefixes_read V4 update.classic_in (shown_in V4 update.classic_in is.announced (recursion_from_All IsPrefix update.classic_in sound.classic_in))

given_of : (terms : Terms) (actions : List (List ℕ)) (path : Path) → is_written_path terms path ≡ true → IsPath actions path
    → (terms.four || list_all are_low path.segments) ≡ true
    → IsGiven terms actions path
given_of terms actions path h sound kept =
    let last = and_parts (is_path_of_session terms path && nat_le path.origin 2) (list_all (is_written_segment terms.external) path.segments) h in
    let first = and_parts (is_path_of_session terms path) (nat_le path.origin 2) last.0 in
    record { session = first.0; origin = first.1; written = last.1; sound = sound; kept = kept }

with_path : (terms : Terms) (update : Update) (path : Path) → update.path ≡ Some path → IsWritten terms update → IsSound update
    → keeps_numbers terms update ≡ true
    → updated_at terms update (announces update) (withdraws terms (values_of (written_attributes terms update)) (announces update)) ≡ update
with_path terms update path there is sound kept =
    let parts = and_parts (announces update) (is_written_path terms path) (subst (λ (z : Option Path). has_its_path terms update z ≡ true) there is.path) in
    let given = given_of terms update.actions path parts.1 (subst (λ (z : Option Path). IfSome z (IsPath update.actions)) there sound.path)
    (subst (λ (z : Option Path). (terms.four || path_kept z) ≡ true) there kept) in
    let back = path_back terms update path there given in
    ap (λ (g : Bool). updated_at terms update g (withdraws terms (values_of (written_attributes terms update)) g)) parts.0
    ∙ ap (λ (w : Bool). updated_at terms update true w) back.1
    ∙ same_update update _ _ update.unreach update.reach _ _ false (out_read terms update is sound) refl refl (announced_read terms update is sound)
    (ap (λ (p : Path). Some p) back.0 ∙ sym there) (actions_read terms update path there given.sound.actions) (sym is.plain)

without_path : (terms : Terms) (update : Update) → update.path ≡ None → IsWritten terms update → IsSound update
    → updated_at terms update (announces update) (withdraws terms (values_of (written_attributes terms update)) (announces update)) ≡ update
without_path terms update none is sound =
    let parts = and_parts (not (announces update)) (length update.actions == 0)
    (subst (λ (z : Option Path). has_its_path terms update z ≡ true) none is.path) in
    let empty : update.actions ≡ [] = nil_from_length update.actions (eqb-true (length update.actions) 0 parts.1) in
    ap (λ (g : Bool). updated_at terms update g (withdraws terms (values_of (written_attributes terms update)) g)) (not-true (announces update) parts.0)
    ∙ ap (λ (w : Bool). updated_at terms update false w) (none_given terms update none)
    ∙ same_update update _ _ update.unreach update.reach None [] false (out_read terms update is sound) refl refl (announced_read terms update is sound)
    (sym none) (sym empty) (sym is.plain)

by_path : (terms : Terms) (update : Update) (path : Option Path) → update.path ≡ path → IsWritten terms update → IsSound update
    → keeps_numbers terms update ≡ true
    → updated_at terms update (announces update) (withdraws terms (values_of (written_attributes terms update)) (announces update)) ≡ update
by_path terms update None there is sound kept = without_path terms update there is sound
by_path terms update (Some path) there is sound kept = with_path terms update path there is sound kept

updated_is : (terms : Terms) (update : Update) → IsWritten terms update → IsSound update → keeps_numbers terms update ≡ true
    → updated terms (fields terms update) (update.reach, update.unreach) ≡ update
updated_is terms update is sound kept =
    ap (λ (g : Bool). updated_at terms update g (withdraws terms (values_of (written_attributes terms update)) g)) (gives_is terms update is sound)
    ∙ by_path terms update update.path refl is sound kept

abbrev body_result : Terms → Option Body → Result Update UpdateFault
body_result terms found = elim found [ None ↦ Err ListFault | Some fields ↦ read_body terms fields ]

pub read_back : (terms : Terms) (update : Update) → is_writable terms update ≡ true → IsSound update → 19 + length (update_text terms update) ≤ 4096
    → ReadsBack terms update
read_back terms update h sound small kept =
    let is = written_parts terms update h in
    let out : List ℕ = prefixes_text update.classic_out in
    let list : List ℕ = flat_map attribute_text (written_attributes terms update) in
    let announced : List ℕ = prefixes_text update.classic_in in
    let a : length (long_text out ++ (long_text list ++ announced)) ≡ length (long_text out) + length (long_text list ++ announced) =
    length-append (long_text out) (long_text list ++ announced) in
    let b : length (long_text list ++ announced) ≡ length (long_text list) + length announced = length-append (long_text list) announced in
    let c : length (long_text out) ≡ length (big_bytes 2 (length out)) + length out = length-append (big_bytes 2 (length out)) out in
    let d : length (long_text list) ≡ length (big_bytes 2 (length list)) + length list = length-append (big_bytes 2 (length list)) list in
    ap (body_result terms) (fields_read out announced (written_attributes terms update) (omega arith) (omega arith) (routes_once terms update))
    ∙ body_read terms update is sound
    ∙ ap (λ (u : Update). Ok u) (updated_is terms update is sound kept)
