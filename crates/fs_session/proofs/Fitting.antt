-- How long the UPDATE of a rule is. With AS numbers of two octets it is no longer than with four.
use Rattle.fs_session.proofs.Words.{◌≡◌, ℕ, ◌+◌, ◌*◌, ◌≤◌, ◌==◌, Bool, true, false, ◌&&◌, nat_le, nat_lt, List, [], ◌∷◌, ◌++◌, ◌∙◌, ap, length}
use Rattle.fs_session.proofs.Words.{Result, refl, subst, arith, if◌then◌else◌, append-nil, length-append, IsTrue, bit_or, flat_map, list_all, nat_tests}
use Rattle.fs_session.proofs.Words.{leb-true, big_bytes, AllByRecursion, Config, Peer, Terms, Update, as_text, as_width, segments_text, segment}
use Rattle.fs_session.proofs.Words.{attribute_text, long_text, flags_of, Writes, update_text, local_pref_in, actions_in, reach_text, Sent, Sending}
use Rattle.fs_session.proofs.Words.{attribute_size, path_size, segments_sent, update_by, body_by, is_short, is_sending, terms_of}
use Rattle.fs_base.proofs.Bools.{and_both, and_parts}
use Rattle.fs_nlri.specs.Rule.{canonical_frame}
use Rattle.fs_actions.specs.{Actions.{IsActions}, Community.{IsAction}}
use Rattle.fs_attrs.specs.{declared.update.{WriteFault.{WriteFault}, Routes.TheVariants.{Flow}}, Attributes.{attribute}}
use Rattle.std.specs.List.{concat}

numbers_long : (four : Bool) (numbers : List ℕ) → length (flat_map (as_text four) numbers) ≡ as_width four * length numbers
numbers_long true [] = refl
numbers_long false [] = refl
numbers_long true (asn ∷ numbers) = omega (arith, numbers_long true numbers, length-append (as_text true asn) (flat_map (as_text true) numbers))
numbers_long false (asn ∷ numbers) = omega (arith, numbers_long false numbers, length-append (as_text false asn) (flat_map (as_text false) numbers))

path_long : (four : Bool) (numbers : List ℕ) → length (segments_text four (segments_sent numbers)) ≡ path_size four (length numbers)
path_long four numbers = at (length numbers == 0)
  where
    at : (none : Bool) → length (segments_text four (if none then [] else segment 2 numbers ∷ []))
        ≡ (if none then 0 else 2 + as_width four * length numbers)
    at true = refl
    at false = omega (arith, length-append (2 ∷ length numbers ∷ flat_map (as_text four) numbers) [], numbers_long four numbers)

attribute_long : (kind : ℕ) (value : List ℕ) → length (attribute_text (attribute kind value)) ≡ attribute_size (length value)
attribute_long kind value = at (nat_lt 255 (length value))
  where
    at : (wide : Bool) → length (if wide then bit_or (flags_of kind) 16 ∷ kind ∷ long_text value else flags_of kind ∷ kind ∷ length value ∷ value)
        ≡ (if wide then 4 + length value else 3 + length value)
    at true = omega (arith, length-append (big_bytes 2 (length value)) value)
    at false = omega arith

concat_long : (actions : List (List ℕ)) → AllByRecursion IsAction actions → length (concat actions) ≡ 8 * length actions
concat_long [] each = refl
concat_long (action ∷ actions) each = omega (arith, length-append action (concat actions), each.0.eight, concat_long actions each.1)

-- the attribute of actions
pub actions_long : (actions : List (List ℕ)) (none : Bool) → IsActions actions → (length actions == 0) ≡ none
    → length (flat_map attribute_text (actions_in actions)) ≡ (if none then 0 else attribute_size (8 * length actions))
actions_long actions none is e =
    ap (λ (b : Bool). length (flat_map attribute_text (if b then [] else attribute 16 (concat actions) ∷ []))) e ∙ at none
  where
    at : (b : Bool) → length (flat_map attribute_text (if b then [] else attribute 16 (concat actions) ∷ []))
        ≡ (if b then 0 else attribute_size (8 * length actions))
    at true = refl
    at false =
        ap length (append-nil (attribute_text (attribute 16 (concat actions)))) ∙ attribute_long 16 (concat actions)
        ∙ ap attribute_size (concat_long actions is.each)

-- The body of a rule's UPDATE, by the octets of its frame, the count of its AS numbers, and the octets of its actions.
abbrev pub body_size : Terms → ℕ → ℕ → ℕ → ℕ
body_size terms frame count actions =
    8 + (attribute_size (5 + frame) + (attribute_size (path_size terms.four count) + ((if terms.external then 0 else 7) + actions)))

pub body_long : (terms : Terms) (numbers : List ℕ) (sent : Sent) → length (body_by terms numbers sent)
    ≡ body_size terms (length (canonical_frame sent.rule)) (length numbers) (length (flat_map attribute_text (actions_in sent.actions)))
unfolding body_by
body_long terms numbers sent =
    let value : List ℕ = reach_text terms.address (Flow sent.rule.family (sent.rule ∷ [])) in
    let path : List ℕ = segments_text terms.four (segments_sent numbers) in
    let reach : List ℕ = attribute_text (attribute 14 value) in
    let origin : List ℕ = attribute_text (attribute 1 (0 ∷ [])) in
    let own : List ℕ = attribute_text (attribute 2 path) in
    let actions : List ℕ = flat_map attribute_text (actions_in sent.actions) in
    let rest : List ℕ = flat_map attribute_text (local_pref_in terms 100 ++ ([] ++ actions_in sent.actions)) in
    let valued : length value ≡ 5 + length (canonical_frame sent.rule) =
    omega (arith, length-append (canonical_frame sent.rule) []) in
    let reached : length reach ≡ attribute_size (5 + length (canonical_frame sent.rule)) = attribute_long 14 value ∙ ap attribute_size valued in
    let owned : length own ≡ attribute_size (path_size terms.four (length numbers)) =
    attribute_long 2 path ∙ ap attribute_size (path_long terms.four numbers) in
    let all : List ℕ = reach ++ (origin ++ (own ++ rest)) in
    omega (
      arith,
      reached,
      owned,
      rests terms.external,
      length-append reach (origin ++ (own ++ rest)),
      length-append own rest,
      length-append (long_text []) (long_text all ++ []),
      length-append (long_text all) [],
      length-append (big_bytes 2 (length all)) all,
    )
  where
    rests : (external : Bool)
        → length (flat_map attribute_text ((if external then [] else attribute 5 (big_bytes 4 100) ∷ []) ++ ([] ++ actions_in sent.actions)))
        ≡ (if external then 0 else 7) + length (flat_map attribute_text (actions_in sent.actions))
    rests true = omega arith
    rests false = omega (arith, length-append (attribute_text (attribute 5 (big_bytes 4 100))) (flat_map attribute_text (actions_in sent.actions)))

grows : (m n : ℕ) → m ≤ n → attribute_size m ≤ attribute_size n
grows m n h = at (nat_lt 255 m) (nat_lt 255 n) refl refl
  where
    at : (a b : Bool) → nat_lt 255 m ≡ a → nat_lt 255 n ≡ b → (if a then 4 + m else 3 + m) ≤ (if b then 4 + n else 3 + n)
    at true true p q = omega (arith, h)
    at true false p q = absurd (grind (arith, nat_tests))
    at false true p q = omega (arith, h)
    at false false p q = omega (arith, h)

path_shorter : (count : ℕ) → path_size false count ≤ path_size true count
path_shorter count = at (count == 0)
  where
    at : (none : Bool) → (if none then 0 else 2 + 2 * count) ≤ (if none then 0 else 2 + 4 * count)
    at true = omega arith
    at false = omega arith

body_shorter : (config : Config) (peer : Peer) (numbers : List ℕ) (sent : Sent)
    → length (body_by (terms_of config peer false) numbers sent) ≤ length (body_by (terms_of config peer true) numbers sent)
body_shorter config peer numbers sent =
    let less = grows (path_size false (length numbers)) (path_size true (length numbers)) (path_shorter (length numbers)) in
    omega (arith, less, body_long (terms_of config peer false) numbers sent, body_long (terms_of config peer true) numbers sent)

below : (m n k : ℕ) → m ≤ n → nat_le (19 + n) k ≡ true → nat_le (19 + m) k ≡ true
below m n k less h = grind (arith, nat_tests)

short_by : (config : Config) (peer : Peer) (numbers : List ℕ) (four : Bool) (rules : List Sent)
    → list_all (is_short (terms_of config peer true) numbers) rules ≡ true
    → list_all (is_short (terms_of config peer four) numbers) rules ≡ true
short_by config peer numbers true rules h = h
short_by config peer numbers false [] h = refl
short_by config peer numbers false (sent ∷ rules) h =
    let t = and_parts (is_short (terms_of config peer true) numbers sent) (list_all (is_short (terms_of config peer true) numbers) rules) h in
    and_both (is_short (terms_of config peer false) numbers sent) (list_all (is_short (terms_of config peer false) numbers) rules)
    (below (length (body_by (terms_of config peer false) numbers sent)) (length (body_by (terms_of config peer true) numbers sent)) 4096
    (body_shorter config peer numbers sent) t.0)
    (short_by config peer numbers false rules t.1)

-- each rule's UPDATE fits, however many octets an AS number has
pub all_short : (config : Config) (peer : Peer) (sending : Sending) (four : Bool) → IsTrue (is_sending config peer sending)
    → (length sending.as_path ≤ 255) × (list_all (is_short (terms_of config peer four) sending.as_path) sending.rules ≡ true)
all_short config peer sending four h =
    let few : Bool = nat_le (length sending.as_path) 255 in
    let some : Bool = list_all (λ asn. nat_lt 0 asn) sending.as_path in
    let fit : Bool = list_all (is_short (terms_of config peer true) sending.as_path) sending.rules in
    let t = and_parts (few && some) fit h in
    (leb-true (length sending.as_path) 255 (and_parts few some t.0).0, short_by config peer sending.as_path four sending.rules t.1)

-- what is written of an update that is a rule's
pub body_written : (result : Result (Unit {0}) WriteFault) (terms : Terms) (numbers : List ℕ) (sent : Sent) (update : Update) (out out' : List ℕ)
    → update ≡ update_by terms numbers sent → Writes result (update_text terms update) out out' → Writes result (body_by terms numbers sent) out out'
unfolding body_by
body_written result terms numbers sent update out out' e w = subst (λ (u : Update). Writes result (update_text terms u) out out') e w
