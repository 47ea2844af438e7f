-- How the walk goes on from one matching rule to the next.
use Rattle.cmd_enforce.proofs.Words.{◌≡◌, ◌+◌, ◌<◌, ◌≤◌, ℕ, zero, suc, List, [], ◌∷◌, ◌++◌, Bool, true, false, Option, Some, None, IfSome, Ok, Err}
use Rattle.cmd_enforce.proofs.Words.{if◌then◌else◌, length, drop, get_or, refl, ap, sym, subst, ◌∙◌, arith, append_assoc, append-nil, map-append}
use Rattle.cmd_enforce.proofs.Words.{length-map, StandsForLists, WalksOn, admitted_in, AreMatchesOf, Matching, behind, Walked, entry_of, entries}
use Rattle.cmd_enforce.proofs.Words.{Listed, Held, first_from, goes_on, walk_from, walk_of, line_of, unread_line_of, AdmittedRules, admitted_rules}
use Rattle.cmd_enforce.proofs.Words.{packet_text, rules_for, seen_of, text_by, HasRoom, StandsFor, WalksWith}
use Rattle.fs_base.specs.declared.{prefix.Family.{Family}, link.Link.{Link}}
use Rattle.fs_compile.{specs.{Index.{actions_of}, declared.compiled.Compiled.{Compiled}}, proofs.Walking.{walks_by_next_law}}
use Rattle.fs_packet.specs.{Fields.{Viewed, unread_number}, declared.fields.Unread.{Unread}}

abbrev Walk : Type 0
Walk = List (ℕ × List (List ℕ))

-- So far these were walked, and the rest of the walk is that from a place on.
abbrev pub WalkGoesOn : Viewed → List Listed → ℕ → List Walked → Type 0
WalkGoesOn view list place walked = entries walked ++ walk_from (place + 1) view (drop place list) ≡ walk_of view list

-- a search from a place on finds the first match, which is one of the rules
abbrev pub FindsFrom : ℕ → Viewed → List Listed → Option ℕ → Type 0
FindsFrom from view rules found =
    (found ≡ first_from from view (drop from rules)) × IfSome found (λ place. (from ≤ place) × (place < length rules))

-- behind a rule that was found they are the same matches
pub matches_on : (view : Viewed) (rules : List Listed) (old new : Matching) (n : ℕ) → new ≡ behind (Some n) old → AreMatchesOf view rules old
    → AreMatchesOf view rules new
matches_on view rules old new n e m = subst (AreMatchesOf view rules) (sym e) (record { facts = m.facts; rules_are = m.rules_are })

-- what a search from a place on finds is where the walk goes on
found_on : (view : Viewed) (list : List Listed) (place : ℕ) (found : Option ℕ) → FindsFrom place view list found
    → WalksOn view list found (walk_from (place + 1) view (drop place list))
found_on view list place found f =
    subst (λ (o : Option ℕ). WalksOn view list o (walk_from (place + 1) view (drop place list))) (sym f.0) (walks_by_next_law view list place)

-- no rule is left that matches
pub walk_over : (view : Viewed) (list : List Listed) (place : ℕ) (walked : List Walked)
    → WalkGoesOn view list place walked → FindsFrom place view list None → entries walked ≡ walk_of view list
walk_over view list place walked w f =
    sym (append-nil (entries walked))
    ∙ ap (λ (more : Walk). entries walked ++ more) (sym (found_on view list place None f))
    ∙ w

actions_at : (list : List Listed) (k : ℕ) (a : List (List ℕ)) (r : Listed) → k < length list → get_or (actions_of list) k a ≡ (get_or list k r).actions
actions_at [] k a r l = absurd (omega (arith, l))
actions_at (rule ∷ list) zero a r l = refl
actions_at (rule ∷ list) (suc k) a r l = actions_at list k a r (omega (arith, l))

-- of a list in which something is found
some_rule : (list : List Listed) (found : ℕ) → found < length list → Listed
some_rule [] found l = absurd (omega (arith, l))
some_rule (rule ∷ list) found l = rule

one_more : (view : Viewed) (list : List Listed) (place found : ℕ) (walked : List Walked) (next : Walked) (actions : List (List ℕ)) (rest : Walk)
    → WalkGoesOn view list place walked → walk_from (place + 1) view (drop place list) ≡ (found + 1, actions) ∷ rest
    → entry_of next ≡ (found + 1, actions) → entries (walked ++ next ∷ []) ++ rest ≡ walk_of view list
one_more view list place found walked next actions rest w n e =
    ap (λ (front : Walk). front ++ rest) (map-append entry_of walked (next ∷ []))
    ∙ append_assoc (entries walked) (entry_of next ∷ []) rest
    ∙ ap (λ (entry : ℕ × List (List ℕ)). entries walked ++ entry ∷ rest) e
    ∙ ap (λ (more : Walk). entries walked ++ more) (sym n)
    ∙ w

chosen : {A : Type 0} (b c : Bool) (x y : A) → b ≡ c → (if b then x else y) ≡ (if c then x else y)
chosen b c x y h = ap (λ (t : Bool). if t then x else y) h

-- a rule was found whose terminal bit is set
pub walk_on : (view : Viewed) (list : List Listed) (place found : ℕ) (walked : List Walked) (next : Walked) (actions : List (List (List ℕ))) (a : List (List ℕ))
    → WalkGoesOn view list place walked → FindsFrom place view list (Some found) → actions ≡ actions_of list
    → entry_of next ≡ (found + 1, get_or actions found a) → goes_on (get_or actions found a) ≡ true
    → WalkGoesOn view list (found + 1) (walked ++ next ∷ [])
walk_on view list place found walked next actions a w f same e g =
    let r : Listed = some_rule list found f.1.1 in
    let at : get_or actions found a ≡ (get_or list found r).actions = ap (λ (l : List (List (List ℕ))). get_or l found a) same
    ∙ actions_at list found a r f.1.1 in
    let two : found + 2 ≡ found + 1 + 1 = omega arith in
    one_more view list place found walked next (get_or list found r).actions (walk_from (found + 1 + 1) view (drop (found + 1) list)) w
    (found_on view list place (Some found) f r
    ∙ ap (λ (more : Walk). (found + 1, (get_or list found r).actions) ∷ more)
    (chosen (goes_on (get_or list found r).actions) true _ _ (ap goes_on (sym at) ∙ g)
    ∙ ap (λ (n : ℕ). walk_from n view (drop (found + 1) list)) two))
    (e ∙ ap (λ (x : List (List ℕ)). (found + 1, x)) at)

-- or is clear
pub walk_ends : (view : Viewed) (list : List Listed) (place found : ℕ) (walked : List Walked) (next : Walked) (actions : List (List (List ℕ)))
    (a : List (List ℕ))
    → WalkGoesOn view list place walked → FindsFrom place view list (Some found) → actions ≡ actions_of list
    → entry_of next ≡ (found + 1, get_or actions found a) → goes_on (get_or actions found a) ≡ false
    → entries (walked ++ next ∷ []) ≡ walk_of view list
walk_ends view list place found walked next actions a w f same e g =
    let r : Listed = some_rule list found f.1.1 in
    let at : get_or actions found a ≡ (get_or list found r).actions = ap (λ (l : List (List (List ℕ))). get_or l found a) same
    ∙ actions_at list found a r f.1.1 in
    sym (append-nil (entries (walked ++ next ∷ [])))
    ∙ one_more view list place found walked next (get_or list found r).actions [] w
    (found_on view list place (Some found) f r
    ∙ ap (λ (more : Walk). (found + 1, (get_or list found r).actions) ∷ more)
    (chosen (goes_on (get_or list found r).actions) false _ _ (ap goes_on (sym at) ∙ g)))
    (e ∙ ap (λ (x : List (List ℕ)). (found + 1, x)) at)

-- the place found is one of the actions
pub place_among : (view : Viewed) (list : List Listed) (place found : ℕ) (actions : List (List (List ℕ))) → FindsFrom place view list (Some found)
    → actions ≡ actions_of list → (place ≤ found) × (found < length actions)
place_among view list place found actions f same =
    let size : length actions ≡ length list = ap length same ∙ length-map list (λ (rule : Listed). rule.actions) in
    (f.1.0, omega (arith, size, f.1.1))

-- the rules that a table admits
pub stands_for : (held : Held) (compiled : Compiled) → StandsForLists (admitted_in held) compiled → StandsFor (admitted_rules held) compiled
stands_for held compiled s = record { v4 = s.v4; v6 = s.v6 }

-- the rules of the packet's family
pub walks_with : (view : Viewed) (family : Family) (rules : AdmittedRules) (compiled : Compiled) (actions : List (List (List ℕ)))
    → StandsFor rules compiled → family ≡ view.family
    → actions ≡ actions_of (rules_for family rules) → WalksWith view (rules_for view.family rules) compiled actions
walks_with view family rules compiled actions s e a = record {
  lists = λ family. rules_for family rules;
  stands = s;
  rules_are = refl;
  actions_are = a ∙ ap (λ (f : Family). actions_of (rules_for f rules)) e;
}

-- there is room for them
pub room_for : (family : Family) (rules : AdmittedRules) (compiled : Compiled) (actions : List (List (List ℕ))) (room : ℕ) → StandsFor rules compiled
    → HasRoom compiled room
    → actions ≡ actions_of (rules_for family rules) → length actions ≤ room
room_for family rules compiled actions room s h a =
    let size : length actions ≡ length (rules_for family rules) = ap length a ∙ length-map (rules_for family rules) (λ (rule : Listed). rule.actions) in
    let few : length (rules_for family rules) ≤ room = h (λ family. rules_for family rules) s family in
    omega (arith, size, few)

-- what is left of a bound is left of the whole
pub fewer_steps : (new old ahead behind bound : ℕ) → new + ahead ≤ old + behind → old + behind ≤ bound → new + ahead ≤ bound
fewer_steps new old ahead behind bound a b = omega (arith, a, b)

-- the line of a packet that could be read, by its family
pub packet_line : (number : ℕ) (rules : AdmittedRules) (link : Option Link) (octets : List ℕ) (view : Viewed)
    → seen_of link octets ≡ Ok view → line_of number (walk_of view (rules_for view.family rules)) ≡ packet_text number rules link octets
packet_line number rules link octets view e = sym (ap (text_by number rules) e)

-- and of one that couldn't
pub unread_line : (number : ℕ) (rules : AdmittedRules) (link : Option Link) (octets : List ℕ) (unread : Unread) (reason : ℕ)
    → seen_of link octets ≡ Err unread → reason ≡ unread_number unread → unread_line_of number reason ≡ packet_text number rules link octets
unread_line number rules link octets unread reason e r = ap (unread_line_of number) r ∙ sym (ap (text_by number rules) e)
