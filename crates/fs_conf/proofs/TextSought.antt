-- What a text says in a rules file, found among all rules and actions that octets can say.
use Rattle.fs_conf.proofs.Words.{◌≡◌, ℕ, ◌+◌, ◌*◌, ◌≤◌, true, false, List, [], ◌∷◌, ◌++◌, map, length, Option, Some, None, Result, Ok, Err, refl, sym}
use Rattle.fs_conf.proofs.Words.{ap, ◌∙◌, subst, arith, append-nil, option_and_then, AllByRecursion, concat, bytes_eq, length-append, take_all}
use Rattle.fs_conf.proofs.Words.{bytes_eq-Decides, each_append, each_mapped, each_weaker, octets_of_each, IsOctets, Family, Reason, IsFieldOutcome}
use Rattle.fs_conf.proofs.Words.{Ruled, IsRule, canonical_frame, IsFrame, IsTheOutcome, rules_of, AreActions, ReadsAs, Sent, actions_among, if_ok}
use Rattle.fs_conf.proofs.Words.{listed_actions, only, rule_of, rules_among, sent_of_text, sents_among, has_text, octet_lists, sent, each_length}
use Rattle.fs_conf.proofs.{CanonicalFrame.{frame_short}, Found.{found_in}, ListedActions.{listed_are, listed_back}, OneRule.{one_frame}}
use Rattle.fs_conf.proofs.Sought.{AreBelow, IsIn, all_filter, all_flat, all_lists, in_filter, in_flat, in_left, in_lists, in_map, in_right, none_in}
use Rattle.fs_conf.specs.WordedLaw.{IsTextOf, SaysItsOwn}
use Rattle.fs_base.specs.declared.prefix.Family.TheVariants.{V4, V6}
use Rattle.fs_nlri.proofs.Again.{canonical_is_frame, frame_is_rule}
use Rattle.fs_text.specs.Laws.{EachHasOnePair}
use Rattle.fs_text.specs.declared.fault.TextFault.{TextFault, TheVariants.{Bad, TooLong, Memory}}
use Rattle.fs_text.specs.Printed.{action_words, component_words, family_word, spaced, text_of, then_words}
use Rattle.fs_text.proofs.Spaces.{join_spaced}
use Rattle.fs_attrs.proofs.RuleOctets.{frame_are}

-- the octets of a frame say a rule, and those of each rule say it

single_rule : (family : Family) (octets : List ℕ) (rule : Ruled) (found : Result (List Ruled) (Reason × ℕ)) → IsOctets octets
    → IsFieldOutcome family octets found
    → option_and_then only (if_ok found) ≡ Some rule → IsRule rule
single_rule family octets rule (Err bad) small h is = absurd cc
single_rule family octets rule (Ok []) small h is = absurd cc
single_rule family octets rule (Ok (one ∷ other ∷ rest)) small h is = absurd cc
single_rule family octets rule (Ok (one ∷ [])) small h is =
    let same : one ≡ rule = cc in
    let whole : octets ≡ h.0 = h.2 ∙ ap (λ (z : List ℕ). h.0 ++ z) h.5 ∙ append-nil h.0 in
    subst IsRule same (frame_is_rule octets one small (subst (λ (z : List ℕ). IsFrame z one) (sym whole) h.4))

pub rule_is : IsTheOutcome → (family : Family) (octets : List ℕ) (rule : Ruled) → IsOctets octets → rule_of family octets ≡ Some rule → IsRule rule
rule_is law family octets rule small is = single_rule family octets rule (rules_of family octets) small (law family octets) is

rule_back : IsTheOutcome → (rule : Ruled) → IsRule rule → rule_of rule.family (canonical_frame rule) ≡ Some rule
rule_back law rule is =
    let frame : List ℕ = canonical_frame rule in
    one_frame law rule.family frame (frame_are rule is) rule (length frame) refl refl
    (subst (λ (z : List ℕ). IsFrame z rule) (sym (take_all (length frame) frame (omega arith))) (canonical_is_frame rule is))

-- a text has at least as many octets as actions

spaced_long : (words : List (List ℕ)) → length words ≤ length (spaced words)
spaced_long [] = omega arith
spaced_long (word ∷ words) = omega (arith, spaced_long words, length-append word (spaced words))

action_count : (actions : List (List ℕ)) → length actions ≤ length (action_words actions)
action_count [] = omega arith
action_count (action ∷ actions) = omega (arith, action_count actions)

then_count : (actions : List (List ℕ)) → length actions ≤ length (then_words actions)
then_count [] = omega arith
then_count (action ∷ actions) = omega (arith, action_count (action ∷ actions))

text_long : (rule : Ruled) (actions : List (List ℕ)) → length actions ≤ length (text_of rule actions)
text_long rule actions =
    let behind : List (List ℕ) = component_words rule.parts ++ then_words actions in
    let told : length (text_of rule actions) ≡ length (family_word rule.family) + length (spaced behind) =
    ap length (join_spaced (family_word rule.family) behind) ∙ length-append (family_word rule.family) (spaced behind) in
    let count : length behind ≡ length (component_words rule.parts) + length (then_words actions) =
    length-append (component_words rule.parts) (then_words actions) in
    omega (arith, told, count, spaced_long behind, then_count actions)

-- among what is sought

family_in : IsTheOutcome → (rule : Ruled) → IsRule rule → IsIn rule (rules_among rule.family)
family_in law rule is =
    in_filter (rule_of rule.family) (canonical_frame rule) rule (octet_lists 4097)
    (in_lists 256 4097 (canonical_frame rule) (frame_short rule is) (frame_are rule is))
    (rule_back law rule is)

rule_in : (rule : Ruled) (family : Family) → rule.family ≡ family → IsIn rule (rules_among rule.family) → IsIn rule (rules_among V4 ++ rules_among V6)
rule_in rule V4 is there = in_left rule (rules_among V4) (rules_among V6) (subst (λ (family : Family). IsIn rule (rules_among family)) is there)
rule_in rule V6 is there = in_right rule (rules_among V4) (rules_among V6) (subst (λ (family : Family). IsIn rule (rules_among family)) is there)

actions_in : (most : ℕ) (actions : List (List ℕ)) → AreActions actions → 8 * length actions ≤ most → IsIn actions (actions_among most)
actions_in most actions are within =
    let size : length (concat actions) ≡ 8 * length actions = each_length actions are.rising.each in
    in_filter listed_actions (concat actions) actions (octet_lists most)
    (in_lists 256 most (concat actions) (omega (arith, size, within)) (octets_of_each actions are.octets))
    (listed_back actions are)

sent_in : IsTheOutcome → (text : List ℕ) (given : Sent) → IsTextOf text given → IsIn given (sents_among (8 * length text))
sent_in law text given is =
    let most : ℕ = 8 * length text in
    let long : length given.actions ≤ length text =
    subst (λ (t : List ℕ). length given.actions ≤ length t) (sym is.text_is) (text_long given.rule given.actions) in
    in_flat (λ (rule : Ruled). map (sent rule) (actions_among (8 * length text))) given.rule given (rules_among V4 ++ rules_among V6)
    (rule_in given.rule given.rule.family refl (family_in law given.rule is.rule))
    (in_map (sent given.rule) given.actions (actions_among (8 * length text)) (actions_in (8 * length text) given.actions is.actions (omega (arith, long))))

-- all that is sought are rules with actions

pub record IsPair (given : Sent) : Type 0 where
  pub rule : IsRule given.rule
  pub actions : AreActions given.actions

rules_are : IsTheOutcome → (family : Family) → AllByRecursion IsRule (rules_among family)
rules_are law family =
    all_filter (AreBelow 256) IsRule (rule_of family) (octet_lists 4097) (λ octets rule small is. rule_is law family octets rule small is) (all_lists 256 4097)

actions_are : (most : ℕ) → AllByRecursion AreActions (actions_among most)
actions_are most = all_filter (AreBelow 256) AreActions listed_actions (octet_lists most)
    (λ octets actions small is. listed_are octets actions small is) (all_lists 256 most)

pairs_are : IsTheOutcome → (most : ℕ) → AllByRecursion IsPair (sents_among most)
pairs_are law most =
    all_flat IsRule IsPair (λ (rule : Ruled). map (sent rule) (actions_among most)) (rules_among V4 ++ rules_among V6)
    (λ rule is.
    each_mapped (sent rule) IsPair (actions_among most)
    (each_weaker AreActions (λ (actions : List (List ℕ)). IsPair (sent rule actions)) (λ actions are. record { rule = is; actions = are })
    (actions_among most) (actions_are most)))
    (each_append IsRule (rules_among V4) (rules_among V6) (rules_are law V4) (rules_are law V6))

-- what is found

told_same : (one other : List ℕ) → bytes_eq one other ≡ true → one ≡ other
told_same one other e = (bytes_eq-Decides one other).0 e

pub text_found : IsTheOutcome → (text : List ℕ) (given : Sent) → sent_of_text text ≡ Some given → IsTextOf text given
unfolding sent_of_text
text_found law text given is =
    let found = found_in IsPair (has_text text) (sents_among (8 * length text)) given (pairs_are law (8 * length text)) is in
    record { rule = found.0.rule; actions = found.0.actions; text_is = sym (told_same (text_of given.rule given.actions) text found.1) }

text_none : IsTheOutcome → (text : List ℕ) → sent_of_text text ≡ None → (given : Sent) → IsTextOf text given → ⊥
unfolding sent_of_text
text_none law text none given is =
    let differs : has_text text given ≡ false = none_in (has_text text) (sents_among (8 * length text)) given none (sent_in law text given is) in
    let same : has_text text given ≡ true = told_other (text_of given.rule given.actions) text (sym is.text_is) in
    absurd cc
  where
    told_other : (one other : List ℕ) → one ≡ other → bytes_eq one other ≡ true
    told_other one other e = (bytes_eq-Decides one other).1 e

-- no other has the text

pub says_its_own : IsTheOutcome → EachHasOnePair → SaysItsOwn
says_its_own law one text given = (text_found law text given, λ is. by is (sent_of_text text) refl)
  where
    by : IsTextOf text given → (found : Option Sent) → sent_of_text text ≡ found → found ≡ Some given
    by is None e = absurd (text_none law text e given is)
    by is (Some other) e =
        let own : IsTextOf text other = text_found law text other e in
        let same = one other.rule given.rule other.actions given.actions own.rule own.actions is.rule is.actions (sym own.text_is ∙ is.text_is) in
        ap (λ (rule : Ruled). let made : Option Sent = Some (sent rule other.actions) in made) same.0
        ∙ ap (λ (actions : List (List ℕ)). let made : Option Sent = Some (sent given.rule actions) in made) same.1

-- what is answered of a text that is that of no rule and actions

nothing_found : SaysItsOwn → (text : List ℕ) → ((other : Sent) → IsTextOf text other → ⊥) → sent_of_text text ≡ None
nothing_found law text none = by (sent_of_text text) refl
  where
    by : (found : Option Sent) → sent_of_text text ≡ found → found ≡ None
    by None e = refl
    by (Some other) e = absurd (none other ((law text other).0 e))

never_read : (fault : TextFault) (rule : Ruled) (actions : List (List ℕ)) → (fault ≡ Memory → ⊥) → ReadsAs rule actions (Err fault) → ⊥
never_read Memory rule actions other reads = other refl
never_read (Bad place) rule actions other reads = reads
never_read TooLong rule actions other reads = reads

-- what is answered of a text of nothing, but for want of memory
pub unread : SaysItsOwn → (text : List ℕ) (fault : TextFault) → (fault ≡ Memory → ⊥)
    → ((rule : Ruled) (actions : List (List ℕ)) → IsRule rule → AreActions actions → text ≡ text_of rule actions → ReadsAs rule actions (Err fault))
    → sent_of_text text ≡ None
unread law text fault other exact =
    nothing_found law text (λ sent is. never_read fault sent.rule sent.actions other (exact sent.rule sent.actions is.rule is.actions is.text_is))
