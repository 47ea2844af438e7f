-- What is told of the fault of a rule.
use Rattle.fs_conf.proofs.Words.{◌≡◌, ℕ, ◌+◌, ◌<◌, ◌≤◌, ◌==◌, true, List, length, Option, Some, None, refl, sym, ap, ◌∙◌, arith, codes}
use Rattle.fs_conf.proofs.Words.{option_and_then, is_some, inl, inr, ◌⊎◌, Members, as_str, get_member, Family, sent_of_text, kept_if, IsFrame, take}
use Rattle.fs_conf.proofs.Words.{drop, take-append-drop, Sent, IsRule, sent, AreActions}
use Rattle.std.{proofs.lemmas.List.{Splits.{length-slice_split}, Sums.{count_by-le-length}}}
use Rattle.fs_text.specs.{Printed.{text_of}, Text.{IsTextFault, words_in}, declared.fault.TextFault.TheVariants.{Bad}}
use Rattle.fs_nlri.specs.Parts.{Ruled}
use Rattle.fs_conf.specs.{Fault.{KeyFault}, WordedLaw.{SaysItsOwn}, RuleFault.{BeginsFrame, bad_text, judged_rule, text_at, untold}}

-- the text at the rule's key, where that is the fault
abbrev pub text_there : Members → KeyFault → Option (List ℕ)
text_there members fault = option_and_then (λ rule. option_and_then as_str (get_member (codes "text") rule)) (judged_rule (codes "text") members fault)

kept_text : (members : Members) (fault : KeyFault) → bad_text members fault ≡ option_and_then (kept_if untold) (text_there members fault)
kept_text members fault = by (judged_rule (codes "text") members fault)
  where
    by : (found : Option Members) → option_and_then text_at found
        ≡ option_and_then (kept_if untold) (option_and_then (λ rule. option_and_then as_str (get_member (codes "text") rule)) found)
    by None = refl
    by (Some rule) = refl

pub no_text : (members : Members) (fault : KeyFault) → None ≡ text_there members fault → bad_text members fault ≡ None
no_text members fault none = kept_text members fault ∙ ap (option_and_then (kept_if untold)) (sym none)

pub text_is_said : SaysItsOwn → (text : List ℕ) (rule : Ruled) (actions : List (List ℕ)) → IsRule rule × AreActions actions × (text ≡ text_of rule actions)
    → is_some (sent_of_text text) ≡ true
text_is_said law text rule actions h =
    ap (λ (said : Option Sent). is_some said) ((law text (sent rule actions)).1 (record { rule = h.0; actions = h.1; text_is = h.2 }))

-- a text has no more words than octets, and one

pub word_within : (text : List ℕ) (word : ℕ) → IsTextFault text (Bad word) → word ≤ length text + 1
word_within text word bad = by bad.at
  where
    few : length (words_in text) ≤ length text + 1
    few = let size = length-slice_split (λ octet. octet == 32) text in let most = count_by-le-length (λ octet. octet == 32) text in omega (arith, size, most)

    by : {B D : Type 0} → ((word < length (words_in text)) × B) ⊎ ((word ≡ length (words_in text)) × D) → word ≤ length text + 1
    by (inl h) = omega (arith, h.0, few)
    by (inr h) = omega (arith, h.0, few)

-- the octets that begin with a frame
pub begins : (family : Family) (octets : List ℕ) (taken : ℕ) (rule : Ruled) → rule.family ≡ family → IsFrame (take taken octets) rule
    → BeginsFrame family octets
begins family octets taken rule own frame = record {
  front = take taken octets;
  rest = drop taken octets;
  rule = rule;
  split = sym (take-append-drop taken octets);
  family_is = own;
  frame = frame;
}
