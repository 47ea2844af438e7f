-- What is answered of whole words, and of texts.
use Rattle.fs_text.proofs.Words.{◌≡◌, ◌⊎◌, ⊎_elim, ℕ, ◌+◌, ◌<◌, List, [], ◌∷◌, ◌++◌, zero, suc, map, Result, Ok, Err, drop, length, refl, sym, ap}
use Rattle.fs_text.proofs.Words.{subst, ◌∙◌, arith, codes, IsErrAnd, join_with_byte, map-append, join_with_byte-slice_split, Family, Component}
use Rattle.fs_text.proofs.Words.{part_of, Part, Ruled, IsRule, text_of, words_of, Acts, AreAll, Led, IsActionFault, IsNextPart, IsNoEnd, IsPartFault}
use Rattle.fs_text.proofs.Words.{AreActions, IsBadWord, IsWhole, IsWordFault, ReadsAs, ReadsWords, words_in, Bad, TooLong, Memory}
use Rattle.fs_text.proofs.Acted.{acts_first, bad_action_name, bad_action_value, no_action}
use Rattle.fs_text.proofs.Led.{bad_part_name, bad_part_value, led_next, never_bad, no_words, whole_parts}
use Rattle.fs_text.proofs.Spaceless.{words_back}
use Rattle.fs_text.specs.declared.fault.TextFault.{TextFault}
use Rattle.std.specs.Prelude.{IfOk}
use Rattle.fs_nlri.specs.Component.{parts_of}

-- what the exit of a `?` hands on
pub err_on : {T E : Type 0} {R : E → Type 0} (Q : Result T E → Type 0) (r : Result T E) → IsErrAnd r R → ((e : E) → R e → Q (Err e)) → Q r
err_on Q (Ok t) h f = absurd h
err_on Q (Err e) h f = f e h

pub drop_end : {X : Type 0} (f : X → List ℕ) (words : List X) (n : ℕ) → n ≡ length words → drop n (map f words) ≡ []
drop_end f [] zero e = refl
drop_end f [] (suc n) e = refl
drop_end f (x ∷ words) zero e = absurd (omega (arith, e))
drop_end f (x ∷ words) (suc n) e = drop_end f words n (omega (arith, e))

pub drop_some : {X : Type 0} (f : X → List ℕ) (words : List X) (n : ℕ) → n < length words → drop n (map f words) ≡ [] → ⊥
drop_some f [] n h e = absurd (omega (arith, h))
drop_some f (x ∷ words) zero h e = no_words e
drop_some f (x ∷ words) (suc n) h e = drop_some f words n (omega (arith, h)) e

pub led_pushed : (words : List (List ℕ)) (family : Family) (components : List Component) (last place : ℕ) (component : Component)
    (new : List Component) (kind : ℕ)
    → Led words family (parts_of components) last place → IsNextPart family last (drop place words) (drop (place + 2) words) (part_of component)
    → IsNoEnd (drop place words)
    → new ≡ components ++ component ∷ [] → kind ≡ (part_of component).kind → Led words family (parts_of new) kind (place + 2)
led_pushed words family components last place component new kind led next no_end new_is kind_is =
    subst (λ (k : ℕ). Led words family (parts_of new) k (place + 2)) (sym kind_is)
    (subst (λ (ps : List Part). Led words family ps (part_of component).kind (place + 2))
    (sym (ap parts_of new_is ∙ map-append part_of components (component ∷ [])))
    (led_next words family (parts_of components) last place (part_of component) (drop (place + 2) words) led next refl no_end))

-- a fault at the next component
pub part_fault : (words : List (List ℕ)) (family : Family) (parts : List Part) (last place : ℕ) (fault : TextFault)
    → Led words family parts last place → IsNoEnd (drop place words)
    → IsPartFault family last (drop place words) place fault → IsWordFault words fault
part_fault words family parts last place (Bad word) led no_end is =
    ⊎_elim
    (λ name. ⊎_elim (λ none. absurd (no_end.0 none))
    (λ bad. subst (IsBadWord words) (sym name.0) (bad_part_name words family parts last place led bad no_end)) name.1)
    (λ value. subst (IsBadWord words) (sym value.0) (bad_part_value words family parts last place led value.1 no_end)) is
part_fault words family parts last place TooLong led no_end is = absurd is
part_fault words family parts last place Memory led no_end is = tt

-- a fault at the next action
pub action_fault : (words : List (List ℕ)) (family : Family) (parts : List Part) (actions : List (List ℕ)) (place : ℕ) (fault : TextFault)
    → Acts words family parts actions place
    → (actions ≡ []) ⊎ (drop place words ≡ [] → ⊥) → IsActionFault actions (drop place words) place fault → IsWordFault words fault
action_fault words family parts actions place (Bad word) acts some is =
    ⊎_elim
    (
    λ name.
    ⊎_elim (
    λ none.
    ⊎_elim (λ first. subst (IsBadWord words) (sym name.0)
    (no_action words family parts place (subst (λ (l : List (List ℕ)). Acts words family parts l place) first acts) none))
    (λ more. absurd (more none)) some
    ) (λ bad. subst (IsBadWord words) (sym name.0) (bad_action_name words family parts actions place acts bad)) name.1
    )
    (λ value. subst (IsBadWord words) (sym value.0) (bad_action_value words family parts actions place acts value.1)) is
action_fault words family parts actions place TooLong acts some is = absurd is
action_fault words family parts actions place Memory acts some is = tt

-- behind the components nothing stands, or the word before actions
pub all_parts : (words : List (List ℕ)) (family : Family) (parts : List Part) (place : ℕ) → AreAll words family parts place → drop place words ≡ []
    → IsWhole words family parts []
all_parts words family parts place all none = whole_parts words family parts all.last place all.led none

pub then_acts : (words : List (List ℕ)) (family : Family) (parts : List Part) (place : ℕ) → AreAll words family parts place → (drop place words ≡ [] → ⊥)
    → drop 1 (drop place words) ≡ drop (place + 1) words → Acts words family parts [] (place + 1)
then_acts words family parts place all some next =
    ⊎_elim (λ none. absurd (some none))
    (λ behind. acts_first words family parts all.last place all.led (behind ∙ ap (λ (l : List (List ℕ)). codes "then" ∷ l) next)) all.end

-- whole words, with their rule and without

pub reads_fault : (words : List (List ℕ)) (fault : TextFault) → IsWordFault words fault → ReadsWords words (Err fault)
reads_fault words (Bad place) bad = record {
  found = tt;
  exact = λ other said is are told.
      never_bad words place bad (record {
        family = other.family;
        parts = other.parts;
        actions = said;
        normal = is.normal;
        actions_are =
            are;
        words_are = told;
      });
  fault = bad;
}
reads_fault words TooLong bad = absurd bad
reads_fault words Memory bad = record { found = tt; exact = λ other said is are told. tt; fault = tt }

-- texts

text_is : (text : List ℕ) (words : List (List ℕ)) → words_in text ≡ words → text ≡ join_with_byte 32 words
text_is text words e = sym (join_with_byte-slice_split 32 text) ∙ ap (join_with_byte 32) e

pub text_found : (text : List ℕ) (words : List (List ℕ)) (r : Result (Ruled × List (List ℕ)) TextFault) → words ≡ words_in text → ReadsWords words r
    → IfOk r (λ read. IsRule read.0 × AreActions read.1 × (text ≡ text_of read.0 read.1))
text_found text words (Ok read) same reads = (reads.found.0, reads.found.1, text_is text (words_of read.0 read.1) (sym same ∙ reads.found.2))
text_found text words (Err fault) same reads = tt

pub text_exact : (text : List ℕ) (words : List (List ℕ)) (r : Result (Ruled × List (List ℕ)) TextFault) → words ≡ words_in text → ReadsWords words r
    → (rule : Ruled) (actions : List (List ℕ)) → IsRule rule → AreActions actions → text ≡ text_of rule actions → ReadsAs rule actions r
text_exact text words r same reads rule actions is are told =
    reads.exact rule actions is are (same ∙ ap words_in told ∙ words_back rule.family rule.parts actions is.normal are)
