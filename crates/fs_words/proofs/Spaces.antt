-- Words with spaces before them and between them.
use Rattle.fs_words.proofs.Words.{◌≡◌, ℕ, List, [], ◌∷◌, ◌++◌, refl, sym, ap, ◌∙◌, append_assoc, append-nil, drop, Result, Ok, Err, codes, OnOk}
use Rattle.fs_words.proofs.Words.{action_words, component_words, spaced}
use Rattle.std.specs.List.{join_with_byte, AllByRecursion}
use Rattle.fs_nlri.specs.{Component.{parts_of}, declared.component.Component.{Component}, Sound.{AreSound}}
use Rattle.fs_actions.specs.Community.{IsAction}

pub join_spaced : (word : List ℕ) (words : List (List ℕ)) → join_with_byte 32 (word ∷ words) ≡ word ++ spaced words
join_spaced word [] = sym (append-nil word)
join_spaced word (next ∷ words) = ap (λ (l : List ℕ). word ++ 32 ∷ l) (join_spaced next words)

pub spaced_append : (one other : List (List ℕ)) → spaced (one ++ other) ≡ spaced one ++ spaced other
spaced_append [] other = refl
spaced_append (word ∷ words) other =
    ap (λ (l : List ℕ). 32 ∷ (word ++ l)) (spaced_append words other) ∙ ap (λ (l : List ℕ). 32 ∷ l) (sym (append_assoc word (spaced words) (spaced other)))

-- the words of the components so far were appended, and the others are sound
pub record Printed (before now : List ℕ) (components : List Component) (index : ℕ) : Type 0 where
  pub text : now ++ spaced (component_words (parts_of (drop index components))) ≡ before ++ spaced (component_words (parts_of components))
  pub sound : AreSound (parts_of (drop index components))

pub record Told (before now : List ℕ) (actions : List (List ℕ)) (index : ℕ) : Type 0 where
  pub text : now ++ spaced (action_words (drop index actions)) ≡ before ++ spaced (action_words actions)
  pub each : AllByRecursion IsAction (drop index actions)

-- the first word, and two groups of words behind it
pub whole_text : (old first second third word : List ℕ) (one other : List (List ℕ)) → first ≡ old ++ word → second ≡ first ++ spaced one
    → third ≡ second ++ spaced other → third ≡ old ++ join_with_byte 32 (word ∷ (one ++ other))
whole_text old first second third word one other a b c =
    c ∙ ap (λ (l : List ℕ). l ++ spaced other) (b ∙ ap (λ (l : List ℕ). l ++ spaced one) a)
    ∙ append_assoc (old ++ word) (spaced one) (spaced other)
    ∙ ap (λ (l : List ℕ). (old ++ word) ++ l) (sym (spaced_append one other))
    ∙ append_assoc old word (spaced (one ++ other))
    ∙ ap (λ (l : List ℕ). old ++ l) (sym (join_spaced word (one ++ other)))

pub on_ok : {T E P Q : Type 0} (r : Result T E) → OnOk r P → (P → Q) → OnOk r Q
on_ok (Ok x) holds then = then holds
on_ok (Err e) holds then = holds

-- a name and what follows it
pub named : (old name text : List ℕ) → ((old ++ (codes " " ++ (name ++ []))) ++ codes " ") ++ text ≡ old ++ (codes " " ++ (name ++ (codes " " ++ (text ++ []))))
named old name text =
    let nil : name ++ [] ≡ name = append-nil name in
    let end : text ++ [] ≡ text = append-nil text in
    rw (nil, end) (append_assoc (old ++ 32 ∷ name) (32 ∷ []) text ∙ append_assoc old (32 ∷ name) (32 ∷ text))
