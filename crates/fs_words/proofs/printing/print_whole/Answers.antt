use Rattle.fs_words.proofs.{Words.{◌++◌, ℕ, List, ap, ◌∙◌, string_bytes, component_words, family_word, spaced, then_words}, Spaces.{on_ok, whole_text}}
use Rattle.fs_nlri.specs.Parts.{Part}
use Rattle.fs_words.proofs.printing.print_whole.Goals as goal

pub returns : goal.returns
returns c =
    let old = string_bytes c.args.out.now in
    let front = string_bytes c.push_str.new.self in
    let middle = string_bytes c.print_components.new.out in
    let rule = c.args.rule.now in
    let first = c.in_ok-push_str.ensures.bytes ∙ ap (λ (w : List ℕ). old ++ w) (c.family_word.ensures ∙ ap family_word c.family.ensures) in
    let second = c.in_ok-print_components.ensures ∙ ap (λ (parts : List Part). front ++ spaced (component_words parts)) c.components.ensures.parts in
    on_ok c.print_actions.result c.print_actions.ensures
    (λ e. whole_text old front middle (string_bytes c.print_actions.new.out) (family_word rule.family) (component_words rule.parts)
    (then_words c.args.actions.now) first second
    (e ∙ ap (λ (l : List (List ℕ)). middle ++ spaced (then_words l)) c.as_slice.ensures.value))
