use Rattle.fs_words.proofs.{Words.{◌++◌, ◌∷◌, [], ℕ, List, ap, ◌∙◌, codes, string_bytes, spaced}, Spaces.{named, on_ok}}
use Rattle.fs_words.specs.Actions.{action_name, action_text}
use Rattle.fs_words.proofs.printing.print_one_action.Goals as goal

pub returns : goal.returns
returns c =
    let old = string_bytes c.args.out.now in
    let action = c.args.action.now in
    let first = c.in_ok-print_word.ensures ∙ ap (λ (w : List ℕ). old ++ spaced (w ∷ [])) c.action_name.ensures in
    let second = c.in_ok-push_str.ensures.bytes ∙ ap (λ (l : List ℕ). l ++ codes " ") first in
    on_ok c.print_action.result c.print_action.ensures
    (λ e. e ∙ ap (λ (l : List ℕ). l ++ action_text action) second ∙ named old (action_name action) (action_text action))
