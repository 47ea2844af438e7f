-- What a text says in a rules file.
use Rattle.std.specs.Prelude.{◌≡◌, ◌↔◌, ℕ, List, true, Option, Some, None, is_some}
use Rattle.fs_nlri.specs.Rule.{IsRule}
use Rattle.fs_text.specs.{Text.{AreActions, IsTextFault}, Printed.{text_of}, declared.fault.TextFault.{TextFault}}
use Rattle.fs_speaker.specs.declared.Sent.{Sent}
use Rattle.fs_conf.specs.Sent.{sent_of_text}

-- the rule is one, the actions are in normal form, by rising octets and each once, and the text is theirs
pub record IsTextOf (text : List ℕ) (sent : Sent) : Type 0 where
  pub rule : IsRule sent.rule
  pub actions : AreActions sent.actions
  pub text_is : text ≡ text_of sent.rule sent.actions

-- a text says exactly the rule and the actions whose text it is
abbrev pub SaysItsOwn : Type 0
SaysItsOwn = (text : List ℕ) (sent : Sent) → (sent_of_text text ≡ Some sent) ↔ IsTextOf text sent

-- a text says a rule, or says none for this
abbrev pub SaysWhy : List ℕ → Option TextFault → Type 0
SaysWhy text None = is_some (sent_of_text text) ≡ true
SaysWhy text (Some fault) = (sent_of_text text ≡ None) × IsTextFault text fault
