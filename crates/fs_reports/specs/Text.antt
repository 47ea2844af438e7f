-- What is said of a word that is to be the text of a rule and its actions.
use Rattle.std.specs.Prelude.{◌≡◌, ℕ, List, [], ◌++◌, Bool, true, false, codes, decimal}
use Rattle.hex.specs.Hex.{encode_lower}
use Rattle.fs_nlri.specs.{Parts.{Ruled}, Rule.{IsRule, canonical_frame}}
use Rattle.fs_text.specs.Printed.{text_of}
use Rattle.fs_text.specs.declared.fault.TextFault.{TextFault, TheVariants.{Bad, TooLong, Memory as NoMemory}}
use Rattle.fs_text.specs.Text.{AreActions, IsTextFault}
use Rattle.fs_reports.specs.Rules.{tail_text}

-- the canonical octets of the rule, and its actions
abbrev pub pair_line : Ruled → List (List ℕ) → List ℕ
pair_line rule actions = codes "1 " ++ (encode_lower (canonical_frame rule) ++ tail_text actions)

abbrev pub text_fault_line : TextFault → List ℕ
text_fault_line (Bad word) = codes "text fault at word " ++ (decimal word ++ codes "\n")
text_fault_line TooLong = codes "text too long\n"
text_fault_line NoMemory = []

-- the word is the text of the rule and the actions, and these are said
pub record ReportsPair (word text : List ℕ) : Type 0 where
  pub rule : Ruled
  pub actions : List (List ℕ)
  pub is_rule : IsRule rule
  pub are_actions : AreActions actions
  pub is_text : word ≡ text_of rule actions
  pub line : text ≡ pair_line rule actions

-- the word is none, and why is said
pub record ReportsTextFault (word text : List ℕ) : Type 0 where
  pub fault : TextFault
  pub some : fault ≡ NoMemory → ⊥
  pub bad : IsTextFault word fault
  pub line : text ≡ text_fault_line fault

-- the line, and whether the word is a text
abbrev pub ReportsText : List ℕ → List ℕ → Bool → Type 0
ReportsText word text true = ReportsPair word text
ReportsText word text false = ReportsTextFault word text
