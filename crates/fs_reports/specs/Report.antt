-- What is said of a field of frames that is given in hexadecimal: a line for each frame, up to the first faulty one.
use Rattle.std.specs.Prelude.{◌≡◌, ℕ, ◌+◌, List, [], ◌∷◌, ◌++◌, length, Bool, true, false, Result, Ok, Err, codes, decimal}
use Rattle.hex.specs.Hex.{encode_lower, decode_of}
use Rattle.fs_base.specs.declared.prefix.Family.{Family}
use Rattle.fs_nlri.specs.declared.fault.Reason.{Reason, TheVariants.{Cut, NoType, Order, PrefixLength, Offset, Width, Length}}
use Rattle.fs_nlri.specs.{Parts.{Ruled}, Rule.{canonical_frame}, Fault.{IsFrameBad}, Feed.{Frames}}

abbrev pub reason_name : Reason → List ℕ
reason_name Cut = codes "Cut"
reason_name NoType = codes "Type"
reason_name Order = codes "Order"
reason_name PrefixLength = codes "PrefixLength"
reason_name Offset = codes "Offset"
reason_name Width = codes "Width"
reason_name Length = codes "Length"

-- the frame's number and its canonical octets
abbrev pub frame_line : ℕ → Ruled → List ℕ
frame_line number rule = decimal number ++ (codes " " ++ (encode_lower (canonical_frame rule) ++ codes "\n"))

-- the lines of frames, numbered from this number on
abbrev pub frame_lines : ℕ → List Ruled → List ℕ
frame_lines number [] = []
frame_lines number (rule ∷ rules) = frame_line number rule ++ frame_lines (number + 1) rules

-- the faulty frame's number, why it is none, and where
abbrev pub fault_line : ℕ → Reason → ℕ → List ℕ
fault_line number reason place = decimal number ++ (codes " fault " ++ (reason_name reason ++ (codes " at " ++ (decimal place ++ codes "\n"))))

-- the octets are frames, and each has its line
pub record ReportsFrames (family : Family) (octets text : List ℕ) : Type 0 where
  pub rules : List Ruled
  pub frames : Frames family octets rules
  pub lines : text ≡ frame_lines 1 rules

-- behind the first frames stand octets that begin with a faulty one, and the fault has the last line
pub record ReportsFault (family : Family) (octets text : List ℕ) : Type 0 where
  pub front : List ℕ
  pub rest : List ℕ
  pub rules : List Ruled
  pub reason : Reason
  pub place : ℕ
  pub frames : Frames family front rules
  pub split : octets ≡ front ++ rest
  pub some : rest ≡ [] → ⊥
  pub bad : IsFrameBad family rest reason place
  pub lines : text ≡ frame_lines 1 rules ++ fault_line (1 + length rules) reason place

abbrev pub ReportsField : Family → List ℕ → List ℕ → Bool → Type 0
ReportsField family octets text true = ReportsFrames family octets text
ReportsField family octets text false = ReportsFault family octets text

-- of octets that a word gives in hexadecimal, or of a word that gives none
abbrev pub ReportsDecoded : {E : Type 0} → Family → Result (List ℕ) E → List ℕ → Bool → Type 0
ReportsDecoded family (Ok octets) text accepted = ReportsField family octets text accepted
ReportsDecoded family (Err refused) text accepted = (text ≡ codes "not hex\n") × (accepted ≡ false)

-- the text, and whether the word is the hexadecimal of frames
abbrev pub Reports : Family → List ℕ → List ℕ → Bool → Type 0
Reports family word text accepted = ReportsDecoded family (decode_of word) text accepted
