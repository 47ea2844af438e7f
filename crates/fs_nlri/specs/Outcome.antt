-- What octets are as a frame at their front, and as a field of frames one after the other: each octet list has exactly one outcome.
use Rattle.std.specs.Prelude.{◌≡◌, ℕ, ◌≤◌, List, [], ◌++◌, length, take, Result, Ok, Err}
use Rattle.fs_base.specs.declared.prefix.Family.{Family}
use Rattle.fs_nlri.specs.{declared.fault.Reason.{Reason}, Parts.{Ruled}, Spelling.{IsFrame}, Fault.{IsFrameBad}, Feed.{Frames}}

-- the rule of the frame at the front with the count of its octets, or a reason and a place
abbrev pub IsFrameOutcome : Family → List ℕ → Result (Ruled × ℕ) (Reason × ℕ) → Type 0
IsFrameOutcome family octets (Ok read) = (read.1 ≤ length octets) × (read.0.family ≡ family) × IsFrame (take read.1 octets) read.0
IsFrameOutcome family octets (Err bad) = IsFrameBad family octets bad.0 bad.1

-- frames, and behind them octets that have this fault
pub record AreBadFrames (family : Family) (octets : List ℕ) (reason : Reason) (place : ℕ) : Type 0 where
  pub front : List ℕ
  pub rules : List Ruled
  pub rest : List ℕ
  pub frames : Frames family front rules
  pub split : octets ≡ front ++ rest
  pub some : rest ≡ [] → ⊥
  pub bad : IsFrameBad family rest reason place

-- the rules of the frames that the octets are, or the fault of the first faulty one
abbrev pub IsFieldOutcome : Family → List ℕ → Result (List Ruled) (Reason × ℕ) → Type 0
IsFieldOutcome family octets (Ok rules) = Frames family octets rules
IsFieldOutcome family octets (Err bad) = AreBadFrames family octets bad.0 bad.1
