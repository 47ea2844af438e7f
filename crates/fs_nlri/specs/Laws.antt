-- Laws of frames. They speak of the rules of one family, since a frame doesn't say its own.
use Rattle.std.specs.Prelude.{◌≡◌, ◌↔◌, ℕ, List, [], ◌++◌, length, nat_le, if◌then◌else◌, Result, Ok, Err}
use Rattle.fs_base.specs.{declared.prefix.Family.{Family}, Language.{IsOctets}}
use Rattle.fs_nlri.specs.{declared.fault.{Reason.{Reason}, RuleFault.TheVariants.{TooLong}}, Outcome.{IsFrameOutcome, IsFieldOutcome}}
use Rattle.fs_nlri.specs.{Making.{rule_of}, Parts.{Part, Ruled, ruled}, Spelling.{IsFrame}}
use Rattle.fs_nlri.specs.Rule.{IsRule, AreNormal, canonical_frame, canonical_value}

-- no frame is a proper prefix of another
abbrev pub NoFrameGoesOn : Type 0
NoFrameGoesOn = (one other : Ruled) (frame more : List ℕ) → one.family ≡ other.family → IsFrame frame one → IsFrame (frame ++ more) other → more ≡ []

-- the canonical frame of a rule is a frame of it
abbrev pub CanonicalIsFrame : Type 0
CanonicalIsFrame = (rule : Ruled) → IsRule rule → IsFrame (canonical_frame rule) rule

-- and of no other rule
abbrev pub CanonicalIsOwn : Type 0
CanonicalIsOwn = (rule other : Ruled) → IsRule rule → rule.family ≡ other.family → IsFrame (canonical_frame rule) other → rule ≡ other

-- two frames are those of one rule exactly where their canonical frames are equal
abbrev pub CanonicalTells : Type 0
CanonicalTells =
    (one other : Ruled) (frame also : List ℕ) → one.family ≡ other.family → IsOctets frame → IsOctets also → IsFrame frame one → IsFrame also other
    → (one ≡ other) ↔ (canonical_frame one ≡ canonical_frame other)

-- whatever the octets are, they begin with a frame of a rule or have a first fault
abbrev pub EachBeginsSomehow : Type 0
EachBeginsSomehow = (family : Family) (octets : List ℕ) → (outcome : Result (Ruled × ℕ) (Reason × ℕ)) × IsFrameOutcome family octets outcome

-- whatever they are, they are frames of rules or have a first faulty frame
abbrev pub EachIsAField : Type 0
EachIsAField = (family : Family) (octets : List ℕ) → (outcome : Result (List Ruled) (Reason × ℕ)) × IsFieldOutcome family octets outcome

-- no octets begin in two ways
abbrev pub BeginsOneWay : Type 0
BeginsOneWay =
    (family : Family) (octets : List ℕ) (one other : Result (Ruled × ℕ) (Reason × ℕ)) → IsOctets octets → IsFrameOutcome family octets one
    → IsFrameOutcome family octets other → one ≡ other

-- no octets are two fields
abbrev pub IsOneField : Type 0
IsOneField =
    (family : Family) (octets : List ℕ) (one other : Result (List Ruled) (Reason × ℕ)) → IsOctets octets → IsFieldOutcome family octets one
    → IsFieldOutcome family octets other → one ≡ other

-- components in normal form make the rule of themselves, unless their value is too long for a frame
abbrev pub NormalMakes : Type 0
NormalMakes =
    (family : Family) (parts : List Part) → AreNormal family 0 parts
    → rule_of family parts ≡ (if nat_le (length (canonical_value parts)) 4095 then Ok (ruled family parts) else Err TooLong)
