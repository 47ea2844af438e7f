-- The announcing end of a session over a wire, by the pieces that it heard and what it said.
use Rattle.std.specs.Prelude.{◌≡◌, ◌+◌, ℕ, List, [], ◌∷◌, ◌++◌, length, take, flat_map, Bool, true, false, Option, Some, None, Ok}
use Rattle.fs_base.specs.declared.config.Config.{Config}
use Rattle.fs_message.specs.{Deframer.{pending}, Open.{open_of}, Stream.{Message, first_message}, Write.{message_text}, declared.open_.Open.{Open}}
use Rattle.fs_speaker.specs.{End.{StandsAt}, Announcer.{Announcing, is_established, machine_in, with_line}, Line.{Lined}, Sending.{text_sent}}
use Rattle.fs_speaker.specs.{Session.{at_start, still}, Transition.{Machine}, declared.{Sent.{Sent}, State.{State, TheVariants.{WaitOpen}}}}
use Rattle.fs_session.specs.declared.transition.Phase.{Phase}
use Rattle.fs_peering.specs.{Opening.{opened_by}, Teller.{HasHeard, is_settled, opening_of}, Round.{Pieces, octets_in}, Course.{course}}

-- KEEPALIVEs, and between them the UPDATEs of rules
abbrev pub part_text : (Sent → List ℕ) → Option Sent → List ℕ
part_text text None = message_text 4 []
part_text text (Some sent) = text sent

abbrev pub woven : (Sent → List ℕ) → List (Option Sent) → List ℕ
woven text parts = flat_map (part_text text) parts

abbrev pub rule_in : Option Sent → List Sent
rule_in None = []
rule_in (Some sent) = sent ∷ []

-- the same without the UPDATEs
abbrev pub without_rules : List (Option Sent) → List ℕ
without_rules parts = woven (λ sent. []) parts

-- the rules among them, in their order
abbrev pub rules_in : List (Option Sent) → List Sent
rules_in parts = flat_map rule_in parts

abbrev pub text_in : Announcing → Bool → Sent → List ℕ
text_in end four sent = text_sent end.config end.peer four end.sending sent

-- The first of the octets is an OPEN that was read, and it says whether AS numbers have four octets.
pub record TookOpen (config : Config) (four : Bool) (octets : List ℕ) : Type 0 where
  pub message : Message
  pub behind : List ℕ
  pub first : first_message octets ≡ Some (message, behind)
  pub kind_is : message.kind ≡ 1
  pub found : Open
  pub read : open_of config.local_as message.body ≡ Ok found
  pub four_is : four ≡ found.four

-- Before the OPEN nothing but its own OPEN was said; behind it first the KEEPALIVE that answers it.
abbrev pub Began : State → Announcing → (four : Bool) → (heard : Pieces) → List (Option Sent) → Type 0
Began WaitOpen end four heard parts =
    (parts ≡ []) × ((end.appended ≡ 0) × ((end.line.phase.hold ≡ 0)
    × ((course (machine_in end) heard).point.waiting ≡ octets_in heard)))
Began state end four heard parts =
    ((more : List (Option Sent)) × (parts ≡ None ∷ more))
    × ((four ≡ end.line.phase.four) × TookOpen end.config four (octets_in heard))

-- What it said: its OPEN, KEEPALIVEs and the UPDATEs of the first rules in their order, each once; and where its hold
-- time has expired, a NOTIFICATION. Without its OPEN and the UPDATEs that is what it answers to the pieces and what the
-- clock appends. It was open behind all of them but the last.
pub record Speaks (end : Announcing) (started : Bool) (heard : Pieces) (said : List ℕ) : Type 0 where
  pub started_is : end.started ≡ started
  pub at : StandsAt (machine_in end) end.line (course (machine_in end) heard).point
  pub four : Bool
  pub parts : List (Option Sent)
  pub rules_are : rules_in parts ≡ take end.appended end.sending.rules
  pub ending : List ℕ
  pub said_is : said ≡ opening_of end ++ (woven (text_in end four) parts ++ ending)
  pub kept : without_rules parts ++ ending ≡ (course (machine_in end) heard).text
  pub lived : (earlier : Pieces) (last : ℕ × List ℕ) → heard ≡ earlier ++ last ∷ []
      → (course (machine_in end) earlier).point.closed ≡ None
  pub unended : end.line.closed ≡ None → ending ≡ []
  pub began : end.line.closed ≡ None → Began end.line.phase.state end four heard parts
  pub unstarted : started ≡ false → (parts ≡ []) × (ending ≡ [])

-- From a phase with octets in hand an end is established by these octets; one that doesn't hear on stays as it is then. So
-- many of them count: those up to and with the message that establishes it.
pub record CountsUp (hears_on : Bool) (machine : Machine) (begun : Phase) (held octets : List ℕ) (line : Lined) (count : ℕ)
    : Type 0 where
  pub phase : Phase
  pub behind : List ℕ
  pub opens : (more : List ℕ) → opened_by machine begun (held ++ (octets ++ more)) ≡ (still phase, behind ++ more)
  pub up : is_established phase.state ≡ true
  pub stays : hears_on ≡ false → line.phase ≡ phase
  pub counted : count + length behind ≡ length octets

-- Or it isn't, and all of them count that it has taken: what is to come of them is what is to come of those in hand and
-- of the rest.
abbrev pub CountsBy : Bool → Bool → Machine → Phase → (held octets : List ℕ) → Lined → List ℕ → ℕ → Type 0
CountsBy hears_on true machine begun held octets line rest count = CountsUp hears_on machine begun held octets line count
CountsBy hears_on false machine begun held octets line rest count =
    ((more : List ℕ) → opened_by machine begun (held ++ (octets ++ more))
    ≡ opened_by machine line.phase (pending line.framing ++ (rest ++ more)))
    × (count + length rest ≡ length octets)

-- So of a piece, where it was open and not established before it; the rest is still to be taken.
abbrev pub CountsOn : Bool → Machine → Lined → Lined → (piece rest : List ℕ) → ℕ → Type 0
CountsOn hears_on machine old line piece rest count = line.closed ≡ None
    → (old.closed ≡ None)
    × (is_established old.phase.state ≡ false
    → CountsBy hears_on (is_established line.phase.state) machine old.phase (pending old.framing) piece line rest count)

-- and of all that it heard, while it is open
abbrev pub CountsTo : Bool → Machine → Lined → ℕ → List ℕ → Type 0
CountsTo hears_on machine line count octets = line.closed ≡ None
    → CountsBy hears_on (is_established line.phase.state) machine at_start [] octets line [] count

-- What an end keeps of the other's octets, where it stays open.
abbrev pub KeepsHand : Lined → Lined → Type 0
KeepsHand old new = new.closed ≡ None
    → (old.closed ≡ None) × ((new.phase ≡ old.phase) × (new.framing ≡ old.framing))

-- by whether it hears on once it is established
abbrev pub SaysOn : Bool → Announcing → Bool → Pieces → List ℕ → Type 0
SaysOn true end started heard said = Speaks end started heard said
SaysOn false end started heard said = HasHeard end started heard said

-- and so many of the octets count
abbrev pub SaysUpTo : Bool → Announcing → Bool → ℕ → Pieces → List ℕ → Type 0
SaysUpTo hears_on end started count heard said =
    SaysOn hears_on end started heard said × CountsTo hears_on (machine_in end) end.line count (octets_in heard)

-- only what it keeps of the other's octets changes, and one that is settled stays so
abbrev pub KeepsSettled : Announcing → Announcing → Type 0
KeepsSettled old new = (new ≡ with_line old new.line) × (is_settled old.line ≡ true → is_settled new.line ≡ true)
