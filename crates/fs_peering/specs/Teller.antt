-- An announcing end, by what it heard and said.
use Rattle.std.specs.Prelude.{◌≡◌, ◌≢◌, ◌⊎◌, ◌||◌, ◌&&◌, not, ℕ, ◌+◌, ◌-◌, ◌*◌, List, [], ◌∷◌, ◌++◌, length, take, flat_map, Bool, true, false}
use Rattle.std.specs.Prelude.{if◌then◌else◌, Some, None}
use Rattle.std.specs.Option.{is_some}
use Rattle.fs_message.specs.Deframer.{pending}
use Rattle.fs_speaker.specs.declared.Closed.{Closed, TheVariants.{Fault}}
use Rattle.fs_speaker.specs.Announcer.{Announcing, announcing, is_established, machine_in, open_sent}
use Rattle.fs_speaker.specs.{End.{StandsAt, ticked}, Handed.{Point, hand}, Line.{Lined, fresh, state_in}, Sending.{text_sent}}
use Rattle.fs_speaker.specs.{Session.{at_start, closed, still}, Transition.{Machine}}
use Rattle.fs_session.specs.declared.transition.Phase.{Phase}
use Rattle.fs_peering.specs.{Round.{Pieces, moments_in, octets_in}, Course.{course}, HoldTime.{Spans}, Opening.{opened_by}}

-- its OPEN, once it was said
abbrev pub opening_of : Announcing → List ℕ
opening_of end = if end.started then open_sent end.config end.peer end.sending else []

-- the UPDATEs of the rules that were said
abbrev pub rules_of : Announcing → List ℕ
rules_of end =
    flat_map (text_sent end.config end.peer end.line.phase.four end.sending) (take end.appended end.sending.rules)

-- The hold time expired: of the octets a front was taken, which agrees on one above 0, and so much time passed.
pub record HasExpired (machine : Machine) (moments octets : List ℕ) : Type 0 where
  pub taken : List ℕ
  pub untaken : List ℕ
  pub split : octets ≡ taken ++ untaken
  pub phase : Phase
  pub found : opened_by machine at_start taken ≡ (still phase, [])
  pub timed : phase.hold ≢ 0
  pub spans : Spans (1000 * phase.hold) moments

-- it closed by its octets, whatever follows; or its hold time expired
abbrev pub ClosesSo : Machine → (moments octets : List ℕ) → Closed → Type 0
ClosesSo machine moments octets why =
    ((more : List ℕ) → opened_by machine at_start (octets ++ more) ≡ (closed why, []))
    ⊎ ((why ≡ Fault 4 0) × HasExpired machine moments octets)

-- it is established, or has closed
abbrev pub is_settled : Lined → Bool
is_settled line = is_some line.closed || is_established (state_in line)

-- Whether an end hears no more: it has closed, or it is established and doesn't hear on.
abbrev pub is_over : Bool → Lined → Bool
is_over true line = is_some line.closed
is_over false line = is_settled line

-- it is established, and takes nothing more of a piece
abbrev pub stops_at : Bool → Lined → Bool
stops_at hears_on line = not hears_on && is_established (state_in line)

-- open, and not established
abbrev pub IsListening : Point → Type 0
IsListening now = (now.closed ≡ None) × (is_established now.phase.state ≡ false)

-- at the last of these pieces its hold time hadn't expired
abbrev pub IsInTime : Machine → Pieces → Type 0
IsInTime machine heard =
    (earlier : Pieces) (last : ℕ × List ℕ) → heard ≡ earlier ++ last ∷ []
    → (ticked last.0 (course machine earlier).point).point.closed ≡ None

-- It heard these pieces, and said its OPEN, what is answered to them and what the clock appended, and the UPDATEs of the
-- first rules. It was open and not established behind all pieces but the last. Where it is closed, these pieces close it.
pub record HasHeard (end : Announcing) (started : Bool) (heard : Pieces) (said : List ℕ) : Type 0 where
  pub started_is : end.started ≡ started
  pub at : is_established (state_in end.line) ≡ false → StandsAt (machine_in end) end.line (course (machine_in end) heard).point
  pub said_is : said ≡ opening_of end ++ ((course (machine_in end) heard).text ++ rules_of end)
  pub listened : (earlier : Pieces) (last : ℕ × List ℕ) → heard ≡ earlier ++ last ∷ []
      → IsListening (course (machine_in end) earlier).point
  pub alive : end.line.closed ≡ None → IsInTime (machine_in end) heard
  pub shut : (why : Closed) → end.line.closed ≡ Some why → ClosesSo (machine_in end) (moments_in heard) (octets_in heard) why
  pub none : is_established (state_in end.line) ≡ false → end.appended ≡ 0
  pub unstarted : end.started ≡ false → (heard ≡ []) × (end.appended ≡ 0)

-- how many messages it has still to say: its OPEN, and those of the rules
abbrev pub ahead_of : Announcing → Bool → ℕ
ahead_of end started =
    if is_some end.line.closed then 0
    else (if started then 0 else 1) + (length end.sending.rules - end.appended)

-- whose it is, and what it is to say
abbrev pub before_all : Announcing → Announcing
before_all end = announcing end.config end.peer end.sending fresh false 0

-- From any point it says all that the piece makes of it; and unless it stops, it stands where that leaves it.
abbrev pub SaysTo : Bool → Machine → ℕ → (old new : Lined) → List ℕ → (out out' : List ℕ) → Type 0
SaysTo hears_on machine moment old new piece out out' =
    (now : Point) → StandsAt machine old now
    → (out' ≡ out ++ (hand machine moment now piece).text)
    × (stops_at hears_on new ≡ false → StandsAt machine new (hand machine moment now piece).point)

-- A piece that closes an end which isn't established does so whatever follows.
abbrev pub ShutsBy : Machine → (old new : Lined) → List ℕ → Type 0
ShutsBy machine old new piece =
    (why : Closed) → new.closed ≡ Some why → old.closed ≡ None → is_established old.phase.state ≡ false
    → (more : List ℕ) → opened_by machine old.phase (pending old.framing ++ (piece ++ more)) ≡ (closed why, [])
