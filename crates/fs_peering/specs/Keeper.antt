-- A session that is kept to an address through a gate: what is asked of the gate at each event, what is said when the rules
-- change, and how it stands then.
use Rattle.std.specs.Prelude.{ℕ, ◌+◌, ◌*◌, ◌-◌, ◌==◌, ◌&&◌, ◌||◌, List, [], ◌∷◌, ◌++◌, Bool, true, false, not, min, nat_lt, if◌then◌else◌, Option}
use Rattle.std.specs.Prelude.{Some, None, is_some, drop, filter, flat_map, length, map, take}
use Rattle.std.specs.{List.{list_any}, Option.{option_or}, Ordering.{is_eq}, Str.{bytes_eq}}
use Rattle.fs_base.specs.Gate.{Turn, What, dialled, ended, gave, made, nothing, said, shut, taken}
use Rattle.fs_base.specs.{Parts.{parts_within}, Bits.{afi_of}}
use Rattle.fs_base.specs.declared.{config.{Config.{Config}, Peer.{Peer}}, prefix.Family.{Family, TheVariants.{V4, V6}}}
use Rattle.fs_nlri.specs.{Parts.{Ruled}, Rule.{canonical_frame}}
use Rattle.fs_order.specs.Comparison.{rule_cmp}
use Rattle.fs_message.specs.Write.{message_text}
use Rattle.fs_attrs.specs.{declared.update.{Routes.TheVariants.{Flow}, Terms.{Terms}, Update.{Update}}, Write.{update_text}}
use Rattle.fs_session.specs.declared.{side.Needs.{Needs}}
use Rattle.fs_speaker.specs.{Announcer.{is_established, open_sent}, End.{first_point, ticked}, Handed.{Point, hand}}
use Rattle.fs_speaker.specs.{Sending.{needs_of, sender_of, text_by}, Side.{announcer, notice_text}, Transition.{Machine, terms_of}}
use Rattle.fs_speaker.specs.declared.{Closed.{Closed, TheVariants.{Fault, Memory, NoFamily, Notified}}, Sending.{Sending}, Sent.{Sent}}
use Rattle.fs_peering.specs.Tell.{farewell_to}
use Rattle.fs_peering.specs.declared.keeper.News.{News, TheVariants.{Closed as HasClosed, Ended, Notified as HasNotified, Told, Unreached, Up}}

-- A connection: its line, whether it is made, and since when; for which peer it announces, and the rules that were to be
-- announced when it was dialled, whose families it asks for; where its session stands; what was said through it; and the
-- rules that it was told, once it came up.
pub record Connection : Type 0 where
  pub line : ℕ
  pub made : Bool
  pub since : ℕ
  pub peer : Peer
  pub asked : Sending
  pub point : Point
  pub spoken : List ℕ
  pub told : Option Sending

-- The rules to be kept, none before they are first accepted; when the last connection ended, and how many milliseconds are
-- to pass from there, and from the end of the next one; and the connection.
pub record Kept : Type 0 where
  pub rules : Option Sending
  pub since : ℕ
  pub wait : ℕ
  pub delay : ℕ
  pub connection : Option Connection

-- no rules, and nothing to wait for
abbrev pub at_first : Kept
at_first = record { rules = None; since = 0; wait = 0; delay = 1000; connection = None }

-- What is asked of the gate, what there is to be told, and how it stands then.
pub record Outcome : Type 0 where
  pub turns : List Turn
  pub news : Option News
  pub kept : Kept

abbrev pub outcome : List Turn → Option News → Kept → Outcome
outcome turns news kept = record { turns = turns; news = news; kept = kept }

abbrev pub rests : Kept → Outcome
rests kept = outcome [] None kept

abbrev pub then_do : Outcome → (Kept → Outcome) → Outcome
then_do first later =
    outcome (first.turns ++ (later first.kept).turns) (option_or first.news (later first.kept).news) (later first.kept).kept

abbrev pub with_connection : Option Connection → Kept → Kept
with_connection connection kept = record kept { connection = connection }

-- octets are sent where there are some
abbrev pub speaks : (line : ℕ) → List ℕ → List Turn
speaks line [] = []
speaks line (octet ∷ octets) = said line (octet ∷ octets) ∷ []

-- the session stands at another point, and these octets were said
abbrev pub spoke : List ℕ → Point → Connection → Connection
spoke text now connection = record connection { point = now; spoken = connection.spoken ++ text }

abbrev pub speaks_on : List ℕ → Point → Option News → Connection → Kept → Outcome
speaks_on text now news connection kept =
    outcome (speaks connection.line text) news (with_connection (Some (spoke text now connection)) kept)

-- the longest time between two connections, in milliseconds
abbrev pub most_wait : ℕ
most_wait = 60000

-- The connection goes. The next one is dialled behind a while, which doubles from end to end until one comes up.
abbrev pub lets_go : (time : ℕ) → Kept → Kept
lets_go time kept = record {
  rules = kept.rules;
  since = time;
  wait = kept.delay;
  delay = min most_wait (2 * kept.delay);
  connection = None;
}

-- what is told of a closing; one for a family that the other end lacks is an unsupported capability (RFC 5492, section 5)
abbrev pub news_of : Closed → Option News
news_of (Fault code subcode) = Some (HasClosed code subcode)
news_of (Notified code subcode) = Some (HasNotified code subcode)
news_of NoFamily = Some (HasClosed 2 7)
news_of Memory = None

-- the NOTIFICATION of a closing, unless the clock has said it
abbrev pub parting : Closed → List ℕ
parting NoFamily = notice_text 2 7
parting why = farewell_to why

-- a session that has closed: the rest is said, and the connection is closed
abbrev pub parts : (text : List ℕ) → Closed → (time : ℕ) → Connection → Kept → Outcome
parts text why time connection kept =
    outcome (speaks connection.line text ++ shut connection.line ∷ []) (news_of why) (lets_go time kept)

-- What a session says, where it stands then, and how it closes, if it does.
pub record Said : Type 0 where
  pub text : List ℕ
  pub point : Point
  pub closing : Option Closed

abbrev pub spoken_so : List ℕ → Point → Option Closed → Said
spoken_so text now closing = record { text = text; point = now; closing = closing }

abbrev pub machine_of : Config → Connection → Machine
machine_of config connection = announcer config (needs_of connection.asked.rules)

abbrev pub is_up : Point → Bool
is_up now = is_established now.phase.state

-- A session that isn't established so many milliseconds after its connection was made closes (RFC 4271, section 8.2.2).
abbrev pub open_time : ℕ
open_time = 240000

abbrev pub is_late : (time since : ℕ) → Point → Bool
is_late time since now = not (is_up now) && not (nat_lt (time - since) open_time)

-- The clock at a session: nothing, a KEEPALIVE, or a closing with its NOTIFICATION.
abbrev pub woken : (time since : ℕ) → Point → Said
woken time since now = elim (ticked time now).point.closed [
  | Some why ↦ spoken_so (ticked time now).text (ticked time now).point (Some why)
  | None ↦
      if is_late time since now
      then spoken_so ((ticked time now).text ++ notice_text 4 0) (ticked time now).point (Some (Fault 4 0))
      else spoken_so (ticked time now).text (ticked time now).point None
]

-- Octets at a session: what answers them, or a closing with its NOTIFICATION.
abbrev pub received : Machine → (time : ℕ) → (piece : List ℕ) → Point → Said
received machine time piece now = elim (hand machine time now piece).point.closed [
  | Some why ↦ spoken_so ((hand machine time now piece).text ++ parting why) (hand machine time now piece).point (Some why)
  | None ↦ spoken_so (hand machine time now piece).text (hand machine time now piece).point None
]

abbrev pub wakes : (time : ℕ) → Connection → Kept → Outcome
wakes time connection kept = elim (woken time connection.since connection.point).closing [
  | Some why ↦ parts (woken time connection.since connection.point).text why time connection kept
  | None ↦
      speaks_on (woken time connection.since connection.point).text (woken time connection.since connection.point).point
      None connection kept
]

-- so where a connection is made
abbrev pub checks : (time : ℕ) → Kept → Outcome
checks time kept = elim kept.connection [
  | None ↦ rests kept
  | Some connection ↦ if connection.made then wakes time connection kept else rests kept
]

-- a connection that came up: behind its end the next one is dialled soon
abbrev pub comes_up : Bool → Kept → Kept
comes_up true kept = record kept { delay = 1000 }
comes_up false kept = kept

-- whether these octets establish the session
abbrev pub rises : Point → Point → Bool
rises before now = is_up now && not (is_up before)

abbrev pub news_up : Bool → Option News
news_up true = Some Up
news_up false = None

abbrev pub receives : Config → (time : ℕ) → (piece : List ℕ) → Connection → Kept → Outcome
receives config time piece connection kept =
    elim (received (machine_of config connection) time piece connection.point).closing [
      | Some why ↦
          parts (received (machine_of config connection) time piece connection.point).text why time connection kept
      | None ↦
          speaks_on (received (machine_of config connection) time piece connection.point).text
          (received (machine_of config connection) time piece connection.point).point
          (news_up (rises connection.point (received (machine_of config connection) time piece connection.point).point))
          connection
          (comes_up (rises connection.point (received (machine_of config connection) time piece connection.point).point) kept)
    ]

-- its OPEN is said
abbrev pub begins : Config → (time : ℕ) → Connection → Kept → Outcome
begins config time connection kept =
    outcome (speaks connection.line (open_sent config connection.peer connection.asked)) None
    (with_connection (Some (record connection {
      made = true;
      since = time;
      spoken = open_sent config connection.peer connection.asked;
    })) kept)

-- a connection has ended, or couldn't be made
abbrev pub ends : (time : ℕ) → Connection → Kept → Outcome
ends time connection kept = outcome [] (Some (if connection.made then Ended else Unreached)) (lets_go time kept)

-- what comes of the connection of this line, if it is the one, and made or not
abbrev pub at_line : (line : ℕ) → (Connection → Bool) → (Connection → Kept → Outcome) → Kept → Outcome
at_line line fits act kept = elim kept.connection [
  | None ↦ rests kept
  | Some connection ↦ if (connection.line == line) && fits connection then act connection kept else rests kept
]

abbrev pub follows : Config → (time : ℕ) → What → Kept → Outcome
follows config time (made line) kept = at_line line (λ connection. not connection.made) (begins config time) kept
follows config time (gave line piece) kept = at_line line (λ connection. connection.made) (receives config time piece) kept
follows config time (ended line) kept = at_line line (λ connection. true) (ends time) kept
follows config time (taken line from) kept = rests kept
follows config time nothing kept = rests kept

-- All that an event makes of it: first the clock.
abbrev pub hears : Config → (time : ℕ) → What → Kept → Outcome
hears config time what kept = then_do (checks time kept) (follows config time what)

-- whether the next connection is due
abbrev pub is_due : (time : ℕ) → Kept → Bool
is_due time kept = not (nat_lt (time - kept.since) kept.wait)

-- a connection that was begun
abbrev pub dialling : (line time : ℕ) → Peer → Sending → Connection
dialling line time peer sending = record {
  line = line;
  made = false;
  since = time;
  peer = peer;
  asked = sending;
  point = first_point;
  spoken = [];
  told = None;
}

abbrev pub begins_one : (line time : ℕ) → (address : List ℕ) → Peer → Sending → Kept → Outcome
begins_one line time address peer sending kept =
    outcome (dialled line address ∷ []) None (with_connection (Some (dialling line time peer sending)) kept)

-- A connection is dialled where there is none, there are rules, and it is due. It announces for the peer with the lowest
-- number.
abbrev pub dials : Config → (line time : ℕ) → (address : List ℕ) → Kept → Outcome
dials config line time address kept = elim kept.connection [
  | Some connection ↦ rests kept
  | None ↦ elim kept.rules [
    | None ↦ rests kept
    | Some sending ↦ elim (sender_of config.peers) [
      | None ↦ rests kept
      | Some peer ↦ if is_due time kept then begins_one line time address peer sending kept else rests kept
    ]
  ]
]

-- What is said when rules change.

abbrev pub is_same : Sent → Sent → Bool
is_same sent other = is_eq (rule_cmp sent.rule other.rule)

-- the rules that are there no more
abbrev pub gone : (old new : List Sent) → List Sent
gone old new = filter (λ sent. not (list_any (is_same sent) new)) old

-- the messages of rules, and those among them that weren't said
abbrev pub texts : Terms → Sending → List (List ℕ)
texts terms sending = map (text_by terms sending.as_path) sending.rules

abbrev pub fresh : (old new : List (List ℕ)) → List (List ℕ)
fresh old new = filter (λ text. not (list_any (bytes_eq text) old)) new

-- what a withdrawal takes back: rules of one family, and no path
abbrev pub withdrawal : Family → List Ruled → Update
withdrawal family rules = record {
  classic_out = [];
  unreach = Some (Flow family rules);
  reach = None;
  classic_in = [];
  path = None;
  actions = [];
  as_withdraw = false;
}

abbrev pub withdrawal_text : Terms → Family → List Ruled → List ℕ
withdrawal_text terms family rules = message_text 2 (update_text terms (withdrawal family rules))

-- So many octets of rules an UPDATE has room for beside its head and the attribute's.
abbrev pub room_for_rules : ℕ
room_for_rules = 4066

-- how many of the rules fit in so much room
abbrev pub fitting : (room : ℕ) → List Ruled → ℕ
fitting room [] = 0
fitting room (rule ∷ rules) =
    if nat_lt room (length (canonical_frame rule)) then 0 else 1 + fitting (room - length (canonical_frame rule)) rules

-- as many of the first rules as fit, at least one
abbrev pub first_pack : List Ruled → Option (List Ruled × List Ruled)
first_pack [] = None
first_pack (rule ∷ rules) =
    Some (
      rule ∷ take (fitting (room_for_rules - length (canonical_frame rule)) rules) rules,
      drop (fitting (room_for_rules - length (canonical_frame rule)) rules) rules,
    )

abbrev pub packs : List Ruled → List (List Ruled)
packs rules = (parts_within first_pack (length rules) rules).0

-- the rules of a family
abbrev pub of_family : Family → List Sent → List Ruled
of_family family rules =
    map (λ (sent : Sent). sent.rule) (filter (λ (sent : Sent). afi_of sent.rule.family == afi_of family) rules)

abbrev pub withdrawals : Terms → Family → List Sent → List ℕ
withdrawals terms family rules = flat_map (withdrawal_text terms family) (packs (of_family family rules))

-- What takes an end from old rules to new ones: those that are gone are withdrawn, several in a message, and those that are
-- new or have another path or other actions are announced, in their order.
abbrev pub change_text : Terms → Option Sending → Sending → List ℕ
change_text terms None new = flat_map (λ (text : List ℕ). text) (texts terms new)
change_text terms (Some old) new =
    withdrawals terms V4 (gone old.rules new.rules)
    ++ (withdrawals terms V6 (gone old.rules new.rules) ++ flat_map (λ (text : List ℕ). text) (fresh (texts terms old) (texts terms new)))

-- how many are announced, and how many withdrawn
abbrev pub news_told : Terms → Option Sending → Sending → News
news_told terms None new = Told (length new.rules) 0
news_told terms (Some old) new = Told (length (fresh (texts terms old) (texts terms new))) (length (gone old.rules new.rules))

-- a family is needed that wasn't asked for
abbrev pub exceeds : Needs → Needs → Bool
exceeds asked needs = (needs.v4 && not asked.v4) || (needs.v6 && not asked.v6)

abbrev pub terms_at : Config → Connection → Terms
terms_at config connection = terms_of config connection.peer connection.point.phase.four

-- An end that is up is told the rules, beyond those that it was told. Where they have a family that its OPEN wasn't asked
-- for, the session closes instead, and the next one asks for it (RFC 4486, section 4: Other Configuration Change).
abbrev pub tells : Config → (time : ℕ) → Sending → Connection → Kept → Outcome
tells config time new connection kept =
    if exceeds (needs_of connection.asked.rules) (needs_of new.rules)
    then parts (notice_text 6 6) (Fault 6 6) time connection kept
    else outcome (speaks connection.line (change_text (terms_at config connection) connection.told new))
    (Some (news_told (terms_at config connection) connection.told new))
    (with_connection (Some (record connection {
      spoken = connection.spoken ++ change_text (terms_at config connection) connection.told new;
      told = Some new;
    })) kept)

abbrev pub with_rules : Sending → Kept → Kept
with_rules sending kept = record kept { rules = Some sending }

-- Other rules are to be kept: an end that was told the old ones is told the new ones.
abbrev pub accepts : Config → (time : ℕ) → Sending → Kept → Outcome
accepts config time new kept = elim kept.connection [
  | None ↦ rests (with_rules new kept)
  | Some connection ↦
      if is_some connection.told then tells config time new connection (with_rules new kept) else rests (with_rules new kept)
]

-- An end that came up, and was told nothing yet, is told all rules.
abbrev pub tells_all : Config → (time : ℕ) → Kept → Outcome
tells_all config time kept = elim kept.connection [
  | None ↦ rests kept
  | Some connection ↦ elim kept.rules [
    | None ↦ rests kept
    | Some new ↦
        if is_up connection.point && not (is_some connection.told) then tells config time new connection kept else rests kept
  ]
]
