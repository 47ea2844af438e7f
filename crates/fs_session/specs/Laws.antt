-- That steps, one after the other, make the session of all octets, at either end; and that what an announcing end says
-- is, at the receiving end, its updates.
use Rattle.std.specs.{Prelude.{◌≡◌, ◌≢◌, ℕ, ◌^◌, ◌<◌, ◌≤◌, true, List, [], ◌++◌, flat_map, length, map, Option, None, Ok}, List.{AllByRecursion}}
use Rattle.fs_base.specs.{Language.{IsOctets}, declared.config.{Config.{Config}, Peer.{Peer}}}
use Rattle.fs_nlri.specs.Rule.{IsRule}
use Rattle.fs_actions.specs.Actions.{IsActions}
use Rattle.fs_message.specs.Write.{message_text}
use Rattle.fs_attrs.specs.{declared.update.Update.{Update}, Update.{update_of}}
use Rattle.fs_session.specs.declared.state.{State.TheVariants.{Established}, Closed.{Closed}}
use Rattle.fs_session.specs.declared.{sending.{Sent.{Sent}, Sending.{Sending}}, times.Times.{Times}}
use Rattle.fs_session.specs.Announcer.{open_sent}
use Rattle.fs_session.specs.Handed.{Point, point, handed, shuts, with_taken, runs_by, hand}
use Rattle.fs_session.specs.{Line.{waits, takes, stops, step_by}, Replies.{replies_by}, Sending.{body_by, is_short, update_sent, text_sent}}
use Rattle.fs_session.specs.Session.{at_start, still, closed, with_update, session_by, session_from}
use Rattle.fs_session.specs.{Times.{taken_in}, Transition.{Machine, Phase, phase, terms_of}}

-- A message that is taken is the session's first, whatever follows; the session goes on behind it.
abbrev pub TakesFirst : Type 0
TakesFirst =
    (machine : Machine) (now next : Phase) (update : Option Update) (octets behind more : List ℕ)
    → step_by machine now octets ≡ takes next update behind
    → session_by machine now (octets ++ more) ≡ with_update update (session_by machine next (behind ++ more))

-- Octets that close the session close it whatever follows.
abbrev pub StopsLast : Type 0
StopsLast =
    (machine : Machine) (now : Phase) (why : Closed) (octets more : List ℕ)
    → step_by machine now octets ≡ stops why → session_by machine now (octets ++ more) ≡ ([], closed why)

-- Octets that wait for more leave the session where it stood.
abbrev pub WaitsThere : Type 0
WaitsThere =
    (machine : Machine) (now : Phase) (octets : List ℕ)
    → step_by machine now octets ≡ waits → session_by machine now octets ≡ ([], still now)

-- A rule's UPDATE is read as the update that announces it.
pub record ComesBack (config : Config) (peer : Peer) (sending : Sending) (sent : Sent) : Type 0 where
  pub short : is_short (terms_of config peer true) sending.as_path sent ≡ true
  pub read : update_of (terms_of config peer true) (body_by (terms_of config peer true) sending.as_path sent)
      ≡ Ok (update_sent config peer sending sent)

-- AS numbers that one AS_SEQUENCE holds.
pub record AreSendable (numbers : List ℕ) : Type 0 where
  pub few : length numbers ≤ 255
  pub each : AllByRecursion (λ asn. asn < 2 ^ 32) numbers

-- A rule and its actions, as octets say them.
pub record IsSent (sent : Sent) : Type 0 where
  pub rule : IsRule sent.rule
  pub actions : IsActions sent.actions
  pub octets : AllByRecursion IsOctets sent.actions

-- The UPDATE of each such rule that fits a message is read so.
abbrev pub RulesComeBack : Type 0
RulesComeBack =
    (config : Config) (peer : Peer) (sending : Sending) → AreSendable sending.as_path → (sent : Sent) → IsSent sent
    → is_short (terms_of config peer true) sending.as_path sent ≡ true → ComesBack config peer sending sent

-- All that an announcing end says: its OPEN, the KEEPALIVE that answers ours, and the UPDATEs of its rules.
abbrev pub said_by : Config → Peer → Sending → List ℕ
said_by config peer sending =
    open_sent config peer sending ++ (message_text 4 [] ++ flat_map (text_sent config peer true sending) sending.rules)

-- The receiving end takes of it exactly the rules' updates, in their order, and is then Established.
abbrev pub RulesArrive : Type 0
RulesArrive =
    (config : Config) (peer : Peer) (sending : Sending) → peer.asn < 2 ^ 32 → config.hold_time < 2 ^ 16
    → sending.id < 2 ^ 32 → 0 < peer.asn → config.hold_time ≢ 1 → config.hold_time ≢ 2 → 0 < sending.id
    → AllByRecursion (ComesBack config peer sending) sending.rules
    → session_from config peer at_start (said_by config peer sending)
    ≡ (map (update_sent config peer sending) sending.rules, still (phase Established true config.hold_time))

-- What an end comes to that is handed octets: a message at the front is taken and answered, and the rest is handed on.
abbrev pub HandsOn : Type 0
HandsOn =
    (machine : Machine) (now next : Phase) (times : Times) (update : Option Update) (octets behind more : List ℕ)
    → step_by machine now octets ≡ takes next update behind
    → runs_by machine now times (octets ++ more)
    ≡ with_taken (machine.answer now.state) update (runs_by machine next (taken_in now.state times) (behind ++ more))

-- Octets that close it close it whatever follows.
abbrev pub HandsLast : Type 0
HandsLast =
    (machine : Machine) (now : Phase) (times : Times) (why : Closed) (octets more : List ℕ)
    → step_by machine now octets ≡ stops why → runs_by machine now times (octets ++ more) ≡ shuts machine now times why

-- Octets that wait for more wait there.
abbrev pub HandsNothing : Type 0
HandsNothing =
    (machine : Machine) (now : Phase) (times : Times) (octets : List ℕ)
    → step_by machine now octets ≡ waits → runs_by machine now times octets ≡ handed (point octets now times None) [] []

-- Whatever the moments are, it takes the updates of the session, and answers what the session replies.
abbrev pub HandsUpdates : Type 0
HandsUpdates =
    (machine : Machine) (now : Phase) (times : Times) (octets : List ℕ)
    → (runs_by machine now times octets).updates ≡ (session_by machine now octets).0

abbrev pub HandsReplies : Type 0
HandsReplies =
    (machine : Machine) (now : Phase) (times : Times) (octets : List ℕ)
    → (runs_by machine now times octets).text ≡ replies_by machine now octets

-- Two pieces that are handed to an open end, at whatever moments, give the updates and the replies of their octets at once.
abbrev pub HandsBoth : Type 0
HandsBoth =
    (machine : Machine) (now : Point) (moment later : ℕ) (piece more : List ℕ) → now.closed ≡ None
    → (session_by machine now.phase (now.waiting ++ (piece ++ more))).0
    ≡ (hand machine moment now piece).updates ++ (hand machine later (hand machine moment now piece).point more).updates

abbrev pub HandsBothReplies : Type 0
HandsBothReplies =
    (machine : Machine) (now : Point) (moment later : ℕ) (piece more : List ℕ) → now.closed ≡ None
    → replies_by machine now.phase (now.waiting ++ (piece ++ more))
    ≡ (hand machine moment now piece).text ++ (hand machine later (hand machine moment now piece).point more).text

-- Of whatever front of the octets, the updates are a front of the updates of all.
abbrev pub FrontsFirst : Type 0
FrontsFirst =
    (machine : Machine) (now : Phase) (front behind : List ℕ)
    → (rest : List Update) × ((session_by machine now (front ++ behind)).0 ≡ (session_by machine now front).0 ++ rest)
