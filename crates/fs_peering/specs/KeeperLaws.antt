-- That a kept connection leaves the other end exactly the rules that it was told: what happens to a kept session, one act
-- after the other, what is sent then, and what the receiving end holds by all that was said through its connection.
use Rattle.std.specs.Prelude.{◌≡◌, ℕ, ◌==◌, ◌^◌, ◌<◌, ◌&&◌, Bool, true, not, if◌then◌else◌, ⊤, List, [], ◌∷◌, ◌++◌, find, Option, Some, option_map}
use Rattle.std.specs.List.{AllByRecursion, list_any}
use Rattle.fs_base.specs.{Gate.{Turn, What, dialled as begun, said}, declared.config.{Config.{Config}, Peer.{Peer}}}
use Rattle.fs_nlri.specs.Parts.{Ruled}
use Rattle.fs_attrs.specs.declared.update.{Terms.{Terms}, Update.{Update}}
use Rattle.fs_session.specs.declared.{state.State.TheVariants.{Established}}
use Rattle.fs_speaker.specs.{Announcer.{CanSend}, Laws.{IsSent}, Numbers.{HasOwnNumbers, IsFourOctet}, Sending.{path_by, sender_of}}
use Rattle.fs_speaker.specs.{Session.{at_start, session_from, still}, Transition.{phase, terms_of}, declared.{Sending.{Sending}, Sent.{Sent}}}
use Rattle.fs_desk.specs.Updates.{Given, flow_left, is_rule}
use Rattle.fs_peering.specs.Keeper.{Connection, Kept, accepts, at_first, dials, hears, is_same, tells_all}

-- What happens to a kept session: an event of the gate, a dialling that is tried and would get this line, rules that are
-- accepted, and the telling of all rules.
pub data Act : Type 0 where
  heard : (time : ℕ) (what : What) → Act
  dialled : (line time : ℕ) (address : List ℕ) → Act
  accepted : (time : ℕ) → Sending → Act
  told_all : (time : ℕ) → Act

abbrev pub acted : Config → Kept → Act → Kept
acted config kept (heard time what) = (hears config time what kept).kept
acted config kept (dialled line time address) = (dials config line time address kept).kept
acted config kept (accepted time sending) = (accepts config time sending kept).kept
acted config kept (told_all time) = (tells_all config time kept).kept

abbrev pub kept_from : Config → Kept → List Act → Kept
kept_from config kept [] = kept
kept_from config kept (act ∷ acts) = kept_from config (acted config kept act) acts

-- how it stands behind these acts
abbrev pub kept_behind : Config → List Act → Kept
kept_behind config acts = kept_from config at_first acts

-- no two are one rule
abbrev pub are_single : List Sent → Bool
are_single [] = true
are_single (sent ∷ rules) = not (list_any (is_same sent) rules) && are_single rules

-- Rules that may be kept at a peer: they can be sent, their numbers fit and the identifier isn't 0, each is as octets say
-- it, and no two are one.
pub record MayKeep (config : Config) (peer : Peer) (sending : Sending) : Type 0 where
  pub can : CanSend config (Some peer) sending
  pub id : IsFourOctet sending.id
  pub path : AllByRecursion (λ asn. asn < 2 ^ 32) sending.as_path
  pub rules : AllByRecursion IsSent sending.rules
  pub single : are_single sending.rules ≡ true

abbrev pub MayAct : Config → Peer → Act → Type 0
MayAct config peer (accepted time sending) = MayKeep config peer sending
MayAct config peer _ = ⊤

-- The numbers of a configuration fit, this is the peer that it announces for, and all rules that were accepted may be kept.
pub record AreActs (config : Config) (peer : Peer) (acts : List Act) : Type 0 where
  pub own : HasOwnNumbers config
  pub asn : IsFourOctet peer.asn
  pub sender : sender_of config.peers ≡ Some peer
  pub each : AllByRecursion (MayAct config peer) acts

-- what an end holds of a rule once it was told these: the rule, their path, and its actions
abbrev pub given_by : Terms → Sending → Ruled → Option Given
given_by terms sending rule =
    option_map (λ (sent : Sent). (sent.rule, path_by terms sending.as_path, sent.actions))
    (find (λ (sent : Sent). is_rule rule sent.rule) sending.rules)

-- By these octets the receiving end is Established, and holds of each rule what these say of it, and of no other.
pub record LeavesExactly (config : Config) (peer : Peer) (sending : Sending) (octets : List ℕ) : Type 0 where
  pub updates : List Update
  pub session_is : session_from config peer at_start octets ≡ (updates, still (phase Established true config.hold_time))
  pub leaves : (rule : Ruled) → flow_left rule updates ≡ given_by (terms_of config peer true) sending rule

-- Whatever happens: where a connection was told rules, they are those that are kept, and what was said through it leaves the
-- receiving end exactly them. The other end's OPEN is to say that AS numbers have four octets.
abbrev pub KeepsEqual : Type 0
KeepsEqual =
    (config : Config) (peer : Peer) (acts : List Act) (connection : Connection) (told : Sending) → AreActs config peer acts
    → (kept_behind config acts).connection ≡ Some connection → connection.told ≡ Some told
    → connection.point.phase.four ≡ true
    → ((kept_behind config acts).rules ≡ Some told) × ((connection.peer ≡ peer) × LeavesExactly config peer told connection.spoken)

-- what is asked of the gate at an act, and at all
abbrev pub asked : Config → Kept → Act → List Turn
asked config kept (heard time what) = (hears config time what kept).turns
asked config kept (dialled line time address) = (dials config line time address kept).turns
asked config kept (accepted time sending) = (accepts config time sending kept).turns
asked config kept (told_all time) = (tells_all config time kept).turns

abbrev pub asked_from : Config → Kept → List Act → List Turn
asked_from config kept [] = []
asked_from config kept (act ∷ acts) = asked config kept act ++ asked_from config (acted config kept act) acts

abbrev pub asked_by : Config → List Act → List Turn
asked_by config acts = asked_from config at_first acts

-- the octets that were sent on a line, in their order
abbrev pub sent_on : (line : ℕ) → List Turn → List ℕ
sent_on line [] = []
sent_on line (said other octets ∷ turns) = (if other == line then octets else []) ++ sent_on line turns
sent_on line (_ ∷ turns) = sent_on line turns

abbrev pub is_among : (line : ℕ) → (lines : List ℕ) → Bool
is_among line lines = list_any (λ other. other == line) lines

-- no line is dialled twice, nor one of these again
abbrev pub are_new : (seen : List ℕ) → List Turn → Bool
are_new seen [] = true
are_new seen (begun line address ∷ turns) = not (is_among line seen) && are_new (line ∷ seen) turns
are_new seen (_ ∷ turns) = are_new seen turns

-- Where no line was dialled twice, what counts as said through the connection is what was sent on its line.
abbrev pub SendsAll : Type 0
SendsAll =
    (config : Config) (acts : List Act) (connection : Connection) → are_new [] (asked_by config acts) ≡ true
    → (kept_behind config acts).connection ≡ Some connection
    → sent_on connection.line (asked_by config acts) ≡ connection.spoken
