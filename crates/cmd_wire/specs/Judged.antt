-- What a rules file changes that is read again and again.
use Rattle.std.specs.Prelude.{ℕ, List, codes, Option, Some, None, ◌≡◌, ◌≢◌, string_bytes, true, ⊤}
use Rattle.fs_base.specs.{Gate.{Content, absent, too_long, unread, whole}, declared.config.Config.{Config}}
use Rattle.fs_conf.specs.{RuleFault.{IsFirstRulesFault, rules_fault_text}, Rules.{are_single, rules_of}}
use Rattle.fs_conf.specs.declared.fault.RulesFault.{RulesFault, TheVariants.{Memory as NoMemory}}
use Rattle.fs_speaker.specs.{Announcer.{CanSend}, Sending.{sender_of}, declared.Sending.{Sending}}
use Rattle.cmd_wire.specs.{Shelf.{Shelf}, declared.judged.Judged.{Judged as Verdict, TheVariants.{Accepted, Refused}}}

-- These rules are to be kept; or the file isn't accepted, for this reason.
pub data Judged : Type 0 where
  accepted : Sending → Judged
  refused : (reason : List ℕ) → Judged

abbrev pub judged_as : Verdict → Judged
judged_as (Accepted rules) = accepted rules
judged_as (Refused reason) = refused (string_bytes reason)

-- what a file counts as holding
abbrev pub counted : Option Content → Content
counted None = absent
counted (Some content) = content

abbrev pub held_in : Shelf → Content
held_in shelf = counted shelf.settled

-- Beside this configuration the octets aren't a rules file, and the reason is the text of their first fault.
pub record IsRefusal (config : Config) (octets : List ℕ) (reason : List ℕ) : Type 0 where
  pub fault : RulesFault
  pub some : fault ≢ NoMemory
  pub refused : rules_of config octets ≡ None
  pub first : IsFirstRulesFault config octets fault
  pub told : reason ≡ rules_fault_text fault

-- octets are judged beside the configuration
abbrev pub AreJudged : Config → List ℕ → Judged → Type 0
AreJudged config octets (accepted rules) = rules_of config octets ≡ Some rules
AreJudged config octets (refused reason) = IsRefusal config octets reason

abbrev pub IsJudged : Config → Content → Judged → Type 0
IsJudged config (whole octets) judged = AreJudged config octets judged
IsJudged config absent judged = judged ≡ refused (codes "Absent")
IsJudged config unread judged = judged ≡ refused (codes "Unread")
IsJudged config too_long judged = judged ≡ refused (codes "TooLong")

-- What is accepted may be sent for the peer with the lowest number, and no two of its rules are one.
abbrev pub MayBeKept : Config → Judged → Type 0
MayBeKept config (accepted rules) = CanSend config (sender_of config.peers) rules × (are_single rules.rules ≡ true)
MayBeKept config (refused reason) = ⊤
