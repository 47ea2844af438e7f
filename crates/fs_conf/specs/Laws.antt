-- What the values are that accepted files write.
use Rattle.std.specs.{Prelude.{◌≡◌, ◌≢◌, ◌↔◌, ℕ, ◌^◌, ◌<◌, true, List, Some, None, is_some}, List.{AllByRecursion}}
use Rattle.fs_base.specs.declared.config.{Config.{Config}, Peer.{Peer}}
use Rattle.fs_speaker.specs.{declared.Sending.{Sending}, Laws.{AreSendable, IsSent}, Numbers.{HasOwnNumbers, IsFourOctet}}
use Rattle.fs_speaker.specs.{Sending.{is_short, sender_of}, Transition.{terms_of}}
use Rattle.toml.specs.Data.{Members}
use Rattle.fs_conf.specs.{Config.{config_keys, config_of, config_of_document}, Fault.{IsFirstFault, config_fault, first_other, own_fault, unfit}}
use Rattle.fs_conf.specs.{RuleFault.{IsFirstRulesFault, rules_fault}, Rules.{file_keys, rules_of, sending_of_document}}
use Rattle.fs_conf.specs.declared.fault.ConfigFault.{ConfigFault, TheVariants.{Memory as NoMemory}}
use Rattle.fs_conf.specs.declared.fault.KeyReason.TheVariants.{Unknown}
use Rattle.fs_conf.specs.declared.fault.RulesFault.{RulesFault, TheVariants.{Memory as NoRulesMemory}}

-- a peer's number has two octets, its AS number four, and neither is 0
pub record HasPeerNumbers (peer : Peer) : Type 0 where
  pub number : peer.number < 2 ^ 16
  pub some_number : 0 < peer.number
  pub asn : IsFourOctet peer.asn

-- the configuration's own and each peer's
pub record HasNumbers (config : Config) : Type 0 where
  pub own : HasOwnNumbers config
  pub peers : AllByRecursion HasPeerNumbers config.peers

abbrev pub AcceptsNumbers : Type 0
AcceptsNumbers = (octets : List ℕ) (config : Config) → config_of octets ≡ Some config → HasNumbers config

-- The identifier has four octets, the AS numbers are those of one AS_SEQUENCE, and each rule is as octets say rules; its
-- UPDATE to the peer that rules are sent for fits a message.
pub record HasRules (config : Config) (sending : Sending) : Type 0 where
  pub id : sending.id < 2 ^ 32
  pub numbers : AreSendable sending.as_path
  pub rules : AllByRecursion IsSent sending.rules
  pub short : (peer : Peer) → sender_of config.peers ≡ Some peer
      → AllByRecursion (λ sent. is_short (terms_of config peer true) sending.as_path sent ≡ true) sending.rules

abbrev pub AcceptsRules : Type 0
AcceptsRules = (octets : List ℕ) (config : Config) (sending : Sending) → rules_of config octets ≡ Some sending → HasRules config sending

-- A document is accepted exactly where no fault is named; octets that have a fault are no configuration; and of the faults
-- of a document a key that it doesn't have is the first.
pub record NamesTheFault : Type 0 where
  pub exact : (members : Members) → (config_fault members ≡ None) ↔ (is_some (config_of_document members) ≡ true)
  pub refused : (octets : List ℕ) (fault : ConfigFault) → IsFirstFault octets fault → fault ≢ NoMemory → config_of octets ≡ None
  pub other_first : (members : Members) (key : List ℕ) → first_other config_keys members ≡ Some key
      → config_fault members ≡ Some (own_fault (unfit key Unknown))

-- Likewise of a rules file beside a configuration.
pub record NamesTheRulesFault : Type 0 where
  pub exact : (config : Config) (members : Members)
      → (rules_fault config members ≡ None) ↔ (is_some (sending_of_document config members) ≡ true)
  pub refused : (config : Config) (octets : List ℕ) (fault : RulesFault)
      → IsFirstRulesFault config octets fault → fault ≢ NoRulesMemory → rules_of config octets ≡ None
  pub other_first : (config : Config) (members : Members) (key : List ℕ) → first_other file_keys members ≡ Some key
      → rules_fault config members ≡ Some (own_fault (unfit key Unknown))
