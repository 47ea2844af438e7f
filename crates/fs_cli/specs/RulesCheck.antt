-- What `check rules` says of the octets of a rules file.
use Rattle.std.specs.Prelude.{◌≡◌, ◌≢◌, ◌⊎◌, ℕ, List, ◌++◌, length, codes, decimal, Some, None}
use Rattle.fs_base.specs.declared.config.Config.{Config}
use Rattle.fs_conf.specs.{RuleFault.{IsFirstRulesFault, rules_fault_text}, Rules.{rules_of}}
use Rattle.fs_conf.specs.declared.fault.RulesFault.{RulesFault, TheVariants.{Memory as NoMemory}}
use Rattle.fs_speaker.specs.declared.Sending.{Sending}
use Rattle.cmd_stages.specs.Refusal.{Verdict, verdict_with}

-- how many rules it has; or its first fault
abbrev pub rules_line : Sending → List ℕ
rules_line sending = codes "rules " ++ (decimal (length sending.rules) ++ codes "\n")

abbrev pub rules_fault_line : RulesFault → List ℕ
rules_fault_line fault = codes "rules " ++ (rules_fault_text fault ++ codes "\n")

-- beside this configuration the octets aren't a rules file, and this is their first fault
pub record AreRefusedFor (config : Config) (octets : List ℕ) (fault : RulesFault) : Type 0 where
  pub some : fault ≢ NoMemory
  pub refused : rules_of config octets ≡ None
  pub first : IsFirstRulesFault config octets fault

-- what is due of the octets
abbrev pub JudgesRules : Config → List ℕ → Verdict → Type 0
JudgesRules config octets verdict =
    ((sending : Sending) × (rules_of config octets ≡ Some sending) × (verdict ≡ verdict_with 0 (rules_line sending)))
    ⊎ ((fault : RulesFault) × AreRefusedFor config octets fault × (verdict ≡ verdict_with 9 (rules_fault_line fault)))
