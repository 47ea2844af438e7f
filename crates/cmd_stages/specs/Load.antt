-- What the files tell, and the stages of the configuration and the rules file.
use Rattle.std.specs.Prelude.{ℕ, List, Option, Some, ◌≡◌, ◌<◌, ◌≤◌, ◌++◌, nat_le, length, take, if◌then◌else◌}
use Rattle.fs_base.specs.{Files.{Opened, one_opening}, Sink.{Grew}, declared.config.Config.{Config}}
use Rattle.fs_conf.specs.{Config.{config_of}, Rules.{rules_of}}
use Rattle.fs_speaker.specs.declared.Sending.{Sending}
use Rattle.cmd_stages.specs.{declared.refusal.Refusal.TheVariants.{Outside, Rejected, Limit}, Refusal.{Stage, Found, Stopped, and_then, or_stop}}

-- what each name holds
abbrev pub Names : Type 0
Names = List ℕ → Option (List ℕ)

-- a file that is read whole: it is there, and has fewer octets than the limit
abbrev pub fetch : ℕ → Names → List ℕ → Stage (List ℕ)
fetch limit holds name =
    and_then (or_stop Outside (holds name)) (λ octets. if nat_le limit (length octets) then Stopped Limit else Found octets)

-- the configuration file is accepted
abbrev pub config_stage : ℕ → Names → List ℕ → Stage Config
config_stage limit holds name = and_then (fetch limit holds name) (λ octets. or_stop Rejected (config_of octets))

-- the file of this name has fewer octets than the limit, and is accepted as this configuration
pub record HoldsConfig (limit : ℕ) (holds : Names) (name : List ℕ) (config : Config) : Type 0 where
  pub octets : List ℕ
  pub there : holds name ≡ Some octets
  pub within : length octets < limit
  pub accepted : config_of octets ≡ Some config

-- the rules file is accepted beside this configuration
abbrev pub rules_stage : Config → ℕ → Names → List ℕ → Stage Sending
rules_stage config limit holds name = and_then (fetch limit holds name) (λ octets. or_stop Rejected (rules_of config octets))

-- the configuration is accepted, and the rules file beside it
abbrev pub sending_stage : ℕ → Names → (config rules : List ℕ) → Stage (Config × Sending)
sending_stage limit holds config rules =
    and_then (config_stage limit holds config) (λ accepted.
    and_then (rules_stage accepted limit holds rules) (λ sending.
    Found (accepted, sending)))

-- The names that a command opens, in this order, each in its slot: how many of the first can be refused for what they say,
-- and how many are due where it ends with 0.
pub record Openings : Type 0 where
  pub files : List Opened
  pub judged : ℕ
  pub due : ℕ

-- What was opened is a front of these: the first at least, at 3 none after those that can be refused, at 0 those due.
pub record OpensFront (openings : Openings) (before now : Option (List Opened)) (answer : ℕ) : Type 0 where
  pub count : ℕ
  pub front : Grew before now (take count openings.files)
  pub some : 1 ≤ count
  pub few : answer ≡ 3 → count ≤ openings.judged
  pub all : answer ≡ 0 → openings.due ≤ count

-- the configuration, in slot 0, and then another file, in slot 1
abbrev pub config_then : (judged : ℕ) (config other : List ℕ) → Openings
config_then judged config other = record { files = one_opening 0 config ++ one_opening 1 other; judged = judged; due = 2 }

-- the configuration alone
abbrev pub config_alone : List ℕ → Openings
config_alone config = record { files = one_opening 0 config; judged = 1; due = 1 }
