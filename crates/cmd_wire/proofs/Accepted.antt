-- What the files of an accepted configuration and its rules hold.
use Rattle.cmd_wire.proofs.Words.{CanArrive, Found, Names, Peer, Refusal, Sending, Stage, Stopped, and_then, config_stage, fetch, or_stop}
use Rattle.cmd_wire.proofs.Words.{rules_stage, sender_of, sending_stage, ◌≡◌, ℕ, ◌<◌, List, Option, Some, None, refl, ap, sym, ◌∙◌, Config, config_of}
use Rattle.cmd_wire.proofs.Words.{rules_of, Rejected}
use Rattle.cmd_wire.proofs.{Arrivable.{can_arrive}, Statuses.{same_found}}

-- a stage behind another that gives a value
pub then_found : {A B : Type 0} (stage : Stage A) (next : A → Stage B) (b : B) → and_then stage next ≡ Found b
    → (a : A) × ((stage ≡ Found a) × (next a ≡ Found b))
then_found (Found a) next b e = (a, (refl, e))
then_found (Stopped refusal) next b e = absurd cc

pub some_found : {A : Type 0} (refusal : Refusal) (o : Option A) (a : A) → or_stop refusal o ≡ Found a → o ≡ Some a
some_found refusal (Some x) a e = ap Some (same_found e)
some_found refusal None a e = absurd cc

-- the texts of the two files
pub record Accepted (accepted : Config) (sending : Sending) : Type 0 where
  pub text : List ℕ
  pub octets : List ℕ
  pub config_is : config_of text ≡ Some accepted
  pub rules_are : rules_of accepted octets ≡ Some sending

pub accepted_files : (limit : ℕ) (holds : Names) (config rules : List ℕ) (accepted : Config) (sending : Sending)
    → sending_stage limit holds config rules ≡ Found (accepted, sending)
    → Accepted accepted sending
accepted_files limit holds config rules accepted sending e =
    let first = then_found (config_stage limit holds config) (λ found. and_then (rules_stage found limit holds rules) (λ sent. Found (found, sent)))
    (accepted, sending) e in
    let second = then_found (rules_stage first.0 limit holds rules) (λ sent. Found (first.0, sent)) (accepted, sending) first.1.1 in
    let both : ◌≡◌ {A = Config × Sending} (first.0, second.0) (accepted, sending) = same_found second.1.1 in
    let config_text = then_found (fetch limit holds config) (λ octets. or_stop Rejected (config_of octets)) first.0 first.1.0 in
    let rules_text = then_found (fetch limit holds rules) (λ octets. or_stop Rejected (rules_of first.0 octets)) second.0 second.1.0 in
    record {
      text = config_text.0;
      octets = rules_text.0;
      config_is = some_found Rejected (config_of config_text.0) first.0 config_text.1.1 ∙ ap (λ (p : Config × Sending). Some p.0) both;
      rules_are =
          ap (λ (p : Config × Sending). rules_of p.0 rules_text.0) (sym both)
          ∙ some_found Rejected (rules_of first.0 rules_text.0) second.0 rules_text.1.1 ∙ ap (λ (p : Config × Sending). Some p.1) both;
    }

-- what they say to announce can arrive
pub arrivable : (limit : ℕ) (holds : Names) (config rules : List ℕ) (accepted : Config) (sending : Sending) (peer : Peer)
    → sending_stage limit holds config rules ≡ Found (accepted, sending) → sender_of accepted.peers ≡ Some peer → 0 < sending.id
    → CanArrive accepted peer sending
arrivable limit holds config rules accepted sending peer found low named =
    let files = accepted_files limit holds config rules accepted sending found in
    can_arrive files.text files.octets accepted sending peer files.config_is files.rules_are low named
