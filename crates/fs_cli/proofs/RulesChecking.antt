-- How what is said of a rules file follows from its stages.
use Rattle.fs_cli.proofs.Words.{◌≡◌, inl, inr, ℕ, List, [], refl, sym, subst, Config, Names, HasReason, Stage, Found, config_stage, fetch}
use Rattle.fs_cli.proofs.Words.{verdict_with, status_of, Refusal, Verdict}
use Rattle.cmd_stages.specs.Said.{Unsaid}
use Rattle.fs_cli.specs.{FileCheck.{Due, IsDue, OfRules}, RulesCheck.{JudgesRules}}

-- the rules file ended it
pub rules_unsaid : (limit : ℕ) (holds holds' : Names) (config rules : List ℕ) (accepted : Config) (failed other : Type 0) (cause refusal : Refusal)
    → refusal ≡ cause
    → config_stage limit holds config ≡ Found accepted → holds' ≡ holds → HasReason (fetch limit holds' rules) failed cause → (failed → other)
    → Unsaid (IsDue limit holds (OfRules config rules)) other refusal
rules_unsaid limit holds holds' config rules accepted failed other cause refusal same e names h f =
    subst (λ (r : Refusal). Unsaid (IsDue limit holds (OfRules config rules)) other r) (sym same)
    (by (subst (λ (n : Names). HasReason (fetch limit n rules) failed cause) names h))
  where
    by : HasReason (fetch limit holds rules) failed cause → Unsaid (IsDue limit holds (OfRules config rules)) other cause
    by (inl g) =
        inl (subst (λ (s : Stage Config). Due (λ given. Due (JudgesRules given) (fetch limit holds rules)) s (verdict_with (status_of cause) [])) (sym e)
        (subst (λ (s : Stage (List ℕ)). Due (JudgesRules accepted) s (verdict_with (status_of cause) [])) (sym g) refl))
    by (inr (inl g)) = inr (inl g)
    by (inr (inr g)) = inr (inr (g.0, f g.1))

-- the rules file was judged
pub rules_said : (limit : ℕ) (holds holds' : Names) (config rules octets : List ℕ) (accepted : Config) (verdict : Verdict)
    → config_stage limit holds config ≡ Found accepted → holds' ≡ holds
    → fetch limit holds' rules ≡ Found octets → JudgesRules accepted octets verdict → IsDue limit holds (OfRules config rules) verdict
rules_said limit holds holds' config rules octets accepted verdict e names found judges =
    subst (λ (s : Stage Config). Due (λ given. Due (JudgesRules given) (fetch limit holds rules)) s verdict) (sym e)
    (subst (λ (s : Stage (List ℕ)). Due (JudgesRules accepted) s verdict) (sym (subst (λ (n : Names). fetch limit n rules ≡ Found octets) names found)) judges)
