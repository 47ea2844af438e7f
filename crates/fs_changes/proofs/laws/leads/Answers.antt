use Rattle.fs_changes.proofs.{Words.{[], Act, IsRule, is_before, is_same}, Leading.{leads}, Same.{sound}}
use Rattle.fs_changes.proofs.laws.leads.Goals as goal

pub returns : goal.returns
returns c = λ old new own other. leads (λ (act : Act). IsRule act.rule) is_before is_same old sound own [] new other
