use Rattle.fs_peering.proofs.{Words.{IfOk, List, OnOk, ℕ, ◌++◌, ◌≡◌, length}, ChangeParts.{fresh_texts}}
use Rattle.fs_peering.specs.Change.{joined}
use Rattle.fs_peering.proofs.Words.{subst}
use Rattle.fs_peering.proofs.change.append_fresh.Goals as goal

pub returns-clause-text : goal.returns-clause-text
returns-clause-text c =
    subst (λ (l : List (List ℕ)). OnOk c.append_unsaid.result (c.append_unsaid.new.out.items ≡ c.args.out.now.items ++ joined l))
    (fresh_texts _ _ _ _ _ _ _ c.as_slice.ensures c.as_slice-2.ensures c.in_ok-said.ensures) c.append_unsaid.ensures.text

pub returns-clause-count : goal.returns-clause-count
returns-clause-count c =
    subst (λ (l : List (List ℕ)). IfOk c.append_unsaid.result (λ count. count ≡ length l)) (fresh_texts _ _ _ _
    _ _ _ c.as_slice.ensures c.as_slice-2.ensures c.in_ok-said.ensures) c.append_unsaid.ensures.count
