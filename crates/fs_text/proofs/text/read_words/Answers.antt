use Rattle.fs_text.proofs.{Words.{Bor, List, ℕ, map, ReadsWords}, Wholly.{err_on, reads_fault}}
use Rattle.fs_nlri.specs.Component.{parts_of}
use Rattle.fs_text.proofs.text.read_words.Goals as goal

pub returns-in_err-family : goal.returns-in_err-family
returns-in_err-family c =
    err_on (ReadsWords (map (λ (w : Bor (List ℕ)). w.now) c.args.words.now)) c.from_residual.result c.from_residual.ensures.1
    (λ fault same. rw same (reads_fault (map (λ (w : Bor (List ℕ)). w.now) c.args.words.now) c.in_err-family.field-0.0 c.in_err-family.ensures.fault))

pub returns-in_err-components : goal.returns-in_err-components
returns-in_err-components c =
    err_on (ReadsWords (map (λ (w : Bor (List ℕ)). w.now) c.args.words.now)) c.from_residual-in_err-components.result
    c.from_residual-in_err-components.ensures.1
    (λ fault same. rw same (reads_fault (map (λ (w : Bor (List ℕ)). w.now) c.args.words.now) c.in_err-components.field-0.0 c.in_err-components.ensures.fault))

pub returns-in_err-actions : goal.returns-in_err-actions
returns-in_err-actions c =
    err_on (ReadsWords (map (λ (w : Bor (List ℕ)). w.now) c.args.words.now)) c.from_residual-in_err-actions.result c.from_residual-in_err-actions.ensures.1 (
    λ fault same.
    rw same (reads_fault (map (λ (w : Bor (List ℕ)). w.now) c.args.words.now) c.in_err-actions.field-0.0
    (c.in_err-actions.ensures.fault c.in_ok-family.family (parts_of c.in_ok-components.components.items) c.in_ok-components.ensures.found))
    )
