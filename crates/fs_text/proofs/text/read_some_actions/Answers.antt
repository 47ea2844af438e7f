use Rattle.fs_text.proofs.Words.{◌+◌, Bor, List, ℕ, inr, map, refl, subst, sym, arith, IfErr, Acts, IsWhole, IsWordFault}
use Rattle.fs_text.proofs.{Acted.{acts_next, whole_actions}, Wholly.{action_fault, drop_end, drop_some, err_on}}
use Rattle.fs_text.proofs.text.read_some_actions.Goals as goal

pub returns-in_err-action-clause-fault : goal.returns-in_err-action-clause-fault
returns-in_err-action-clause-fault c = λ family parts acts.
    err_on (λ r. IfErr r (IsWordFault (map (λ (w : Bor (List ℕ)). w.now) c.args.words.now))) c.from_residual.result c.from_residual.ensures.1 (
    λ fault same.
    rw same (action_fault (map (λ (w : Bor (List ℕ)). w.now) c.args.words.now) family parts c.loop-actions.actions c.loop-actions.place
    c.in_err-action.field-0.0
    (c.loop-actions.invariant.1 family parts acts) c.loop-actions.invariant.2 c.in_err-action.ensures.fault)
    )

pub returns-then-place-words-clause-found : goal.returns-then-place-words-clause-found
returns-then-place-words-clause-found c = λ family parts acts.
    subst (λ (l : List (List ℕ)). IsWhole (map (λ (w : Bor (List ℕ)). w.now) c.args.words.now) family parts l) (sym c.in_ok-push.ensures.ok)
    (whole_actions (map (λ (w : Bor (List ℕ)). w.now) c.args.words.now) family parts c.loop-actions.actions c.in_ok-action.action (c.loop-actions.place + 2)
    (acts_next (map (λ (w : Bor (List ℕ)). w.now) c.args.words.now) family parts c.loop-actions.actions c.loop-actions.place c.in_ok-action.action _
    (c.loop-actions.invariant.1 family parts acts)
    c.in_ok-action.ensures.found refl) (drop_end (λ (w : Bor (List ℕ)). w.now) c.args.words.now (c.loop-actions.place + 2) c.if-place-words.true))

pub loop-actions-preserved : goal.loop-actions-preserved
loop-actions-preserved c = (
  c.in_ok-action.ensures.within,
  λ family parts acts.
      subst (λ (l : List (List ℕ)). Acts (map (λ (w : Bor (List ℕ)). w.now) c.args.words.now) family parts l (c.loop-actions.place + 2))
      (sym c.in_ok-push.ensures.ok)
      (acts_next (map (λ (w : Bor (List ℕ)). w.now) c.args.words.now) family parts c.loop-actions.actions c.loop-actions.place c.in_ok-action.action _
      (c.loop-actions.invariant.1 family parts acts)
      c.in_ok-action.ensures.found refl),
  inr (drop_some (λ (w : Bor (List ℕ)). w.now) c.args.words.now (c.loop-actions.place + 2)
      (grind (arith, c.in_ok-action.ensures.within, c.if-place-words.false))),
)
