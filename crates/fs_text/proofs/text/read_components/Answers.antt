use Rattle.fs_text.proofs.{Words.{Bor, List, ℕ, map, refl, IfErr, IsWordFault}, Wholly.{err_on, led_pushed, part_fault}}
use Rattle.fs_nlri.specs.Component.{parts_of}
use Rattle.fs_text.proofs.text.read_components.Goals as goal

pub returns-in_err-component-clause-fault : goal.returns-in_err-component-clause-fault
returns-in_err-component-clause-fault c =
    err_on (λ r. IfErr r (IsWordFault (map (λ (w : Bor (List ℕ)). w.now) c.args.words.now))) c.from_residual.result c.from_residual.ensures.1 (
    λ fault same.
    rw same (part_fault (map (λ (w : Bor (List ℕ)). w.now) c.args.words.now) c.args.family (parts_of c.loop-alloc.components.items) c.loop-alloc.last
    c.loop-alloc.place c.in_err-component.field-0.0
    c.loop-alloc.invariant.1 (c.loop-alloc-test.ensures.no refl) c.in_err-component.ensures.fault)
    )

pub loop-alloc-preserved : goal.loop-alloc-preserved
loop-alloc-preserved c = (
  c.in_ok-component.ensures.within,
  led_pushed (map (λ (w : Bor (List ℕ)). w.now) c.args.words.now) c.args.family c.loop-alloc.components.items c.loop-alloc.last c.loop-alloc.place
      c.in_ok-component.component c.push.new.self.items c.kind-last.result
      c.loop-alloc.invariant.1 c.in_ok-component.ensures.found (c.loop-alloc-test.ensures.no refl) c.in_ok-push.ensures.items c.kind-last.ensures,
)
