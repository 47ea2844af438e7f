use Rattle.fs_message.proofs.Words.{◌≡◌, Some, ap, sym, ◌∙◌, arith, nat_tests, common_steps, fault, fields_fault}
use Rattle.fs_message.proofs.CapabilityLists.{fields_right, fields_sized}
use Rattle.fs_message.proofs.open_.fault_of_fields.Goals as goal

pub returns-then-body : goal.returns-then-body
returns-then-body c =
    let sized : Some (fault 2 4) ≡ fields_fault c.args.body.now =
    sym (fields_sized _ _ _ _ _ (grind (arith, nat_tests, common_steps)) (grind (arith, nat_tests, common_steps))
    (grind (arith, nat_tests, common_steps)) (grind (arith, nat_tests, common_steps)) (grind (arith, nat_tests, common_steps))) in
    ap (λ z. Some z) c.of-then-body.ensures ∙ sized

pub returns : goal.returns
returns c = sym (fields_right _ _ _ _ _ (grind (arith, nat_tests, common_steps)) (grind (arith, nat_tests, common_steps))
    (grind (arith, nat_tests, common_steps)) (grind (arith, nat_tests, common_steps)) (grind (arith, nat_tests, common_steps)))
