use Rattle.fs_attrs.proofs.{Words.{rules, ◌≡◌, ◌≤◌, ◌+◌, ℕ, List, length, Ok, Err, OnOk, subst, update_text, Writes}, UpdateReadBack.{read_back}}
use Rattle.fs_attrs.specs.declared.update.WriteFault.{WriteFault, TheVariants.{TooLong, Memory}}
use Rattle.std.specs.Prelude.{Result}
use Rattle.fs_attrs.proofs.write.write_update.Goals as goal

-- what holds of a body that fits a message
where_written : (result : Result (Unit {0}) WriteFault) (body old new : List ℕ) (Law : Type 0) → Writes result body old new
    → (19 + length body ≤ 4096 → Law) → OnOk result Law
where_written (Ok _) body old new Law written law = law written.0
where_written (Err TooLong) body old new Law written law = tt
where_written (Err Memory) body old new Law written law = tt

pub returns-clause-read_back : goal.returns-clause-read_back
returns-clause-read_back c =
    let body : c.deref.result.now ≡ update_text c.args.terms.now c.args.update.now = search rules in
    where_written c.append_message.result c.deref.result.now _ _ _ c.append_message.ensures
    (λ small. read_back c.args.terms.now c.args.update.now c.requires c.in_ok-append_body.ensures.sound
    (subst (λ (z : List ℕ). 19 + length z ≤ 4096) body small))
