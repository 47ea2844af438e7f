use Rattle.fs_conf.proofs.{Words.{ℕ, ◌<◌, rules, arith, All-from_get_or, IsOctets}, OneRule.{one_frame, goes_on, bad_frame}}
use Rattle.fs_conf.proofs.sent.rule_of.Goals as goal

pub returns-in-Ok-clause-ok : goal.returns-in-Ok-clause-ok
returns-in-Ok-clause-ok c =
    let small : IsOctets c.args.octets.now = All-from_get_or (λ (x : ℕ). x < 256) c.args.octets.now 0 (λ i lt. omega (arith, c.type_inv.octets i)) in
    one_frame c.rules_are_the_outcome.ensures c.args.family c.args.octets.now small c.in-Ok.rule c.in-Ok.taken
    (search rules) c.in-Ok.ensures.family c.in-Ok.ensures.found

pub returns-in-Ok-2-clause-refused : goal.returns-in-Ok-2-clause-refused
returns-in-Ok-2-clause-refused c _ =
    let small : IsOctets c.args.octets.now = All-from_get_or (λ (x : ℕ). x < 256) c.args.octets.now 0 (λ i lt. omega (arith, c.type_inv.octets i)) in
    goes_on c.rules_are_the_outcome.ensures c.args.family c.args.octets.now small c.no_frame_goes_on.ensures c.in-Ok.rule c.in-Ok.taken
    c.in-Ok.ensures.taken (search rules)
    c.in-Ok.ensures.family c.in-Ok.ensures.found

pub returns-in-Err-Bad-clause-refused : goal.returns-in-Err-Bad-clause-refused
returns-in-Err-Bad-clause-refused c _ =
    let small : IsOctets c.args.octets.now = All-from_get_or (λ (x : ℕ). x < 256) c.args.octets.now 0 (λ i lt. omega (arith, c.type_inv.octets i)) in
    bad_frame c.rules_are_the_outcome.ensures c.args.family c.args.octets.now small c.in-Err-Bad.field-0-0 c.in-Err-Bad.field-0-1
    (rw c.in-Err-Bad.field-0-is at c.in-Err-Bad.ensures.fault)
