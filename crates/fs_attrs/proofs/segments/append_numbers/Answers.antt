use Rattle.fs_attrs.proofs.Words.{ℕ, ◌^◌, ◌<◌, arith, All-from_get_or}
use Rattle.fs_attrs.proofs.segments.append_numbers.Goals as goal

pub returns-clause-sound : goal.returns-clause-sound
returns-clause-sound c = All-from_get_or (λ (asn : ℕ). asn < 2 ^ 32) c.args.numbers.now 0 (λ i lt. omega (arith, c.type_inv.numbers i))
