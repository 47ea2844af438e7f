use Rattle.std.proofs.Common.{ℕ, not, ◌==◌, ap, ◌∙◌, arith}
use Rattle.fs_message.proofs.Markers.{greatest}
use Rattle.fs_message.proofs.header.has_wrong_marker.Goals as goal

pub returns : goal.returns
returns c =
    ap (λ (number : ℕ). not (number == 340282366920938463463374607431768211455)) c.read_u128.ensures
    ∙ greatest 16 c.args.octets.now (omega (arith, c.if-octets-lt16.false)) (λ k. omega (arith, c.type_inv.octets k))
