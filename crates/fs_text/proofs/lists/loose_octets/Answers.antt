use Rattle.std.proofs.Common.{◌∙◌, ap, Some, arith}
use Rattle.fs_text.proofs.Wide.{octets_back, octets_told}
use Rattle.fs_text.proofs.lists.loose_octets.Goals as goal

pub returns-in-Ok : goal.returns-in-Ok
returns-in-Ok c = λ n small is.
    let told = octets_told c.args.digits.now _ _ c.args.width n c.decode_to_slice.result (grind (arith, c.requires.high)) c.decode_to_slice.ensures.value is in
    ap Some (c.read_uint.ensures ∙ octets_back c.args.width n c.decode_to_slice.new.out _ small told.1)

pub returns-in-Err : goal.returns-in-Err
returns-in-Err c = λ n small is.
    let told = octets_told c.args.digits.now _ _ c.args.width n c.decode_to_slice.result (grind (arith, c.requires.high)) c.decode_to_slice.ensures.value is in
    absurd (cc (told.0, c.in-Err.is))
