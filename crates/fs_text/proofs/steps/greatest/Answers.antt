use Rattle.std.proofs.Common.{refl, sym, ap, arith}
use Rattle.fs_text.proofs.Greatest.{highest_of, is_top}
use Rattle.fs_text.proofs.steps.greatest.Goals as goal

pub returns-in-bytes : goal.returns-in-bytes
returns-in-bytes c =
    is_top 0x80 0x06 c.args.name.now c.of.result c.of.ensures.value (omega arith) (omega arith) (record { eight = refl; normal = refl })
    (sym c.in-bytes.is) (ap highest_of c.in-bytes.is)

pub returns-in-packets : goal.returns-in-packets
returns-in-packets c =
    is_top 0x80 0x0c c.args.name.now c.of-in-packets.result c.of-in-packets.ensures.value (omega arith) (omega arith)
    (record { eight = refl; normal = refl }) (sym c.in-packets.is)
    (ap highest_of c.in-packets.is)

pub returns-in-redirect : goal.returns-in-redirect
returns-in-redirect c =
    is_top 0x82 0x08 c.args.name.now c.of-in-redirect.result c.of-in-redirect.ensures.value (omega arith) (omega arith)
    (record { eight = refl; normal = refl }) (sym c.in-redirect.is)
    (ap highest_of c.in-redirect.is)
