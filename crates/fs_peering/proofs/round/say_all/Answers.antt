use Rattle.std.proofs.Common.{rules, refl}
use Rattle.fs_peering.proofs.Speaking.{spoken_none}
use Rattle.fs_peering.proofs.round.say_all.Goals as goal

pub messages-init : goal.messages-init
messages-init g c = record { later = search rules; spoken = spoken_none _ _ _; over = refl; shut = refl; ready = refl; own = refl; count = refl }
