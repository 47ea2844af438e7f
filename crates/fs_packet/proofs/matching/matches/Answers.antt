use Rattle.fs_packet.proofs.matching.matches.Goals as goal

pub components_match-requires : goal.components_match-requires
components_match-requires c = rw c.components.ensures.parts c.components.ensures.sound
