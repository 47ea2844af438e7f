use Rattle.fs_packet.proofs.{Words.{ℕ, ap, sym, ◌∙◌, holds, masks}, Flags.{flags_same, sound_is_wide}}
use Rattle.fs_packet.proofs.matching.flags_match.Goals as goal

pub returns-in-Some : goal.returns-in-Some
returns-in-Some c =
    rw c.in-Some.is (c.eval.ensures ∙ ap (λ (n : ℕ). holds (masks n) c.args.list.now) c.into.ensures
    ∙ sym (flags_same c.in-Some.octets c.args.list.now (sound_is_wide c.args.list.now c.requires)))
