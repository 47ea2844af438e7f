-- What an end says unasked, message by message.
use Rattle.fs_peering.proofs.{Words.{Told, WireEnds, ℕ, [], Option, Spoken, Stance}, Composing.{part_none}, WrittenInParts.{told_same}}

pub spoken_none : (stance : Stance) (place : ℕ) (told : Option WireEnds) → Told (Spoken stance stance place) told told
spoken_none stance place told = told_same (Spoken stance stance place) (λ ends. record { out = []; part = part_none stance place ends }) told
