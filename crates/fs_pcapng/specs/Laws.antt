-- A capture is done exactly where it is the text of its blocks.
use Rattle.std.specs.Prelude.{ℕ, List, ◌≡◌, ◌↔◌, ◌<◌, length}
use Rattle.fs_input.specs.{Records.{done}, Coming.{IsTextOf}}
use Rattle.fs_pcapng.specs.{Block.{Packet}, Pcapng.{nothing, pcapng_of}, Written.{Fits, block_gives, block_text}}

abbrev pub ReadsBack : Type 0
ReadsBack =
    (limit : ℕ) (content : List ℕ) (packets : List Packet)
    → (pcapng_of limit content ≡ (packets, done))
    ↔ ((0 < length content) × IsTextOf block_text Fits block_gives nothing limit content packets)
