-- A dump that was converted is read back as a tape, and the lives of its peers are those that a desk sees.
use Rattle.std.specs.{Prelude.{ℕ, List, ◌++◌, ◌≡◌, ◌↔◌, ◌<◌, length, Some}, Option.{is_some}}
use Rattle.fs_base.specs.{Language.{IsOctets}, declared.config.Config.{Config}}
use Rattle.fs_conf.specs.Config.{config_of}
use Rattle.fs_input.specs.Records.{done}
use Rattle.fs_tape.specs.{Laws.{tape_text}, Tape.{Timed, tape_of}, declared.magic.Version.TheVariants.{Two}}
use Rattle.fs_desk.specs.Life.{life}
use Rattle.fs_mrt.specs.Record.{Spoken}
use Rattle.cmd_stages.specs.Play.{untimed}
use Rattle.cmd_convert.specs.{Lives.{Lives, no_lives}, Making.{items_from, remade}}

-- a tape of the second version with these items gives them all where it lies below the limit, and nowhere else
abbrev pub GivesBack : Config → ℕ → List Timed → Type 0
GivesBack config limit items = (tape_of config limit (tape_text Two items) ≡ (items, done)) ↔ (length (tape_text Two items) < limit)

-- so of the items that a dump makes for the configuration of a file, whatever the dump's end
abbrev pub ReadsBackConverted : Type 0
ReadsBackConverted =
    (text : List ℕ) (config : Config) (limit tape_limit : ℕ) (content : List ℕ) → config_of text ≡ Some config → IsOctets content
    → GivesBack config tape_limit (remade config limit content).0

-- Wherever the records are parted, the items of the second part are made by lives of the peers that stand exactly where
-- the items of the first part leave a peer with a life.
abbrev pub KeepsLives : Type 0
KeepsLives =
    (config : Config) (first rest : List Spoken)
    → (lives : Lives)
    × ((items_from config no_lives (first ++ rest) ≡ items_from config no_lives first ++ items_from config lives rest)
    × ((peer : ℕ) → is_some (lives peer) ≡ is_some (life peer (untimed (items_from config no_lives first)))))
