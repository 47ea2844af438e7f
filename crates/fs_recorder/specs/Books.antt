-- A desk beside the tape that is written of what it is told.
use Rattle.std.specs.Prelude.{ℕ, List, Bool, Option, ◌≡◌, ◌≤◌, ◌<◌, ◌+◌, ◌^◌, length}
use Rattle.fs_base.specs.{Sink.{Grew, GrewPart}, declared.config.Config.{Config}}
use Rattle.fs_input.specs.Parts.{AllFrom}
use Rattle.fs_tape.specs.{Laws.{Fits, IsWritable, after, item_text, tape_text}, Tape.{Item, Timed, stands, timed}, declared.magic.Version.TheVariants.{Two}}
use Rattle.fs_desk.specs.{Desk.{Desked, PlayedBut, Plays}, Leaves.{nobody}}
use Rattle.fs_recorder.specs.Tapes.{Scribed, items_in, last_of, longer_by}

pub record Booked : Type 0 where
  pub desk : Desked
  pub scribe : Scribed

-- The tape has these items, each of which fits behind those before it, and is shorter than the limit; and the desk stands
-- as they leave it, but for the peers whose sessions the clock has closed.
pub record AgreesBut (expired : ℕ → Bool) (config : Config) (told : List Timed) (books : Booked) : Type 0 where
  pub played : PlayedBut expired config (items_in told) books.desk
  pub fit : AllFrom Fits after (stands config Two 0) told
  pub risen : last_of 0 told ≤ books.scribe.moment
  pub room : books.scribe.moment < 2 ^ 64
  pub long : books.scribe.written ≡ length (tape_text Two told)
  pub below : books.scribe.written < books.scribe.limit

-- so where the clock has closed none
abbrev pub Agrees : Config → List Timed → Booked → Type 0
Agrees config told books = AgreesBut nobody config told books

-- the text of an item that is told now
abbrev pub text_now : Booked → Item → List ℕ
text_now books item = item_text Two (timed books.scribe.moment item)

-- An item was written, and then played.
pub record Tells (item : Item) (old new : Booked) (before now : Option (List ℕ)) : Type 0 where
  pub writable : IsWritable old.desk.config item
  pub plays : Plays item old.desk new.desk
  pub config_is : new.desk.config ≡ old.desk.config
  pub scribe_is : new.scribe ≡ longer_by (length (text_now old item)) old.scribe
  pub below : new.scribe.written < new.scribe.limit
  pub grew : Grew before now (text_now old item)

-- A front of an item's record was written; and where the limit was named, the record would make the tape as long as it.
pub record TellsPart (limited : Type 0) (item : Item) (old : Booked) (before now : Option (List ℕ)) : Type 0 where
  pub writable : IsWritable old.desk.config item
  pub part : GrewPart before now (text_now old item)
  pub full : limited → old.scribe.limit ≤ old.scribe.written + length (text_now old item)
