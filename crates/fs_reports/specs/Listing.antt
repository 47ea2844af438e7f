-- The listing: a line for each configured peer, by number, and for each family its admitted rules in order and then the
-- held routes that aren't valid.
use Rattle.std.specs.Prelude.{ℕ, List, ◌≡◌, ◌++◌}
use Rattle.fs_base.specs.declared.{config.Config.{Config}, prefix.Family.TheVariants.{V4, V6}}
use Rattle.fs_rules.specs.Table.{Held}
use Rattle.fs_speaker.specs.declared.Standing.{Standing}
use Rattle.fs_tape.specs.Tape.{Item}
use Rattle.fs_desk.specs.Desk.{Desked, Played, standing_of, standing_at_desk}
use Rattle.fs_reports.specs.{Peers.{numbers_of, peers_text}, Rules.{family_text}}

-- of a configuration, how it stands with each peer, and the routes held
abbrev pub listing_of : Config → (ℕ → Standing) → Held → List ℕ
listing_of config standing held =
    peers_text (numbers_of config.peers) standing ++ (family_text V4 held ++ family_text V6 held)

-- the listing after these items, of the routes held
abbrev pub listing : Config → List Item → Held → List ℕ
listing config items held = listing_of config (standing_of config items) held

-- likewise by the sessions that a desk keeps
abbrev pub desk_text : Desked → List ℕ
desk_text desk = listing_of desk.config (standing_at_desk desk) desk.held

-- The text is what is said of the items that a desk has played, and of the routes that it holds.
abbrev pub Tells : (Config → List Item → Held → List ℕ) → Desked → List ℕ → Type 0
Tells said desk text = (config : Config) → (items : List Item) → Played config items desk → text ≡ said config items desk.held
