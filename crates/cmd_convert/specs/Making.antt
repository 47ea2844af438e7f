-- A dump as a tape of the second version: the items that its records make, one after the other.
use Rattle.std.specs.Prelude.{ℕ, Bool, false, List, [], ◌∷◌, ◌++◌, Some, None, ◌==◌, ◌||◌, flat_map, map, if◌then◌else◌}
use Rattle.std.specs.{List.{slice_get}, Option.{option_map_or}}
use Rattle.fs_base.specs.{Config.{peer_of}, declared.config.Config.{Config}}
use Rattle.fs_input.specs.Records.{End}
use Rattle.fs_mrt.specs.{Dump.{dump_of}, Record.{Said, Spoken, change, message}, declared.fault.DumpReason.{DumpReason}}
use Rattle.fs_tape.specs.{Laws.{item_text_at}, Tape.{Item, Timed, came_up, received, timed, was_lost}, declared.magic.Version.TheVariants.{Two}}
use Rattle.cmd_convert.specs.{Greeting.{greeting}, Lives.{Life, Lives, has_width, no_lives, with_life}}

-- the AS of a configured peer
abbrev pub asn_of : Config → ℕ → ℕ
asn_of config number = option_map_or (λ peer. peer.asn) (peer_of number config.peers) 0

-- a life ends, if there is one
abbrev pub ended : ℕ → Life → List Item
ended peer None = []
ended peer (Some wide) = was_lost peer ∷ []

-- A life begins in the middle of a session: one that stands is ended, and an OPEN and a KEEPALIVE are made up.
abbrev pub opening : (peer asn : ℕ) → Bool → Life → List Item
opening peer asn wide life = ended peer life ++ (came_up peer ∷ received peer (greeting asn wide) ∷ [])

-- a message makes an item if it is an UPDATE (2) or a NOTIFICATION (3), by its type (RFC 4271 section 4.1)
abbrev pub is_taken : List ℕ → Bool
is_taken octets = elim (slice_get octets 18) [ None ↦ false | Some kind ↦ (kind == 2) || (kind == 3) ]

-- a session becomes Established (6), or was (RFC 6396 section 4.4.1)
abbrev pub is_established : (old new : ℕ) → Bool
is_established old new = (old == 6) || (new == 6)

-- Such a message is preceded by the beginning of a life where the peer has none, or one whose OPEN told AS numbers of
-- another width. By a change from or to Established a life ends.
abbrev pub made_by : Config → (peer : ℕ) → Bool → Said → Life → List Item × Life
made_by config peer wide (message octets) life =
    if is_taken octets
    then (
      (if has_width life wide then [] else opening peer (asn_of config peer) wide life) ++ (received peer octets ∷ []),
      Some wide,
    )
    else ([], life)
made_by config peer wide (change old new) life = if is_established old new then (ended peer life, None) else ([], life)

-- what a record that is heard makes, where the peer has this life, and the peer's life after it
abbrev pub made : Config → Spoken → Life → List Item × Life
made config heard life = made_by config heard.peer heard.wide heard.said life

abbrev pub timed_at : ℕ → List Item → List Timed
timed_at moment items = map (timed moment) items

-- What these records make, where the peers have these lives. An item has the moment of its record, which is the greatest
-- time of those of configured peers so far.
abbrev pub items_from : Config → Lives → List Spoken → List Timed
items_from config lives [] = []
items_from config lives (heard ∷ rest) =
    timed_at heard.moment (made config heard (lives heard.peer)).0
    ++ items_from config (with_life heard.peer (made config heard (lives heard.peer)).1 lives) rest

-- The items that a dump of this content makes, and how it ends. Only its first `limit` octets are judged.
abbrev pub remade : Config → ℕ → List ℕ → List Timed × End DumpReason
remade config limit content = (items_from config no_lives (dump_of config limit content).0, (dump_of config limit content).1)

-- the text of these items at this moment
abbrev pub text_at : ℕ → List Item → List ℕ
text_at moment items = flat_map (item_text_at Two moment) items

-- what a tape is written by: the configuration, the lives of the peers, and the octets that are pending
pub record MakingState : Type 0 where
  pub config : Config
  pub lives : List Life
  pub pending : List ℕ
