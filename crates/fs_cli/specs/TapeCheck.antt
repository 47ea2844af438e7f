-- What `check tape` says of a tape: how many items it has, of which moments, and what is counted of each peer.
use Rattle.std.specs.Prelude.{◌≡◌, ◌≤◌, ◌+◌, ◌*◌, ◌==◌, ⊤, ℕ, List, [], ◌∷◌, ◌++◌, Bool, true, false, if◌then◌else◌, length, flat_map, get_or, codes}
use Rattle.std.specs.Prelude.{decimal, Option, Some, None}
use Rattle.fs_base.specs.declared.config.Config.{Config}
use Rattle.fs_tape.specs.{Tape.{Item, Timed, came_up, received, was_lost}, Header.{longest_payload}, Magic.{version_number}}
use Rattle.fs_tape.specs.declared.{fault.TapeReason.{TapeReason}, item.TapeItem.{TapeItem, TheVariants.{Up, Octets, Lost}}, magic.Version.{Version}}
use Rattle.fs_input.specs.Records.{End, done}
use Rattle.fs_reports.specs.Peers.{numbers_of}
use Rattle.fs_cli.specs.{declared.tallies.Tally.{Tally}, Survey.{stopped_text}}
use Rattle.cmd_stages.specs.{Load.{Names}, Play.{HasVersion, tape_stage, untimed}, Refusal.{Verdict, verdict_with, Stage, Found, Stopped, status_of}}

-- of whom an item is
abbrev pub peer_of_item : Item → ℕ
peer_of_item (came_up peer) = peer
peer_of_item (received peer octets) = peer
peer_of_item (was_lost peer) = peer

-- an item more of a peer
abbrev pub tally_with : Item → Tally → Tally
tally_with (came_up peer) tally = record { items = tally.items + 1; octets = tally.octets; up = true }
tally_with (received peer octets) tally = record { items = tally.items + 1; octets = tally.octets + length octets; up = tally.up }
tally_with (was_lost peer) tally = record { items = tally.items + 1; octets = tally.octets; up = false }

abbrev pub tally_behind : (number : ℕ) → Tally → List Item → Tally
tally_behind number tally [] = tally
tally_behind number tally (item ∷ items) =
    tally_behind number (if peer_of_item item == number then tally_with item tally else tally) items

-- how many items are of the peer of this number, how many octets they say that it sent, and whether it is up after them
abbrev pub no_tally : Tally
no_tally = record { items = 0; octets = 0; up = false }

abbrev pub tally_of : (number : ℕ) → List Item → Tally
tally_of number items = tally_behind number no_tally items

-- the first moment and the last one
abbrev pub span_with : Option (ℕ × ℕ) → (moment : ℕ) → Option (ℕ × ℕ)
span_with None moment = Some (moment, moment)
span_with (Some span) moment = Some (span.0, moment)

abbrev pub span_behind : Option (ℕ × ℕ) → List Timed → Option (ℕ × ℕ)
span_behind span [] = span
span_behind span (timed ∷ items) = span_behind (span_with span timed.moment) items

abbrev pub span_of : List Timed → Option (ℕ × ℕ)
span_of items = span_behind None items

-- the lines

abbrev pub span_text : Option (ℕ × ℕ) → List ℕ
span_text None = codes "- -\n"
span_text (Some span) = decimal span.0 ++ (codes " " ++ (decimal span.1 ++ codes "\n"))

abbrev pub tape_line : (version count : ℕ) → Option (ℕ × ℕ) → List ℕ
tape_line version count span =
    codes "tape version " ++ (decimal version ++ (codes " items " ++ (decimal count ++ (codes " moments " ++ span_text span))))

abbrev pub up_text : Bool → List ℕ
up_text true = codes "up"
up_text false = codes "down"

abbrev pub tally_line : ℕ → Tally → List ℕ
tally_line number tally =
    codes "peer " ++ (decimal number
    ++ (codes " items " ++ (decimal tally.items
    ++ (codes " octets " ++ (decimal tally.octets ++ (codes " " ++ (up_text tally.up ++ codes "\n")))))))

-- a line for each of these peers
abbrev pub tally_lines : List ℕ → (ℕ → Tally) → List ℕ
tally_lines numbers tally = flat_map (λ number. tally_line number (tally number)) numbers

abbrev pub tape_text : Config → Version → List Timed → List ℕ
tape_text config version items =
    tape_line (version_number version) (length items) (span_of items)
    ++ tally_lines (numbers_of config.peers) (λ number. tally_of number (untimed items))

-- what is due of a tape whose items are these, or that ends a run so
abbrev pub JudgesTape : (limit : ℕ) (holds : Names) (tape : List ℕ) → Config → Stage (List Timed) → Verdict → Type 0
JudgesTape limit holds tape config (Found items) verdict =
    (version : Version) × HasVersion limit holds tape version × (verdict ≡ verdict_with 0 (tape_text config version items))
JudgesTape limit holds tape config (Stopped refusal) verdict = verdict ≡ verdict_with (status_of refusal) (stopped_text refusal)

-- as they are counted

-- a payload is no longer than one may be
abbrev pub IsSmall : TapeItem → Type 0
IsSmall (Up peer) = ⊤
IsSmall (Octets peer count) = count ≤ longest_payload
IsSmall (Lost peer) = ⊤

-- what was counted of all items, and of each peer, from number 0 on
pub record CountsState : Type 0 where
  pub items : ℕ
  pub span : Option (ℕ × ℕ)
  pub by_number : List Tally

abbrev pub tally_at : List Tally → ℕ → Tally
tally_at listed number = get_or listed number no_tally

-- of one peer no more than of all
pub record IsWithin (items : ℕ) (tally : Tally) : Type 0 where
  pub items_within : tally.items ≤ items
  pub octets_within : tally.octets ≤ 65536 * tally.items

-- these items were counted
pub record CountsOf (counts : CountsState) (items : List Timed) : Type 0 where
  pub items_are : counts.items ≡ length items
  pub span_is : counts.span ≡ span_of items
  pub tallies_are : (number : ℕ) → tally_at counts.by_number number ≡ tally_of number (untimed items)

-- what was to come was all counted, up to the end
pub record CountsOn (coming : List Timed × End TapeReason) (old new : CountsState) : Type 0 where
  pub done_is : coming.1 ≡ done
  pub counts : (gone : List Timed) → CountsOf old gone → CountsOf new (gone ++ coming.0)

-- the items of a tape without a fault were counted
pub record TapeCounted (config : Config) (limit : ℕ) (holds : Names) (tape : List ℕ) (version : ℕ) (counts : CountsState) : Type 0 where
  pub items : List Timed
  pub found : tape_stage config limit holds tape ≡ Found items
  pub own : Version
  pub has_version : HasVersion limit holds tape own
  pub version_is : version ≡ version_number own
  pub counts_are : CountsOf counts items

abbrev pub counted_text : Config → (version : ℕ) → CountsState → List ℕ
counted_text config version counts = tape_line version counts.items counts.span ++ tally_lines (numbers_of config.peers) (tally_at counts.by_number)
