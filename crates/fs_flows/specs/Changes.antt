-- Where the rules that the table admits may have changed.
use Rattle.std.specs.Prelude.{◌≡◌, ◌==◌, ◌&&◌, ◌||◌, Bool, not, true, false, List, filter, Option, Some, IfSome, option_map}
use Rattle.std.specs.{List.{list_any}, Ordering.{is_eq}}
use Rattle.fs_base.specs.{Bits.{afi_of}, declared.prefix.{Family.{Family}, Prefix.{Prefix}}}
use Rattle.fs_nlri.specs.{Parts.{Ruled}, Rule.{IsRule, destination_of, destination_prefix, shown}}
use Rattle.fs_order.specs.Laws.{destination_cmp}
use Rattle.fs_flows.specs.{Table.{Held, admitted}, declared.noted.Change.{Change}}

-- of the family, with this destination or without one
abbrev pub is_to : Family → Option Prefix → Ruled → Bool
is_to family destination rule =
    (afi_of rule.family == afi_of family)
    && is_eq (destination_cmp (destination_of rule) (option_map shown destination))

-- a destination is of the place's family
abbrev pub IsOwn : Change → Type 0
IsOwn place = IfSome place.destination (λ p. p.family ≡ place.family)

-- stands at one of the places
abbrev pub touched_by : List Change → Ruled → Bool
touched_by places rule = list_any (λ place. is_to place.family place.destination rule) places

-- but for the rules that are touched, the same routes are admitted
abbrev pub AdmitsElsewhere : (Ruled → Bool) → Held → Held → Type 0
AdmitsElsewhere touched old new =
    (family : Family)
    → filter (λ r. not (touched r.rule)) (admitted family new)
    ≡ filter (λ r. not (touched r.rule)) (admitted family old)

-- the places that were noted, or that any rule may have changed
pub record Noted : Type 0 where
  pub places : List Change
  pub all : Bool

-- Since the base nothing has changed that wasn't noted.
abbrev pub Covers : Held → Noted → Held → Type 0
Covers base noted now = noted.all ≡ false → AdmitsElsewhere (touched_by noted.places) base now

-- the rule stands at a place that was noted, or any rule may have changed
abbrev pub is_noted : Noted → Ruled → Bool
is_noted noted rule = noted.all || touched_by noted.places rule

-- what was noted still is
abbrev pub StaysNoted : Noted → Noted → Type 0
StaysNoted old new = (rule : Ruled) → is_noted old rule ≡ true → is_noted new rule ≡ true

-- the rules with this destination are noted
abbrev pub IsNotedAt : Noted → Prefix → Type 0
IsNotedAt noted d = (rule : Ruled) → IsRule rule → destination_prefix rule ≡ Some d → is_noted noted rule ≡ true
