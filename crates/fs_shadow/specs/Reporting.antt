-- The rules that can never act, since an earlier one takes all of their packets.
use Rattle.std.specs.Prelude.{ℕ, ◌+◌, Bool, not, ◌&&◌, Option, Some, None, List, [], ◌∷◌, ◌++◌, length, if◌then◌else◌}
use Rattle.fs_rules.specs.{Lent.{Listed}, Walk.{goes_on}}
use Rattle.fs_shadow.specs.Contains.{contains}

-- Each packet of the later rule is one of the earlier, which ends the walk: its terminal bit is clear (RFC 8955
-- section 7.3).
abbrev pub takes_all : (earlier later : Listed) → Bool
takes_all earlier later = not (goes_on earlier.actions) && contains earlier.rule later.rule

-- the place of the first of these rules that does so, where the first of them has this place
abbrev pub first_taking : ℕ → List Listed → Listed → Option ℕ
first_taking place [] later = None
first_taking place (rule ∷ rules) later =
    if takes_all rule later then Some place else first_taking (place + 1) rules later

-- the number of a rule and that of the earlier one
abbrev pub covered_by : ℕ → Option ℕ → List (ℕ × ℕ)
covered_by number None = []
covered_by number (Some earlier) = (number, earlier) ∷ []

-- of each of these rules, behind the earlier ones
abbrev pub report_behind : (earlier rules : List Listed) → List (ℕ × ℕ)
report_behind earlier [] = []
report_behind earlier (rule ∷ rules) =
    covered_by (length earlier) (first_taking 0 earlier rule) ++ report_behind (earlier ++ rule ∷ []) rules

-- The rules of which an earlier one takes all packets, each with the first that does; by their numbers from 0, in order.
abbrev pub report_of : List Listed → List (ℕ × ℕ)
report_of rules = report_behind [] rules
