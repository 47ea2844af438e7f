-- The lines of the report.
use Rattle.std.specs.Prelude.{ℕ, ◌+◌, List, ◌++◌, flat_map, map, codes}
use Rattle.fs_base.specs.declared.{config.Config.{Config}, prefix.Family.{Family, TheVariants.{V4, V6}}}
use Rattle.fs_rules.specs.{Lent.{listed}, Table.{Held, admitted}}
use Rattle.fs_tape.specs.Tape.{Item}
use Rattle.fs_line.specs.{Line.{numbered}, Pieces.{family_name}}
use Rattle.fs_shadow.specs.Reporting.{report_of}

abbrev pub earlier_text : ℕ → List ℕ
earlier_text earlier = numbered (codes " covered by ") earlier ++ codes "\n"

-- a rule and the earlier one; they are numbered from 1
abbrev pub covered_line : Family → ℕ × ℕ → List ℕ
covered_line family pair =
    family_name family ++ (numbered (codes " ") (pair.0 + 1) ++ earlier_text (pair.1 + 1))

-- the lines of a family's admitted rules
abbrev pub family_lines : Family → Held → List ℕ
family_lines family held = flat_map (covered_line family) (report_of (map listed (admitted family held)))

-- IPv4, then IPv6
abbrev pub held_lines : Held → List ℕ
held_lines held = family_lines V4 held ++ family_lines V6 held

-- the lines behind these items, of the routes held
abbrev pub shadow_listing : Config → List Item → Held → List ℕ
shadow_listing config items held = held_lines held
