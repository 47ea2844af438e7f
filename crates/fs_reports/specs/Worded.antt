-- The admitted rules in words.
use Rattle.std.specs.Prelude.{List, ℕ, ◌++◌, flat_map, map, codes}
use Rattle.fs_base.specs.declared.{config.Config.{Config}, prefix.Family.{Family, TheVariants.{V4, V6}}}
use Rattle.fs_rules.specs.{Table.{Held, admitted}, Lent.{Listed, listed}}
use Rattle.fs_tape.specs.Tape.{Item}
use Rattle.fs_text.specs.Printed.{text_of}

-- the text of a rule and its actions
abbrev pub rule_line : Listed → List ℕ
rule_line rule = text_of rule.rule rule.actions ++ codes "\n"

abbrev pub rule_lines : List Listed → List ℕ
rule_lines rules = flat_map rule_line rules

-- a family's admitted rules in order
abbrev pub family_words : Family → Held → List ℕ
family_words family held = rule_lines (map listed (admitted family held))

abbrev pub words_of_held : Held → List ℕ
words_of_held held = family_words V4 held ++ family_words V6 held

-- the admitted rules of the routes held after these items
abbrev pub worded : Config → List Item → Held → List ℕ
worded config items held = words_of_held held
