-- The names of the types of components, and the word of what stands behind a type (RFC 8955 section 4.2.2, RFC 8956 section 3).
use Rattle.std.specs.Prelude.{ℕ, ◌==◌, ◌||◌, List, if◌then◌else◌, codes}
use Rattle.fs_ops.specs.declared.kind.Kind.{Kind, TheVariants.{Numeric, Bitmask}}
use Rattle.fs_nlri.specs.Parts.{Body, V4Body, V6Body, ListBody, Part}
use Rattle.fs_words.specs.{Operators.{list_text}, Prefixes.{v4_text, v6_text}}

abbrev pub component_name : ℕ → List ℕ
component_name kind =
    if kind == 1 then codes "dst"
    else if kind == 2 then codes "src"
    else if kind == 3 then codes "proto"
    else if kind == 4 then codes "port"
    else if kind == 5 then codes "dport"
    else if kind == 6 then codes "sport"
    else if kind == 7 then codes "itype"
    else if kind == 8 then codes "icode"
    else if kind == 9 then codes "tcp"
    else if kind == 10 then codes "len"
    else if kind == 11 then codes "dscp"
    else if kind == 12 then codes "frag"
    else codes "label"

-- the lists of TCP flags and of fragment bits test bits, the others compare numbers
abbrev pub list_kind : ℕ → Kind
list_kind kind = if (kind == 9) || (kind == 12) then Bitmask else Numeric

abbrev pub body_text : ℕ → Body → List ℕ
body_text kind (V4Body family len bits) = v4_text len bits
body_text kind (V6Body len offset pattern) = v6_text len offset pattern
body_text kind (ListBody pairs) = list_text (list_kind kind) pairs

abbrev pub value_text : Part → List ℕ
value_text part = body_text part.kind part.body
