use Rattle.fs_conf.proofs.{Words.{Some, sym, ap, ◌∙◌, option_map, string_bytes}, Judging.{other_is}}
use Rattle.std.specs.Option.{option_copied}
use Rattle.fs_conf.proofs.faults.first_other.Goals as goal

pub returns-in-Some : goal.returns-in-Some
returns-in-Some c =
    ap Some c.as_str.ensures.value
    ∙ ap (option_map string_bytes) (sym (ap option_copied c.in-Some.is) ∙ c.other_key.ensures)
    ∙ other_is c.args.names.now c.args.table.now.entries

pub returns-in-None : goal.returns-in-None
returns-in-None c =
    ap (option_map string_bytes) (sym (ap option_copied c.in-None.is) ∙ c.other_key.ensures)
    ∙ other_is c.args.names.now c.args.table.now.entries
