use Rattle.fs_text.proofs.{Words.{map, option_map, body_of, as_part}, Prefixed.{v6_made, v6_none}}
use Rattle.fs_text.proofs.prefixes.loose_v6.Goals as goal

pub returns-in-Some : goal.returns-in-Some
returns-in-Some c =
    v6_made c.in-Some.address c.in-Some.length c.in-Some.offset (map as_part c.args.parts.now) c.loose_wide.result
    (option_map body_of c.v6_form.result) c.in-Some.is
    c.loose_wide.ensures c.v6_form.ensures

pub returns-in-None : goal.returns-in-None
returns-in-None c = v6_none (map as_part c.args.parts.now) c.loose_wide.result _ c.in-None.is c.loose_wide.ensures
