use Rattle.fs_text.proofs.{Words.{map, subst, option_map, Family, body_of, prefix_form, IsNormalBody, as_part}, Prefixed.{v4_found, v6_found}}
use Rattle.fs_text.proofs.prefixes.loose_prefix.Goals as goal

pub returns-in-V4 : goal.returns-in-V4
returns-in-V4 c = λ body is parts.
    v4_found body (map as_part c.args.parts.now) (option_map body_of c.loose_v4.result)
    (subst (λ (f : Family). IsNormalBody (prefix_form f) body) c.in-V4.is is) parts c.loose_v4.ensures

pub returns-in-V6 : goal.returns-in-V6
returns-in-V6 c = λ body is parts.
    v6_found body (map as_part c.args.parts.now) (option_map body_of c.loose_v6.result)
    (subst (λ (f : Family). IsNormalBody (prefix_form f) body) c.in-V6.is is) parts c.loose_v6.ensures
