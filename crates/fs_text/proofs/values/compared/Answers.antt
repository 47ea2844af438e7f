use Rattle.fs_text.proofs.{Words.{◌∙◌, part_of}, Listed.{compared_of}}
use Rattle.fs_text.proofs.values.compared.Goals as goal

pub returns-in-Some : goal.returns-in-Some
returns-in-Some c =
    compared_of c.args.family c.args.name.now c.args.word.now (part_of c.args.component) (part_of c.in-Some.own) c.matched.result c.in-Some.ensures.normal
    (λ normal. c.in-Some.ensures.some ∙ c.cleared.ensures.same normal) c.matched.ensures
