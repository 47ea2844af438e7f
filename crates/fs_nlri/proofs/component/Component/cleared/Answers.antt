use Rattle.fs_nlri.proofs.{Words.{◌≡◌, Bool, true, sym, subst, ◌∙◌, form_of, Part, part_of, IsNormalAt, IsTyped, part_given}, Made.{normal_at}}
use Rattle.std.specs.Bool.{OnTrue}
use Rattle.fs_nlri.proofs.component.Component.cleared.Goals as goal

pub returns-clause-normal : goal.returns-clause-normal
returns-clause-normal c =
    let own = part_of c.args.self in
    let given : part_given c.args.family own ≡ true = sym c.is_given.ensures.value ∙ c.if-not-is_given.false in
    let sound : IsTyped c.args.family own = subst (λ (b : Bool). OnTrue b (IsTyped c.args.family own)) c.if-not-is_given.false c.is_given.ensures.sound in
    subst (λ (made : Part). IsNormalAt (form_of c.args.family made.kind) made.body) (sym c.clear.ensures)
    (normal_at (form_of c.args.family own.kind) own.body given sound)
