use Rattle.fs_text.proofs.{Words.{◌∙◌, sym, true, refl, arith, Decides-eqb, slice_eq-Decides}, Listed.{not_named, type_named}}
use Rattle.fs_text.proofs.values.component_type.Goals as goal
use Rattle.fs_text.proofs.values.component_type.Goals.{else-kind-last_type-via-then-kind-last_type+else-eq, else-kind-last_type-via-else-kind-last_type}

pub returns-then-eq : goal.returns-then-eq
returns-then-eq c =
    type_named c.args.family c.args.name.now c.loose_kind-kind.result c.loose_kind-kind.ensures.some
    (grind (arith, c.if-kind-last_type.true, c.last_type.ensures))
    (sym c.component_name.ensures ∙ (slice_eq-Decides Decides-eqb c.component_name.result.now c.args.name.now true (sym c.if-eq.true
    ∙ c.eq.ensures)).0 refl) c.loose_kind-kind.ensures.value

pub returns-else-kind-last_type : goal.returns-else-kind-last_type
returns-else-kind-last_type c =
    not_named c.args.family c.args.name.now c.loose_kind-kind.result c.loose_kind-kind.ensures.value (
    λ low named.
    elim c.else-kind-last_type.branch [
      | else-kind-last_type-via-then-kind-last_type+else-eq w ↦
          absurd (cc (
            w.if-eq.false,
            w.eq.ensures,
            (slice_eq-Decides Decides-eqb w.component_name.result.now c.args.name.now w.eq.result w.eq.ensures).1 (w.component_name.ensures ∙ named),
          ))
      | else-kind-last_type-via-else-kind-last_type w ↦ absurd (omega (arith, w.if-kind-last_type.false, c.last_type.ensures, low))
    ]
    )
