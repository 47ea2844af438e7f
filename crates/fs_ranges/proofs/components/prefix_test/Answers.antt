use Rattle.fs_ranges.proofs.Words.{inl, inr, subst, sym, body_of, V6Body, part, IsSoundBody, Within, Destination, Source, IsTestOf, Field, kind_of}
use Rattle.fs_ranges.proofs.ComponentTests.{v4_prefix, v6_destination, v6_source}
use Rattle.fs_nlri.specs.declared.component.PrefixForm.{PrefixForm}
use Rattle.fs_ranges.proofs.components.prefix_test.Goals as goal

pub returns-in-V4 : goal.returns-in-V4
returns-in-V4 c =
    subst (λ (d : PrefixForm). IsTestOf (part (kind_of c.args.field) (body_of d)) (Within c.prefix_range.result)) (sym c.in-V4.is)
    (v4_prefix c.args.field c.in-V4.prefix c.prefix_range.result c.requires.field
    (subst (λ (d : PrefixForm). IsSoundBody (body_of d)) c.in-V4.is c.requires.sound) c.prefix_range.ensures)

pub returns-in-SourceAddress : goal.returns-in-SourceAddress
returns-in-SourceAddress c =
    subst (λ (d : PrefixForm). IsTestOf (part (kind_of c.args.field) (body_of d)) (Source c.pattern_of-under.result)) (sym c.in-V6.is)
    (subst (λ (f : Field). IsTestOf (part (kind_of f) (V6Body c.in-V6.length c.in-V6.offset c.in-V6.pattern)) (Source c.pattern_of-under.result))
    (sym c.in-SourceAddress.is)
    (v6_source c.in-V6.length c.in-V6.offset c.in-V6.pattern c.pattern_of-under.result
    (subst (λ (d : PrefixForm). IsSoundBody (body_of d)) c.in-V6.is c.requires.sound) c.pattern_of-under.ensures))

pub returns-in_default : goal.returns-in_default
returns-in_default c =
    subst (λ (d : PrefixForm). IsTestOf (part (kind_of c.args.field) (body_of d)) (Destination c.pattern_of-under.result)) (sym c.in-V6.is)
    (elim c.requires.field [
      | inl one ↦
          subst (λ (f : Field). IsTestOf (part (kind_of f) (V6Body c.in-V6.length c.in-V6.offset c.in-V6.pattern)) (Destination c.pattern_of-under.result))
          (sym one)
          (v6_destination c.in-V6.length c.in-V6.offset c.in-V6.pattern c.pattern_of-under.result
          (subst (λ (d : PrefixForm). IsSoundBody (body_of d)) c.in-V6.is c.requires.sound) c.pattern_of-under.ensures)
      | inr two ↦ absurd (c.in_default.not-SourceAddress two)
    ])
