use Rattle.fs_shadow.proofs.{Words.{◌∙◌, sym, subst, body_of, IsSoundBody, body_lies_in}, ByEnds.{v4_by_ends, v6_by_ends}}
use Rattle.fs_nlri.specs.declared.component.PrefixForm.{PrefixForm}
use Rattle.fs_shadow.proofs.ends.prefix_lies_in.Goals as goal

pub returns-in-V4-V4 : goal.returns-in-V4-V4
returns-in-V4-V4 c =
    c.begin_with.ensures
    ∙ v4_by_ends c.in-V4-V4.inner.family c.in-V4-V4.outer.family c.in-V4-V4.inner.length c.in-V4-V4.inner.bits c.in-V4-V4.outer.length
    c.in-V4-V4.outer.bits c.last.result
    (subst (λ (f : PrefixForm). IsSoundBody (body_of f)) c.in-V4-V4.is-0 c.requires.inner)
    (subst (λ (f : PrefixForm). IsSoundBody (body_of f)) c.in-V4-V4.is-1 c.requires.outer) c.last.ensures
    ∙ sym (λ i. body_lies_in 1 (body_of (c.in-V4-V4.is-0 i)) (body_of (c.in-V4-V4.is-1 i)))

pub returns-in-V6-V6 : goal.returns-in-V6-V6
returns-in-V6-V6 c =
    c.begin_with-in-V6-V6.ensures
    ∙ v6_by_ends c.in-V6-V6.length c.in-V6-V6.offset c.in-V6-V6.pattern c.in-V6-V6.outer_length c.in-V6-V6.outer_offset c.in-V6-V6.outer_pattern
    c.highest_address-highest.result
    (subst (λ (f : PrefixForm). IsSoundBody (body_of f)) c.in-V6-V6.is-0 c.requires.inner)
    (subst (λ (f : PrefixForm). IsSoundBody (body_of f)) c.in-V6-V6.is-1 c.requires.outer) c.highest_address-highest.ensures
    ∙ sym (λ i. body_lies_in 1 (body_of (c.in-V6-V6.is-0 i)) (body_of (c.in-V6-V6.is-1 i)))
