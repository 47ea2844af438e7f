use Rattle.fs_attrs.proofs.{Words.{ℕ, List, sym, ap, ◌∙◌, parts_of, first_as}, PartSizes.{as_shrinks}, PartLists.{behind, gathered_more, gathered_all}}
use Rattle.fs_attrs.proofs.segments.read_numbers.Goals as goal

pub loop-number-preserved : goal.loop-number-preserved
loop-number-preserved c =
    ap (λ (z : List ℕ). behind z (parts_of (first_as c.args.four) c.in-Some.behind.now)) c.in_ok-push.ensures.items
    ∙ gathered_more (first_as c.args.four) (as_shrinks c.args.four) c.loop-number.numbers.items c.loop-number.rest.now (
      c.in-Some.number,
      c.in-Some.behind.now,
    ) (sym c.in-Some.ensures)
    ∙ c.loop-number.invariant

pub returns : goal.returns
returns c =
    c.new.ensures ∙ ap (λ (z : List ℕ × List ℕ). z.0)
    (sym (gathered_all (first_as c.args.four) c.loop-number.numbers.items c.loop-number.rest.now (sym c.in_default.ensures))
    ∙ c.loop-number.invariant)
