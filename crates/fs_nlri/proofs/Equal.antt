-- Rules are compared by their components.
use Rattle.fs_nlri.proofs.Words.{◌≡◌, Bool, true, ◌==◌, ◌&&◌, List, refl, sym, ap, ap₂, ◌∙◌, Family, V4, V6, afi_of, Component, part_of, parts_of}
use Rattle.fs_nlri.proofs.Words.{Ruled, ruled, same_part, same_rule}
use Rattle.std.specs.{Ordering.{on}, Cmp.{Lexicographic.{pointwise}, Derive.Mapped.{pointwise-map}}}
use Rattle.fs_base.specs.contracts.prefix.FamilyPartialEq.TheImpl.{ghosts}

pub same_families : (f g : Family) → ghosts.eq f g ≡ (afi_of f == afi_of g)
same_families V4 V4 = refl
same_families V4 V6 = refl
same_families V6 V4 = refl
same_families V6 V6 = refl

pub equal_rules : (f g : Family) (xs ys : List Component) (a b : Ruled) (r : Bool) → ruled f (parts_of xs) ≡ a → ruled g (parts_of ys) ≡ b
    → (afi_of f == afi_of g) ≡ true
    → r ≡ pointwise (on part_of same_part) xs ys → r ≡ same_rule a b
equal_rules f g xs ys a b r first second families components =
    components ∙ sym (pointwise-map part_of same_part xs ys) ∙ sym (ap (λ (t : Bool). t && pointwise same_part (parts_of xs) (parts_of ys)) families)
    ∙ ap₂ same_rule first second
