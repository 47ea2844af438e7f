-- Lists of prefixes are compared by what each shows.
use Rattle.std.{proofs.Common.{map}, specs.Cmp.{Lexicographic.{pointwise}, Derive.Mapped.{pointwise-map}}}
use Rattle.fs_attrs.proofs.Words.{◌≡◌, Bool, ◌&&◌, ◌==◌, List, sym, ap, ap₂, ◌∙◌, Prefix, shown, Shown, same_prefix, same_prefixes}
use Rattle.fs_base.specs.contracts.prefix.PrefixPartialEq.TheImpl.{ghosts}
use Rattle.fs_nlri.proofs.Equal.{same_families}

same_shown : (a b : Prefix) → ghosts.eq a b ≡ same_prefix (shown a) (shown b)
same_shown a b = ap (λ (t : Bool). t && ((a.length == b.length) && (a.bits == b.bits))) (same_families a.family b.family)

pub equal_prefixes : (xs ys : List Prefix) (a b : List Shown) (r : Bool) → map shown xs ≡ a → map shown ys ≡ b → r ≡ pointwise ghosts.eq xs ys
    → r ≡ same_prefixes a b
equal_prefixes xs ys a b r first second prefixes =
    prefixes ∙ (λ i. pointwise (λ (x y : Prefix). same_shown x y i) xs ys) ∙ sym (pointwise-map shown same_prefix xs ys) ∙ ap₂ same_prefixes first second
