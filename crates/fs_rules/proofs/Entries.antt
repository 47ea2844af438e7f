-- Entries that are kept in the order of their keys, as an ordered map has them.
use Rattle.fs_rules.proofs.Words.{◌≡◌, List, [], ◌∷◌, Bool, true, false, cond, Option, Some, if◌then◌else◌, refl, ap, sym, ◌∙◌, true≢false}
use Rattle.fs_rules.proofs.Words.{match_ordering, ordering_reverse, IsTotalOrder, alike_right, AllByRecursion, IsStrictlySortedBy, lookup}
use Rattle.fs_rules.proofs.Words.{remove_entry, keys_of, insert_entry, is_at, equal_of_is_eq}
use Rattle.std.specs.{declared.cmp.Ordering.{Ordering, TheVariants.{Less, Equal, Greater}}, Ordering.{is_eq}}

module _ {K : Type 0} (R : K → K → Ordering) (o : IsTotalOrder R) where
  apart : (q k p : K) → R k p ≡ Greater → is_eq (R q k) ≡ true → is_eq (R q p) ≡ false
  apart q k p g e = ap is_eq (IsTotalOrder.congr o q k p (equal_of_is_eq (R q k) e) ∙ g)

  less_back : (k q : K) → R k q ≡ Greater → R q k ≡ Less
  less_back k q h = IsTotalOrder.antisymm o q k ∙ ap ordering_reverse h

module _ {K X : Type 0} (R : K → K → Ordering) (o : IsTotalOrder R) where
  twice : (b : Bool) (v w : X) (rest : Option X) → cond b (Some v) rest ≡ cond b (Some v) (cond b (Some w) rest)
  twice true v w rest = refl
  twice false v w rest = refl

  swapped : (b c : Bool) (v w : X) (rest : Option X) → (b ≡ true → c ≡ false)
      → cond c (Some w) (cond b (Some v) rest) ≡ cond b (Some v) (cond c (Some w) rest)
  swapped true true v w rest h = absurd (true≢false (h refl))
  swapped true false v w rest h = refl
  swapped false c v w rest h = refl

  pub lookup-insert_entry : (q k : K) (v : X) (es : List (K × X))
      → lookup (is_at (R q)) (insert_entry R es k v) ≡ (if is_eq (R q k) then Some v else lookup (is_at (R q)) es)
  lookup-insert_entry q k v [] = refl
  lookup-insert_entry q k v (e ∷ es) = by (R k e.0) refl (lookup-insert_entry q k v es)
    where
      by : (r : Ordering) → R k e.0 ≡ r
          → lookup (is_at (R q)) (insert_entry R es k v) ≡ (if is_eq (R q k) then Some v else lookup (is_at (R q)) es)
          → lookup (is_at (R q)) (match_ordering r ((k, v) ∷ e ∷ es) ((e.0, v) ∷ es) (e ∷ insert_entry R es k v))
          ≡ cond (is_eq (R q k)) (Some v) (cond (is_eq (R q e.0)) (Some e.1) (lookup (is_at (R q)) es))
      by Less h later = refl
      by Equal h later =
          ap (λ b. cond b (Some v) (lookup (is_at (R q)) es)) (sym (ap is_eq (alike_right o k e.0 q h)))
          ∙ twice (is_eq (R q k)) v e.1 (lookup (is_at (R q)) es)
          ∙ ap (λ b. cond (is_eq (R q k)) (Some v) (cond b (Some e.1) (lookup (is_at (R q)) es))) (ap is_eq (alike_right o k e.0 q h))
      by Greater h later =
          ap (λ rest. cond (is_eq (R q e.0)) (Some e.1) rest) later
          ∙ swapped (is_eq (R q k)) (is_eq (R q e.0)) v e.1 (lookup (is_at (R q)) es) (apart R o q k e.0 h)

  above_less : (k q : K) (es : List (K × X)) → R k q ≡ Less → AllByRecursion (λ p. R q p ≡ Less) (keys_of es) → AllByRecursion (λ p. R k p ≡ Less) (keys_of es)
  above_less k q [] h a = tt
  above_less k q (e ∷ es) h a = (IsTotalOrder.trans o k q e.0 h a.0, above_less k q es h a.1)

  above_insert : (p k : K) (v : X) (es : List (K × X)) → R p k ≡ Less → AllByRecursion (λ q. R p q ≡ Less) (keys_of es)
      → AllByRecursion (λ q. R p q ≡ Less) (keys_of (insert_entry R es k v))
  above_insert p k v [] h a = (h, tt)
  above_insert p k v (e ∷ es) h a = by (R k e.0) (above_insert p k v es h a.1)
    where
      by : (r : Ordering) → AllByRecursion (λ q. R p q ≡ Less) (keys_of (insert_entry R es k v))
          → AllByRecursion (λ q. R p q ≡ Less) (keys_of (match_ordering r ((k, v) ∷ e ∷ es) ((e.0, v) ∷ es) (e ∷ insert_entry R es k v)))
      by Less later = (h, a)
      by Equal later = a
      by Greater later = (a.0, later)

  pub sorted-insert_entry : (k : K) (v : X) (es : List (K × X)) → IsStrictlySortedBy R (keys_of es) → IsStrictlySortedBy R (keys_of (insert_entry R es k v))
  unfolding IsStrictlySortedBy
  sorted-insert_entry k v [] s = (tt, tt)
  sorted-insert_entry k v (e ∷ es) s = by (R k e.0) refl (sorted-insert_entry k v es s.1)
    where
      by : (r : Ordering) → R k e.0 ≡ r → IsStrictlySortedBy R (keys_of (insert_entry R es k v))
          → IsStrictlySortedBy R (keys_of (match_ordering r ((k, v) ∷ e ∷ es) ((e.0, v) ∷ es) (e ∷ insert_entry R es k v)))
      by Less h later = ((h, above_less k e.0 es h s.0), s)
      by Equal h later = s
      by Greater h later = (above_insert e.0 k v es (less_back R o k e.0 h) s.0, later)

  above_remove : (test : K → Bool) (p : K) (es : List (K × X)) → AllByRecursion (λ q. R p q ≡ Less) (keys_of es)
      → AllByRecursion (λ q. R p q ≡ Less) (keys_of (remove_entry test es))
  above_remove test p [] a = tt
  above_remove test p (e ∷ es) a = by (test e.0) (above_remove test p es a.1)
    where
      by : (b : Bool) → AllByRecursion (λ q. R p q ≡ Less) (keys_of (remove_entry test es))
          → AllByRecursion (λ q. R p q ≡ Less) (keys_of (cond b es (e ∷ remove_entry test es)))
      by true later = a.1
      by false later = (a.0, later)

  pub sorted-remove_entry : (test : K → Bool) (es : List (K × X)) → IsStrictlySortedBy R (keys_of es) → IsStrictlySortedBy R (keys_of (remove_entry test es))
  unfolding IsStrictlySortedBy
  sorted-remove_entry test [] s = tt
  sorted-remove_entry test (e ∷ es) s = by (test e.0) (sorted-remove_entry test es s.1)
    where
      by : (b : Bool) → IsStrictlySortedBy R (keys_of (remove_entry test es)) → IsStrictlySortedBy R (keys_of (cond b es (e ∷ remove_entry test es)))
      by true later = s.1
      by false later = (above_remove test e.0 es s.0, later)
