-- Laws of orderings.
use Rattle.fs_base.proofs.Words.{◌≡◌, refl, true, is_eq, Ordering, Less, Equal, Greater, is_le, ◌==◌, ℕ, arith, ordering_then, is_lt, nat_tests}
use Rattle.std.specs.{Ordering.{nat_cmp, is_eq}, declared.cmp.Ordering.TheVariants.{Less, Equal, Greater}}

pub equal_of_is_eq : (o : Ordering) → is_eq o ≡ true → o ≡ Equal
equal_of_is_eq Less h = cc
equal_of_is_eq Equal h = refl
equal_of_is_eq Greater h = cc

pub is_le_of_then : (o p : Ordering) → ordering_then o p ≡ Less → is_le o ≡ true
is_le_of_then Less p e = refl
is_le_of_then Equal p e = refl
is_le_of_then Greater p e = cc

pub is_eq_of_nats : (m n : ℕ) → is_eq (nat_cmp m n) ≡ (m == n)
is_eq_of_nats m n = grind (arith, nat_tests)

pub less_of_is_lt : (o : Ordering) → is_lt o ≡ true → o ≡ Less
less_of_is_lt Less h = refl
less_of_is_lt Equal h = cc
less_of_is_lt Greater h = cc

pub is_eq_of_first : (o q : Ordering) → is_eq (ordering_then o q) ≡ true → is_eq o ≡ true
is_eq_of_first Less q h = h
is_eq_of_first Equal q h = refl
is_eq_of_first Greater q h = h
