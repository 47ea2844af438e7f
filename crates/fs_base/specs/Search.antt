-- What a search by prefix finds in a list of things that each have a prefix.
use Rattle.std.specs.{Prelude.{◌≡◌, ◌≤◌, true, false, Option, List, MatchOption}, List.{list_any, AllByRecursion}, Ordering.{is_eq, is_le}}
use Rattle.fs_base.specs.{Prefix.{covers, prefix_cmp}, declared.prefix.Prefix.{Prefix}}

module _ {X : Type 0} (at : X → Prefix) (held : List X) where
  -- q is there, isn't before low, and is first of those
  pub record IsFirst (low q : Prefix) : Type 0 where
    pub there : list_any (λ x. is_eq (prefix_cmp q (at x))) held ≡ true
    pub from : is_le (prefix_cmp low q) ≡ true
    pub least : AllByRecursion (λ x. is_le (prefix_cmp low (at x)) ≡ true → is_le (prefix_cmp q (at x)) ≡ true) held

  -- the first prefix from low on
  abbrev pub IsFirstFrom : Prefix → Option Prefix → Type 0
  IsFirstFrom low found = MatchOption found (AllByRecursion (λ x. is_le (prefix_cmp low (at x)) ≡ false) held) (IsFirst low)

  -- q is there, covers d, and is the longest that does
  pub record IsLongest (d q : Prefix) : Type 0 where
    pub there : list_any (λ x. is_eq (prefix_cmp q (at x))) held ≡ true
    pub over : covers q d ≡ true
    pub longest : AllByRecursion (λ x. covers (at x) d ≡ true → (at x).length ≤ q.length) held
