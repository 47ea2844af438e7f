-- The routes of a group in blocks, which are cut only between rules.
use Rattle.std.specs.Prelude.{◌≡◌, ℕ, zero, suc, ◌+◌, ◌≤◌, length, take, drop, Bool, true, false, not, List, [], ◌∷◌, ◌++◌, filter, if◌then◌else◌}
use Rattle.std.specs.{List.{AllByRecursion}, Ordering.{is_lt}, declared.cmp.Ordering.TheVariants.{Less}}
use Rattle.fs_nlri.specs.Parts.{Ruled}
use Rattle.fs_order.specs.Comparison.{rule_cmp}
use Rattle.fs_flows.specs.{Kept.{Kept}, Group.{AreSorted, routes_of}}

-- one block after the other
abbrev pub flat : List (List Kept) → List Kept
flat [] = []
flat (b ∷ bs) = b ++ flat bs

-- the rule of the first is before that of the second
abbrev pub RuleBefore : Kept → Kept → Type 0
RuleBefore a b = rule_cmp a.route.rule b.route.rule ≡ Less

-- rules of the first list stand before those of the second
abbrev pub AllBefore : List Kept → List Kept → Type 0
AllBefore xs ys = AllByRecursion (λ x. AllByRecursion (RuleBefore x) ys) xs

-- each block's rules stand before those of all blocks behind it, so that no rule stands in two
abbrev pub AreCut : List (List Kept) → Type 0
AreCut [] = Unit {0}
AreCut (b ∷ bs) = AllBefore b (flat bs) × AreCut bs

abbrev pub is_filled : List Kept → Bool
is_filled [] = false
is_filled (k ∷ ks) = true

-- no block but the first is empty
abbrev pub AreFilled : List (List Kept) → Type 0
AreFilled [] = Unit {0}
AreFilled (b ∷ bs) = AllByRecursion (λ c. is_filled c ≡ true) bs

pub record IsCut (blocks : List (List Kept)) : Type 0 where
  pub apart : AreCut blocks
  pub filled : AreFilled blocks

-- each block is in order
abbrev pub AreEachSorted : List (List Kept) → Type 0
AreEachSorted blocks = AllByRecursion (λ b. AreSorted (routes_of b)) blocks

-- whether a block begins with the rule or with an earlier one
abbrev pub begins_by : Ruled → List Kept → Bool
begins_by rule [] = false
begins_by rule (k ∷ ks) = not (is_lt (rule_cmp rule k.route.rule))

-- how many blocks begin with the rule or with an earlier one, before the first that doesn't
abbrev pub begun : Ruled → List (List Kept) → ℕ
begun rule [] = 0
begun rule (b ∷ bs) = if begins_by rule b then 1 + begun rule bs else 0

-- the block in which the rule has its place: the last that begins with it or with an earlier one, or else the first
abbrev pub block_of : Ruled → List (List Kept) → ℕ
block_of rule [] = 0
block_of rule (b ∷ bs) = begun rule bs

-- of each block what passes, if anything does
abbrev pub with_block : List Kept → List (List Kept) → List (List Kept)
with_block [] bs = bs
with_block (k ∷ ks) bs = (k ∷ ks) ∷ bs

abbrev pub keep_blocks : (Kept → Bool) → List (List Kept) → List (List Kept)
keep_blocks keeps [] = []
keep_blocks keeps (b ∷ bs) = with_block (filter keeps b) (keep_blocks keeps bs)

-- with the block of this number cut in two at the place
abbrev pub cut_list : ℕ → ℕ → List (List Kept) → List (List Kept)
cut_list number place [] = []
cut_list zero place (b ∷ bs) = take place b ∷ drop place b ∷ bs
cut_list (suc number) place (b ∷ bs) = b ∷ cut_list number place bs

-- there is such a block, and such a place in it
abbrev pub CanCut : ℕ → ℕ → List (List Kept) → Type 0
CanCut number place [] = ⊥
CanCut zero place (b ∷ bs) = place ≤ length b
CanCut (suc number) place (b ∷ bs) = CanCut number place bs
