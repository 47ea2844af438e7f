-- What a call on files does to the slot that it names, and that it leaves all else.
use Rattle.std.specs.Prelude.{ℕ, List, [], ◌∷◌, ◌++◌, Option, Result, Ok, Err, Bool, IsTrue, ◌≡◌, ◌≢◌, ◌<◌, length, take, MatchResult, unwrap_or}

-- an opening: of this name, in this slot
pub record Opened : Type 0 where
  pub slot : ℕ
  pub name : List ℕ

abbrev pub one_opening : ℕ → List ℕ → List Opened
one_opening slot name = record { slot = slot; name = name } ∷ []

-- what a slot has left behind an opening: the file's octets, or none where it isn't there or the call failed
abbrev pub opened_content : {E : Type 0} → Result Bool E → Option (List ℕ) → List ℕ
opened_content (Ok found) held = unwrap_or held []
opened_content (Err e) held = []

-- A read gave the first n octets of what was left: none only at the end or without room, and none where it failed.
abbrev pub ReadTakes : {E : Type 0} → List ℕ → List ℕ → Result ℕ E → List ℕ → Type 0
ReadTakes old new result into =
    MatchResult result (λ n. (old ≡ take n into ++ new) × (n ≡ 0 → 0 < length into → new ≡ [])) (λ _. new ≡ old)

-- the other slots have left what they had, and each name holds what it held
pub record LeavesOthers (slot : ℕ) (left left_now : ℕ → List ℕ) (holds holds_now : List ℕ → Option (List ℕ)) : Type 0 where
  pub others : (other : ℕ) → other ≢ slot → left_now other ≡ left other
  pub names : holds_now ≡ holds

-- Files that tell what they hold were changed at one slot at most. `tells`, `left` and `holds` are those of their type.
abbrev pub OnlySlot : {F : Type 0} (tells : Bool) (left : F → ℕ → List ℕ) (holds : F → List ℕ → Option (List ℕ)) → ℕ → F → F → Type 0
OnlySlot tells left holds slot old new = IsTrue tells → LeavesOthers slot (left old) (left new) (holds old) (holds new)
