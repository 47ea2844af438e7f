-- Files in memory: what each name holds, and what each slot has left to be read.
use Rattle.std.specs.Prelude.{ℕ, List, [], ◌∷◌, Option, Some, None, Result, Bool, ◌≡◌, if◌then◌else◌, OnOk, OnErr, is_some, position, drop, slice_get}
use Rattle.std.specs.Prelude.{slice_index_or, string_bytes}
use Rattle.std.specs.Str.{bytes_eq}
use Rattle.fs_outside.specs.{Files.{LeavesOthers, Opened}, Tallies.{Tallied, tallied}}
use Rattle.fs_outside.specs.declared.{calm_files.{HeldFile.{HeldFile}, Slot.{Slot}, CalmFiles.{CalmFiles}}, memory_files.MemFiles.{MemFiles}}

abbrev pub has_name : List ℕ → HeldFile → Bool
has_name name file = bytes_eq (string_bytes file.name) name

-- what a name holds: the content of the first file of that name
abbrev pub content_named : List HeldFile → List ℕ → Option (List ℕ)
content_named [] name = None
content_named (file ∷ files) name = if has_name name file then Some file.content.items else content_named files name

abbrev pub place_of : List HeldFile → List ℕ → Option ℕ
place_of files name = position (has_name name) files

abbrev pub content_at : List HeldFile → ℕ → List ℕ
content_at files place = elim (slice_get files place) [ None ↦ [] | Some file ↦ file.content.items ]

abbrev pub content_of : List HeldFile → Option ℕ → List ℕ
content_of files place = elim place [ None ↦ [] | Some k ↦ content_at files k ]

-- what a slot has left to be read
abbrev pub slot_left : List HeldFile → Slot → List ℕ
slot_left files slot = drop slot.taken (content_of files slot.place)

abbrev pub slot_at : List Slot → ℕ → Slot
slot_at slots place = slice_index_or slots place (record { place = None; taken = 0 })

-- what each name holds, what each slot has left to be read, and the openings
pub record FilesShown : Type 0 where
  pub holds : List ℕ → Option (List ℕ)
  pub left : ℕ → List ℕ
  pub opened : Option (List Opened)

abbrev pub calm_files_shown : CalmFiles → FilesShown
calm_files_shown files = record {
  holds = content_named files.files.items;
  left = λ slot. slot_left files.files.items (slot_at files.slots slot);
  opened = files.openings;
}

abbrev pub mem_files_shown : MemFiles → FilesShown
mem_files_shown files = calm_files_shown files.files

abbrev pub mem_files_tally : MemFiles → Tallied
mem_files_tally files = tallied files.tally

-- no file, each slot at its end, and no opening
pub record NoFiles (shown : FilesShown) : Type 0 where
  pub holds : (name : List ℕ) → shown.holds name ≡ None
  pub left : (slot : ℕ) → shown.left slot ≡ []
  pub opened : shown.opened ≡ Some []

-- the other slots have left what they had, and each name holds what it held
abbrev pub LeavesRest : ℕ → FilesShown → FilesShown → Type 0
LeavesRest slot before now = LeavesOthers slot before.left now.left before.holds now.holds

-- a name that held nothing holds this content now, and the other names hold what they held
abbrev pub AddsFile : (List ℕ → Option (List ℕ)) → (List ℕ → Option (List ℕ)) → List ℕ → List ℕ → Type 0
AddsFile old new name content =
    (other : List ℕ) → new other ≡ (if is_some (old other) then old other else if bytes_eq name other then Some content else None)

-- a file was added, or nothing changed
pub record Adds {T E : Type 0} (name content : List ℕ) (result : Result T E) (before now : FilesShown) : Type 0 where
  pub ok : OnOk result (AddsFile before.holds now.holds name content)
  pub err : OnErr result ((other : List ℕ) → now.holds other ≡ before.holds other)
  pub opened : now.opened ≡ before.opened
