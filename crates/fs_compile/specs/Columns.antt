-- The numbers of a field in classes, and which rules of a run a packet may match whose number is of a class.
use Rattle.std.specs.{Prelude.{◌≡◌, ℕ, ◌+◌, ◌-◌, ◌*◌, ◌/◌, ◌%◌, ◌<◌, ◌≤◌, max, Bool, true, false, List, get_or, length}, Int.{bit_at}}
use Rattle.fs_compile.specs.{declared.columns.{Column.{Column}, PortRows.{PortRows}}, Search.{hits}}
use Rattle.fs_ranges.specs.{declared.{Fast.{Fast}, Field.{Field, TheVariants.{DestinationPort, SourcePort}}}, Facts.{Facts, key_of, number_of}}
use Rattle.fs_buckets.specs.{Buckets.{AreRising}, Between.{IsPlaceOf}}

-- the class of a number: classes before it end below the number, and it and those behind don't
abbrev pub IsClass : (bounds : List ℕ) → (number class : ℕ) → Type 0
IsClass bounds number class = IsPlaceOf bounds number (length bounds) class

-- so many words have a bit for each of so many rules
abbrev pub words_for : ℕ → ℕ
words_for count = (count + 63) / 64

-- the bit of a rule in the row of a class
abbrev pub bit_in : (rows : List ℕ) → (words class rule : ℕ) → ℕ
bit_in rows words class rule = bit_at (get_or rows (class * words + rule / 64) 0) (rule % 64)

-- the bit of a rule in a row
abbrev pub bit_of : (row : List ℕ) → (rule : ℕ) → ℕ
bit_of row rule = bit_at (get_or row (rule / 64) 0) (rule % 64)

-- as many words, and no bit was cleared
pub record Grown (old new : List ℕ) : Type 0 where
  pub size : length new ≡ length old
  pub kept : (word bit : ℕ) → bit_at (get_or old word 0) bit ≡ 1 → bit_at (get_or new word 0) bit ≡ 1

-- there is a row for each class
pub record AreRowsOf (bounds rows : List ℕ) (words : ℕ) : Type 0 where
  pub rising : AreRising bounds
  pub size : length rows ≡ (length bounds + 1) * words

-- the rule's bit is set in the rows of all classes that have such a number
abbrev pub IsMarked : (bounds rows : List ℕ) → (words rule : ℕ) → (allowed : ℕ → Bool) → Type 0
IsMarked bounds rows words rule allowed =
    (number class : ℕ) → allowed number ≡ true → IsClass bounds number class → bit_in rows words class rule ≡ 1

-- where a packet matches a rule of the run, the rule's bit is set in the row of the packet's class
abbrev pub AreMarked : (rules : List Fast) → (first end : ℕ) → Field → (bounds rows : List ℕ) → (words : ℕ) → Type 0
AreMarked rules first end field bounds rows words =
    (facts : Facts) (number class : ℕ) → first ≤ number → number < end
    → get_or (hits facts rules) number false ≡ true
    → IsClass bounds (key_of facts field) class
    → bit_in rows words class (number - first) ≡ 1

-- where a packet matches a rule of the run, the rule's bit is set in the row of the class of its destination port, or in
-- that of the class of its source port
abbrev pub ArePortsMarked : (rules : List Fast) → (first end : ℕ) → (destination source to from : List ℕ) → (words : ℕ) → Type 0
ArePortsMarked rules first end destination source to from words =
    (facts : Facts) (number class other : ℕ) → first ≤ number → number < end
    → get_or (hits facts rules) number false ≡ true
    → IsClass destination (number_of facts DestinationPort) class
    → IsClass source (number_of facts SourcePort) other
    → max (bit_in to words class (number - first)) (bit_in from words other (number - first)) ≡ 1

-- the column of a run of rules
pub record IsColumn (rules : List Fast) (first end : ℕ) (column : Column) : Type 0 where
  pub shaped : AreRowsOf column.bounds.items column.rows.items (words_for (end - first))
  pub few : length column.bounds.items ≤ 63
  pub marked : AreMarked rules first end column.field column.bounds.items column.rows.items (words_for (end - first))

-- the rows of either port's classes
pub record ArePortRows (rules : List Fast) (first end : ℕ) (destination source : List ℕ) (rows : PortRows) : Type 0 where
  pub to : length rows.to.items ≡ (length destination + 1) * words_for (end - first)
  pub from : length rows.from.items ≡ (length source + 1) * words_for (end - first)
  pub marked : ArePortsMarked rules first end destination source rows.to.items rows.from.items (words_for (end - first))

-- a row: where a rule of the run is matched its bit is set
pub record IsRow (tests : List Bool) (first end : ℕ) (row : List ℕ) : Type 0 where
  pub room : end ≤ first + length row * 64
  pub marked : (number : ℕ) → first ≤ number → number < end → get_or tests number false ≡ true → bit_of row (number - first) ≡ 1

-- two rows: where a rule of the run is matched its bit is set in one of them
pub record IsEither (tests : List Bool) (first end : ℕ) (row other : List ℕ) : Type 0 where
  pub room : (end ≤ first + length row * 64) × (end ≤ first + length other * 64)
  pub marked : (number : ℕ) → first ≤ number → number < end → get_or tests number false ≡ true
      → max (bit_of row (number - first)) (bit_of other (number - first)) ≡ 1
