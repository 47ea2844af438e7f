-- Which rules of a long run a packet may match.
use Rattle.std.specs.Prelude.{◌≡◌, ℕ, ◌+◌, ◌*◌, ◌<◌, ◌≤◌, Bool, List, get_or, length}
use Rattle.std.specs.{Int.{RustNames.{bit_and, bit_or}}, List.{All}}
use Rattle.fs_ranges.specs.declared.{Fast.{Fast}, Field.TheVariants.{DestinationPort, Length, Protocol, SourcePort}}
use Rattle.fs_compile.specs.{declared.filters.{Filter.{Filter}, Filters.{Filters}, Rows.{Rows}}, Columns.{ArePortRows, IsColumn, IsEither, IsRow}}

-- it is of a run of these rules
pub record IsFilter (rules : List Fast) (filter : Filter) : Type 0 where
  pub ordered : filter.first ≤ filter.end
  pub within : filter.end ≤ length rules
  pub source : IsColumn rules filter.first filter.end filter.source
  pub fields : (filter.protocol.field ≡ Protocol) × (filter.destination_port.field ≡ DestinationPort) × (filter.source_port.field ≡ SourcePort)
      × (filter.length.field ≡ Length)
  pub protocol : IsColumn rules filter.first filter.end filter.protocol
  pub destination_port : IsColumn rules filter.first filter.end filter.destination_port
  pub source_port : IsColumn rules filter.first filter.end filter.source_port
  pub length : IsColumn rules filter.first filter.end filter.length
  pub ports : ArePortRows rules filter.first filter.end filter.destination_port.bounds.items filter.source_port.bounds.items filter.ports

-- each filter is of a run of these rules
abbrev pub AreFilters : List Fast → Filters → Type 0
AreFilters rules filters = All (IsFilter rules) filters.runs.items

-- rows of the tests of the rules from their first on up to a number
pub record AreRows (tests : List Bool) (end : ℕ) (rows : Rows) : Type 0 where
  pub source : IsRow tests rows.first end rows.source.now
  pub protocol : IsRow tests rows.first end rows.protocol.now
  pub destination_port : IsRow tests rows.first end rows.destination_port.now
  pub source_port : IsRow tests rows.first end rows.source_port.now
  pub ports : IsEither tests rows.first end rows.to_port.now rows.from_port.now
  pub length : IsRow tests rows.first end rows.length.now

-- the number of the first of the 64 rules of a place
abbrev pub first_at : Rows → (place : ℕ) → ℕ
first_at rows place = rows.first + place * 64

-- the rows have a word at the place
pub record IsInside (place : ℕ) (rows : Rows) : Type 0 where
  pub source : place < length rows.source.now
  pub protocol : place < length rows.protocol.now
  pub destination_port : place < length rows.destination_port.now
  pub source_port : place < length rows.source_port.now
  pub to_port : place < length rows.to_port.now
  pub from_port : place < length rows.from_port.now
  pub length : place < length rows.length.now

-- the bits that are set in the rows of sources and ports
abbrev pub front_of : Rows → (place : ℕ) → ℕ
front_of rows place =
    bit_and (bit_and (get_or rows.source.now place 0) (get_or rows.destination_port.now place 0)) (get_or rows.source_port.now place 0)

-- the bits that are set in all rows
abbrev pub word_of : Rows → (place : ℕ) → ℕ
word_of rows place =
    bit_and (bit_and (bit_and (front_of rows place) (get_or rows.protocol.now place 0)) (get_or rows.length.now place 0))
    (bit_or (get_or rows.to_port.now place 0) (get_or rows.from_port.now place 0))
