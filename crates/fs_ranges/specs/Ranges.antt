-- Ranges of a packet's fields, of which four stand within a rule.
use Rattle.std.specs.Prelude.{ℕ, Bool, ◌&&◌, nat_le, [], ◌∷◌, get_or}
use Rattle.fs_ranges.specs.{declared.ranges.{Range.{Range}, Ranges.{Ranges}}, declared.field.Field.{Field, TheVariants.{Zero}}, Facts.{Facts, number_of}}

abbrev pub is_in_range : Facts → Field → (low high : ℕ) → Bool
is_in_range facts field low high = nat_le low (number_of facts field) && nat_le (number_of facts field) high

abbrev pub range : Field → (low high : ℕ) → Range
range field low high = record { field = field; low = low; high = high }

abbrev pub range_holds : Facts → Range → Bool
range_holds facts range = is_in_range facts range.field range.low range.high

abbrev pub field_at : Ranges → ℕ → Field
field_at ranges k = get_or ranges.fields k Zero

abbrev pub bounds_at : Ranges → ℕ → ℕ × ℕ
bounds_at ranges k = get_or ranges.bounds k (0, 0)

abbrev pub range_at : Facts → Ranges → ℕ → Bool
range_at facts ranges k = is_in_range facts (field_at ranges k) (bounds_at ranges k).0 (bounds_at ranges k).1

abbrev pub ranges_hold : Facts → Ranges → Bool
ranges_hold facts ranges =
    range_at facts ranges 0 && (range_at facts ranges 1 && (range_at facts ranges 2 && range_at facts ranges 3))

abbrev pub free_ranges : Ranges
free_ranges = record {
  fields = Zero ∷ Zero ∷ Zero ∷ Zero ∷ [];
  bounds = (0, 0) ∷ (0, 0) ∷ (0, 0) ∷ (0, 0) ∷ [];
}

-- before the others, of which the last goes
abbrev pub with_range : Ranges → Range → Ranges
with_range ranges range = record {
  fields = range.field ∷ field_at ranges 0 ∷ field_at ranges 1 ∷ field_at ranges 2 ∷ [];
  bounds = (range.low, range.high) ∷ bounds_at ranges 0 ∷ bounds_at ranges 1 ∷ bounds_at ranges 2 ∷ [];
}
