use Rattle.fs_pcapng.proofs.Words.{◌≡◌, ℕ, suc, zero, Bool, true, false, Ok, Err, ◌<◌, ◌≤◌, ◌+◌, ◌==◌, refl, subst, arith, nat_tests}
use Rattle.fs_pcapng.proofs.Words.{Endian, Fault, Moment, Reads, and, gives, reads_ends, reads_gives, Going, going_more, going_start}
use Rattle.fs_pcapng.proofs.Words.{going_then, option_in, options_in, cursor, NgReason, Cut, Cursor}

-- The options of an interface, walked one by one.

record Step (order : Endian) (fuel : ℕ) (now : Cursor) : Type 0 where
  pub later : ℕ
  pub is : options_in order fuel now ≡ and (option_in order now) (options_in order later)
  pub enough : fuel ≡ later + 1

step : (order : Endian) (fuel : ℕ) (now : Cursor) → 0 < now.left → now.left ≤ fuel → Step order fuel now
step order zero now some enough = absurd (let no : ⊥ = omega (arith, some, enough) in no)
step order (suc fuel) now some enough =
    let test : (now.left == 0) ≡ false = let s = some in grind (arith, nat_tests) in
    record { later = fuel; is = rw test refl; enough = (omega arith) }

last : (order : Endian) (fuel : ℕ) (now : Cursor) → now.left ≡ 0 → options_in order fuel now ≡ gives now.unit
last order zero now none = refl
last order (suc fuel) now none = let test : (now.left == 0) ≡ true = let s = none in grind (arith, nat_tests) in rw test refl

-- what a loop did that walked the options up to here
module _ (order : Endian) (size : ℕ) (told : Bool) where
  pub record Moved (old now : Moment) (stands : Cursor) : Type 0 where
    pub fuel : ℕ
    pub enough : stands.left ≤ fuel
    pub going : Going told old now (options_in order size (cursor size 6)) (options_in order fuel stands)

pub cursor_start : (order : Endian) (size : ℕ) {told : Bool} {now : Moment} → Moved order size told now now (cursor size 6)
cursor_start order size = record { fuel = size; enough = (omega arith); going = going_start (options_in order size (cursor size 6)) }

module _ {order : Endian} {size : ℕ} {told : Bool} {old now new : Moment} {stands : Cursor} where
  pub cursor_more : {later : Cursor} → 0 < stands.left → later.left < stands.left
      → Moved order size told old now stands
      → Reads told now new (option_in order stands) Cut (λ (w : Cursor). w) (Ok later)
      → Moved order size told old new later
  cursor_more {later = later} some less one more =
      let s = step order one.fuel stands some one.enough in
      record {
        fuel = s.later;
        enough = (let e = one.enough in omega (arith, e, s.enough, less));
        going = going_more (options_in order s.later)
            (subst (λ rest. Going told old now (options_in order size (cursor size 6)) rest) s.is one.going) more;
      }

  pub cursor_fails : {fault : Fault NgReason} → 0 < stands.left
      → Moved order size told old now stands
      → Reads told now new (option_in order stands) Cut (λ (w : Cursor). w) (Err fault)
      → Reads told old new (options_in order size (cursor size 6)) Cut (λ (unit : ℕ). unit) (Err fault)
  cursor_fails some one more =
      let s = step order one.fuel stands some one.enough in
      going_then (subst (λ rest. Going told old now (options_in order size (cursor size 6)) rest) s.is one.going)
      (reads_ends (options_in order s.later) (λ (unit : ℕ). unit) more)

pub cursor_all : {order : Endian} {size : ℕ} {told : Bool} {old now : Moment} {stands : Cursor} → stands.left ≡ 0
    → Moved order size told old now stands
    → Reads told old now (options_in order size (cursor size 6)) Cut (λ (unit : ℕ). unit) (Ok stands.unit)
cursor_all {order = order} {size = size} {told = told} {old = old} {now = now} {stands = stands} none one =
    going_then (subst (λ rest. Going told old now (options_in order size (cursor size 6)) rest)
    (last order one.fuel stands none) one.going)
    (reads_gives (λ (unit : ℕ). unit) stands.unit)
