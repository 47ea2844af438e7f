-- The moments at which an end hears, in milliseconds, and a hold time that passes between them.
use Rattle.std.specs.Prelude.{◌≡◌, ◌≢◌, ℕ, ◌+◌, ◌≤◌, ◌<◌, max, List, [], ◌∷◌, ◌++◌, length}
use Rattle.fs_session.specs.declared.times.Times.{Times}

-- the greatest of them
abbrev pub most : List ℕ → ℕ
most [] = 0
most (moment ∷ moments) = max moment (most moments)

-- A later moment lies so far above all of some earlier ones.
pub record Spans (least : ℕ) (moments : List ℕ) : Type 0 where
  pub earlier : List ℕ
  pub later : List ℕ
  pub split : moments ≡ earlier ++ later
  pub some : 0 < length earlier
  pub apart : most earlier + least ≤ most later

-- the greatest of the moments up to one of them
pub record IsTakenAt (moments : List ℕ) (taken : ℕ) : Type 0 where
  pub earlier : List ℕ
  pub later : List ℕ
  pub split : moments ≡ earlier ++ later
  pub some : 0 < length earlier
  pub taken_is : taken ≡ most earlier

-- An end's own moments are these: with a hold time it took a message at one of them.
pub record AreTimely (moments : List ℕ) (hold : ℕ) (times : Times) : Type 0 where
  pub greatest_is : times.greatest ≡ most moments
  pub taken_is : hold ≢ 0 → IsTakenAt moments times.taken
