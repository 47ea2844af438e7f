-- Octets in flight between two ends.
use Rattle.std.specs.Prelude.{ℕ, Bool, List}

-- octets in flight, as a list for each end
pub record Flying : Type 0 where
  pub to_taker : List ℕ
  pub to_teller : List ℕ
  pub cut : Bool

abbrev pub flying : (to_taker to_teller : List ℕ) → Bool → Flying
flying to_taker to_teller cut = record { to_taker = to_taker; to_teller = to_teller; cut = cut }
