-- Where no place is noted.
use Rattle.std.specs.{Prelude.{◌≡◌, ℕ, List, [], ◌∷◌}, List.{AllByRecursion}}
use Rattle.fs_base.specs.declared.prefix.Prefix.{Prefix}
use Rattle.fs_validate.specs.Validity.{validity}
use Rattle.fs_flows.specs.Table.{Held, without_path}

-- each held flow route has the validity that it had
abbrev pub ValiditiesStay : Held → Held → Type 0
ValiditiesStay old new =
    AllByRecursion (λ r. validity new.unicast new.config r ≡ validity old.unicast old.config r) old.flows

-- the peer's unicast routes at these prefixes go, one after the other, and no validity changes at any of them
abbrev pub StayAlong : ℕ → List Prefix → Held → Type 0
StayAlong peer [] held = Unit {0}
StayAlong peer (p ∷ ps) held = ValiditiesStay held (without_path peer p held) × StayAlong peer ps (without_path peer p held)

-- in whichever order the peer's unicast routes go, no validity changes on the way
abbrev pub StayThroughout : ℕ → Held → Type 0
StayThroughout peer held = (prefixes : List Prefix) → StayAlong peer prefixes held
