-- What an end hears of a stream.
use Rattle.std.specs.Prelude.{ℕ, ◌+◌, List, [], ◌≡◌, ◌<◌, ◌≤◌, Bool, true, false, Option, length}
use Rattle.fs_base.specs.{Sink.{Grew}, Wire.{Told, WireEnds, end_at}}
use Rattle.fs_peering.specs.{Round.{Part, Pieces, Stance, moments_in, octets_in}, declared.listening.Stopped.{Stopped, TheVariants.{All, Over, AtLimit}}}

-- The end heard pieces, each at the moment that the clock answered behind its read, and said octets.
pub record Listened (old new : Stance) (place : ℕ) (given : List ℕ) (before now : WireEnds) : Type 0 where
  pub heard : Pieces
  pub said : List ℕ
  pub part : Part old new place heard said before now
  pub asked : moments_in heard ≡ given

-- with so many octets before and behind them
abbrev pub ListenedTo : (old new : Stance) → (place begun count : ℕ) → List ℕ → (before now : WireEnds) → Type 0
ListenedTo old new place begun count given before now =
    (listened : Listened old new place given before now) × (begun + length (octets_in listened.heard) ≡ count)

-- and the clock answered these moments
pub record Listens (old new : Stance) (place begun count : ℕ) (before now : Option WireEnds) (answers answers' : Option (List ℕ)) : Type 0 where
  pub given : List ℕ
  pub grew : Grew answers answers' given
  pub told : Told (ListenedTo old new place begun count given) before now

-- Why no more is heard: the end hears no more; it heard so many octets as the limit; or the stream ended.
abbrev pub EndsSo : Stopped → (over : Bool) → (count limit : ℕ) → (left : List ℕ) → Type 0
EndsSo Over over count limit left = over ≡ true
EndsSo AtLimit over count limit left = (over ≡ false) × (limit ≤ count)
EndsSo All over count limit left = (over ≡ false) × ((count < limit) × (left ≡ []))

-- With the octets that came before it heard no more than the limit.
pub record HeardOut (heard : Stopped) (old new : Stance) (over : Bool) (begun count place limit : ℕ) (given : List ℕ) (before now : WireEnds)
    : Type 0 where
  pub listened : Listened old new place given before now
  pub within : begun + length (octets_in listened.heard) ≤ limit
  pub some : 0 < length given
  pub ends : EndsSo heard over count limit (end_at place now).left

pub record HearsOut
    (heard : Stopped) (old new : Stance) (over : Bool) (begun count place limit : ℕ) (before now : Option WireEnds)
    (answers answers' : Option (List ℕ))
    : Type 0 where
  pub given : List ℕ
  pub grew : Grew answers answers' given
  pub told : Told (HeardOut heard old new over begun count place limit given) before now
