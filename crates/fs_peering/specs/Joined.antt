-- What two ends that are joined hear of each other.
use Rattle.std.specs.Prelude.{ℕ, List, [], ◌∷◌, ◌++◌, ◌≡◌, ◌<◌, ◌≤◌, ◌⊎◌, Bool, true, false, not, if◌then◌else◌, flat_map, map, Option, length, IsTrue}
use Rattle.fs_base.specs.{Sink.{Grew}, Wire.{Told, WireEnd, WireEnds}}
use Rattle.fs_peering.specs.{Round.{Pieces, Stance, octets_in}, declared.joined.Talk.{Talk, TheVariants.{Done, FirstOver, SecondOver, AtLimit, Broken}}}

-- a piece that an end heard at a moment: the first end, or the second
pub record Heard : Type 0 where
  pub first : Bool
  pub moment : ℕ
  pub piece : List ℕ

abbrev pub heard_by : Bool → Heard → Pieces
heard_by first event = if (if first then event.first else not event.first) then (event.moment, event.piece) ∷ [] else []

-- of the events those of one end
abbrev pub of_first : List Heard → Pieces
of_first events = flat_map (heard_by true) events

abbrev pub of_second : List Heard → Pieces
of_second events = flat_map (heard_by false) events

abbrev pub moments_of : List Heard → List ℕ
moments_of events = map (λ event. event.moment) events

-- both ends have what is written through the other, and nothing is in flight
abbrev pub AreJoined : WireEnds → Type 0
AreJoined ends = (ends.first.joined ≡ true) × (ends.second.joined ≡ true) × (ends.first.left ≡ []) × (ends.second.left ≡ [])

-- An end of two that are joined, from how it stood to how it stands: it heard these pieces of what the other said, said
-- these octets itself, and has the rest of what the other said left.
pub record Side (old new : Stance) (heard : Pieces) (said others : List ℕ) (before now : WireEnd) : Type 0 where
  pub stands : (earlier : Pieces) (spoken : List ℕ) → old earlier spoken → new (earlier ++ heard) (spoken ++ said)
  pub read : others ≡ octets_in heard ++ now.left
  pub wrote : now.written ≡ before.written ++ said
  pub tied : now.joined ≡ true

-- Both ends of a wire, which heard and said so.
pub record Exchanged (first first' second second' : Stance) (events : List Heard) (before now : WireEnds) : Type 0 where
  pub replied : List ℕ
  pub announced : List ℕ
  pub one : Side first first' (of_first events) replied announced before.first now.first
  pub other : Side second second' (of_second events) announced replied before.second now.second

-- The ends as they are when no more is heard: of the first whether it has closed, and of the second also whether it is
-- ready, whether it has said what comes before anything that it hears, how many octets it heard up to where it was
-- ready, and how many messages it has still to say.
pub record Ended : Type 0 where
  pub over_first : Bool
  pub over_second : Bool
  pub ready : Bool
  pub begun : Bool
  pub count : ℕ
  pub ahead : ℕ

-- The second end says no more, and the first heard all that it said. Where the second isn't ready, it heard all that
-- the first said; where it is, it has said all.
pub record SaidAll (end : Ended) (one limit : ℕ) (now : WireEnds) : Type 0 where
  pub open_first : end.over_first ≡ false
  pub open_second : end.over_second ≡ false
  pub within_first : one < limit
  pub within_second : end.count < limit
  pub heard_first : now.first.left ≡ []
  pub begun : IsTrue end.begun
  pub heard_second : end.ready ≡ false → now.second.left ≡ []
  pub all : IsTrue end.ready → end.ahead ≡ 0

-- Why no more is heard: one end has closed, and the other hasn't; one of them heard so many octets as the limit; or
-- nothing more is said. Octets in flight always arrive.
abbrev pub StopsSo : Talk → Ended → (one limit : ℕ) → WireEnds → Type 0
StopsSo FirstOver end one limit now = (end.over_first ≡ true) × (end.over_second ≡ false)
StopsSo SecondOver end one limit now = (end.over_first ≡ false) × (end.over_second ≡ true)
StopsSo AtLimit end one limit now =
    (end.over_first ≡ false) × ((end.over_second ≡ false) × ((limit ≤ one) ⊎ (limit ≤ end.count)))
StopsSo Done end one limit now = SaidAll end one limit now
StopsSo Broken end one limit now = ⊥

pub record ExchangedOut (talk : Talk) (first first' second second' : Stance) (end : Ended) (limit : ℕ) (given : List ℕ) (before now : WireEnds)
    : Type 0 where
  pub events : List Heard
  pub exchanged : Exchanged first first' second second' events before now
  pub asked : moments_of events ≡ given
  pub within_first : length (octets_in (of_first events)) ≤ limit
  pub within_second : length (octets_in (of_second events)) ≤ limit
  pub stops : StopsSo talk end (length (octets_in (of_first events))) limit now

-- so between joined ends, and the clock answered these moments
pub record Exchanges
    (talk : Talk) (first first' second second' : Stance) (end : Ended) (limit : ℕ) (before now : Option WireEnds)
    (answers answers' : Option (List ℕ))
    : Type 0 where
  pub given : List ℕ
  pub grew : Grew answers answers' given
  pub told : Told (λ b n. AreJoined b → ExchangedOut talk first first' second second' end limit given b n) before now
