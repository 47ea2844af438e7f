-- The two ends of a wire, as it tells them, and what each call does to them.
use Rattle.std.specs.Prelude.{ℕ, List, [], ◌++◌, Option, Some, None, Result, Bool, true, false, ◌≡◌, ◌==◌, take, ⊤, if◌then◌else◌, MatchResult}
use Rattle.fs_outside.specs.{Files.{ReadTakes}, declared.wire.Opening.{Opening, TheVariants.{Listen, Dial, Both}}}

-- What one end is to receive once it is opened, what it has left to be read, and what was written through it. An end that
-- is joined has left what is written through the other.
pub record WireEnd : Type 0 where
  pub to_receive : List ℕ
  pub left : List ℕ
  pub written : List ℕ
  pub joined : Bool

pub record WireEnds : Type 0 where
  pub first : WireEnd
  pub second : WireEnd

-- What a wire tells now, it told before, and the ends stepped so. A wire that tells nothing never tells again.
abbrev pub Told : (WireEnds → WireEnds → Type 0) → Option WireEnds → Option WireEnds → Type 0
Told step old None = ⊤
Told step None (Some now) = ⊥
Told step (Some before) (Some now) = step before now

abbrev pub end_at : ℕ → WireEnds → WireEnd
end_at place ends = if place == 0 then ends.first else ends.second

abbrev pub other_than : ℕ → WireEnds → WireEnd
other_than place ends = if place == 0 then ends.second else ends.first

-- an end that has taken a connection, or has connected, has left what it was to receive
abbrev pub opened_end : WireEnd → WireEnd
opened_end end = record { to_receive = end.to_receive; left = end.to_receive; written = end.written; joined = false }

abbrev pub joined_end : WireEnd → WireEnd
joined_end end = record { to_receive = end.to_receive; left = []; written = end.written; joined = true }

abbrev pub opened : Opening → WireEnds → WireEnds
opened (Listen address) ends = record { first = opened_end ends.first; second = ends.second }
opened (Dial address) ends = record { first = ends.first; second = opened_end ends.second }
opened Both ends = record { first = joined_end ends.first; second = joined_end ends.second }

abbrev pub EndOpens : {T E : Type 0} → Opening → Result T E → WireEnds → WireEnds → Type 0
EndOpens how result before now = MatchResult result (λ _. now ≡ opened how before) (λ _. now ≡ before)

-- the end gave octets of what it had left, and all else stays
pub record EndReads {E : Type 0} (place : ℕ) (result : Result ℕ E) (into : List ℕ) (before now : WireEnds) : Type 0 where
  pub takes : ReadTakes (end_at place before).left (end_at place now).left result into
  pub receives : (end_at place now).to_receive ≡ (end_at place before).to_receive
  pub wrote : (end_at place now).written ≡ (end_at place before).written
  pub tied : (end_at place now).joined ≡ (end_at place before).joined
  pub other : other_than place now ≡ other_than place before

-- these octets were written through the end
abbrev pub wrote_end : List ℕ → WireEnd → WireEnd
wrote_end octets end =
    record { to_receive = end.to_receive; left = end.left; written = end.written ++ octets; joined = end.joined }

-- these octets were written through the end's other
abbrev pub heard_end : List ℕ → WireEnd → WireEnd
heard_end octets end = record {
  to_receive = end.to_receive;
  left = if end.joined then end.left ++ octets else end.left;
  written = end.written;
  joined = end.joined;
}

-- the end took these octets, and the other has them left where it is joined
pub record TakesIn (place : ℕ) (octets : List ℕ) (before now : WireEnds) : Type 0 where
  pub wrote : end_at place now ≡ wrote_end octets (end_at place before)
  pub other : other_than place now ≡ heard_end octets (other_than place before)

abbrev pub EndWrites : {E : Type 0} → ℕ → Result ℕ E → List ℕ → WireEnds → WireEnds → Type 0
EndWrites place result piece before now = MatchResult result (λ n. TakesIn place (take n piece) before now) (λ _. now ≡ before)

abbrev pub EndCloses : WireEnds → WireEnds → Type 0
EndCloses before now = now ≡ before
