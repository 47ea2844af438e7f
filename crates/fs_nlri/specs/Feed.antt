-- Frames that come in pieces, however they are cut.
use Rattle.std.specs.Prelude.{◌≡◌, ℕ, ◌-◌, List, [], ◌∷◌, ◌++◌, length, drop, Option, Some, None, Result, Ok, Err}
use Rattle.fs_base.specs.declared.prefix.Family.{Family}
use Rattle.fs_nlri.specs.declared.fault.{Reason.TheVariants.{Length}, NlriFault.{NlriFault, TheVariants.{Bad, Memory}}}
use Rattle.fs_nlri.specs.{Parts.{Ruled}, Spelling.{IsFrame}, Fault.{IsOpen, IsBadFrame}}

-- what a feed keeps: the octets of the frame that has begun, and the fault that stays
pub record Fed : Type 0 where
  pub family : Family
  pub held : List ℕ
  pub fault : Option NlriFault

abbrev pub fed : Family → List ℕ → Option NlriFault → Fed
fed family held fault = record { family = family; held = held; fault = fault }

-- the octets are frames of these rules, one after the other
abbrev pub Frames : Family → List ℕ → List Ruled → Type 0
Frames family octets [] = octets ≡ []
Frames family octets (rule ∷ rules) =
    (frame : List ℕ) × (rest : List ℕ) × (octets ≡ frame ++ rest) × (rule.family ≡ family) × IsFrame frame rule × Frames family rest rules

-- the rules of the whole frames at the front have been appended
pub record Appends (family : Family) (octets rest : List ℕ) (old new : List Ruled) : Type 0 where
  pub front : List ℕ
  pub rules : List Ruled
  pub frames : Frames family front rules
  pub parts : octets ≡ front ++ rest
  pub added : new ≡ old ++ rules

-- the last octets, so many as are left
abbrev pub left_over : ℕ → List ℕ → List ℕ
left_over left octets = drop (length octets - left) octets

-- the whole piece was taken: what is kept is less than a frame
pub record Takes (old new : Fed) (piece : List ℕ) (before after : List Ruled) : Type 0 where
  pub family : new.family ≡ old.family
  pub well : (old.fault ≡ None) × (new.fault ≡ None)
  pub taken : Appends old.family (old.held ++ piece) new.held before after
  pub partial : IsOpen new.held

-- behind the rules' frames stands a whole frame with that fault; at want of memory anything
abbrev pub IsFaultAfter : Family → List ℕ → NlriFault → Type 0
IsFaultAfter family rest (Bad Length place) = ⊥
IsFaultAfter family rest (Bad reason place) = IsBadFrame family rest reason place
IsFaultAfter family rest Memory = Unit {0}

-- the rules of the frames before the fault have been appended, and behind these stands the fault
pub record Stops (family : Family) (octets : List ℕ) (before after : List Ruled) (fault : NlriFault) : Type 0 where
  pub rest : List ℕ
  pub taken : Appends family octets rest before after
  pub bad : IsFaultAfter family rest fault

pub record Fails (old new : Fed) (piece : List ℕ) (before after : List Ruled) (fault : NlriFault) : Type 0 where
  pub family : new.family ≡ old.family
  pub stays : new.fault ≡ Some fault
  pub stops : Stops old.family (old.held ++ piece) before after fault

-- a fault that stays is answered again, and nothing is taken; else the first one stays from now on
abbrev pub FailsWith : Fed → Fed → List ℕ → List Ruled → List Ruled → Option NlriFault → NlriFault → Type 0
FailsWith old new piece before after (Some stays) fault = (fault ≡ stays) × (new ≡ old) × (after ≡ before)
FailsWith old new piece before after None fault = Fails old new piece before after fault

-- the answer at the end: the fault that stays, or Length where a frame has begun
abbrev pub ends_as : Option NlriFault → List ℕ → Result (Unit {0}) NlriFault
ends_as (Some fault) held = Err fault
ends_as None [] = Ok tt
ends_as None (octet ∷ held) = Err (Bad Length (length (octet ∷ held)))
