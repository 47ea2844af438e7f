-- What the wire and the clock tell before a call and behind it. Clauses take it as one argument.
use Rattle.std.specs.Prelude.{ℕ, List, Option}
use Rattle.fs_base.specs.Wire.{WireEnds}
use Rattle.fs_base.specs.declared.Wire as wire
use Rattle.fs_base.specs.declared.Clock as clock

pub record Conversation : Type 0 where
  pub ends : Option WireEnds
  pub ends_now : Option WireEnds
  pub answers : Option (List ℕ)
  pub answers_now : Option (List ℕ)

-- in a clause: `conversation W.Wire C.Clock wire.old wire.new clock.old clock.new`
abbrev pub conversation : {W C : Type 0} → wire.Ghosts W → clock.Ghosts C → (before now : W) → (before now : C) → Conversation
conversation of_wire of_clock wire wire_now clock clock_now = record {
  ends = of_wire.tells wire;
  ends_now = of_wire.tells wire_now;
  answers = of_clock.answers clock;
  answers_now = of_clock.answers clock_now;
}
