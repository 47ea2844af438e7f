-- That `keep` leaves the other end exactly the rules that its file was accepted as last.
use Rattle.std.specs.Prelude.{List}
use Rattle.cmd_wire.specs.Keeping.{AllFit, AreExact, Happening, IsFirst, Order, Reread, begun}

-- Whatever events come behind the first reading.
abbrev pub KeptExactly : Type 0
KeptExactly =
    (order : Order) (first : Reread) (events : List Happening) → IsFirst order first → AllFit order (begun order first) events
    → AreExact order first events
