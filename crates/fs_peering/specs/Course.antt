-- What an end of a session comes to that hears pieces over a wire: at each of them first the clock, and then the piece.
use Rattle.std.specs.Prelude.{ℕ, List, [], ◌∷◌, ◌++◌}
use Rattle.fs_speaker.specs.{End.{first_point, ticked}, Handed.{Handed, Point, hand, handed}, Transition.{Machine}}
use Rattle.fs_peering.specs.Round.{Pieces}

-- what was taken and answered first, and then
abbrev pub after : Handed → Handed → Handed
after first later = handed later.point (first.updates ++ later.updates) (first.text ++ later.text)

-- the clock at a moment, and then a piece at the same
abbrev pub hears : Machine → (ℕ × List ℕ) → Point → Handed
hears machine event now =
    after (ticked event.0 now) (hand machine event.0 (ticked event.0 now).point event.1)

abbrev pub course_from : Machine → Handed → Pieces → Handed
course_from machine now [] = now
course_from machine now (event ∷ later) = course_from machine (after now (hears machine event now.point)) later

-- all pieces, one after the other
abbrev pub course : Machine → Pieces → Handed
course machine heard = course_from machine (handed first_point [] []) heard
