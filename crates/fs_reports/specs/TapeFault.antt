-- The line of a tape's fault.
use Rattle.std.specs.Prelude.{ℕ, List, ◌++◌, codes, decimal}
use Rattle.fs_tape.specs.declared.fault.TapeReason.{TapeReason, TheVariants.{Magic, Kind, Peer as UnknownPeer, Length, Cut, Moment}}

-- what is wrong with the tape
abbrev pub tape_reason_name : TapeReason → List ℕ
tape_reason_name Magic = codes "Magic"
tape_reason_name Kind = codes "Kind"
tape_reason_name UnknownPeer = codes "Peer"
tape_reason_name Length = codes "Length"
tape_reason_name Cut = codes "Cut"
tape_reason_name Moment = codes "Moment"

-- and at which octet
abbrev pub tape_fault_line : TapeReason → ℕ → List ℕ
tape_fault_line reason place =
    codes "tape " ++ (tape_reason_name reason ++ (codes " at " ++ (decimal place ++ codes "\n")))
