-- The lines of the commands that speak over a wire.
use Rattle.std.specs.Prelude.{ℕ, List, ◌++◌, codes, decimal}
use Rattle.fs_speaker.specs.declared.Closed.{Closed, TheVariants.{Fault, Notified, NoFamily, Memory}}
use Rattle.fs_reports.specs.Peers.{codes_text}

-- How a session closed: by a fault, by the other end's NOTIFICATION, or since the other end's OPEN lacks the family of a
-- rule. No octets close it for want of memory.
abbrev pub closing_text : Closed → List ℕ
closing_text (Fault code subcode) = codes_text (codes "session ") code subcode
closing_text (Notified code subcode) = codes_text (codes "session notified ") code subcode
closing_text NoFamily = codes "session family"
closing_text Memory = codes "session "

abbrev pub closing_line : Closed → List ℕ
closing_line why = closing_text why ++ codes "\n"

-- the octets ended before the session was established
abbrev pub ended_line : List ℕ
ended_line = codes "session ended\n"

-- so many rules were announced
abbrev pub sent_line : ℕ → List ℕ
sent_line count = codes "sent " ++ (decimal count ++ codes "\n")
