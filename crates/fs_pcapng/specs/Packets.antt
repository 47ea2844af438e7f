-- What stands before the octets of an enhanced packet, as a chain of its own: interface, time, captured length and the
-- packet's length.
use Rattle.std.specs.Prelude.{ℕ, List, Option, Some, None, ◌≤◌, ◌+◌, drop, slice_get, ⊤}
use Rattle.fs_pcap.specs.{Head.{longest_record}, Order.{number}}
use Rattle.fs_input.specs.{Reads.{whole}, Scan.{Scanner, and, fails, field, gives}, declared.judging.Judged.{Judged, TheVariants.{Whole, Wrong, Partial}}}
use Rattle.fs_pcapng.specs.{Block.{Stands, fitting, stamped}}
use Rattle.fs_pcapng.specs.declared.fault.NgReason.{NgReason, TheVariants.{Interface as WrongInterface}}
use Rattle.fs_pcapng.specs.declared.{fields.Frame.{Frame}, packets.Told.{Told}, section.Interface.{Interface}}

abbrev pub told_of : (time link captured original : ℕ) → Told
told_of time link captured original = record { time = time; link = link; captured = captured; original = original }

abbrev pub told_behind : Frame → (time link captured : ℕ) → Scanner Told NgReason
told_behind frame time link captured =
    and (field 4 (number frame.order 4)) (λ original. gives (told_of time link captured original))

abbrev pub told_timed : Frame → Interface → List ℕ → Scanner Told NgReason
told_timed frame interface octets =
    fitting frame 32 (number frame.order 4 (drop 8 octets)) (frame.start + 20)
    (told_behind frame (stamped frame interface octets) interface.link (number frame.order 4 (drop 8 octets)))

abbrev pub told_by : Frame → Option Interface → Scanner Told NgReason
told_by frame None = fails WrongInterface (frame.start + 8)
told_by frame (Some interface) = and (field 12 whole) (told_timed frame interface)

abbrev pub told_in : Frame → Stands → Scanner Told NgReason
told_in frame now = and (field 4 (number frame.order 4)) (λ which. told_by frame (slice_get now.interfaces which))

-- Where all stands whole, so many octets were in hand; the packet isn't too long and fits the block.
abbrev pub Suits : Frame → (size hand : ℕ) → Judged Told NgReason → Type 0
Suits frame size hand (Whole told) =
    (size ≤ hand) × ((told.captured ≤ longest_record) × (32 + told.captured ≤ frame.total))
Suits frame size hand (Wrong reason place) = ⊤
Suits frame size hand Partial = ⊤
