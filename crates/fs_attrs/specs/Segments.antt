-- The segments of AS_PATH (RFC 4271, section 4.3; RFC 5065, section 3; RFC 6793, section 4): what is read, which are written, and their text.
use Rattle.std.specs.Prelude.{ℕ, ◌*◌, ◌^◌, ◌<◌, ◌==◌, Bool, ◌&&◌, nat_le, nat_lt, if◌then◌else◌, List, ◌∷◌, length, take, drop, flat_map, Option}
use Rattle.std.specs.Prelude.{Some, None, All}
use Rattle.std.specs.List.{list_all}
use Rattle.byteorder.specs.Endian.{big_number, big_bytes}
use Rattle.fs_base.specs.{declared.path.Segment.{Segment}, Parts.{parts_of}}
use Rattle.fs_message.specs.Write.{as_field}
use Rattle.fs_attrs.specs.declared.segments.LentSegment.{LentSegment}

-- AS numbers have four octets where the session has four-octet AS numbers, else two
abbrev pub as_width : Bool → ℕ
as_width four = if four then 4 else 2

-- an AS number, and what follows it
abbrev pub first_as : Bool → List ℕ → Option (ℕ × List ℕ)
first_as four octets =
    if nat_lt (length octets) (as_width four) then None else Some (big_number (as_width four) octets, drop (as_width four) octets)

abbrev pub numbers_of : Bool → List ℕ → List ℕ
numbers_of four octets = (parts_of (first_as four) octets).0

abbrev pub segment : ℕ → List ℕ → Segment
segment form numbers = record { form = form; numbers = numbers }

-- Form (1 set, 2 sequence, 3 confederation sequence, 4 confederation set), a count above 0, and so many AS numbers.
abbrev pub first_segment : Bool → List ℕ → Option (Segment × List ℕ)
first_segment four (form ∷ count ∷ rest) =
    if ((nat_le 1 form && nat_le form 4) && nat_lt 0 count) && nat_le (count * as_width four) (length rest)
    then Some (segment form (numbers_of four (take (count * as_width four) rest)), drop (count * as_width four) rest) else None
first_segment four _ = None

abbrev pub segments_of : Bool → List ℕ → List Segment
segments_of four octets = (parts_of (first_segment four) octets).0

abbrev pub are_segments : Bool → List ℕ → Bool
are_segments four octets = length (parts_of (first_segment four) octets).1 == 0

abbrev pub is_confederation : Segment → Bool
is_confederation segment = nat_le 3 segment.form

-- a segment that is lent
abbrev pub lent_segment : Bool → LentSegment → Segment
lent_segment four given = segment given.form (numbers_of four given.numbers.now)

-- One to 255 numbers, in a set or a sequence; only internal peers are told segments of a confederation.
abbrev pub is_written_segment : Bool → Segment → Bool
is_written_segment external segment =
    ((nat_le 1 (length segment.numbers) && nat_le (length segment.numbers) 255) && nat_le 1 segment.form)
    && nat_le segment.form (if external then 2 else 4)

-- An AS number in two octets is AS_TRANS where it needs four (RFC 6793, section 4.2.2).
abbrev pub as_text : Bool → ℕ → List ℕ
as_text four asn = if four then big_bytes 4 asn else big_bytes 2 (as_field asn)

abbrev pub segment_text : Bool → Segment → List ℕ
segment_text four segment = segment.form ∷ length segment.numbers ∷ flat_map (as_text four) segment.numbers

abbrev pub segments_text : Bool → List Segment → List ℕ
segments_text four segments = flat_map (segment_text four) segments

-- the numbers of a segment are AS numbers
abbrev pub AreNumbers : Segment → Type 0
AreNumbers segment = All (λ asn. asn < 2 ^ 32) segment.numbers

-- no AS number needs more than two octets
abbrev pub are_low : Segment → Bool
are_low segment = list_all (λ asn. nat_le asn 65535) segment.numbers
