-- What `check` says of a dump: who speaks in it, and of which types its records are that `convert` passes over; and its fault.
use Rattle.std.specs.Prelude.{ℕ, List, [], ◌∷◌, ◌++◌, Option, Some, None, Bool, not, Result, Ok, Err, ◌≡◌, ◌+◌, MatchResult, codes, decimal}
use Rattle.std.specs.Prelude.{filter, flat_map, if◌then◌else◌, position}
use Rattle.std.specs.{Int.{to_be_bytes, w32, w128}, Net.{Addr.{segments_of}, Text.{ipv4_text, ipv6_text}}}
use Rattle.fs_base.specs.declared.config.{Address.{Address, TheVariants.{V4, V6}}, Config.{Config}}
use Rattle.fs_input.specs.{Records.{End, done, limited, bad}, declared.fault.Fault.{Fault, TheVariants.{Read, Limit, Bad}}}
use Rattle.fs_mrt.specs.{Fault.{reason_name}, Notes.{notes_of, same_note}}
use Rattle.fs_mrt.specs.declared.{fault.DumpReason.{DumpReason}, notes.Note.{Note, TheVariants.{Skipped, Spoke}}}
use Rattle.cmd_stages.specs.{Load.{Names, config_stage}, Said.{said_shown}}
use Rattle.cmd_stages.specs.Refusal.{Stage, Found, Stopped, Verdict, or_stop, status_of, verdict_with}
use Rattle.cmd_stages.specs.declared.{refusal.Refusal.{Refusal, TheVariants.{Outside, Memory, Limit as LimitReached}}, said.Said.{Said}}
use Rattle.cmd_convert.specs.declared.counts.NoteCount.{NoteCount}

abbrev pub note_count : Note → ℕ → NoteCount
note_count note count = record { note = note; count = count }

-- a message counts, and a record that isn't read; a change of state tells only who speaks
abbrev pub weight : Note → ℕ
weight (Skipped kind subtype) = 1
weight (Spoke address asn number is_message) = if is_message then 1 else 0

-- how many of these are of that peer, or of that type
abbrev pub count_of : Note → List Note → ℕ
count_of note [] = 0
count_of note (other ∷ notes) = (if same_note other note then weight other else 0) + count_of note notes

abbrev pub is_other : Note → NoteCount → Bool
is_other note count = not (same_note count.note note)

-- peers and types in the order of their first records, each with how many records count
abbrev pub counts_of : List Note → List NoteCount
counts_of [] = []
counts_of (note ∷ notes) = note_count note (weight note + count_of note notes) ∷ filter (is_other note) (counts_of notes)

abbrev pub address_text : Address → List ℕ
address_text (V4 address) = ipv4_text (to_be_bytes w32 address)
address_text (V6 address) = ipv6_text (segments_of (to_be_bytes w128 address))

-- the peer's number, where it is configured
abbrev pub number_text : Option ℕ → List ℕ
number_text None = codes "unknown"
number_text (Some number) = codes "number " ++ decimal number

abbrev pub peer_line : Address → (asn : ℕ) → Option ℕ → (count : ℕ) → List ℕ
peer_line address asn number count =
    codes "peer "
    ++ (address_text address
    ++ (codes " as " ++ (decimal asn ++ (codes " " ++ (number_text number ++ (codes " messages " ++ (decimal count ++ codes "\n")))))))

abbrev pub skipped_line : (kind subtype count : ℕ) → List ℕ
skipped_line kind subtype count =
    codes "skipped " ++ (decimal kind ++ (codes "/" ++ (decimal subtype ++ (codes " " ++ (decimal count ++ codes "\n")))))

abbrev pub peer_part : Note → ℕ → List ℕ
peer_part (Spoke address asn number is_message) count = peer_line address asn number count
peer_part (Skipped kind subtype) count = []

abbrev pub skipped_part : Note → ℕ → List ℕ
skipped_part (Spoke address asn number is_message) count = []
skipped_part (Skipped kind subtype) count = skipped_line kind subtype count

abbrev pub peer_text : NoteCount → List ℕ
peer_text count = peer_part count.note count.count

abbrev pub skipped_text : NoteCount → List ℕ
skipped_text count = skipped_part count.note count.count

-- who speaks, and then what isn't read
abbrev pub counts_text : List NoteCount → List ℕ
counts_text counts = flat_map peer_text counts ++ flat_map skipped_text counts

-- what is wrong with a dump, and at which octet
abbrev pub dump_fault_line : DumpReason → ℕ → List ℕ
dump_fault_line reason place = codes "dump " ++ (reason_name reason ++ (codes " at " ++ (decimal place ++ codes "\n")))

-- the status that a dump calls for, and the text: what stands before a fault, and the fault
abbrev pub ended_verdict : List Note → End DumpReason → Verdict
ended_verdict notes done = verdict_with 0 (counts_text (counts_of notes))
ended_verdict notes limited = verdict_with 7 []
ended_verdict notes (bad reason place) = verdict_with 10 (counts_text (counts_of notes) ++ dump_fault_line reason place)

abbrev pub notes_verdict : List Note × End DumpReason → Verdict
notes_verdict found = ended_verdict found.0 found.1

abbrev pub content_verdict : Config → ℕ → Stage (List ℕ) → Verdict
content_verdict config limit (Found content) = notes_verdict (notes_of config limit content)
content_verdict config limit (Stopped refusal) = verdict_with (status_of refusal) []

abbrev pub accepted_verdict : ℕ → Names → List ℕ → Stage Config → Verdict
accepted_verdict limit holds dump (Found config) = content_verdict config limit (or_stop Outside (holds dump))
accepted_verdict limit holds dump (Stopped refusal) = verdict_with (status_of refusal) []

-- of the files of these names
abbrev pub dump_verdict : ℕ → Names → (config dump : List ℕ) → Verdict
dump_verdict limit holds config dump = accepted_verdict limit holds dump (config_stage limit holds config)

-- what is counted record by record

abbrev pub has_note : Note → NoteCount → Bool
has_note note count = same_note count.note note

abbrev pub one_more : Note → NoteCount → NoteCount
one_more note count = note_count count.note (count.count + weight note)

abbrev pub with_note : Note → List NoteCount → List NoteCount
with_note note [] = note_count note (weight note) ∷ []
with_note note (count ∷ counts) =
    if same_note count.note note then one_more note count ∷ counts else count ∷ with_note note counts

abbrev pub note_place : Note → List NoteCount → Option ℕ
note_place note counts = position (has_note note) counts

abbrev pub all_noted : List NoteCount → List Note → List NoteCount
all_noted counts [] = counts
all_noted counts (note ∷ notes) = all_noted (with_note note counts) notes

-- The records to come were counted, up to the dump's end; or it has a fault, after those before it; or a call on the
-- outside failed.
abbrev pub Counts : (now now' : List NoteCount) → List Note × End DumpReason → Type 0 → Result Unit (Fault DumpReason) → Type 0
Counts now now' coming failed (Ok _) = (coming.1 ≡ done) × (now' ≡ all_noted now coming.0)
Counts now now' coming failed (Err Read) = failed
Counts now now' coming failed (Err Limit) = coming.1 ≡ limited
Counts now now' coming failed (Err (Bad reason place)) = (coming.1 ≡ bad reason place) × (now' ≡ all_noted now coming.0)

-- what is said of a dump that ends so, after these counts
abbrev pub SaysEnd : List NoteCount → Result Unit (Fault DumpReason) → Result Said Refusal → Type 0
SaysEnd counts (Ok _) result = MatchResult result (λ said. said_shown said ≡ verdict_with 0 (counts_text counts)) (λ refusal. refusal ≡ Memory)
SaysEnd counts (Err Read) result = result ≡ Err Outside
SaysEnd counts (Err Limit) result = result ≡ Err LimitReached
SaysEnd counts (Err (Bad reason place)) result =
    MatchResult result (λ said. said_shown said ≡ verdict_with 10 (counts_text counts ++ dump_fault_line reason place)) (λ refusal. refusal ≡ Memory)
