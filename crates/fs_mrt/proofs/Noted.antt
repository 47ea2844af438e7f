-- What is noted of a record takes its octets.
use Rattle.fs_mrt.proofs.Words.{◌≡◌, ℕ, List, Option, Some, None, ◌≤◌, ◌+◌, ◌-◌, ◌*◌, ◌++◌, length, length-append, take, arith, got, Takes, whole}
use Rattle.fs_mrt.proofs.Words.{field, gives, skips, Peer, front_in, ends_size, states_size, heard_in, head_of, address_of, address_size, number_at}
use Rattle.fs_mrt.proofs.Words.{Front, Head, ap, refl, Bool, Result, Ok, Err, option_map, Moment, Reads, Scanner, Fault, and, Cut, DumpReason}
use Rattle.fs_mrt.proofs.Words.{gives_for, reads_as, reads_ends, reads_then}
use Rattle.fs_mrt.proofs.Written.{FrontSpelled, HeardSpelled, front_spells, heard_spells}
use Rattle.std.specs.Prelude.{drop, ⊤}
use Rattle.std.proofs.lemmas.List.{length-take}
use Rattle.byteorder.specs.Endian.{big_number}
use Rattle.fs_base.specs.declared.config.Address.{Address}
use Rattle.fs_input.{proofs.Spelling.{Part, Spells, and_spells, field_spells, gives_spells, part_spells, skips_spells, weaker_spells}, specs.Coming.{part_in}}
use Rattle.fs_mrt.specs.Notes.{note_behind, note_body, note_ends, note_record, spoke}
use Rattle.fs_mrt.specs.declared.{notes.{Note.{Note, TheVariants.{Skipped}}, Notes.{Notes}}, shape.Shape.{Shape as RecordShape}}

abbrev Any : {A : Type 0} → A → List ℕ → Type 0
Any value octets = ⊤

behind_spells : (peers : List Peer) (size : ℕ) (shape : RecordShape) (front : Front) (address : Address) → states_size shape ≤ size
    → Spells Any (note_behind peers size shape front address)
behind_spells peers size shape front address least =
    and_spells (HeardSpelled 0 size shape (number_at address peers)) Any (heard_in 0 size shape (number_at address peers))
    (λ _. gives (Some (spoke shape front address (number_at address peers))))
    (heard_spells 0 size shape (number_at address peers) least)
    (λ heard part h. gives_spells Any (Some (spoke shape front address (number_at address peers))) tt)

ends_spells : (peers : List Peer) (size : ℕ) (shape : RecordShape) (front : Front) → ends_size shape front.family + states_size shape ≤ size
    → Spells Any (note_ends peers size shape front)
ends_spells peers size shape front fits =
    and_spells Any Any (field (2 * address_size front.family) (address_of front.family)) (note_behind peers (size - ends_size shape front.family) shape front)
    (field_spells Any (2 * address_size front.family) (address_of front.family) (λ part long. tt))
    (λ address part h. behind_spells peers (size - ends_size shape front.family) shape front address (omega (arith, fits)))

body_spells : (peers : List Peer) (kind subtype : ℕ) (head : Head) (shape : Option RecordShape) → Spells Any (note_body peers kind subtype head shape)
body_spells peers kind subtype head None =
    and_spells Any Any (skips head.size) (λ _. gives (Some (Skipped kind subtype))) (skips_spells Any head.size (λ part long. tt))
    (λ n part h. gives_spells Any (Some (Skipped kind subtype)) tt)
body_spells peers kind subtype head (Some shape) =
    and_spells (FrontSpelled head.seconds head.size shape) Any (front_in head.spot head.seconds head.size shape) (note_ends peers head.size shape)
    (front_spells head.spot head.seconds head.size shape)
    (λ front part f. ends_spells peers head.size shape front f.fits)

record_spells : (peers : List Peer) (now : Notes) (start : ℕ) (octets : List ℕ) → Spells Any (note_record peers now start octets)
record_spells peers now start octets =
    let kind = big_number 2 (drop 4 octets) in
    let subtype = big_number 2 (drop 6 octets) in
    let head = head_of (start + 8) octets in
    and_spells Any Any (note_body peers kind subtype head head.shape) (λ note. gives (note, now)) (body_spells peers kind subtype head head.shape)
    (λ note part h. gives_spells Any (note, now) tt)

abbrev Long : {A : Type 0} → A → List ℕ → Type 0
Long value octets = 12 ≤ length octets

longer : (part more : List ℕ) → length part ≡ 12 → 12 ≤ length (part ++ more)
longer part more long = omega (arith, long, length-append part more)

part_long : (peers : List Peer) (now : Notes) → (place : ℕ) (octets : List ℕ) (value : Option Note × Notes) (count : ℕ)
    → part_in 12 (note_record peers) now place octets ≡ got value count → (count ≤ length octets) × (12 ≤ length (take count octets))
part_long peers now place =
    and_spells (Part 12) Long (field 12 whole) (note_record peers now place) (part_spells 12)
    (λ front part p.
    weaker_spells Any (λ found more. 12 ≤ length (part ++ more)) (note_record peers now place front) (λ value more h. longer part more p.long)
    (record_spells peers now place front))
    place

pub note_takes : (peers : List Peer) (now : Notes) → Takes 1 (part_in 12 (note_record peers) now)
note_takes peers now place octets value count h =
    let long = part_long peers now place octets value count h in
    (omega (arith, long.1, length-take count octets), long.0)

-- a note is told as it is
same_told : (o : Option Note) → o ≡ option_map (λ (n : Note). n) o
same_told None = refl
same_told (Some note) = refl

abbrev pub as_told : Notes → Option Note → Option Note × Notes
as_told now told = (option_map (λ (n : Note). n) told, now)

module _ {told : Bool} {old new : Moment} {scanner : Scanner (Option Note) DumpReason} (now : Notes) where
  pub note_given : (result : Result (Option Note) (Fault DumpReason)) → Reads told old new scanner Cut (λ (note : Option Note). note) result
      → Reads told old new (and scanner (λ note. gives (note, now))) Cut (as_told now) result
  note_given (Ok note) h =
      reads_then (λ note. gives (note, now)) (as_told now) h
      (gives_for (note, now) (as_told now) note (ap (λ (o : Option Note). (o, now)) (same_told note)))
  note_given (Err fault) h = reads_ends (λ note. gives (note, now)) (as_told now) h

-- who speaks, where the addresses were read, and what stands behind them
module _ {told : Bool} {old now new : Moment} {address : Address} (peers : List Peer) (size : ℕ) (shape : RecordShape) (front : Front)
    (number : Option ℕ) where
  pub speaker_reads : {result : Result (Option Note) (Fault DumpReason)} (ends : ℕ)
      → ends ≡ ends_size shape front.family → number ≡ number_at address peers
      → Reads told old now (field (2 * address_size front.family) (address_of front.family)) Cut (λ (a : Address). a) (Ok address)
      → Reads told now new (and (heard_in 0 (size - ends) shape number) (λ _. gives (Some (spoke shape front address number)))) Cut
      (λ (n : Option Note). n) result
      → Reads told old new (note_ends peers size shape front) Cut (λ (n : Option Note). n) result
  speaker_reads ends e n first more =
      reads_as (note_ends peers size shape front)
      (λ octets i. and (field (2 * address_size front.family) (address_of front.family)) (note_behind peers (size - e i) shape front) old.counted.taken octets)
      (reads_then (note_behind peers (size - ends) shape front) (λ (n : Option Note). n) first
      (reads_as (note_behind peers (size - ends) shape front address)
      (λ octets. ap (λ peer. and (heard_in 0 (size - ends) shape peer) (λ _. gives (Some (spoke shape front address peer))) now.counted.taken octets) n)
      more))
