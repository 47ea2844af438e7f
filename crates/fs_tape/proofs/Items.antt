-- A record that is read was written so, and what is written is read back.
use Rattle.fs_tape.proofs.Words.{◌≡◌, ℕ, List, [], ◌∷◌, ◌++◌, Some, true, ◌<◌, ◌≤◌, ◌+◌, ◌^◌, ◌==◌, length, take, drop, refl, ap, sym, subst, ◌∙◌}
use Rattle.fs_tape.proofs.Words.{arith, length-append, take-append-drop, eqb-true, nat_le, flat_map, drop-drop, length-drop, length-take, nat_tests}
use Rattle.fs_tape.proofs.Words.{Config, octets_take, At, ReadsText, SpellsText, at, text_from, first_record, Whole, nothing, HasHead, record_found}
use Rattle.fs_tape.proofs.Words.{Up, Received, Lost, Version, One, Two, IsTimed, Stands, allows, head_from, head_size, kind_of, Fits, IsNumbered}
use Rattle.fs_tape.proofs.Words.{IsWritable, after, item_text, item_text_at, record_text, Item, Timed, came_up, item_of, received, records, stands}
use Rattle.fs_tape.proofs.Words.{timed, was_lost}
use Rattle.fs_tape.proofs.Heads.{head_read, head_text, head_told, octet_of, said}
use Rattle.fs_tape.specs.declared.item.Kind.{Kind as RecordKind}
use Rattle.std.proofs.Math.Seq.{take-append_seam, drop-append_seam}

pub has_head : HasHead records
has_head now = by now.version
  where
    by : (version : Version) → 0 < head_size version
    by One = omega arith
    by Two = omega arith

-- where the parts of a record's text stand

front_of : (version : Version) (octet peer moment : ℕ) (payload rest : List ℕ)
    → take (head_size version) (record_text version octet peer moment payload ++ rest) ≡ head_text version octet peer moment (length payload)
front_of One octet peer moment payload rest = refl
front_of Two octet peer moment payload rest = refl

behind_of : (version : Version) (octet peer moment : ℕ) (payload rest : List ℕ)
    → drop (head_size version) (record_text version octet peer moment payload ++ rest) ≡ payload ++ rest
behind_of One octet peer moment payload rest = refl
behind_of Two octet peer moment payload rest = refl

size_of : (version : Version) (octet peer moment : ℕ) (payload rest : List ℕ)
    → length (record_text version octet peer moment payload ++ rest) ≡ head_size version + (length payload + length rest)
size_of One octet peer moment payload rest = omega (arith, length-append payload rest)
size_of Two octet peer moment payload rest = omega (arith, length-append payload rest)

joined : (version : Version) (octet peer moment : ℕ) (payload rest : List ℕ)
    → record_text version octet peer moment payload ++ rest ≡ head_text version octet peer moment (length payload) ++ (payload ++ rest)
joined One octet peer moment payload rest = refl
joined Two octet peer moment payload rest = refl

-- what is written of a record is read back as it

record_read : (config : Config) (version : Version) (last octet : ℕ) (kind : RecordKind) (peer moment : ℕ) (payload rest : List ℕ)
    → kind_of octet ≡ Some kind → IsNumbered config peer → length payload ≤ 65536 → allows kind (length payload) ≡ true → moment < 2 ^ 64
    → IsTimed version last moment
    → first_record records (at (stands config version last) (record_text version octet peer moment payload ++ rest))
    ≡ Some (timed moment (item_of (said kind peer moment) payload), at (stands config version moment) rest)
record_read config version last octet kind peer moment payload rest k numbered small allowed room is_timed =
    let octets = record_text version octet peer moment payload ++ rest in
    let head : head_from config version last (take (head_size version) octets) ≡ Whole (said kind peer moment) (length payload) =
    ap (head_from config version last) (front_of version octet peer moment payload rest)
    ∙ head_read config version last octet kind peer moment (length payload) k numbered small allowed room is_timed in
    let fits : nat_le (head_size version + length payload) (length octets) ≡ true =
    let l = size_of version octet peer moment payload rest in grind (arith, nat_tests, l) in
    let behind = behind_of version octet peer moment payload rest in
    let rest_is : drop (head_size version + length payload) octets ≡ rest =
    sym (drop-drop (length payload) (head_size version) octets) ∙ ap (drop (length payload)) behind ∙ drop-append_seam payload rest in
    let held : take (length payload) (drop (head_size version) octets) ≡ payload =
    ap (take (length payload)) behind ∙ take-append_seam payload rest in
    rw (head, fits, rest_is)
    (ap (λ octets. Some (timed moment (item_of (said kind peer moment) octets), at (stands config version moment) rest)) held)

pub item_read : ReadsText (first_record records) (λ now timed. item_text now.version timed) Fits after
item_read now part rest fits = by part.item fits.writable
  where
    by : (item : Item) → IsWritable now.config item
        → first_record records (at now (item_text_at now.version part.moment item ++ rest))
        ≡ Some (timed part.moment item, at (stands now.config now.version part.moment) rest)
    by (came_up peer) w =
        record_read now.config now.version now.moment 1 Up peer part.moment [] rest refl w (omega arith) refl fits.room fits.is_timed
    by (received peer payload) w =
        record_read now.config now.version now.moment 2 Received peer part.moment payload rest refl w.0 w.1 (grind (arith, nat_tests)) fits.room
        fits.is_timed
    by (was_lost peer) w =
        record_read now.config now.version now.moment 3 Lost peer part.moment [] rest refl w (omega arith) refl fits.room fits.is_timed

-- a record that is read was written so

no_payload : (size : ℕ) (payload : List ℕ) → (size == 0) ≡ true → length payload ≡ size → payload ≡ []
no_payload size payload none same = nothing payload (same ∙ eqb-true size 0 none)

item_written : (version : Version) (kind : RecordKind) (peer moment size : ℕ) (payload : List ℕ) → allows kind size ≡ true → length payload ≡ size
    → item_text_at version moment (item_of (said kind peer moment) payload) ≡ record_text version (octet_of kind) peer moment payload
item_written version Up peer moment size payload allowed same = ap (record_text version 1 peer moment) (sym (no_payload size payload allowed same))
item_written version Received peer moment size payload allowed same = refl
item_written version Lost peer moment size payload allowed same = ap (record_text version 3 peer moment) (sym (no_payload size payload allowed same))

item_writable : (config : Config) (kind : RecordKind) (peer moment size : ℕ) (payload : List ℕ) → allows kind size ≡ true → length payload ≡ size
    → IsNumbered config peer → IsWritable config (item_of (said kind peer moment) payload)
item_writable config Up peer moment size payload allowed same numbered = numbered
item_writable config Received peer moment size payload allowed same numbered = (numbered, (grind (arith, nat_tests)))
item_writable config Lost peer moment size payload allowed same numbered = numbered

pub item_spelled : SpellsText (first_record records) (λ now timed. item_text now.version timed) Fits after
item_spelled now found are h =
    let one = record_found records now found h in
    let size = head_size now.state.version in
    let head = take size now.octets in
    let behind = drop size now.octets in
    let payload = take one.size behind in
    let whole : length head ≡ size = omega (arith, one.held, length-take size now.octets) in
    let told = head_told now.state.config now.state.version now.state.moment head one.said one.size one.head in
    let front = octets_take size now.octets are in
    let numbered = told.numbered front in
    let long : length payload ≡ one.size = omega (arith, one.held, length-take one.size behind, length-drop size now.octets) in
    let rest : drop one.size behind ≡ found.1.octets =
    drop-drop one.size size now.octets ∙ ap (λ (a : At Stands). a.octets) one.behind in
    let item : timed one.said.moment (item_of one.said payload) ≡ found.0 = one.item in
    let text : now.octets ≡ record_text now.state.version (octet_of one.said.kind) one.said.peer one.said.moment payload ++ found.1.octets =
    sym (take-append-drop size now.octets)
    ∙ ap (λ octets. octets ++ behind) (told.text whole front)
    ∙ ap (λ n. head_text now.state.version (octet_of one.said.kind) one.said.peer one.said.moment n ++ behind) (sym long)
    ∙ ap (λ more. head_text now.state.version (octet_of one.said.kind) one.said.peer one.said.moment (length payload) ++ more)
    (sym (take-append-drop one.size behind) ∙ ap (λ more. payload ++ more) rest)
    ∙ sym (joined now.state.version (octet_of one.said.kind) one.said.peer one.said.moment payload found.1.octets) in
    let written = item_written now.state.version one.said.kind one.said.peer one.said.moment one.size payload told.allowed long in
    let fits : Fits now.state (timed one.said.moment (item_of one.said payload)) = record {
      writable = item_writable now.state.config one.said.kind one.said.peer one.said.moment one.size payload told.allowed long numbered;
      room = told.room front;
      is_timed = told.timed;
    } in
    let moved : stands now.state.config now.state.version one.said.moment ≡ found.1.state = ap (λ (a : At Stands). a.state) one.behind in (
      text ∙ ap (λ t. t ++ found.1.octets) (sym written) ∙ ap (λ part. item_text now.state.version part ++ found.1.octets) item,
      subst (Fits now.state) item fits,
      sym moved ∙ ap (λ (part : Timed). stands now.state.config now.state.version part.moment) item,
    )

-- the version stays, so the text of the items is that of each
pub texts : (config : Config) (version : Version) (moment : ℕ) (items : List Timed)
    → text_from (λ (now : Stands) (part : Timed). item_text now.version part) after (stands config version moment) items
    ≡ flat_map (item_text version) items
texts config version moment [] = refl
texts config version moment (part ∷ parts) = ap (λ more. item_text version part ++ more) (texts config version part.moment parts)
