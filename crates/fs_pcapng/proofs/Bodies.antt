-- The body of a block, and what it gives.
use Rattle.fs_pcapng.proofs.Words.{◌≡◌, ◌≢◌, ℕ, List, Bool, true, false, Option, Some, None, Result, Ok, Err, ◌≤◌, ◌+◌, ◌-◌, ◌==◌, drop, length, take}
use Rattle.fs_pcapng.proofs.Words.{take_all, ap, sym, subst, ◌∙◌, arith, if◌then◌else◌, nat_lt, slice_get, nat_tests, big_number, Moment, number}
use Rattle.fs_pcapng.proofs.Words.{Endian, Reads, Scanner, and, field, gives, needs, gives_for, reads_as, reads_ends, reads_then, whole}
use Rattle.fs_pcapng.proofs.Words.{Packet, Stands, allows, behind_packet, body_in, cut_to, described_in, end_in, fitting, frame_of, kind_behind}
use Rattle.fs_pcapng.proofs.Words.{magic_behind, octets_in, opened, order_of, ordered_in, packet, plain_in, section_in, simple_behind, simple_by}
use Rattle.fs_pcapng.proofs.Words.{simple_in, version_in, with_interface, padded, Fault, seen_from, Kind, Described, NgReason, Cut, Length, TooMany}
use Rattle.fs_pcapng.proofs.Words.{Version, Frame, needs_true, Interface}
use Rattle.fs_pcapng.proofs.Fitting.{fits}
use Rattle.fs_pcapng.specs.declared.caught.Seen.{Seen}
use Rattle.std.specs.Option.{option_map}

-- a section header, or a block that is none
pub header_kind : (now : Stands) (start : ℕ) (kind : List ℕ) → big_number 4 kind ≡ 0x0a0d0d0a → (place : ℕ) (octets : List ℕ)
    → and (section_in start) (λ order. gives (None, opened order now.moment)) place octets ≡ kind_behind now start kind place octets
header_kind now start kind is place octets =
    let test : (big_number 4 kind == 0x0a0d0d0a) ≡ true = let s = is in grind (arith, nat_tests) in
    ap (λ t. (if t then and (section_in start) (λ order. gives (None, opened order now.moment)) else plain_in start now now.order kind) place octets) (sym test)

pub plain_kind : (now : Stands) (start : ℕ) (kind : List ℕ) → big_number 4 kind ≢ 0x0a0d0d0a → (place : ℕ) (octets : List ℕ)
    → plain_in start now now.order kind place octets ≡ kind_behind now start kind place octets
plain_kind now start kind is place octets =
    let test : (big_number 4 kind == 0x0a0d0d0a) ≡ false = let s = is in grind (arith, nat_tests) in
    ap (λ t. (if t then and (section_in start) (λ order. gives (None, opened order now.moment)) else plain_in start now now.order kind) place octets) (sym test)

-- a section header, where its magic told the order, and so its total length; `scanner` is what stands behind these
pub header_reads : {T V : Type 0} {told : Bool} {old mid now new : Moment} {first : T} {magic total : ℕ}
    {order : Endian} {scanner : Scanner Endian NgReason} {tells : V → Endian} {result : Result V (Fault NgReason)} (start : ℕ) (octets : List ℕ)
    → length octets ≡ 4 → total ≡ number order 4 octets → Some order ≡ order_of magic
    → Reads told old mid (field 4 whole) Cut (λ (_ : T). take 4 octets) (Ok first)
    → Reads told mid now (field 4 (big_number 4)) Cut (λ (n : ℕ). n) (Ok magic)
    → ((rest : List ℕ) → scanner now.counted.taken rest
    ≡ needs (allows 28 total) Length (start + 4) (version_in (frame_of order start total)) now.counted.taken rest)
    → Reads told now new scanner Cut tells result
    → Reads told old new (section_in start) Cut tells result
header_reads {now = now} {magic = magic} {order = order} {tells = tells} start octets four total_is found first second goes last =
    let front : take 4 octets ≡ octets = take_all 4 octets (omega (arith, four)) in
    let read = total_is ∙ ap (λ l. number order 4 l) (sym front) in
    reads_then (magic_behind start) tells first
    (reads_then (λ magic. ordered_in start (take 4 octets) (order_of magic)) tells second
    (reads_as (ordered_in start (take 4 octets) (order_of magic))
    (λ rest. goes rest
    ∙ ap (λ n. needs (allows 28 n) Length (start + 4) (version_in (frame_of order start n)) now.counted.taken rest) read
    ∙ ap (λ o. ordered_in start (take 4 octets) o now.counted.taken rest) found)
    last))

-- a section header behind its magic, of the version that is read
pub version_reads : {V : Type 0} {told : Bool} {old now new : Moment} {major : ℕ} {tells : V → Endian} {result : Result V (Fault NgReason)}
    (frame : Frame) → Reads told old now (field 2 (number frame.order 2)) Cut (λ (n : ℕ). n) (Ok major) → major ≡ 1
    → Reads told now new (and (end_in frame (frame.total - 18)) (λ _. gives frame.order)) Cut tells result
    → Reads told old new (version_in frame) Cut tells result
version_reads {now = now} {major = major} {tells = tells} frame first one more =
    let rest_of = and (end_in frame (frame.total - 18)) (λ _. gives frame.order) in
    let test : (major == 1) ≡ true = grind (arith, nat_tests, one) in
    reads_then (λ major. needs (major == 1) Version (frame.start + 12) rest_of) tells first
    (reads_as (needs (major == 1) Version (frame.start + 12) rest_of) (needs_true (major == 1) Version (frame.start + 12) rest_of test now.counted.taken) more)

-- what the head of a description and its options tell
abbrev pub interface_of : Endian → List ℕ → (unit : ℕ) → Interface
interface_of order head unit = record { link = number order 2 head; snap = number order 4 (drop 4 head); unit = unit }

-- what an answer tells of a block
abbrev pub told_of : (into : List ℕ) → Stands → Option Seen → Option Packet × Stands
told_of into now found = (option_map (seen_from into) found, now)

-- a block of this kind
pub body_as : {T : Type 0} {told : Bool} {old new : Moment} {tells : T → Option Packet × Stands} {result : Result T (Fault NgReason)}
    {kind other : Kind} (frame : Frame) (now : Stands) → other ≡ kind
    → Reads told old new (body_in frame now kind) Cut tells result
    → Reads told old new (body_in frame now other) Cut tells result
body_as {old = old} {other = other} frame now same h =
    reads_as (body_in frame now other) (λ octets. ap (λ k. body_in frame now k old.counted.taken octets) (sym same)) h

-- a simple packet's octets, behind its length
pub simple_reads : {T : Type 0} {told : Bool} {old now new : Moment} {tells : T → Packet} {result : Result T (Fault NgReason)}
    (frame : Frame) (stands : Stands) (interface : Interface) (original captured room : ℕ)
    → Some interface ≡ slice_get stands.interfaces 0 → captured ≡ cut_to interface.snap original
    → captured ≤ 262144 → room ≡ padded captured → 16 + room ≤ frame.total
    → Reads told old now (field 4 (number frame.order 4)) Cut (λ (n : ℕ). n) (Ok original)
    → Reads told now new (and (octets_in frame 16 captured) (λ octets. gives (packet stands.moment 0 interface.link original octets))) Cut tells result
    → Reads told old new (simple_in frame stands) Cut tells result
simple_reads {old = old} {now = now} {tells = tells} frame stands interface original captured room found cut few is within first more =
    let rest : ℕ → Scanner Packet NgReason = λ n.
    and (octets_in frame 16 n) (λ octets. gives (packet stands.moment 0 interface.link original octets)) in
    reads_as (simple_in frame stands) (λ octets. ap (λ s. simple_by frame stands.moment s old.counted.taken octets) found)
    (reads_then (simple_behind frame interface stands.moment) tells first
    (reads_as (simple_behind frame interface stands.moment original)
    (λ octets. fits frame 16 captured (frame.start + 8) (rest captured) few (subst (λ n. 16 + n ≤ frame.total) is within) now.counted.taken octets
    ∙ ap (λ n. fitting frame 16 n (frame.start + 8) (rest n) now.counted.taken octets) cut)
    more))

module _ {told : Bool} {old new : Moment} (frame : Frame) (now later : Stands) (into : List ℕ) where
  pub body_described : {interface : Interface} → nat_lt (length now.interfaces) 256 ≡ true → later ≡ with_interface now interface
      → Reads told old new (described_in frame) Cut (λ (i : Interface). i) (Ok interface)
      → Reads told old new (body_in frame now Described) Cut (told_of into later) (Ok None)
  body_described {interface = interface} room is h =
      reads_as (body_in frame now Described)
      (needs_true (nat_lt (length now.interfaces) 256) TooMany frame.start
      (and (described_in frame) (λ interface. gives (None, with_interface now interface))) room old.counted.taken)
      (reads_then (λ interface. gives (None, with_interface now interface)) (told_of into later) h
      (gives_for (None, with_interface now interface) (told_of into later) None (ap (λ s. (None, s)) (sym is))))

  -- what a packet's block gives
  pub body_packet : {seen : Seen} (first : Scanner Packet NgReason) → later ≡ behind_packet now (seen_from into seen)
      → Reads told old new first Cut (seen_from into) (Ok seen)
      → Reads told old new (and first (λ found. gives (Some found, behind_packet now found))) Cut (told_of into later) (Ok (Some seen))
  body_packet {seen = seen} first is h =
      reads_then (λ found. gives (Some found, behind_packet now found)) (told_of into later) h
      (gives_for (Some (seen_from into seen), behind_packet now (seen_from into seen)) (told_of into later) (Some seen)
      (ap (λ s. (Some (seen_from into seen), s)) (sym is)))

  pub body_fails : {fault : Fault NgReason} → nat_lt (length now.interfaces) 256 ≡ true
      → Reads told old new (described_in frame) Cut (λ (i : Interface). i) (Err fault)
      → Reads told old new (body_in frame now Described) Cut (told_of into later) (Err fault)
  body_fails room h =
      reads_as (body_in frame now Described)
      (needs_true (nat_lt (length now.interfaces) 256) TooMany frame.start
      (and (described_in frame) (λ interface. gives (None, with_interface now interface))) room old.counted.taken)
      (reads_ends (λ interface. gives (None, with_interface now interface)) (told_of into later) h)

module _ {told : Bool} {old new : Moment} (now later : Stands) (start : ℕ) (kind into : List ℕ) where
  pub block_header : {order : Endian} → big_number 4 kind ≡ 0x0a0d0d0a → later ≡ opened order now.moment
      → Reads told old new (section_in start) Cut (λ (o : Endian). o) (Ok order)
      → Reads told old new (kind_behind now start kind) Cut (told_of into later) (Ok None)
  block_header {order = order} is same h =
      reads_as (kind_behind now start kind) (header_kind now start kind is old.counted.taken)
      (reads_then (λ order. gives (None, opened order now.moment)) (told_of into later) h
      (gives_for (None, opened order now.moment) (told_of into later) None (ap (λ s. (None, s)) (sym same))))

  pub block_fails : {fault : Fault NgReason} → big_number 4 kind ≡ 0x0a0d0d0a
      → Reads told old new (section_in start) Cut (λ (o : Endian). o) (Err fault)
      → Reads told old new (kind_behind now start kind) Cut (told_of into later) (Err fault)
  block_fails is h =
      reads_as (kind_behind now start kind) (header_kind now start kind is old.counted.taken)
      (reads_ends (λ order. gives (None, opened order now.moment)) (told_of into later) h)

  pub block_plain : {result : Result (Option Seen) (Fault NgReason)} → big_number 4 kind ≢ 0x0a0d0d0a
      → Reads told old new (plain_in start now now.order kind) Cut (told_of into later) result
      → Reads told old new (kind_behind now start kind) Cut (told_of into later) result
  block_plain is h = reads_as (kind_behind now start kind) (plain_kind now start kind is old.counted.taken) h
