-- What stands before an enhanced packet's octets, judged as a chain of its own.
use Rattle.fs_pcapng.proofs.Words.{◌≡◌, ℕ, List, Bool, true, false, Option, Some, None, ◌≤◌, ◌+◌, length, take, drop, refl, ap, sym, ◌∙◌}
use Rattle.fs_pcapng.proofs.Words.{subst, arith, IfErr, nat_le, slice_get, drop-drop, number, window, le_true, Read, scan_of, settled, Scanned, whole}
use Rattle.fs_pcapng.proofs.Words.{Scan, Scanner, and, and_then, behind, field, gives, got, needs, partial, wrong, behind_more, behind_none, Packet}
use Rattle.fs_pcapng.proofs.Words.{Stands, enhanced_in, fitting, octets_in, original_in, packet, timed_behind, timed_in, told_behind, told_by}
use Rattle.fs_pcapng.proofs.Words.{told_in, told_of, told_timed, padded, stamped, NgReason, Cut, Length, RecordTooLong, Frame, Interface}
use Rattle.fs_pcapng.specs.declared.{fault.NgReason.TheVariants.{Interface as WrongInterface}, packets.Told.{Told}}
use Rattle.fs_base.specs.Filling.{Fills}
use Rattle.fs_input.specs.declared.judging.Judged.{Judged, TheVariants.{Whole, Wrong, Partial}}
use Rattle.fs_input.proofs.{Fixed.{IsFixed, and_fixed, fails_fixed, field_fixed, gives_fixed, judged_reads, needs_fixed}, CutShort.{short_reads}}

-- chains in chains

module _ {A B C : Type 0} (first : Scanner A NgReason) (next : A → Scanner B NgReason) (last : B → Scanner C NgReason) where
  join_next : (n place : ℕ) (octets : List ℕ) (scan : Scan B NgReason)
      → and_then last place octets (behind n scan) ≡ behind n (and_then last (place + n) (drop n octets) scan)
  join_next n place octets (got value m) =
      let spot : place + (n + m) ≡ place + n + m = omega arith in
      let left : drop (n + m) octets ≡ drop m (drop n octets) = sym (drop-drop m n octets) in
      (λ i. behind (n + m) (last value (spot i) (left i))) ∙ sym (behind_more n m (last value (place + n + m) (drop m (drop n octets))))
  join_next n place octets (wrong reason spot) = refl
  join_next n place octets partial = refl

  join_first : (place : ℕ) (octets : List ℕ) (scan : Scan A NgReason)
      → and_then last place octets (and_then next place octets scan) ≡ and_then (λ value. and (next value) last) place octets scan
  join_first place octets (got value n) = join_next n place octets (next value (place + n) (drop n octets))
  join_first place octets (wrong reason spot) = refl
  join_first place octets partial = refl

  joined : (place : ℕ) (octets : List ℕ) → and (and first next) last place octets ≡ and first (λ value. and (next value) last) place octets
  joined place octets = join_first place octets (first place octets)

module _ {A B : Type 0} (first : Scanner A NgReason) (one other : A → Scanner B NgReason)
    (same : (value : A) (place : ℕ) (octets : List ℕ) → one value place octets ≡ other value place octets) where
  alike_first : (place : ℕ) (octets : List ℕ) (scan : Scan A NgReason) → and_then one place octets scan ≡ and_then other place octets scan
  alike_first place octets (got value n) = ap (behind n) (same value (place + n) (drop n octets))
  alike_first place octets (wrong reason spot) = refl
  alike_first place octets partial = refl

  alike : (place : ℕ) (octets : List ℕ) → and first one place octets ≡ and first other place octets
  alike place octets = alike_first place octets (first place octets)

-- a value, and then what it calls for
given : {A B : Type 0} (value : A) (last : A → Scanner B NgReason) (place : ℕ) (octets : List ℕ)
    → and (gives value) last place octets ≡ last value place octets
given value last place octets =
    let same : place + 0 ≡ place = omega arith in
    ap (λ p. behind 0 (last value p octets)) same ∙ sym (behind_none (last value place octets))

needed : {A B : Type 0} (test : Bool) (reason : NgReason) (spot : ℕ) (next : Scanner A NgReason) (last : A → Scanner B NgReason)
    (other : Scanner B NgReason) → ((place : ℕ) (octets : List ℕ) → and next last place octets ≡ other place octets)
    → (place : ℕ) (octets : List ℕ) → and (needs test reason spot next) last place octets ≡ needs test reason spot other place octets
needed true reason spot next last other same place octets = same place octets
needed false reason spot next last other same place octets = refl

-- an enhanced packet behind what was told of it
abbrev pub behind_told : Frame → (last : ℕ) → Told → Scanner Packet NgReason
behind_told frame last told =
    and (octets_in frame 32 told.captured) (λ octets. gives (packet last told.time told.link told.original octets))

module _ (frame : Frame) where
  module _ (last : ℕ) where
    original_is : (time link captured place : ℕ) (octets : List ℕ)
        → and (told_behind frame time link captured) (behind_told frame last) place octets ≡ original_in frame last time link captured place octets
    original_is time link captured place octets =
        joined (field 4 (number frame.order 4)) (λ original. gives (told_of time link captured original)) (behind_told frame last) place octets
        ∙ alike (field 4 (number frame.order 4))
        (λ original. and (gives (told_of time link captured original)) (behind_told frame last))
        (λ original. behind_told frame last (told_of time link captured original))
        (λ original at rest. given (told_of time link captured original) (behind_told frame last) at rest) place octets

    fitting_is : (captured spot : ℕ) (next : Scanner Told NgReason) (other : Scanner Packet NgReason)
        → ((place : ℕ) (octets : List ℕ) → and next (behind_told frame last) place octets ≡ other place octets)
        → (place : ℕ) (octets : List ℕ)
        → and (fitting frame 32 captured spot next) (behind_told frame last) place octets ≡ fitting frame 32 captured spot other place octets
    fitting_is captured spot next other same place octets =
        needed (nat_le captured 262144) RecordTooLong spot
        (needs (nat_le (32 + padded captured) frame.total) Length (frame.start + 4) next) (behind_told frame last)
        (needs (nat_le (32 + padded captured) frame.total) Length (frame.start + 4) other)
        (needed (nat_le (32 + padded captured) frame.total) Length (frame.start + 4) next (behind_told frame last) other same)
        place octets

    told_is : (interface : Option Interface) (place : ℕ) (octets : List ℕ)
        → and (told_by frame interface) (behind_told frame last) place octets ≡ timed_in frame last interface place octets
    told_is None place octets = refl
    told_is (Some interface) place octets =
        joined (field 12 whole) (told_timed frame interface) (behind_told frame last) place octets
        ∙ alike (field 12 whole) (λ head. and (told_timed frame interface head) (behind_told frame last))
        (timed_behind frame interface last)
        (λ head at rest.
        let time = stamped frame interface head in
        let captured = number frame.order 4 (drop 8 head) in
        fitting_is captured (frame.start + 20) (told_behind frame time interface.link captured) (original_in frame last time interface.link captured)
        (original_is time interface.link captured) at rest)
        place octets

  pub enhanced_is : (now : Stands) (place : ℕ) (octets : List ℕ)
      → and (told_in frame now) (behind_told frame now.moment) place octets ≡ enhanced_in frame now place octets
  enhanced_is now place octets =
      joined (field 4 (number frame.order 4)) (λ which. told_by frame (slice_get now.interfaces which)) (behind_told frame now.moment) place octets
      ∙ alike (field 4 (number frame.order 4))
      (λ which. and (told_by frame (slice_get now.interfaces which)) (behind_told frame now.moment))
      (λ which. timed_in frame now.moment (slice_get now.interfaces which))
      (λ which. told_is now.moment (slice_get now.interfaces which)) place octets

  -- it has twenty octets
  by_fixed : (interface : Option Interface) → IsFixed 16 (told_by frame interface)
  by_fixed None = fails_fixed 16 WrongInterface (frame.start + 8)
  by_fixed (Some interface) =
      and_fixed 12 4 (field 12 whole) (told_timed frame interface) (field_fixed 12 whole)
      (λ head.
      let captured = number frame.order 4 (drop 8 head) in
      let time = stamped frame interface head in
      let next = told_behind frame time interface.link captured in
      let last : IsFixed 4 next =
      and_fixed 4 0 (field 4 (number frame.order 4)) (λ original. gives (told_of time interface.link captured original))
      (field_fixed 4 (number frame.order 4)) (λ original. gives_fixed (told_of time interface.link captured original)) in
      needs_fixed 4 (nat_le captured 262144) RecordTooLong (frame.start + 20)
      (needs (nat_le (32 + padded captured) frame.total) Length (frame.start + 4) next)
      (needs_fixed 4 (nat_le (32 + padded captured) frame.total) Length (frame.start + 4) next last))

  pub told_fixed : (now : Stands) → IsFixed 20 (told_in frame now)
  told_fixed now =
      and_fixed 4 16 (field 4 (number frame.order 4)) (λ which. told_by frame (slice_get now.interfaces which))
      (field_fixed 4 (number frame.order 4)) (λ which. by_fixed (slice_get now.interfaces which))

-- what is said of the octets in hand
-- the first of them, which interface it is, and what stands behind it
pub which_said : (frame : Frame) (now : Stands) (octets : List ℕ) (scan : Scan Told NgReason) → 4 ≤ length octets
    → scan ≡ told_by frame (slice_get now.interfaces (number frame.order 4 (take 4 octets))) (frame.start + 8 + 4) (drop 4 octets)
    → behind 4 scan ≡ told_in frame now (frame.start + 8) octets
which_said frame now octets scan held h = rw (le_true 4 (length octets) held) (ap (behind 4) h)

pub four_more : (judged : Judged Told NgReason) → scan_of 20 judged ≡ behind 4 (scan_of 16 judged)
four_more (Whole told) = refl
four_more (Wrong reason place) = refl
four_more Partial = refl

-- what is answered of them
pub settled_reads : (P : Type 0) (taken limit : ℕ) (judged : Judged Told NgReason) → IfErr (settled Cut taken limit judged) (λ fault. fault ≡ Read → P)
settled_reads P taken limit (Whole told) = tt
settled_reads P taken limit (Wrong reason place) = λ e. absurd cc
settled_reads P taken limit Partial = λ e. absurd (short_reads Cut taken limit e)

pub told_reads : (frame : Frame) (now : Stands) (limit limit' taken taken' : ℕ) (left left' into : List ℕ) (count : ℕ)
    → Fills (window limit taken left) left left' into count → limit' ≡ limit
    → (judged : Judged Told NgReason) → scan_of 20 judged ≡ told_in frame now taken (take count into) → length into ≡ 20
    → taken ≤ limit → taken' ≡ taken + count
    → Scanned (told_in frame now) Cut limit taken taken' left left' (λ (told : Told). told) (settled Cut taken' limit' judged)
told_reads frame now limit limit' taken taken' left left' into count filled same judged said room within at_place =
    subst (λ l. Scanned (told_in frame now) Cut limit taken taken' left left' (λ (told : Told). told) (settled Cut taken' l judged)) (sym same)
    (judged_reads 20 (told_in frame now) (told_fixed frame now) Cut limit taken taken' left left' into count filled judged said room within at_place)
