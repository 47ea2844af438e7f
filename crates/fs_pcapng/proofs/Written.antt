-- Blocks as they stand in a capture: what was written is read, and no other octets are.
use Rattle.fs_pcapng.proofs.Words.{◌≡◌, ℕ, zero, suc, List, [], ◌∷◌, ◌++◌, Option, Some, None, Bool, true, false, ◌<◌, ◌≤◌, ◌+◌, ◌-◌, ◌*◌, ◌%◌, ◌==◌}
use Rattle.fs_pcapng.proofs.Words.{◌&&◌, not, length, drop, refl, ap, sym, subst, ◌∙◌, ◌↔◌, arith, append-nil, append_assoc, length-append}
use Rattle.fs_pcapng.proofs.Words.{if◌then◌else◌, flat_map, nat_le, nat_lt, slice_get, slice_index, AllByRecursion, drop_at, length-take, nat_tests}
use Rattle.fs_pcapng.proofs.Words.{big_number, at_limit, window, longest_record, number, Endian, End, bad, done, IsTextOf, whole, Scanner, and, field}
use Rattle.fs_pcapng.proofs.Words.{gives, needs, skips, and_reads, field_reads, gives_reads, map_reads, needs_reads, skips_reads, told_text, Packet}
use Rattle.fs_pcapng.proofs.Words.{Stands, allows, behind_packet, block_in, body_in, close_in, cut_to, described_behind, described_in, end_in}
use Rattle.fs_pcapng.proofs.Words.{enhanced_in, fitting, frame_of, kind_behind, kind_of, least_of, magic_behind, octets_in, opened, order_of}
use Rattle.fs_pcapng.proofs.Words.{ordered_in, original_in, packet, plain_in, section_header, section_in, simple_behind, simple_by, simple_in}
use Rattle.fs_pcapng.proofs.Words.{stamped, timed_behind, timed_in, total_behind, version_in, with_interface, cursor, option_behind, option_in, options_in}
use Rattle.fs_pcapng.proofs.Words.{padded, sized_in, value_in, nothing, packets_to_come, time_of, Block, Choice, Description, Fits, IsBlock, IsChoice}
use Rattle.fs_pcapng.proofs.Words.{IsDescription, IsFramed, IsPlain, IsRecord, IsSection, IsShort, Outer, Record, Section, Short, Written}
use Rattle.fs_pcapng.proofs.Words.{block_gives, block_text, body_text, choice_text, described, enhanced, gives_by, interface_of, packet_of, section}
use Rattle.fs_pcapng.proofs.Words.{short_of, simple, skipped, unit_behind, unit_of, Kind, Described, Enhanced, Simple, Other, NgReason, Cut, Length}
use Rattle.fs_pcapng.proofs.Words.{RecordTooLong, TooMany, Version, Frame, Cursor, Interface}
use Rattle.fs_pcapng.proofs.Spelled.{block_takes, Closing, block_spells, choice_size, is_one, joined, number_first, second_is, snap_is, third_is}
use Rattle.fs_pcapng.proofs.Spelled.{value_reads}
use Rattle.fs_pcapng.specs.Laws.{ReadsBack}
use Rattle.fs_input.proofs.Spelling.{Reads}

option_read : (order : Endian) (now : Cursor) (choice : Choice) → IsChoice order choice → length (choice_text choice) ≤ now.left
    → Reads (option_in order now) (choice_text choice) (cursor (now.left - length (choice_text choice)) (unit_behind order now.unit choice))
option_read order now choice is room place =
    let head = choice.code ++ choice.size in
    let code = number order 2 choice.code in
    let size = number order 2 choice.size in
    let head_size : length head ≡ 4 = omega (arith, length-append choice.code choice.size, is.code, is.size) in
    let long : length (choice_text choice) ≡ 4 + padded size = omega (arith, length-append head choice.value, head_size, is.value) in
    let next = cursor (now.left - 4 - padded size) (if code == 9 && size == 1 then slice_index choice.value 0 else now.unit) in
    let code_is : number order 2 head ≡ code = number_first order 2 choice.code choice.size is.code in
    let size_is : number order 2 (drop 2 head) ≡ size = ap (number order 2) (drop_at choice.code choice.size 2 is.code) in
    let fits : nat_le (4 + padded size) now.left ≡ true = grind (arith, nat_tests, long, room) in
    let left : now.left - 4 - padded size ≡ now.left - length (choice_text choice) = omega (arith, long) in
    subst (Reads (option_in order now) (choice_text choice)) (λ i. cursor (left i) (unit_behind order now.unit choice))
    (λ spot.
    and_reads (field 4 whole) (option_behind order now spot) head choice.value head next (field_reads 4 whole head head_size)
    (subst (λ (p : ℕ × ℕ). Reads (sized_in now spot p.0 p.1) choice.value next) (sym (λ i. (code_is i, size_is i)))
    (needs_reads (nat_le (4 + padded size) now.left) Length spot (value_in now code size) choice.value next fits
    (value_reads now size (code == 9 && size == 1) (is_one code size) choice.value is.value)))
    spot)
    place

options_read : (order : Endian) (fuel : ℕ) (now : Cursor) (choices : List Choice) → AllByRecursion (IsChoice order) choices
    → length (flat_map choice_text choices) ≡ now.left → now.left ≤ fuel
    → Reads {R = NgReason} (options_in order fuel now) (flat_map choice_text choices) (unit_of order now.unit choices)
options_read order zero now [] are long few = gives_reads now.unit
options_read order (suc fuel) now [] are long few =
    let none : (now.left == 0) ≡ true = grind (arith, nat_tests, long) in
    subst (λ (b : Bool). Reads (if b then gives now.unit else and (option_in order now) (options_in order fuel)) [] now.unit) (sym none) (gives_reads now.unit)
options_read order zero now (choice ∷ choices) are long few =
    let some = choice_size order choice are.0 in
    absurd (let no : ⊥ = omega (arith, some, few, long, length-append (choice_text choice) (flat_map choice_text choices)) in no)
options_read order (suc fuel) now (choice ∷ choices) are long few =
    let some = choice_size order choice are.0 in
    let part = choice_text choice in
    let more = flat_map choice_text choices in
    let sum : length part + length more ≡ now.left = sym (length-append part more) ∙ long in
    let next = cursor (now.left - length part) (unit_behind order now.unit choice) in
    let left : (now.left == 0) ≡ false = grind (arith, nat_tests, sum, some) in
    subst (λ (b : Bool). Reads (if b then gives now.unit else and (option_in order now) (options_in order fuel)) (part ++ more)
    (unit_of order next.unit choices)) (sym left)
    (and_reads (option_in order now) (options_in order fuel) part more next (unit_of order next.unit choices)
    (option_read order now choice are.0 (omega (arith, sum)))
    (options_read order fuel next choices are.1 (omega (arith, sum)) (omega (arith, sum, some, few))))

module _ (order : Endian) (now : Stands) (start total : ℕ) (again : List ℕ) (c : Closing order total again) where
  abbrev within : Frame
  within = frame_of order start total

  close_read : Reads (close_in within) again total
  close_read =
      let c_is = c.is in
      let same : (number order 4 again == total) ≡ true = grind (arith, nat_tests, c_is) in
      subst (λ l. Reads (close_in within) l total) (append-nil again)
      (and_reads (field 4 (number order 4)) (λ found. needs (found == total) Length (start + total - 4) (gives total)) again [] (number order 4 again) total
      (field_reads 4 (number order 4) again c.long)
      (needs_reads (number order 4 again == total) Length (start + total - 4) (gives total) [] total same (gives_reads total)))

  end_read : (size : ℕ) (rest : List ℕ) → length rest ≡ size → Reads (end_in within size) (rest ++ again) total
  end_read size rest long = and_reads (skips size) (λ _. close_in within) rest again size total (skips_reads size rest long) close_read

  described_read : (d : Description) → IsDescription order now d → total ≡ 12 + length (body_text (described d))
      → Reads (body_in within now Described) (body_text (described d) ++ again) (None, with_interface now (interface_of order d))
  described_read d is size =
      let head = d.link ++ (d.reserved ++ d.snap) in
      let options = flat_map choice_text d.choices in
      let unit = unit_of order 6 d.choices in
      let head_size : length head ≡ 8 =
      omega (arith, length-append d.link (d.reserved ++ d.snap), length-append d.reserved d.snap, is.link, is.reserved, is.snap) in
      let made : ℕ → Interface = λ unit. record { link = number order 2 head; snap = number order 4 (drop 4 head); unit = unit } in
      let link : number order 2 head ≡ number order 2 d.link = number_first order 2 d.link (d.reserved ++ d.snap) is.link in
      let snap : number order 4 (drop 4 head) ≡ number order 4 d.snap =
      ap (number order 4) (snap_is order now start total d.link d.reserved d.snap is.link is.reserved) in
      let found : made unit ≡ interface_of order d = λ i. record { link = link i; snap = snap i; unit = unit } in
      let left : length options ≡ total - 20 = omega (arith, size, length-append head options, head_size) in
      let few = is.room in
      let room : nat_lt (length now.interfaces) 256 ≡ true = grind (arith, nat_tests, few) in
      needs_reads (nat_lt (length now.interfaces) 256) TooMany start (and (described_in within) (λ interface. gives (None, with_interface now interface)))
      (body_text (described d) ++ again) (None, with_interface now (interface_of order d)) room
      (map_reads (described_in within) (λ interface. (None, with_interface now interface)) (body_text (described d) ++ again) (interface_of order d)
      (subst (λ l. Reads (described_in within) l (interface_of order d)) (sym (append_assoc head options again))
      (subst (Reads (described_in within) (head ++ (options ++ again))) found
      (and_reads (field 8 whole) (described_behind within) head (options ++ again) head (made unit) (field_reads 8 whole head head_size)
      (and_reads (options_in order (total - 20) (cursor (total - 20) 6)) (λ unit. and (close_in within) (λ _. gives (made unit))) options again unit (made unit)
      (options_read order (total - 20) (cursor (total - 20) 6) d.choices is.choices left (omega arith))
      (map_reads (close_in within) (λ _. made unit) again total close_read))))))

  octets_read : (fixed captured : ℕ) (found rest : List ℕ) → length found ≡ captured → length rest ≡ total - fixed - captured
      → Reads (octets_in within fixed captured) (found ++ (rest ++ again)) found
  octets_read fixed captured found rest long left =
      and_reads (field captured whole) (λ octets. and (end_in within (total - fixed - captured)) (λ _. gives octets)) found (rest ++ again) found found
      (field_reads captured whole found long)
      (map_reads (end_in within (total - fixed - captured)) (λ _. found) (rest ++ again) total (end_read (total - fixed - captured) rest left))

  fitting_read : {A : Type 0} (fixed captured place : ℕ) (next : Scanner A NgReason) (octets : List ℕ) (value : A) → captured ≤ longest_record
      → fixed + padded captured ≤ total
      → Reads next octets value → Reads (fitting within fixed captured place next) octets value
  fitting_read fixed captured place next octets value few room h =
      let a : nat_le captured longest_record ≡ true = grind (arith, nat_tests, few) in
      let b : nat_le (fixed + padded captured) total ≡ true = grind (arith, nat_tests, room) in
      needs_reads (nat_le captured longest_record) RecordTooLong place (needs (nat_le (fixed + padded captured) total) Length (start + 4) next) octets value a
      (needs_reads (nat_le (fixed + padded captured) total) Length (start + 4) next octets value b h)

  record_read : (interface : Interface) (r : Record) → IsRecord order now interface r → total ≡ 12 + length (body_text (enhanced interface r))
      → Reads (body_in within now Enhanced) (body_text (enhanced interface r) ++ again) (gives_by order now (enhanced interface r))
  record_read interface r is size =
      let head = r.high ++ (r.low ++ r.captured) in
      let captured = number order 4 (drop 8 head) in
      let time = stamped within interface head in
      let found = packet now.moment time interface.link (number order 4 r.original) r.octets in
      let octets = r.octets ++ (r.rest ++ again) in
      let head_size : length head ≡ 12 =
      omega (arith, length-append r.high (r.low ++ r.captured), length-append r.low r.captured, is.high, is.low, is.captured) in
      let captured_is : captured ≡ number order 4 r.captured = ap (number order 4) (third_is order now start total r.high r.low r.captured is.high is.low) in
      let high : number order 4 head ≡ number order 4 r.high = number_first order 4 r.high (r.low ++ r.captured) is.high in
      let low : number order 4 (drop 4 head) ≡ number order 4 r.low = second_is order now start total r.high r.low r.captured is.high is.low in
      let same : found ≡ packet_of order now.moment interface r =
      λ i. packet now.moment (time_of interface.unit (high i * 4294967296 + low i)) interface.link (number order 4 r.original) r.octets in
      let long : length r.octets ≡ captured = is.holds.captured_is ∙ sym captured_is in
      let most : captured ≤ longest_record = subst (λ k. k ≤ longest_record) (sym captured_is) is.holds.most in
      let padding : padded captured ≤ captured + length r.rest = subst (λ k. padded k ≤ k + length r.rest) (sym captured_is) is.holds.padding in
      let sum : total ≡ 32 + captured + length r.rest =
      omega (
        arith,
        size,
        length-append r.which (head ++ (r.original ++ (r.octets ++ r.rest))),
        length-append head (r.original ++ (r.octets ++ r.rest)),
        length-append r.original (r.octets ++ r.rest),
        length-append r.octets r.rest,
        is.which,
        head_size,
        is.original,
        long,
      ) in
      map_reads (enhanced_in within now) (λ found. (Some found, behind_packet now found)) (body_text (enhanced interface r) ++ again)
      (packet_of order now.moment interface r)
      (subst (λ l. Reads (enhanced_in within now) l (packet_of order now.moment interface r))
      (joined order now start total r.which head r.original r.octets r.rest again)
      (subst (Reads (enhanced_in within now) (r.which ++ (head ++ (r.original ++ octets)))) same
      (and_reads (field 4 (number order 4)) (λ which. timed_in within now.moment (slice_get now.interfaces which)) r.which
      (head ++ (r.original ++ octets)) (number order 4 r.which) found
      (field_reads 4 (number order 4) r.which is.which)
      (subst (λ (o : Option Interface). Reads (timed_in within now.moment o) (head ++ (r.original ++ octets)) found) (sym is.interface_is)
      (and_reads (field 12 whole) (timed_behind within interface now.moment) head (r.original ++ octets) head found (field_reads 12 whole head head_size)
      (fitting_read 32 captured (start + 20) (original_in within now.moment time interface.link captured) (r.original ++ octets) found most
      (omega (arith, sum, padding))
      (and_reads (field 4 (number order 4))
      (λ original. and (octets_in within 32 captured) (λ found. gives (packet now.moment time interface.link original found))) r.original octets
      (number order 4 r.original) found (field_reads 4 (number order 4) r.original is.original)
      (map_reads (octets_in within 32 captured) (λ found. packet now.moment time interface.link (number order 4 r.original) found) octets r.octets
      (octets_read 32 captured r.octets r.rest long (omega (arith, sum)))))))))))

  short_read : (interface : Interface) (s : Short) → IsShort order now interface s → total ≡ 12 + length (body_text (simple interface s))
      → Reads (body_in within now Simple) (body_text (simple interface s) ++ again) (gives_by order now (simple interface s))
  short_read interface s is size =
      let original = number order 4 s.original in
      let captured = cut_to interface.snap original in
      let found = short_of order now.moment interface s in
      let octets = s.octets ++ (s.rest ++ again) in
      let long = is.holds.captured_is in
      let padding = is.holds.padding in
      let sum : total ≡ 16 + captured + length s.rest =
      omega (arith, size, length-append s.original (s.octets ++ s.rest), length-append s.octets s.rest, is.original, long) in
      let text : s.original ++ octets ≡ body_text (simple interface s) ++ again =
      ap (λ l. s.original ++ l) (sym (append_assoc s.octets s.rest again)) ∙ sym (append_assoc s.original (s.octets ++ s.rest) again) in
      map_reads (simple_in within now) (λ found. (Some found, behind_packet now found)) (body_text (simple interface s) ++ again) found
      (subst (λ l. Reads (simple_in within now) l found) text
      (subst (λ (o : Option Interface). Reads (simple_by within now.moment o) (s.original ++ octets) found) (sym is.interface_is)
      (and_reads (field 4 (number order 4)) (simple_behind within interface now.moment) s.original octets original found
      (field_reads 4 (number order 4) s.original is.original)
      (fitting_read 16 captured (start + 8) (and (octets_in within 16 captured) (λ octets. gives (packet now.moment 0 interface.link original octets)))
      octets found is.holds.most
      (omega (arith, sum, padding))
      (map_reads (octets_in within 16 captured) (λ octets. packet now.moment 0 interface.link original octets) octets s.octets
      (octets_read 16 captured s.octets s.rest long (omega (arith, sum))))))))

  skipped_read : (octets : List ℕ) → total ≡ 12 + length octets → Reads (body_in within now Other) (octets ++ again) (None, now)
  skipped_read octets size =
      map_reads (end_in within (total - 12)) (λ _. (None, now)) (octets ++ again) total (end_read (total - 12) octets (omega (arith, size)))

  section_read : (s : Section) → IsSection order s → total ≡ 12 + length (body_text (section s)) → total % 4 ≡ 0
      → (total_text : List ℕ) → number order 4 total_text ≡ total → Reads (magic_behind start total_text) (body_text (section s) ++ again) order
  section_read s is size groups total_text total_is =
      let body = s.major ++ s.rest in
      let magic = big_number 4 s.magic in
      let major = number order 2 s.major in
      let text : s.magic ++ (s.major ++ (s.rest ++ again)) ≡ body_text (section s) ++ again =
      ap (λ l. s.magic ++ l) (sym (append_assoc s.major s.rest again)) ∙ sym (append_assoc s.magic body again) in
      let rest = is.rest_size in
      let one = is.major_is in
      let sum : total ≡ 18 + length s.rest = omega (arith, size, length-append s.magic body, length-append s.major s.rest, is.magic_size, is.major_size) in
      let least : nat_le 28 total ≡ true = grind (arith, nat_tests, sum, rest) in
      let whole_groups : (total % 4 == 0) ≡ true = grind (arith, nat_tests, groups) in
      let first : (major == 1) ≡ true = grind (arith, nat_tests, one) in
      subst (λ l. Reads (magic_behind start total_text) l order) text
      (and_reads (field 4 (big_number 4)) (λ magic. ordered_in start total_text (order_of magic)) s.magic (s.major ++ (s.rest ++ again)) magic order
      (field_reads 4 (big_number 4) s.magic is.magic_size)
      (subst (λ (o : Option Endian). Reads (ordered_in start total_text o) (s.major ++ (s.rest ++ again)) order) (sym is.magic_is)
      (subst (λ (t : ℕ). Reads (needs (allows 28 t) Length (start + 4) (version_in (frame_of order start t))) (s.major ++ (s.rest ++ again)) order)
      (sym total_is)
      (needs_reads (allows 28 total) Length (start + 4) (version_in within) (s.major ++ (s.rest ++ again)) order (λ i. least i && whole_groups i)
      (and_reads (field 2 (number order 2)) (λ major. needs (major == 1) Version (start + 12) (and (end_in within (total - 18)) (λ _. gives order)))
      s.major (s.rest ++ again) major order
      (field_reads 2 (number order 2) s.major is.major_size)
      (needs_reads (major == 1) Version (start + 12) (and (end_in within (total - 18)) (λ _. gives order)) (s.rest ++ again) order first
      (map_reads (end_in within (total - 18)) (λ _. order) (s.rest ++ again) total (end_read (total - 18) s.rest (omega (arith, sum))))))))))

-- the type and the total length, and a body as its type tells
plain_read : (order : Endian) (now : Stands) (start : ℕ) (outer : Outer) (kind : Kind) (body : List ℕ) (value : Option Packet × Stands)
    → IsFramed order (length body) outer → IsPlain order now outer kind → least_of kind ≤ 12 + length body
    → Reads (body_in (frame_of order start (12 + length body)) now kind) (body ++ outer.again) value
    → Reads (kind_behind now start outer.kind) (outer.total ++ (body ++ outer.again)) value
plain_read order now start outer kind body value f plain least read =
    let total = 12 + length body in
    let groups = f.groups in
    let enough : nat_le (least_of kind) total ≡ true = grind (arith, nat_tests, least) in
    let whole_groups : (total % 4 == 0) ≡ true = grind (arith, nat_tests, groups) in
    let octets = body ++ outer.again in
    subst (λ (b : Bool). Reads (if b then and (section_in start) (λ order. gives (None, opened order now.moment))
    else plain_in start now now.order outer.kind) (outer.total ++ octets) value)
    (sym plain.other)
    (subst (λ (o : Option Endian). Reads (plain_in start now o outer.kind) (outer.total ++ octets) value) (sym plain.order_is)
    (and_reads (field 4 (number order 4)) (total_behind start order now (kind_of (number order 4 outer.kind))) outer.total octets
    (number order 4 outer.total) value
    (field_reads 4 (number order 4) outer.total f.total)
    (subst (λ (p : Kind × ℕ). Reads (total_behind start order now p.0 p.1) octets value) (sym (λ i. (plain.kind_is i, f.total_is i)))
    (needs_reads (allows (least_of kind) total) Length (start + 4) (body_in (frame_of order start total) now kind) octets value
    (λ i. enough i && whole_groups i) read))))

behind_read : (order : Endian) (now : Stands) (start : ℕ) (outer : Outer) (block : Block) → IsFramed order (length (body_text block)) outer
    → IsBlock order now outer block
    → Reads (kind_behind now start outer.kind) (outer.total ++ (body_text block ++ outer.again)) (gives_by order now block)
behind_read order now start outer (section s) f is =
    let total = 12 + length (body_text (section s)) in
    let c : Closing order total outer.again = record { long = f.again; is = f.again_is } in
    let is_kind = is.0 in
    let header : (big_number 4 outer.kind == section_header) ≡ true = grind (arith, nat_tests, is_kind) in
    let octets = body_text (section s) ++ outer.again in
    let by_kind : Bool → Type 0 = λ b.
    Reads (if b then and (section_in start) (λ order. gives (None, opened order now.moment)) else plain_in start now now.order outer.kind)
    (outer.total ++ octets) (None, opened order now.moment) in
    subst by_kind (sym header)
    (map_reads (section_in start) (λ order. (None, opened order now.moment)) (outer.total ++ octets) order
    (and_reads (field 4 whole) (magic_behind start) outer.total octets outer.total order (field_reads 4 whole outer.total f.total)
    (section_read order now start total outer.again c s is.1 refl f.groups outer.total f.total_is)))
behind_read order now start outer (described d) f is =
    let body = body_text (described d) in
    let c : Closing order (12 + length body) outer.again = record { long = f.again; is = f.again_is } in
    let h = is.1 in
    plain_read order now start outer Described body (gives_by order now (described d)) f is.0
    (omega (
      arith,
      length-append (d.link ++ (d.reserved ++ d.snap)) (flat_map choice_text d.choices),
      length-append d.link (d.reserved ++ d.snap),
      length-append d.reserved d.snap,
      h.link,
      h.reserved,
      h.snap,
    ))
    (described_read order now start (12 + length body) outer.again c d h refl)
behind_read order now start outer (enhanced interface r) f is =
    let body = body_text (enhanced interface r) in
    let c : Closing order (12 + length body) outer.again = record { long = f.again; is = f.again_is } in
    let h = is.1 in
    let head = r.high ++ (r.low ++ r.captured) in
    plain_read order now start outer Enhanced body (gives_by order now (enhanced interface r)) f is.0
    (omega (
      arith,
      length-append r.which (head ++ (r.original ++ (r.octets ++ r.rest))),
      length-append head (r.original ++ (r.octets ++ r.rest)),
      length-append r.high (r.low ++ r.captured),
      length-append r.low r.captured,
      length-append r.original (r.octets ++ r.rest),
      h.which,
      h.high,
      h.low,
      h.captured,
      h.original,
    ))
    (record_read order now start (12 + length body) outer.again c interface r h refl)
behind_read order now start outer (simple interface s) f is =
    let body = body_text (simple interface s) in
    let c : Closing order (12 + length body) outer.again = record { long = f.again; is = f.again_is } in
    let h = is.1 in
    plain_read order now start outer Simple body (gives_by order now (simple interface s)) f is.0
    (omega (arith, length-append s.original (s.octets ++ s.rest), h.original))
    (short_read order now start (12 + length body) outer.again c interface s h refl)
behind_read order now start outer (skipped octets) f is =
    let c : Closing order (12 + length octets) outer.again = record { long = f.again; is = f.again_is } in
    plain_read order now start outer Other octets (None, now) f is (omega arith) (skipped_read order now start (12 + length octets) outer.again c octets refl)

block_reads : (now : Stands) (written : Written) → Fits now written → Reads (block_in now) (block_text written) (block_gives now written)
block_reads now written is place =
    let outer = written.outer in
    let behind = outer.total ++ (body_text written.block ++ outer.again) in
    and_reads (field 4 whole) (kind_behind now place) outer.kind behind outer.kind (block_gives now written) (field_reads 4 whole outer.kind is.framed_is.kind)
    (behind_read written.order now place outer written.block is.framed_is is.block_is)
    place

-- captures

text_law : (limit : ℕ) (content : List ℕ) (packets : List Packet)
    → (packets_to_come limit 0 nothing content ≡ (packets, done)) ↔ IsTextOf block_text Fits block_gives nothing limit content packets
text_law limit content packets = told_text block_in block_text Fits block_gives Cut block_takes block_spells block_reads limit nothing content packets

abbrev chosen : (limit : ℕ) → List ℕ → Bool → List Packet × End NgReason
chosen limit content none = if none then ([], bad Cut 0) else packets_to_come limit 0 nothing content

module _ (limit : ℕ) (content : List ℕ) (packets : List Packet) where
  abbrev IsText : Type 0
  IsText = IsTextOf block_text Fits block_gives nothing limit content packets

  some_content : length content < limit → (length (window limit 0 content) == 0) && not (at_limit limit 0 content) ≡ false → 0 < length content
  some_content below none = by (length content) refl
    where
      by : (size : ℕ) → length content ≡ size → 0 < length content
      by (suc size) e = omega (arith, e)
      by zero e =
          let empty : (length (window limit 0 content) == 0) ≡ true = grind (arith, nat_tests, e, length-take (limit - 0) content) in
          let free : at_limit limit 0 content ≡ false = grind (arith, nat_tests, e, below) in
          let all : (length (window limit 0 content) == 0) && not (at_limit limit 0 content) ≡ true = λ i. empty i && not (free i) in
          absurd (let no : true ≡ false = sym all ∙ none in cc)

  to_text : (none : Bool) → (length (window limit 0 content) == 0) && not (at_limit limit 0 content) ≡ none → chosen limit content none ≡ (packets, done)
      → (0 < length content) × IsText
  to_text true t h = let no : ◌≡◌ {A = End NgReason} (bad Cut 0) done = ap (λ (p : List Packet × End NgReason). p.1) h in absurd cc
  to_text false t h = let text = (text_law limit content packets).0 h in (some_content text.below t, text)

  of_text : (0 < length content) × IsText → chosen limit content ((length (window limit 0 content) == 0) && not (at_limit limit 0 content)) ≡ (packets, done)
  of_text h =
      let some = h.0 in
      let below = h.1.below in
      let held : (length (window limit 0 content) == 0) ≡ false = grind (arith, nat_tests, some, below, length-take (limit - 0) content) in
      ap (λ (empty : Bool). chosen limit content (empty && not (at_limit limit 0 content))) held ∙ (text_law limit content packets).1 h.1

pub reads_back : ReadsBack
reads_back limit content packets = (
  to_text limit content packets ((length (window limit 0 content) == 0) && not (at_limit limit 0 content)) refl,
  of_text limit content packets,
)
