-- Blocks as they stand in a capture: what is read is spelled so.
use Rattle.fs_pcapng.proofs.Words.{◌≡◌, ℕ, zero, suc, List, [], ◌∷◌, ◌++◌, Option, Some, None, Bool, true, false, ◌<◌, ◌≤◌, ◌+◌, ◌-◌, ◌*◌, ◌%◌, ◌==◌}
use Rattle.fs_pcapng.proofs.Words.{◌&&◌, length, drop, refl, ap, sym, subst, ◌∙◌, arith, append-nil, append_assoc, length-append, if◌then◌else◌}
use Rattle.fs_pcapng.proofs.Words.{flat_map, nat_le, nat_lt, slice_get, slice_index, AllByRecursion, drop_at, nat_tests, big_number, longest_record}
use Rattle.fs_pcapng.proofs.Words.{number, Endian, Takes, whole, Scanner, and, field, gives, needs, skips, Part, Spells, and_spells, cut_at}
use Rattle.fs_pcapng.proofs.Words.{fails_spells, field_reads, field_spells, gives_spells, map_reads, map_spells, needs_spells, part_spells}
use Rattle.fs_pcapng.proofs.Words.{skips_reads, skips_spells, weaker_spells, IsSpelled, spelled_takes, Packet, Stands, allows, behind_packet}
use Rattle.fs_pcapng.proofs.Words.{block_in, body_in, close_in, cut_to, described_behind, described_in, end_in, enhanced_in, fitting, frame_of}
use Rattle.fs_pcapng.proofs.Words.{kind_behind, kind_of, least_of, magic_behind, octets_in, opened, order_of, ordered_in, original_in, packet}
use Rattle.fs_pcapng.proofs.Words.{plain_in, section_header, section_in, simple_behind, simple_by, simple_in, stamped, timed_behind, timed_in}
use Rattle.fs_pcapng.proofs.Words.{total_behind, version_in, with_interface, cursor, option_behind, option_in, options_in, padded, unit_in, value_in, time_of}
use Rattle.fs_pcapng.proofs.Words.{Block, Choice, Description, Fits, IsBlock, IsChoice, IsPlain, IsSection, Outer, Record, Section, Short, Written}
use Rattle.fs_pcapng.proofs.Words.{block_gives, block_text, body_text, choice_text, described, enhanced, gives_by, packet_of, section, short_of}
use Rattle.fs_pcapng.proofs.Words.{simple, skipped, unit_behind, unit_of, Kind, Described, Enhanced, Simple, Other, NgReason, Length, Magic}
use Rattle.fs_pcapng.proofs.Words.{RecordTooLong, TooMany, Version, Frame, Cursor, Interface}
use Rattle.fs_pcapng.specs.declared.fault.NgReason.TheVariants.{Interface as WrongInterface}
use Rattle.fs_base.proofs.Bools.{and_parts}
use Rattle.byteorder.specs.Numbers.{big_from-append, little_from-append}
use Rattle.fs_pcap.specs.declared.order.Endian.TheVariants.{Big, Little}
use Rattle.fs_input.proofs.Spelling.{Reads}

-- octets in three parts
record CutTwice (n m : ℕ) (octets : List ℕ) : Type 0 where
  pub first : List ℕ
  pub second : List ℕ
  pub third : List ℕ
  pub is : octets ≡ first ++ (second ++ third)
  pub first_size : length first ≡ n
  pub second_size : length second ≡ m
  pub third_size : n + m + length third ≡ length octets

cut_twice : (n m : ℕ) (octets : List ℕ) → n + m ≤ length octets → CutTwice n m octets
cut_twice n m octets held =
    let a = cut_at n octets (omega (arith, held)) in
    let b = cut_at m a.rest (omega (arith, held, a.rest_size)) in
    record {
      first = a.front;
      second = b.front;
      third = b.rest;
      is = a.is ∙ ap (λ l. a.front ++ l) b.is;
      first_size = a.front_size;
      second_size = b.front_size;
      third_size = omega (arith, held, a.rest_size, b.rest_size);
    }

-- numbers

pub number_first : (order : Endian) (n : ℕ) (front rest : List ℕ) → length front ≡ n → number order n (front ++ rest) ≡ number order n front
number_first Big n front rest long = big_from-append n front rest (omega (arith, long))
number_first Little n front rest long = little_from-append n front rest (omega (arith, long))

record Num (order : Endian) (size value : ℕ) (part : List ℕ) : Type 0 where
  pub is : value ≡ number order size part
  pub long : length part ≡ size

num_spells : (order : Endian) (size : ℕ) → Spells {R = NgReason} (Num order size) (field size (number order size))
num_spells order size = field_spells (Num order size) size (number order size) (λ part long. record { is = refl; long = long })

padded_more : (n : ℕ) → n ≤ padded n
padded_more n = omega arith

-- the end of a block

pub record Closing (order : Endian) (total : ℕ) (again : List ℕ) : Type 0 where
  pub long : length again ≡ 4
  pub is : number order 4 again ≡ total

close_spells : (frame : Frame) → Spells (λ found again. Closing frame.order frame.total again) (close_in frame)
close_spells frame =
    let P : ℕ → List ℕ → Type 0 = λ found again. Closing frame.order frame.total again in
    and_spells (Num frame.order 4) P (field 4 (number frame.order 4))
    (λ again. needs (again == frame.total) Length (frame.start + frame.total - 4) (gives frame.total)) (num_spells frame.order 4)
    (λ again part n.
    needs_spells (λ found more. Closing frame.order frame.total (part ++ more)) (again == frame.total) Length (frame.start + frame.total - 4)
    (gives frame.total)
    (λ test.
    let same : again ≡ frame.total = grind (arith, nat_tests) in
    gives_spells (λ found more. Closing frame.order frame.total (part ++ more)) frame.total
    (subst (Closing frame.order frame.total) (sym (append-nil part)) (record { long = n.long; is = sym n.is ∙ same }))))

record Ending (order : Endian) (total size : ℕ) (octets : List ℕ) : Type 0 where
  pub rest : List ℕ
  pub again : List ℕ
  pub is : octets ≡ rest ++ again
  pub long : length rest ≡ size
  pub closing : Closing order total again

end_spells : (frame : Frame) (size : ℕ) → Spells (λ found octets. Ending frame.order frame.total size octets) (end_in frame size)
end_spells frame size =
    and_spells (λ n part. length part ≡ size) (λ found octets. Ending frame.order frame.total size octets) (skips size) (λ _. close_in frame)
    (skips_spells (λ n part. length part ≡ size) size (λ part long. long))
    (λ n part long.
    weaker_spells (λ found again. Closing frame.order frame.total again) (λ found again. Ending frame.order frame.total size (part ++ again)) (close_in frame)
    (λ found again c. record { rest = part; again = again; is = refl; long = long; closing = c }) (close_spells frame))

-- options

abbrev ValueFound : Cursor → (size : ℕ) → Bool → Cursor → List ℕ → Type 0
ValueFound now size test next value =
    (length value ≡ padded size) × (next ≡ cursor (now.left - 4 - padded size) (if test then slice_index value 0 else now.unit))

pub is_one : (code size : ℕ) → (code == 9 && size == 1) ≡ true → size ≡ 1
is_one code size t = let second = (and_parts (code == 9) (size == 1) t).1 in grind (arith, nat_tests, second)

module _ (now : Cursor) (size : ℕ) where
  abbrev value_by : Bool → Scanner Cursor NgReason
  value_by test = if test then unit_in now else and (skips (padded size)) (λ _. gives (cursor (now.left - 4 - padded size) now.unit))

  eight : size ≡ 1 → now.left - 8 ≡ now.left - 4 - padded size
  eight one = let four : padded size ≡ 4 = ap padded one in omega (arith, four)

  value_spelled : (test : Bool) → (test ≡ true → size ≡ 1) → Spells (ValueFound now size test) (value_by test)
  value_spelled true one =
      map_spells (Part 4) (ValueFound now size true) (field 4 whole) (λ octets. cursor (now.left - 8) (slice_index octets 0)) (part_spells 4)
      (λ octets part p. (p.long ∙ sym (ap padded (one refl)), λ i. cursor (eight (one refl) i) (slice_index (p.is i) 0)))
  value_spelled false one =
      map_spells (λ n part. length part ≡ padded size) (ValueFound now size false) (skips (padded size)) (λ _. cursor (now.left - 4 - padded size) now.unit)
      (skips_spells (λ n part. length part ≡ padded size) (padded size) (λ part long. long)) (λ n part long. (long, refl))

  pub value_reads : (test : Bool) → (test ≡ true → size ≡ 1) → (value : List ℕ) → length value ≡ padded size
      → Reads (value_by test) value (cursor (now.left - 4 - padded size) (if test then slice_index value 0 else now.unit))
  value_reads true one value long =
      subst (Reads (value_by true) value) (λ i. cursor (eight (one refl) i) (slice_index value 0))
      (map_reads (field 4 whole) (λ octets. cursor (now.left - 8) (slice_index octets 0)) value value
      (field_reads 4 whole value (long ∙ ap padded (one refl))))
  value_reads false one value long =
      map_reads (skips (padded size)) (λ _. cursor (now.left - 4 - padded size) now.unit) value (padded size) (skips_reads (padded size) value long)

record ChoiceRead (order : Endian) (now next : Cursor) (octets : List ℕ) : Type 0 where
  pub choice : Choice
  pub is : octets ≡ choice_text choice
  pub is_choice : IsChoice order choice
  pub fits : length octets ≤ now.left
  pub left_is : next.left ≡ now.left - length octets
  pub unit_is : next.unit ≡ unit_behind order now.unit choice

choice_found : (order : Endian) (now next : Cursor) (head part value : List ℕ) → Part 4 head part
    → 4 + padded (number order 2 (drop 2 head)) ≤ now.left
    → ValueFound now (number order 2 (drop 2 head)) (number order 2 head == 9 && number order 2 (drop 2 head) == 1) next value
    → ChoiceRead order now next (part ++ value)
choice_found order now next head part value p room v =
    let c = cut_at 2 part (omega (arith, p.long)) in
    let code_is : number order 2 head ≡ number order 2 c.front =
    ap (number order 2) (p.is ∙ c.is) ∙ number_first order 2 c.front c.rest c.front_size in
    let size_is : number order 2 (drop 2 head) ≡ number order 2 c.rest =
    ap (λ l. number order 2 (drop 2 l)) (p.is ∙ c.is) ∙ ap (number order 2) (drop_at c.front c.rest 2 c.front_size) in
    let long : length (part ++ value) ≡ 4 + padded (number order 2 (drop 2 head)) = omega (arith, length-append part value, p.long, v.0) in
    record {
      choice = record { code = c.front; size = c.rest; value = value };
      is = ap (λ l. l ++ value) c.is;
      is_choice = record { code = c.front_size; size = omega (arith, c.rest_size, p.long); value = v.0 ∙ ap padded size_is };
      fits = omega (arith, long, room);
      left_is = (let l : next.left ≡ now.left - 4 - padded (number order 2 (drop 2 head)) = ap (λ (x : Cursor). x.left) v.1 in omega (arith, l, long));
      unit_is =
          ap (λ (x : Cursor). x.unit) v.1
          ∙ (λ i. if code_is i == 9 && size_is i == 1 then slice_index value 0 else now.unit);
    }

option_spells : (order : Endian) (now : Cursor) → Spells (ChoiceRead order now) (option_in order now)
option_spells order now place =
    and_spells (Part 4) (ChoiceRead order now) (field 4 whole) (option_behind order now place) (part_spells 4)
    (λ head part p.
    let code = number order 2 head in
    let size = number order 2 (drop 2 head) in
    needs_spells (λ next more. ChoiceRead order now next (part ++ more)) (nat_le (4 + padded size) now.left) Length place (value_in now code size)
    (λ test.
    let room : 4 + padded size ≤ now.left = grind (arith, nat_tests) in
    weaker_spells (ValueFound now size (code == 9 && size == 1)) (λ next more. ChoiceRead order now next (part ++ more)) (value_in now code size)
    (λ next value v. choice_found order now next head part value p room v)
    (value_spelled now size (code == 9 && size == 1) (is_one code size))))
    place

record Choices (order : Endian) (left unit found : ℕ) (octets : List ℕ) : Type 0 where
  pub choices : List Choice
  pub is : octets ≡ flat_map choice_text choices
  pub are : AllByRecursion (IsChoice order) choices
  pub long : length octets ≡ left
  pub unit_is : found ≡ unit_of order unit choices

none_chosen : (order : Endian) (left unit : ℕ) → left ≡ 0 → Choices order left unit unit []
none_chosen order left unit none = record { choices = []; is = refl; are = tt; long = sym none; unit_is = refl }

pub choice_size : (order : Endian) (choice : Choice) → IsChoice order choice → 4 ≤ length (choice_text choice)
choice_size order choice is =
    omega (arith, length-append (choice.code ++ choice.size) choice.value, length-append choice.code choice.size, is.code, is.size)

more_chosen : (order : Endian) (now next : Cursor) (found : ℕ) (part more : List ℕ) → ChoiceRead order now next part
    → Choices order next.left next.unit found more
    → Choices order now.left now.unit found (part ++ more)
more_chosen order now next found part more o c = record {
  choices = o.choice ∷ c.choices;
  is = λ i. o.is i ++ c.is i;
  are = (o.is_choice, c.are);
  long = omega (arith, length-append part more, c.long, o.left_is, o.fits);
  unit_is = c.unit_is ∙ ap (λ u. unit_of order u c.choices) o.unit_is;
}

options_by : (order : Endian) (fuel : ℕ) (now : Cursor)
    → ((next : Cursor) → next.left ≤ fuel → Spells {R = NgReason} (Choices order next.left next.unit) (options_in order fuel next))
    → now.left ≤ suc fuel → (test : Bool) → (now.left == 0) ≡ test
    → Spells (Choices order now.left now.unit) (if test then gives now.unit else and (option_in order now) (options_in order fuel))
options_by order fuel now going few true t =
    gives_spells (Choices order now.left now.unit) now.unit (none_chosen order now.left now.unit (grind (arith, nat_tests, t)))
options_by order fuel now going few false t =
    and_spells (ChoiceRead order now) (Choices order now.left now.unit) (option_in order now) (options_in order fuel) (option_spells order now)
    (λ next part o.
    let some : 4 ≤ length part = subst (λ l. 4 ≤ length l) (sym o.is) (choice_size order o.choice o.is_choice) in
    weaker_spells (Choices order next.left next.unit) (λ found more. Choices order now.left now.unit found (part ++ more)) (options_in order fuel next)
    (λ found more c. more_chosen order now next found part more o c)
    (going next (omega (arith, o.left_is, o.fits, some, few))))

options_spells : (order : Endian) (fuel : ℕ) (now : Cursor) → now.left ≤ fuel
    → Spells {R = NgReason} (Choices order now.left now.unit) (options_in order fuel now)
options_spells order zero now few = gives_spells (Choices order now.left now.unit) now.unit (none_chosen order now.left now.unit (omega (arith, few)))
options_spells order (suc fuel) now few = options_by order fuel now (options_spells order fuel) few (now.left == 0) refl

-- sections

record SectionRead (total : List ℕ) (order : Endian) (octets : List ℕ) : Type 0 where
  pub body : Section
  pub again : List ℕ
  pub is : octets ≡ (body.magic ++ (body.major ++ body.rest)) ++ again
  pub body_is : IsSection order body
  pub size_is : number order 4 total ≡ 12 + length (body.magic ++ (body.major ++ body.rest))
  pub groups : number order 4 total % 4 ≡ 0
  pub closing : Closing order (number order 4 total) again

section_found : (order : Endian) (total magic major more : List ℕ) → length magic ≡ 4 → order_of (big_number 4 magic) ≡ Some order
    → 28 ≤ number order 4 total → number order 4 total % 4 ≡ 0 → length major ≡ 2 → number order 2 major ≡ 1
    → Ending order (number order 4 total) (number order 4 total - 18) more → SectionRead total order (magic ++ (major ++ more))
section_found order total magic major more m told_so least groups size one e =
    let body = major ++ e.rest in
    record {
      body = record { magic = magic; major = major; rest = e.rest };
      again = e.again;
      is =
          ap (λ l. magic ++ (major ++ l)) e.is ∙ ap (λ l. magic ++ l) (sym (append_assoc major e.rest e.again))
          ∙ sym (append_assoc magic body e.again);
      body_is = record {
        magic_size = m;
        magic_is = told_so;
        major_size = size;
        major_is = one;
        rest_size = omega (arith, e.long, least);
      };
      size_is = omega (arith, length-append magic body, length-append major e.rest, m, size, e.long, least);
      groups = groups;
      closing = e.closing;
    }

version_spells : (start : ℕ) (order : Endian) (total magic : List ℕ) → length magic ≡ 4 → order_of (big_number 4 magic) ≡ Some order
    → 28 ≤ number order 4 total → number order 4 total % 4 ≡ 0
    → Spells (λ found more. SectionRead total found (magic ++ more)) (version_in (frame_of order start (number order 4 total)))
version_spells start order total magic m told_so least groups =
    let frame = frame_of order start (number order 4 total) in
    and_spells (Num order 2) (λ found more. SectionRead total found (magic ++ more)) (field 2 (number order 2))
    (λ major. needs (major == 1) Version (start + 12) (and (end_in frame (frame.total - 18)) (λ _. gives order))) (num_spells order 2)
    (λ major part n.
    needs_spells (λ found more. SectionRead total found (magic ++ (part ++ more))) (major == 1) Version (start + 12)
    (and (end_in frame (frame.total - 18)) (λ _. gives order))
    (λ test.
    let one : major ≡ 1 = grind (arith, nat_tests) in
    map_spells (λ found octets. Ending order frame.total (frame.total - 18) octets) (λ found more. SectionRead total found (magic ++ (part ++ more)))
    (end_in frame (frame.total - 18)) (λ _. order) (end_spells frame (frame.total - 18))
    (λ found octets e. section_found order total magic part octets m told_so least groups n.long (sym n.is ∙ one) e)))

ordered_spells : (start : ℕ) (total magic : List ℕ) (order : Option Endian) → length magic ≡ 4 → order_of (big_number 4 magic) ≡ order
    → Spells (λ found more. SectionRead total found (magic ++ more)) (ordered_in start total order)
ordered_spells start total magic None m told_so = fails_spells (λ found more. SectionRead total found (magic ++ more)) Magic (start + 8)
ordered_spells start total magic (Some order) m told_so =
    needs_spells (λ found more. SectionRead total found (magic ++ more)) (allows 28 (number order 4 total)) Length (start + 4)
    (version_in (frame_of order start (number order 4 total)))
    (λ test.
    let both = and_parts (nat_le 28 (number order 4 total)) (number order 4 total % 4 == 0) test in
    let first = both.0 in
    let second = both.1 in
    version_spells start order total magic m told_so (grind (arith, nat_tests, first)) (grind (arith, nat_tests, second)))

-- a total length, and the section behind it
abbrev SectionAt : Endian → List ℕ → Type 0
SectionAt order octets = (total : List ℕ) × (more : List ℕ) × (octets ≡ total ++ more) × (length total ≡ 4) × SectionRead total order more

section_spells : (start : ℕ) → Spells SectionAt (section_in start)
section_spells start =
    and_spells (Part 4) SectionAt (field 4 whole) (magic_behind start) (part_spells 4)
    (λ total part p.
    weaker_spells (λ order more. SectionRead part order more) (λ order more. SectionAt order (part ++ more)) (magic_behind start total)
    (λ order more r. (part, more, refl, p.long, r))
    (subst (λ (l : List ℕ). Spells (λ order more. SectionRead part order more) (magic_behind start l)) (sym p.is)
    (and_spells (λ n magic. (n ≡ big_number 4 magic) × (length magic ≡ 4)) (λ order more. SectionRead part order more) (field 4 (big_number 4))
    (λ magic. ordered_in start part (order_of magic))
    (field_spells (λ n magic. (n ≡ big_number 4 magic) × (length magic ≡ 4)) 4 (big_number 4) (λ magic long. (refl, long)))
    (λ n magic m. ordered_spells start part magic (order_of n) m.1 (ap order_of (sym m.0))))))

-- what a block that is no section header gives, behind its total length

record BodyRead (order : Endian) (now : Stands) (kind : Kind) (total : ℕ) (value : Option Packet × Stands) (octets : List ℕ) : Type 0 where
  pub block : Block
  pub again : List ℕ
  pub is : octets ≡ body_text block ++ again
  pub block_is : (outer : Outer) → IsPlain order now outer kind → IsBlock order now outer block
  pub size_is : total ≡ 12 + length (body_text block)
  pub closing : Closing order total again
  pub value_is : value ≡ gives_by order now block

module _ (order : Endian) (now : Stands) (start total : ℕ) where
  abbrev frame : Frame
  frame = frame_of order start total

  -- a description

  pub snap_is : (link reserved snap : List ℕ) → length link ≡ 2 → length reserved ≡ 2 → drop 4 (link ++ (reserved ++ snap)) ≡ snap
  snap_is link reserved snap l r =
      ap (drop 4) (sym (append_assoc link reserved snap)) ∙ drop_at (link ++ reserved) snap 4 (omega (arith, length-append link reserved, l, r))

  described_found : (head part options again : List ℕ) (unit : ℕ) → 20 ≤ total → length now.interfaces < 256 → Part 8 head part
      → Choices order (total - 20) 6 unit options → Closing order total again
      → BodyRead order now Described total
      (None, with_interface now (record { link = number order 2 head; snap = number order 4 (drop 4 head); unit = unit })) (part ++ (options ++ again))
  described_found head part options again unit least room p c closing =
      let h = cut_twice 2 2 part (omega (arith, p.long)) in
      let d : Description = record { link = h.first; reserved = h.second; snap = h.third; choices = c.choices } in
      let link : number order 2 head ≡ number order 2 h.first =
      ap (number order 2) (p.is ∙ h.is) ∙ number_first order 2 h.first (h.second ++ h.third) h.first_size in
      let snap : number order 4 (drop 4 head) ≡ number order 4 h.third =
      ap (λ l. number order 4 (drop 4 l)) (p.is ∙ h.is) ∙ ap (number order 4) (snap_is h.first h.second h.third h.first_size h.second_size) in
      let text : part ++ options ≡ body_text (described d) = λ i. h.is i ++ c.is i in
      record {
        block = described d;
        again = again;
        is = sym (append_assoc part options again) ∙ ap (λ l. l ++ again) text;
        block_is = λ outer plain. (
          plain,
          record { link = h.first_size; reserved = h.second_size; snap = omega (arith, h.third_size, p.long); choices = c.are; room = room },
        );
        size_is = omega (arith, ap length text, length-append part options, p.long, c.long, least);
        closing = closing;
        value_is = λ i. (None, with_interface now (record { link = link i; snap = snap i; unit = c.unit_is i }));
      }

  described_spells : 20 ≤ total → Spells (BodyRead order now Described total) (body_in frame now Described)
  described_spells least =
      needs_spells (BodyRead order now Described total) (nat_lt (length now.interfaces) 256) TooMany start
      (and (described_in frame) (λ interface. gives (None, with_interface now interface)))
      (λ test.
      let room : length now.interfaces < 256 = grind (arith, nat_tests) in
      let P : Interface → List ℕ → Type 0 = λ interface octets. BodyRead order now Described total (None, with_interface now interface) octets in
      map_spells P (BodyRead order now Described total) (described_in frame) (λ interface. (None, with_interface now interface))
      (and_spells (Part 8) P (field 8 whole) (described_behind frame) (part_spells 8)
      (λ head part p.
      let made : ℕ → Interface = λ unit. record { link = number order 2 head; snap = number order 4 (drop 4 head); unit = unit } in
      and_spells (Choices order (total - 20) 6) (λ interface more. P interface (part ++ more)) (options_in order (total - 20) (cursor (total - 20) 6))
      (λ unit. and (close_in frame) (λ _. gives (made unit))) (options_spells order (total - 20) (cursor (total - 20) 6) (omega arith))
      (λ unit options c.
      map_spells (λ found again. Closing order total again) (λ interface more. P interface (part ++ (options ++ more))) (close_in frame)
      (λ _. made unit) (close_spells frame)
      (λ found again closing. described_found head part options again unit least room p c closing))))
      (λ interface octets b. b))

  -- the octets of a packet

  record OctetsRead (fixed captured : ℕ) (found octets : List ℕ) : Type 0 where
    pub rest : List ℕ
    pub again : List ℕ
    pub is : octets ≡ found ++ (rest ++ again)
    pub long : length found ≡ captured
    pub rest_size : length rest ≡ total - fixed - captured
    pub closing : Closing order total again

  octets_spells : (fixed captured : ℕ) → Spells (OctetsRead fixed captured) (octets_in frame fixed captured)
  octets_spells fixed captured =
      and_spells (Part captured) (OctetsRead fixed captured) (field captured whole)
      (λ octets. and (end_in frame (total - fixed - captured)) (λ _. gives octets)) (part_spells captured)
      (λ octets part p.
      map_spells (λ found more. Ending order total (total - fixed - captured) more) (λ found more. OctetsRead fixed captured found (part ++ more))
      (end_in frame (total - fixed - captured)) (λ _. octets) (end_spells frame (total - fixed - captured))
      (λ found more e. record {
        rest = e.rest;
        again = e.again;
        is = λ i. sym p.is i ++ e.is i;
        long = ap length p.is ∙ p.long;
        rest_size = e.long;
        closing = e.closing;
      }))

  fitting_spells : {A : Type 0} (P : A → List ℕ → Type 0) (fixed captured place : ℕ) (next : Scanner A NgReason)
      → (captured ≤ longest_record → fixed + padded captured ≤ total → Spells P next) → Spells P (fitting frame fixed captured place next)
  fitting_spells P fixed captured place next h =
      needs_spells P (nat_le captured longest_record) RecordTooLong place (needs (nat_le (fixed + padded captured) total) Length (start + 4) next)
      (λ few.
      needs_spells P (nat_le (fixed + padded captured) total) Length (start + 4) next
      (λ room. h (grind (arith, nat_tests, few)) (grind (arith, nat_tests, room))))

  -- an enhanced packet

  pub second_is : (high low captured : List ℕ) → length high ≡ 4 → length low ≡ 4 → number order 4 (drop 4 (high ++ (low ++ captured))) ≡ number order 4 low
  second_is high low captured h l = ap (number order 4) (drop_at high (low ++ captured) 4 h) ∙ number_first order 4 low captured l

  pub third_is : (high low captured : List ℕ) → length high ≡ 4 → length low ≡ 4 → drop 8 (high ++ (low ++ captured)) ≡ captured
  third_is high low captured h l =
      ap (drop 8) (sym (append_assoc high low captured)) ∙ drop_at (high ++ low) captured 8 (omega (arith, length-append high low, h, l))

  -- its parts joined
  pub joined : (a b c d e f : List ℕ) → a ++ (b ++ (c ++ (d ++ (e ++ f)))) ≡ (a ++ (b ++ (c ++ (d ++ e)))) ++ f
  joined a b c d e f =
      ap (λ l. a ++ (b ++ (c ++ l))) (sym (append_assoc d e f)) ∙ ap (λ l. a ++ (b ++ l)) (sym (append_assoc c (d ++ e) f))
      ∙ ap (λ l. a ++ l) (sym (append_assoc b (c ++ (d ++ e)) f)) ∙ sym (append_assoc a (b ++ (c ++ (d ++ e))) f)

  record_found : (which original : ℕ) (which_text head head_text original_text found octets : List ℕ) (interface : Interface)
      → Num order 4 which which_text → slice_get now.interfaces which ≡ Some interface → Part 12 head head_text → Num order 4 original original_text
      → number order 4 (drop 8 head) ≤ longest_record → 32 + padded (number order 4 (drop 8 head)) ≤ total
      → OctetsRead 32 (number order 4 (drop 8 head)) found octets
      → BodyRead order now Enhanced total (
        Some (packet now.moment (stamped frame interface head) interface.link original found),
        behind_packet now (packet now.moment (stamped frame interface head) interface.link original found),
      )
      (which_text ++ (head_text ++ (original_text ++ octets)))
  record_found which original which_text head head_text original_text found octets interface w known p n few room o =
      let t = cut_twice 4 4 head_text (omega (arith, p.long)) in
      let captured_is : number order 4 (drop 8 head) ≡ number order 4 t.third =
      ap (λ l. number order 4 (drop 8 l)) (p.is ∙ t.is) ∙ ap (number order 4) (third_is t.first t.second t.third t.first_size t.second_size) in
      let high : number order 4 head ≡ number order 4 t.first =
      ap (number order 4) (p.is ∙ t.is) ∙ number_first order 4 t.first (t.second ++ t.third) t.first_size in
      let low : number order 4 (drop 4 head) ≡ number order 4 t.second =
      ap (λ l. number order 4 (drop 4 l)) (p.is ∙ t.is) ∙ second_is t.first t.second t.third t.first_size t.second_size in
      let r : Record = record {
        which = which_text;
        high = t.first;
        low = t.second;
        captured = t.third;
        original = original_text;
        octets = found;
        rest = o.rest;
      } in
      let more = padded_more (number order 4 (drop 8 head)) in
      let text : which_text ++ (head_text ++ (original_text ++ (found ++ o.rest))) ≡ body_text (enhanced interface r) =
      ap (λ l. which_text ++ (l ++ (original_text ++ (found ++ o.rest)))) t.is in
      record {
        block = enhanced interface r;
        again = o.again;
        is =
            ap (λ l. which_text ++ (head_text ++ (original_text ++ l))) o.is ∙ joined which_text head_text original_text found o.rest o.again
            ∙ ap (λ l. l ++ o.again) text;
        block_is = λ outer plain. (
          plain,
          record {
            which = w.long;
            high = t.first_size;
            low = t.second_size;
            captured = omega (arith, t.third_size, p.long);
            original = n.long;
            interface_is = ap (slice_get now.interfaces) (sym w.is) ∙ known;
            holds = record {
              captured_is = o.long ∙ captured_is;
              most = subst (λ k. k ≤ longest_record) captured_is few;
              padding = subst (λ k. padded k ≤ k + length o.rest) captured_is (omega (arith, o.rest_size, room, more));
            };
          },
        );
        size_is =
            omega (
              arith,
              sym (ap length text),
              length-append which_text (head_text ++ (original_text ++ (found ++ o.rest))),
              length-append head_text (original_text ++ (found ++ o.rest)),
              length-append original_text (found ++ o.rest),
              length-append found o.rest,
              w.long,
              p.long,
              n.long,
              o.long,
              o.rest_size,
              room,
              more,
            );
        closing = o.closing;
        value_is =
            let same : packet now.moment (stamped frame interface head) interface.link original found ≡ packet_of order now.moment interface r =
            λ i. packet now.moment (time_of interface.unit (high i * 4294967296 + low i)) interface.link (n.is i) found in
            ap (λ (x : Packet). (Some x, behind_packet now x)) same;
      }

  timed_spells : (which : ℕ) (which_text : List ℕ) (interface : Option Interface) → Num order 4 which which_text → slice_get now.interfaces which ≡ interface
      → Spells (λ found more. BodyRead order now Enhanced total (Some found, behind_packet now found) (which_text ++ more))
      (timed_in frame now.moment interface)
  timed_spells which which_text None w known =
      fails_spells (λ found more. BodyRead order now Enhanced total (Some found, behind_packet now found) (which_text ++ more)) WrongInterface (start + 8)
  timed_spells which which_text (Some interface) w known =
      let P : Packet → List ℕ → Type 0 = λ found octets. BodyRead order now Enhanced total (Some found, behind_packet now found) octets in
      and_spells (Part 12) (λ found more. P found (which_text ++ more)) (field 12 whole) (timed_behind frame interface now.moment) (part_spells 12)
      (λ head head_text p.
      let captured = number order 4 (drop 8 head) in
      fitting_spells (λ found more. P found (which_text ++ (head_text ++ more))) 32 captured (start + 20)
      (original_in frame now.moment (stamped frame interface head) interface.link captured)
      (λ few room.
      and_spells (Num order 4) (λ found more. P found (which_text ++ (head_text ++ more))) (field 4 (number order 4))
      (λ original. and (octets_in frame 32 captured) (λ octets. gives (packet now.moment (stamped frame interface head) interface.link original octets)))
      (num_spells order 4)
      (λ original original_text n.
      map_spells (OctetsRead 32 captured) (λ found more. P found (which_text ++ (head_text ++ (original_text ++ more)))) (octets_in frame 32 captured)
      (λ octets. packet now.moment (stamped frame interface head) interface.link original octets) (octets_spells 32 captured)
      (λ found octets o. record_found which original which_text head head_text original_text found octets interface w known p n few room o))))

  enhanced_spells : Spells (BodyRead order now Enhanced total) (body_in frame now Enhanced)
  enhanced_spells =
      let P : Packet → List ℕ → Type 0 = λ found octets. BodyRead order now Enhanced total (Some found, behind_packet now found) octets in
      map_spells P (BodyRead order now Enhanced total) (enhanced_in frame now) (λ found. (Some found, behind_packet now found))
      (and_spells (Num order 4) P (field 4 (number order 4)) (λ which. timed_in frame now.moment (slice_get now.interfaces which)) (num_spells order 4)
      (λ which which_text w. timed_spells which which_text (slice_get now.interfaces which) w refl))
      (λ found octets b. b)

  -- a simple packet

  short_found : (original : ℕ) (original_text found octets : List ℕ) (interface : Interface) → slice_get now.interfaces 0 ≡ Some interface
      → Num order 4 original original_text → cut_to interface.snap original ≤ longest_record → 16 + padded (cut_to interface.snap original) ≤ total
      → OctetsRead 16 (cut_to interface.snap original) found octets
      → BodyRead order now Simple total (
        Some (packet now.moment 0 interface.link original found),
        behind_packet now (packet now.moment 0 interface.link original found),
      ) (original_text ++ octets)
  short_found original original_text found octets interface known n few room o =
      let s : Short = record { original = original_text; octets = found; rest = o.rest } in
      let captured_is : cut_to interface.snap original ≡ cut_to interface.snap (number order 4 original_text) = ap (cut_to interface.snap) n.is in
      let more = padded_more (cut_to interface.snap original) in
      record {
        block = simple interface s;
        again = o.again;
        is =
            ap (λ l. original_text ++ l) (o.is ∙ sym (append_assoc found o.rest o.again)) ∙ sym (append_assoc original_text (found ++ o.rest) o.again);
        block_is = λ outer plain. (
          plain,
          record {
            original = n.long;
            interface_is = known;
            holds = record {
              captured_is = o.long ∙ captured_is;
              most = subst (λ k. k ≤ longest_record) captured_is few;
              padding = subst (λ k. padded k ≤ k + length o.rest) captured_is (omega (arith, o.rest_size, room, more));
            };
          },
        );
        size_is =
            omega (arith, length-append original_text (found ++ o.rest), length-append found o.rest, n.long, o.long, o.rest_size, room, more);
        closing = o.closing;
        value_is =
            let same : packet now.moment 0 interface.link original found ≡ short_of order now.moment interface s =
            λ i. packet now.moment 0 interface.link (n.is i) found in
            ap (λ (x : Packet). (Some x, behind_packet now x)) same;
      }

  short_spells : (interface : Option Interface) → slice_get now.interfaces 0 ≡ interface
      → Spells (λ found octets. BodyRead order now Simple total (Some found, behind_packet now found) octets) (simple_by frame now.moment interface)
  short_spells None known = fails_spells (λ found octets. BodyRead order now Simple total (Some found, behind_packet now found) octets) WrongInterface start
  short_spells (Some interface) known =
      let P : Packet → List ℕ → Type 0 = λ found octets. BodyRead order now Simple total (Some found, behind_packet now found) octets in
      and_spells (Num order 4) P (field 4 (number order 4)) (simple_behind frame interface now.moment) (num_spells order 4)
      (λ original original_text n.
      let captured = cut_to interface.snap original in
      fitting_spells (λ found more. P found (original_text ++ more)) 16 captured (start + 8)
      (and (octets_in frame 16 captured) (λ octets. gives (packet now.moment 0 interface.link original octets)))
      (λ few room.
      map_spells (OctetsRead 16 captured) (λ found more. P found (original_text ++ more)) (octets_in frame 16 captured)
      (λ octets. packet now.moment 0 interface.link original octets) (octets_spells 16 captured)
      (λ found octets o. short_found original original_text found octets interface known n few room o)))

  simple_spells : Spells (BodyRead order now Simple total) (body_in frame now Simple)
  simple_spells =
      let P : Packet → List ℕ → Type 0 = λ found octets. BodyRead order now Simple total (Some found, behind_packet now found) octets in
      map_spells P (BodyRead order now Simple total) (simple_in frame now) (λ found. (Some found, behind_packet now found))
      (short_spells (slice_get now.interfaces 0) refl) (λ found octets b. b)

  -- a block that isn't read

  other_spells : 12 ≤ total → Spells (BodyRead order now Other total) (body_in frame now Other)
  other_spells least =
      map_spells (λ found octets. Ending order total (total - 12) octets) (BodyRead order now Other total) (end_in frame (total - 12)) (λ _. (None, now))
      (end_spells frame (total - 12))
      (λ found octets e. record {
        block = skipped e.rest;
        again = e.again;
        is = e.is;
        block_is = λ outer plain. plain;
        size_is = omega (arith, e.long, least);
        closing = e.closing;
        value_is = refl;
      })

  body_spells : (kind : Kind) → least_of kind ≤ total → Spells (BodyRead order now kind total) (body_in frame now kind)
  body_spells Described least = described_spells least
  body_spells Enhanced least = enhanced_spells
  body_spells Simple least = simple_spells
  body_spells Other least = other_spells least

-- blocks

abbrev Given : Stands → Option Packet × Stands → List ℕ → Type 0
Given now = IsSpelled block_in block_text Fits block_gives now

plain_found : (order : Endian) (now : Stands) (total : ℕ) (value : Option Packet × Stands) (kind total_text octets : List ℕ)
    → length kind ≡ 4 → (big_number 4 kind == section_header) ≡ false → now.order ≡ Some order → Num order 4 total total_text → total % 4 ≡ 0
    → BodyRead order now (kind_of (number order 4 kind)) total value octets → Given now value (kind ++ (total_text ++ octets))
plain_found order now total value kind total_text octets long other known n groups b =
    let outer : Outer = record { kind = kind; total = total_text; again = b.again } in
    record {
      part = record { order = order; outer = outer; block = b.block };
      fits = record {
        framed_is = record {
          kind = long;
          total = n.long;
          again = b.closing.long;
          total_is = sym n.is ∙ b.size_is;
          again_is = b.closing.is ∙ b.size_is;
          groups = ap (λ k. k % 4) (sym b.size_is) ∙ groups;
        };
        block_is = b.block_is outer (record { other = other; order_is = known; kind_is = refl });
      };
      text_is = ap (λ l. kind ++ (total_text ++ l)) b.is;
      value_is = b.value_is;
    }

plain_spells : (start : ℕ) (now : Stands) (order : Option Endian) (kind : List ℕ) → now.order ≡ order → length kind ≡ 4
    → (big_number 4 kind == section_header) ≡ false
    → Spells (λ value more. Given now value (kind ++ more)) (plain_in start now order kind)
plain_spells start now None kind known long other = fails_spells (λ value more. Given now value (kind ++ more)) Magic start
plain_spells start now (Some order) kind known long other =
    let which = kind_of (number order 4 kind) in
    and_spells (Num order 4) (λ value more. Given now value (kind ++ more)) (field 4 (number order 4)) (total_behind start order now which) (num_spells order 4)
    (λ total total_text n.
    needs_spells (λ value more. Given now value (kind ++ (total_text ++ more))) (allows (least_of which) total) Length (start + 4)
    (body_in (frame_of order start total) now which)
    (λ test.
    let both = and_parts (nat_le (least_of which) total) (total % 4 == 0) test in
    let first = both.0 in
    let second = both.1 in
    let groups : total % 4 ≡ 0 = grind (arith, nat_tests, second) in
    weaker_spells (BodyRead order now which total) (λ value more. Given now value (kind ++ (total_text ++ more)))
    (body_in (frame_of order start total) now which)
    (λ value octets b. plain_found order now total value kind total_text octets long other known n groups b)
    (body_spells order now start total which (grind (arith, nat_tests, first)))))

section_given : (now : Stands) (kind total more : List ℕ) (order : Endian) → length kind ≡ 4 → big_number 4 kind ≡ section_header → length total ≡ 4
    → SectionRead total order more → Given now (None, opened order now.moment) (kind ++ (total ++ more))
section_given now kind total more order long is size s = record {
  part = record { order = order; outer = record { kind = kind; total = total; again = s.again }; block = section s.body };
  fits = record {
    framed_is = record {
      kind = long;
      total = size;
      again = s.closing.long;
      total_is = s.size_is;
      again_is = s.closing.is ∙ s.size_is;
      groups = ap (λ k. k % 4) (sym s.size_is) ∙ s.groups;
    };
    block_is = (is, s.body_is);
  };
  text_is = ap (λ l. kind ++ (total ++ l)) s.is;
  value_is = refl;
}

kind_spells : (now : Stands) (start : ℕ) (kind : List ℕ) → length kind ≡ 4 → Spells (λ value more. Given now value (kind ++ more)) (kind_behind now start kind)
kind_spells now start kind long = by (big_number 4 kind == section_header) refl
  where
    by : (test : Bool) → (big_number 4 kind == section_header) ≡ test
        → Spells (λ value more. Given now value (kind ++ more)) (if test then and (section_in start) (λ order. gives (None, opened order now.moment))
        else plain_in start now now.order kind)
    by true t =
        let is : big_number 4 kind ≡ section_header = grind (arith, nat_tests, t) in
        map_spells SectionAt (λ value more. Given now value (kind ++ more)) (section_in start) (λ order. (None, opened order now.moment)) (section_spells start)
        (λ order octets s. subst (λ l. Given now (None, opened order now.moment) (kind ++ l)) (sym s.2) (section_given now kind s.0 s.1 order long is s.3 s.4))
    by false t = plain_spells start now now.order kind refl long t

pub block_spells : (now : Stands) → Spells (Given now) (block_in now)
block_spells now place =
    and_spells (Part 4) (Given now) (field 4 whole) (kind_behind now place) (part_spells 4)
    (λ kind part p.
    subst (λ (l : List ℕ). Spells (λ value more. Given now value (part ++ more)) (kind_behind now place l)) (sym p.is) (kind_spells now place part p.long))
    place

block_some : (now : Stands) (written : Written) → Fits now written → 0 < length (block_text written)
block_some now written fits =
    let outer = written.outer in
    omega (arith, length-append outer.kind (outer.total ++ (body_text written.block ++ outer.again)), fits.framed_is.kind)

pub block_takes : (now : Stands) → Takes 1 (block_in now)
block_takes now = spelled_takes block_in block_text Fits block_gives block_some block_spells now
