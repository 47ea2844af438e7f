-- What a header says, exactly where its octets are its text.
use Rattle.fs_pcap.proofs.Words.{◌≡◌, ℕ, List, [], ◌++◌, Option, Some, None, Bool, true, false, ◌<◌, ◌≤◌, ◌%◌, ◌^◌, ◌==◌, not, length, take, drop}
use Rattle.fs_pcap.proofs.Words.{refl, ap, sym, subst, ◌∙◌, arith, append-nil, length-append, take-append-drop, eqb-true, nat_lt, if◌then◌else◌}
use Rattle.fs_pcap.proofs.Words.{drop-drop, drop_at, length-drop, length-take, nat_tests, common_steps, IsOctets, octets_drop, Whole, Wrong, Partial}
use Rattle.fs_pcap.proofs.Words.{header_of, link_field, ordered_header, HeaderWords, IsHeaderOf, header_text, octets_of, number, order_of}
use Rattle.fs_pcap.proofs.Words.{CaptureReason, Magic, Version, Heading, Link, Endian, Big, Little}
use Rattle.fs_pcap.specs.declared.fault.CaptureReason.TheVariants.{Link as UnreadLink}
use Rattle.fs_pcap.specs.declared.order.Unit.{Unit as FractionUnit, TheVariants.{Microseconds, Nanoseconds}}
use Rattle.byteorder.specs.Endian.{big_bytes, big_number}
use Rattle.byteorder.specs.Numbers.{big_number-reads_back, length-bytes_high_first, length-bytes_low_first, little_number-reads_back}
use Rattle.fs_base.{proofs.{Digits.{big_below, big_written, little_below, little_written}, Bools.{true_of_not}}, specs.Link.{link_of}}
use Rattle.fs_input.specs.declared.head.Head.{Head}

-- numbers in either order

pub number_read : (order : Endian) (n x : ℕ) (rest : List ℕ) → x < 256 ^ n → number order n (octets_of order n x ++ rest) ≡ x
number_read Big n x rest small = big_number-reads_back n x rest small
number_read Little n x rest small = little_number-reads_back n x rest small

pub octets_count : (order : Endian) (n x : ℕ) → length (octets_of order n x) ≡ n
octets_count Big n x = length-bytes_high_first n x
octets_count Little n x = length-bytes_low_first 0 n x

number_front : (order : Endian) (n : ℕ) (octets : List ℕ) → n ≤ length octets → IsOctets octets
    → take n octets ≡ octets_of order n (number order n octets)
number_front Big n octets held are = big_written n octets held are
number_front Little n octets held are = little_written n octets held are

pub number_written : (order : Endian) (n : ℕ) (octets : List ℕ) → n ≤ length octets → IsOctets octets
    → octets ≡ octets_of order n (number order n octets) ++ drop n octets
number_written order n octets held are =
    sym (take-append-drop n octets) ∙ ap (λ front. front ++ drop n octets) (number_front order n octets held are)

pub number_below : (order : Endian) (n : ℕ) (octets : List ℕ) → IsOctets octets → number order n octets < 256 ^ n
number_below Big n octets are = big_below n octets are
number_below Little n octets are = little_below n octets are

-- the fields of a whole header
pub record IsHeading (header : List ℕ) (heading : Heading) : Type 0 where
  pub size : 24 ≤ length header
  pub order_is : order_of (big_number 4 header) ≡ Some (heading.order, heading.unit)
  pub major : number heading.order 2 (drop 4 header) ≡ 2
  pub minor : number heading.order 2 (drop 6 header) ≡ 4
  pub link_is : link_of (number heading.order 4 (drop 20 header) % 65536) ≡ Some heading.link

link_told : (order : Endian) (unit : FractionUnit) (word : ℕ) (found : Option Link) (heading : Heading) (n : ℕ) → link_of (word % 65536) ≡ found
    → elim found as (λ _. Head Heading CaptureReason) [ None ↦ Wrong UnreadLink 20 | Some link ↦ Whole (record { order = order; unit = unit; link = link }) 0 ]
    ≡ Whole heading n
    → (order ≡ heading.order) × (unit ≡ heading.unit) × (link_of (word % 65536) ≡ Some heading.link)
link_told order unit word None heading n l h = absurd cc
link_told order unit word (Some link) heading n l h =
    let same : record { order = order; unit = unit; link = link } ≡ heading = cc in
    (ap (λ (z : Heading). z.order) same, ap (λ (z : Heading). z.unit) same, l ∙ ap (λ (z : Heading). Some z.link) same)

ordered_told : (order : Endian) (unit : FractionUnit) (header : List ℕ) (heading : Heading) (n : ℕ)
    → order_of (big_number 4 header) ≡ Some (order, unit) → ordered_header order unit header ≡ Whole heading n → IsHeading header heading
ordered_told order unit header heading n known h =
    by (nat_lt (length header) 6) (not (number order 2 (drop 4 header) == 2)) (nat_lt (length header) 8)
    (not (number order 2 (drop 6 header) == 4)) (nat_lt (length header) 24) refl refl refl h
  where
    by : (a b c d e : Bool) → not (number order 2 (drop 4 header) == 2) ≡ b → not (number order 2 (drop 6 header) == 4) ≡ d
        → nat_lt (length header) 24 ≡ e
        → (if a then Partial
        else if b then Wrong Version 4
        else if c then Partial
        else if d then Wrong Version 4
        else if e then Partial
        else link_field order unit (number order 4 (drop 20 header)))
        ≡ Whole heading n
        → IsHeading header heading
    by true b c d e v w s f = absurd cc
    by false true c d e v w s f = absurd cc
    by false false true d e v w s f = absurd cc
    by false false false true e v w s f = absurd cc
    by false false false false true v w s f = absurd cc
    by false false false false false v w s f =
        let word = number order 4 (drop 20 header) in
        let link = link_told order unit word (link_of (word % 65536)) heading n refl f in
        let major : number order 2 (drop 4 header) ≡ 2 = eqb-true (number order 2 (drop 4 header)) 2 (true_of_not _ v) in
        let minor : number order 2 (drop 6 header) ≡ 4 = eqb-true (number order 2 (drop 6 header)) 4 (true_of_not _ w) in
        record {
          size = (grind (arith, nat_tests));
          order_is = known ∙ (λ i. Some (link.0 i, link.1 i));
          major = subst (λ (o : Endian). number o 2 (drop 4 header) ≡ 2) link.0 major;
          minor = subst (λ (o : Endian). number o 2 (drop 6 header) ≡ 4) link.0 minor;
          link_is = subst (λ (o : Endian). link_of (number o 4 (drop 20 header) % 65536) ≡ Some heading.link) link.0 link.2;
        }

pub heading_told : (header : List ℕ) (heading : Heading) (n : ℕ) → header_of header ≡ Whole heading n → IsHeading header heading
heading_told header heading n h = by (nat_lt (length header) 4) (order_of (big_number 4 header)) refl h
  where
    by : (short : Bool) (found : Option (Endian × FractionUnit)) → order_of (big_number 4 header) ≡ found
        → (if short then Partial
        else elim found as (λ _. Head Heading CaptureReason) [ None ↦ Wrong Magic 0 | Some told ↦ ordered_header told.0 told.1 header ])
        ≡ Whole heading n
        → IsHeading header heading
    by true found o e = absurd cc
    by false None o e = absurd cc
    by false (Some told) o e = ordered_told told.0 told.1 header heading n o e

link_known : (order : Endian) (unit : FractionUnit) (word : ℕ) (link : Link) → link_of (word % 65536) ≡ Some link
    → link_field order unit word ≡ Whole (record { order = order; unit = unit; link = link }) 0
link_known order unit word link h =
    ap
    (λ found.
    elim found as (λ _. Head Heading CaptureReason) [
      | None ↦ Wrong UnreadLink 20
      | Some link ↦ Whole (record { order = order; unit = unit; link = link }) 0
    ])
    h

ordered_known : (order : Endian) (unit : FractionUnit) (header : List ℕ) (link : Link) → length header ≡ 24 → number order 2 (drop 4 header) ≡ 2
    → number order 2 (drop 6 header) ≡ 4 → link_of (number order 4 (drop 20 header) % 65536) ≡ Some link
    → ordered_header order unit header ≡ Whole (record { order = order; unit = unit; link = link }) 0
ordered_known order unit header link size major minor known =
    (λ i. if nat_lt (size i) 6 then Partial
    else if not (major i == 2) then Wrong Version 4
    else if nat_lt (size i) 8 then Partial
    else if not (minor i == 4) then Wrong Version 4
    else if nat_lt (size i) 24 then Partial
    else link_field order unit (number order 4 (drop 20 header)))
    ∙ link_known order unit (number order 4 (drop 20 header)) link known

pub heading_known : (header : List ℕ) (heading : Heading) → length header ≡ 24 → IsHeading header heading
    → header_of header ≡ Whole heading 0
heading_known header heading size h =
    (λ i. if nat_lt (size i) 4 then Partial
    else elim (h.order_is i) as (λ _. Head Heading CaptureReason) [
      | None ↦ Wrong Magic 0
      | Some told ↦ ordered_header told.0 told.1 header
    ])
    ∙ ordered_known heading.order heading.unit header heading.link size h.major h.minor h.link_is

-- a header that is read was written so
pub heading_written : (header : List ℕ) (heading : Heading) → length header ≡ 24 → IsOctets header → IsHeading header heading
    → (words : HeaderWords) × (header ≡ header_text heading.order words) × IsHeaderOf heading.order heading.unit heading.link words
heading_written header heading size are h =
    let order = heading.order in
    let words : HeaderWords = record {
      magic = big_number 4 header;
      unread = take 12 (drop 8 header);
      link_word = number order 4 (drop 20 header);
    } in
    let first : header ≡ big_bytes 4 words.magic ++ drop 4 header = number_written Big 4 header (omega arith) are in
    let major : drop 4 header ≡ octets_of order 2 2 ++ drop 6 header =
    number_written order 2 (drop 4 header) (omega (arith, length-drop 4 header)) (octets_drop 4 header are)
    ∙ ap (λ n. octets_of order 2 n ++ drop 2 (drop 4 header)) h.major
    ∙ ap (λ rest. octets_of order 2 2 ++ rest) (drop-drop 2 4 header) in
    let minor : drop 6 header ≡ octets_of order 2 4 ++ drop 8 header =
    number_written order 2 (drop 6 header) (omega (arith, length-drop 6 header)) (octets_drop 6 header are)
    ∙ ap (λ n. octets_of order 2 n ++ drop 2 (drop 6 header)) h.minor
    ∙ ap (λ rest. octets_of order 2 4 ++ rest) (drop-drop 2 6 header) in
    let unread : drop 8 header ≡ words.unread ++ drop 20 header =
    sym (take-append-drop 12 (drop 8 header)) ∙ ap (λ rest. words.unread ++ rest) (drop-drop 12 8 header) in
    let none : drop 4 (drop 20 header) ≡ [] =
    let gone : length (drop 4 (drop 20 header)) ≡ 0 = omega (arith, length-drop 4 (drop 20 header), length-drop 20 header) in
    grind (arith, common_steps) in
    let last : drop 20 header ≡ octets_of order 4 words.link_word =
    number_written order 4 (drop 20 header) (omega (arith, length-drop 20 header)) (octets_drop 20 header are)
    ∙ ap (λ rest. octets_of order 4 words.link_word ++ rest) none
    ∙ append-nil (octets_of order 4 words.link_word) in (
      words,
      (first
          ∙ ap (λ rest. big_bytes 4 words.magic ++ rest)
          (major
          ∙ ap (λ rest. octets_of order 2 2 ++ rest)
          (minor ∙ ap (λ rest. octets_of order 2 4 ++ rest) (unread ∙ ap (λ rest. words.unread ++ rest) last)))),
      record {
        told = h.order_is;
        unread_size = (omega (arith, length-take 12 (drop 8 header), length-drop 8 header));
        room = number_below order 4 (drop 20 header) (octets_drop 20 header are);
        link_is = h.link_is;
      },
    )

-- what is written of a header is read back

magic_room : (magic : ℕ) (told : Endian × FractionUnit) → order_of magic ≡ Some told → magic < 2 ^ 32
magic_room magic told h =
    by (magic == 0xa1b2c3d4) (magic == 0xa1b23c4d) (magic == 0xd4c3b2a1) (magic == 0x4d3cb2a1)
    (eqb-true magic 0xa1b2c3d4) (eqb-true magic 0xa1b23c4d) (eqb-true magic 0xd4c3b2a1) (eqb-true magic 0x4d3cb2a1) h
  where
    by : (a b c d : Bool) → (a ≡ true → magic ≡ 0xa1b2c3d4) → (b ≡ true → magic ≡ 0xa1b23c4d) → (c ≡ true → magic ≡ 0xd4c3b2a1)
        → (d ≡ true → magic ≡ 0x4d3cb2a1)
        → (if a then Some (Big, Microseconds)
        else if b then Some (Big, Nanoseconds)
        else if c then Some (Little, Microseconds)
        else if d then Some (Little, Nanoseconds)
        else None)
        ≡ Some told
        → magic < 2 ^ 32
    by true b c d p q r s e = omega (arith, p refl)
    by false true c d p q r s e = omega (arith, q refl)
    by false false true d p q r s e = omega (arith, r refl)
    by false false false true p q r s e = omega (arith, s refl)
    by false false false false p q r s e = absurd cc

-- where the parts of a header stand
record Parted (header first major minor unread last : List ℕ) : Type 0 where
  pub size : length header ≡ 24
  pub behind_first : drop 4 header ≡ major ++ (minor ++ (unread ++ last))
  pub behind_major : drop 6 header ≡ minor ++ (unread ++ last)
  pub behind_unread : drop 20 header ≡ last

parted : (first major minor unread last : List ℕ) → length first ≡ 4 → length major ≡ 2 → length minor ≡ 2 → length unread ≡ 12
    → length last ≡ 4
    → Parted (first ++ (major ++ (minor ++ (unread ++ last)))) first major minor unread last
parted first major minor unread last a b c d e =
    let header = first ++ (major ++ (minor ++ (unread ++ last))) in
    let one : drop 4 header ≡ major ++ (minor ++ (unread ++ last)) = drop_at first (major ++ (minor ++ (unread ++ last))) 4 a in
    let two : drop 6 header ≡ minor ++ (unread ++ last) =
    sym (drop-drop 2 4 header) ∙ ap (drop 2) one ∙ drop_at major (minor ++ (unread ++ last)) 2 b in
    let three : drop 8 header ≡ unread ++ last = sym (drop-drop 2 6 header) ∙ ap (drop 2) two ∙ drop_at minor (unread ++ last) 2 c in
    record {
      size = (omega (
        arith,
        length-append first (major ++ (minor ++ (unread ++ last))),
        length-append major (minor ++ (unread ++ last)),
        length-append minor (unread ++ last),
        length-append unread last,
      ));
      behind_first = one;
      behind_major = two;
      behind_unread = sym (drop-drop 12 8 header) ∙ ap (drop 12) three ∙ drop_at unread last 12 d;
    }

header_parted : (order : Endian) (words : HeaderWords) → length words.unread ≡ 12
    → Parted (header_text order words) (big_bytes 4 words.magic) (octets_of order 2 2) (octets_of order 2 4) words.unread
    (octets_of order 4 words.link_word)
header_parted order words twelve =
    parted (big_bytes 4 words.magic) (octets_of order 2 2) (octets_of order 2 4) words.unread (octets_of order 4 words.link_word)
    (octets_count Big 4 words.magic) (octets_count order 2 2) (octets_count order 2 4) twelve (octets_count order 4 words.link_word)

pub header_size : (order : Endian) (unit : FractionUnit) (link : Link) (words : HeaderWords) → IsHeaderOf order unit link words
    → length (header_text order words) ≡ 24
header_size order unit link words h = let p = header_parted order words h.unread_size in p.size

last_read : (order : Endian) (x : ℕ) (octets : List ℕ) → octets ≡ octets_of order 4 x → x < 256 ^ 4 → number order 4 octets ≡ x
last_read order x octets same small =
    ap (number order 4) (same ∙ sym (append-nil (octets_of order 4 x))) ∙ number_read order 4 x [] small

pub header_read : (order : Endian) (unit : FractionUnit) (link : Link) (words : HeaderWords) → IsHeaderOf order unit link words
    → IsHeading (header_text order words) (record { order = order; unit = unit; link = link })
header_read order unit link words h =
    let p = header_parted order words h.unread_size in
    let magic : big_number 4 (header_text order words) ≡ words.magic =
    number_read Big 4 words.magic (octets_of order 2 2 ++ (octets_of order 2 4 ++ (words.unread ++ octets_of order 4 words.link_word)))
    (magic_room words.magic (order, unit) h.told) in
    let word : number order 4 (drop 20 (header_text order words)) ≡ words.link_word =
    last_read order words.link_word (drop 20 (header_text order words)) p.behind_unread h.room in
    record {
      size = (omega (arith, p.size));
      order_is = ap order_of magic ∙ h.told;
      major =
          ap (number order 2) p.behind_first
          ∙ number_read order 2 2 (octets_of order 2 4 ++ (words.unread ++ octets_of order 4 words.link_word)) (omega arith);
      minor = ap (number order 2) p.behind_major ∙ number_read order 2 4 (words.unread ++ octets_of order 4 words.link_word) (omega arith);
      link_is = ap (λ n. link_of (n % 65536)) word ∙ h.link_is;
    }
