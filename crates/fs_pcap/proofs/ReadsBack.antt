-- A capture is done exactly where it is the text of its packets, behind a header.
use Rattle.fs_pcap.proofs.Words.{◌≡◌, ℕ, List, [], ◌++◌, Some, None, Result, Ok, Err, ◌<◌, ◌≤◌, length, take, drop, refl, ap, sym, subst, ◌∙◌, arith}
use Rattle.fs_pcap.proofs.Words.{length-append, take-append-drop, nat_le, flat_map, drop_at, length-drop, length-take, take-take, take_at, IsOctets}
use Rattle.fs_pcap.proofs.Words.{octets_drop, octets_take, opened_by, End, done, Partial, opened_whole, HasHead, Captured, Recorded, capture_of}
use Rattle.fs_pcap.proofs.Words.{heading_of, packets_to_come, recorded, records, header_of, Fits, HeaderWords, IsCaptureOf, IsHeaderOf, ReadsBack}
use Rattle.fs_pcap.proofs.Words.{after, header_text, packet_text, stands, CaptureReason, Cut, Context, Heading, Link, Endian, Big, Little}
use Rattle.fs_pcap.proofs.Headings.{IsHeading, header_read, header_size, heading_known, heading_told, heading_written}
use Rattle.fs_pcap.proofs.Packets.{packet_read, packet_spelled, texts}
use Rattle.fs_pcap.specs.declared.order.Unit.{Unit as FractionUnit}
use Rattle.fs_input.proofs.Done.{all_taken, done_text, text_done}

abbrev behind_opening : ℕ → List ℕ → Result Heading (End CaptureReason) → Recorded
behind_opening limit body opened =
    elim opened as (λ _. Recorded) [
      | Ok heading ↦ recorded heading.link (packets_to_come heading limit 24 0 body)
      | Err end ↦ record { link = None; packets = []; end = end }
    ]

has_head : HasHead records
has_head now = omega arith

empty_head : (now : Context) → records.head_of now [] ≡ Partial
empty_head now = by now.order
  where
    by : (order : Endian) → records.head_of (stands order now.unit now.moment) [] ≡ Partial
    by Big = refl
    by Little = refl

abbrev headed : Endian → FractionUnit → Link → Heading
headed order unit link = record { order = order; unit = unit; link = link }

-- a header opens a capture, whatever follows below the limit
header_opens : (order : Endian) (unit : FractionUnit) (link : Link) (words : HeaderWords) (limit : ℕ) (body : List ℕ)
    → IsHeaderOf order unit link words → length (header_text order words ++ body) < limit
    → heading_of limit (header_text order words ++ body) ≡ Ok (headed order unit link)
header_opens order unit link words limit body h below =
    let content = header_text order words ++ body in
    let size : length (header_text order words) ≡ 24 = header_size order unit link words h in
    let front : take 24 (take limit content) ≡ header_text order words =
    ap (take 24) (all_taken limit content (omega arith)) ∙ take_at (header_text order words) body 24 size in
    ap (λ header. opened_by Cut (nat_le limit (length content)) (length header) (header_of header)) front
    ∙ ap (opened_by Cut (nat_le limit (length content)) (length (header_text order words)))
    (heading_known (header_text order words) (headed order unit link) size (header_read order unit link words h))

abbrev text_at : Context → Captured → List ℕ
text_at now packet = packet_text now.order packet

text_read : (limit : ℕ) (content : List ℕ) (link : Link) (packets : List Captured) → IsCaptureOf limit content link packets
    → capture_of limit content ≡ record { link = Some link; packets = packets; end = done }
text_read limit content link packets h =
    let header = header_text h.order h.words in
    let body = flat_map (packet_text h.order) packets in
    let size : length header ≡ 24 = header_size h.order h.unit link h.words h.header in
    let below : length (header ++ body) < limit = subst (λ octets. length octets < limit) h.spelled h.below in
    ap (capture_of limit) h.spelled
    ∙ ap (behind_opening limit (drop 24 (header ++ body))) (header_opens h.order h.unit link h.words limit body h.header below)
    ∙ ap (λ rest. recorded link (packets_to_come (headed h.order h.unit link) limit 24 0 rest)) (drop_at header body 24 size)
    ∙ ap (recorded link)
    (text_done records text_at Fits after has_head empty_head packet_read limit 24 (stands h.order h.unit 0) body packets
    (record {
      spelled = sym (texts h.order h.unit 0 packets);
      fit = h.fit;
      below = (omega (arith, length-append header body, size, below));
    }))

-- an opened capture has a whole header at its front
header_stands : (limit : ℕ) (content : List ℕ) (heading : Heading) → heading_of limit content ≡ Ok heading
    → (length (take 24 content) ≡ 24) × (24 ≤ length content) × IsHeading (take 24 content) heading
header_stands limit content heading h =
    let front = take 24 (take limit content) in
    let said = opened_whole Cut (nat_le limit (length content)) (length front) (header_of front) heading h in
    let is : IsHeading front heading = heading_told front heading said.0 said.1 in
    let room : 24 ≤ limit = omega (arith, is.size, length-take 24 (take limit content), length-take limit content) in
    let same : front ≡ take 24 content = take-take 24 limit content room in
    let held : 24 ≤ length content = omega (arith, is.size, length-take 24 (take limit content), length-take limit content) in
    (omega (arith, length-take 24 content), held, subst (λ octets. IsHeading octets heading) same is)

both : (before : List Captured × End CaptureReason) (packets : List Captured) (end : End CaptureReason) → before.0 ≡ packets → before.1 ≡ end
    → before ≡ (packets, end)
both before packets end p e = λ i. (p i, e i)

read_text : (limit : ℕ) (content : List ℕ) (link : Link) (packets : List Captured) → IsOctets content
    → (opened : Result Heading (End CaptureReason)) → heading_of limit content ≡ opened
    → behind_opening limit (drop 24 content) opened ≡ record { link = Some link; packets = packets; end = done }
    → IsCaptureOf limit content link packets
read_text limit content link packets are (Err end) o h =
    let none : None ≡ Some link = ap (λ (r : Recorded). r.link) h in absurd cc
read_text limit content link packets are (Ok heading) o h =
    let body = drop 24 content in
    let stands_so = header_stands limit content heading o in
    let written = heading_written (take 24 content) heading stands_so.0 (octets_take 24 content are) stands_so.2 in
    let linked : Some heading.link ≡ Some link = ap (λ (r : Recorded). r.link) h in
    let same : heading.link ≡ link = cc in
    let text = done_text records text_at Fits after has_head packet_spelled limit 24 (stands heading.order heading.unit 0) body packets
    (octets_drop 24 content are)
    (both (packets_to_come heading limit 24 0 body) packets done (ap (λ (r : Recorded). r.packets) h) (ap (λ (r : Recorded). r.end) h)) in
    record {
      order = heading.order;
      unit = heading.unit;
      words = written.0;
      header = subst (λ (l : Link). IsHeaderOf heading.order heading.unit l written.0) same written.2;
      spelled =
          sym (take-append-drop 24 content) ∙ ap (λ front. front ++ body) written.1
          ∙ ap (λ rest. header_text heading.order written.0 ++ rest) (text.spelled ∙ texts heading.order heading.unit 0 packets);
      fit = text.fit;
      below = (omega (arith, stands_so.1, length-drop 24 content, text.below));
    }

pub reads_back : ReadsBack
reads_back limit content link packets are = (
  read_text limit content link packets are (heading_of limit content) refl,
  text_read limit content link packets,
)
