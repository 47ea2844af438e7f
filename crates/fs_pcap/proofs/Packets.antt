-- What a record says, exactly where its octets are its packet's text.
use Rattle.fs_pcap.proofs.Words.{◌≡◌, ℕ, List, [], ◌∷◌, ◌++◌, Bool, true, false, ◌<◌, ◌≤◌, ◌+◌, ◌^◌, length, take, drop, refl, ap, sym, subst, ◌∙◌}
use Rattle.fs_pcap.proofs.Words.{arith, append-nil, append_assoc, length-append, take-append-drop, flat_map, max, nat_le, nat_lt, if◌then◌else◌}
use Rattle.fs_pcap.proofs.Words.{drop-drop, drop_at, length-drop, length-take, take_at, nat_tests, common_steps, IsOctets, octets_drop, octets_take}
use Rattle.fs_pcap.proofs.Words.{first_record, Whole, Wrong, Partial, record_found, Captured, packet_of, records, Fits, after, octets_of, packet_text}
use Rattle.fs_pcap.proofs.Words.{stands, number, time_of, RecordTooLong, Context, Endian}
use Rattle.fs_pcap.proofs.Headings.{number_below, number_read, number_written, octets_count}
use Rattle.fs_pcap.specs.{Head.{head_of, said_in}, declared.{capture.Caught.{Caught}, order.Unit.{Unit as FractionUnit}}}
use Rattle.fs_input.specs.Parts.{At, ReadsText, SpellsText, text_from}

-- the fields of a whole head
record IsHeadOf (now : Context) (head : List ℕ) (said : Caught) (size : ℕ) : Type 0 where
  pub said_is : said_in now head ≡ said
  pub size_is : number now.order 4 (drop 8 head) ≡ size
  pub small : size ≤ 262144

head_told : (now : Context) (head : List ℕ) (said : Caught) (size : ℕ) → head_of now head ≡ Whole said size → IsHeadOf now head said size
head_told now head said size h =
    by (nat_lt (length head) 12) (nat_lt 262144 (number now.order 4 (drop 8 head))) (nat_lt (length head) 16) refl h
  where
    by : (a b c : Bool) → nat_lt 262144 (number now.order 4 (drop 8 head)) ≡ b
        → (if a then Partial
        else if b then Wrong RecordTooLong 8
        else if c then Partial
        else Whole (said_in now head) (number now.order 4 (drop 8 head)))
        ≡ Whole said size
        → IsHeadOf now head said size
    by true b c t e = absurd cc
    by false true c t e = absurd cc
    by false false true t e = absurd cc
    by false false false t e =
        let same : number now.order 4 (drop 8 head) ≡ size = cc in
        let most : number now.order 4 (drop 8 head) ≤ 262144 = grind (arith, nat_tests) in
        record { said_is = (cc); size_is = same; small = (omega (arith, same, most)) }

head_known : (now : Context) (head : List ℕ) (said : Caught) (size : ℕ) → length head ≡ 16 → IsHeadOf now head said size
    → head_of now head ≡ Whole said size
head_known now head said size sixteen h =
    let small : size ≤ 262144 = h.small in
    let short : nat_lt 262144 size ≡ false = grind (arith, nat_tests) in
    rw (h.said_is, sixteen, h.size_is, short) refl

-- a head, written by its four numbers
head_written : (order : Endian) (head : List ℕ) → length head ≡ 16 → IsOctets head
    → head
    ≡ octets_of order 4 (number order 4 head)
    ++ (octets_of order 4 (number order 4 (drop 4 head))
    ++ (octets_of order 4 (number order 4 (drop 8 head)) ++ octets_of order 4 (number order 4 (drop 12 head))))
head_written order head size are =
    let seconds : head ≡ octets_of order 4 (number order 4 head) ++ drop 4 head = number_written order 4 head (omega arith) are in
    let fraction : drop 4 head ≡ octets_of order 4 (number order 4 (drop 4 head)) ++ drop 8 head =
    number_written order 4 (drop 4 head) (omega (arith, length-drop 4 head)) (octets_drop 4 head are)
    ∙ ap (λ rest. octets_of order 4 (number order 4 (drop 4 head)) ++ rest) (drop-drop 4 4 head) in
    let captured : drop 8 head ≡ octets_of order 4 (number order 4 (drop 8 head)) ++ drop 12 head =
    number_written order 4 (drop 8 head) (omega (arith, length-drop 8 head)) (octets_drop 8 head are)
    ∙ ap (λ rest. octets_of order 4 (number order 4 (drop 8 head)) ++ rest) (drop-drop 4 8 head) in
    let none : drop 4 (drop 12 head) ≡ [] =
    let gone : length (drop 4 (drop 12 head)) ≡ 0 = omega (arith, length-drop 4 (drop 12 head), length-drop 12 head) in
    grind (arith, common_steps) in
    let original : drop 12 head ≡ octets_of order 4 (number order 4 (drop 12 head)) =
    number_written order 4 (drop 12 head) (omega (arith, length-drop 12 head)) (octets_drop 12 head are)
    ∙ ap (λ rest. octets_of order 4 (number order 4 (drop 12 head)) ++ rest) none
    ∙ append-nil (octets_of order 4 (number order 4 (drop 12 head))) in
    seconds
    ∙ ap (λ rest. octets_of order 4 (number order 4 head) ++ rest)
    (fraction
    ∙ ap (λ rest. octets_of order 4 (number order 4 (drop 4 head)) ++ rest)
    (captured ∙ ap (λ rest. octets_of order 4 (number order 4 (drop 8 head)) ++ rest) original))

rejoined : (a b c d payload rest : List ℕ) → (a ++ (b ++ (c ++ d))) ++ (payload ++ rest) ≡ (a ++ (b ++ (c ++ (d ++ payload)))) ++ rest
rejoined a b c d payload rest = simp append_assoc refl

-- the text of a packet by what its head says
said_text : (order : Endian) (said : Caught) (size : ℕ) (payload : List ℕ) → length payload ≡ size
    → packet_text order (packet_of said payload)
    ≡ octets_of order 4 said.seconds
    ++ (octets_of order 4 said.fraction ++ (octets_of order 4 size ++ (octets_of order 4 said.original ++ payload)))
said_text order said size payload long =
    ap (λ n. octets_of order 4 said.seconds ++ (octets_of order 4 said.fraction ++ (octets_of order 4 n ++ (octets_of order 4 said.original ++ payload)))) long

pub packet_spelled : SpellsText (first_record records) (λ now packet. packet_text now.order packet) Fits after
packet_spelled now found are h =
    let one = record_found records now found h in
    let order = now.state.order in
    let octets = now.octets in
    let head = take 16 octets in
    let behind = drop 16 octets in
    let payload = take one.size behind in
    let told = head_told now.state head one.said one.size one.head in
    let held : 16 + one.size ≤ length octets = one.held in
    let sixteen : length head ≡ 16 = omega (arith, length-take 16 octets) in
    let long : length payload ≡ one.size = omega (arith, length-take one.size behind, length-drop 16 octets) in
    let said = said_in now.state head in
    let heads = head_written order head sixteen (octets_take 16 octets are) in
    let sized : number order 4 (drop 8 head) ≡ one.size = told.size_is in
    let text : octets ≡ packet_text order (packet_of said payload) ++ drop one.size behind =
    sym (take-append-drop 16 octets)
    ∙ ap (λ front. front ++ behind) heads
    ∙ ap (λ n. (octets_of order 4 said.seconds ++ (octets_of order 4 said.fraction ++ (octets_of order 4 n ++ octets_of order 4 said.original)))
    ++ behind) sized
    ∙ ap
    (λ b. (octets_of order 4 said.seconds ++ (octets_of order 4 said.fraction ++ (octets_of order 4 one.size ++ octets_of order 4 said.original))) ++ b)
    (sym (take-append-drop one.size behind))
    ∙ rejoined (octets_of order 4 said.seconds) (octets_of order 4 said.fraction) (octets_of order 4 one.size) (octets_of order 4 said.original)
    payload (drop one.size behind)
    ∙ ap (λ t. t ++ drop one.size behind) (sym (said_text order said one.size payload long)) in
    let item : packet_of said payload ≡ found.0 = ap (λ s. packet_of s payload) told.said_is ∙ one.item in
    let rest : drop one.size behind ≡ found.1.octets = drop-drop one.size 16 octets ∙ ap (λ (a : At Context). a.octets) one.behind in
    let fits : Fits now.state (packet_of said payload) = record {
      seconds = number_below order 4 head (octets_take 16 octets are);
      fraction = number_below order 4 (drop 4 head) (octets_drop 4 head (octets_take 16 octets are));
      original = number_below order 4 (drop 12 head) (octets_drop 12 head (octets_take 16 octets are));
      captured = (omega (arith, long, told.small));
      time_is = refl;
      moment_is = refl;
    } in
    let moved : stands order now.state.unit one.said.moment ≡ found.1.state = ap (λ (a : At Context). a.state) one.behind in (
      text ∙ ap (λ packet. packet_text order packet ++ drop one.size behind) item ∙ ap (λ more. packet_text order found.0 ++ more) rest,
      subst (Fits now.state) item fits,
      sym moved ∙ ap (λ (packet : Captured). stands order now.state.unit packet.moment) one.item,
    )

-- where the parts of a record stand
record Parted (octets a b c d payload rest : List ℕ) : Type 0 where
  pub head : take 16 octets ≡ a ++ (b ++ (c ++ d))
  pub behind : drop 16 octets ≡ payload ++ rest
  pub size : length octets ≡ 16 + (length payload + length rest)

parted : (a b c d payload rest : List ℕ) → length a ≡ 4 → length b ≡ 4 → length c ≡ 4 → length d ≡ 4
    → Parted ((a ++ (b ++ (c ++ (d ++ payload)))) ++ rest) a b c d payload rest
parted a b c d payload rest p q r s =
    let front = a ++ (b ++ (c ++ d)) in
    let sixteen : length front ≡ 16 = omega (arith, length-append a (b ++ (c ++ d)), length-append b (c ++ d), length-append c d) in
    let same : (a ++ (b ++ (c ++ (d ++ payload)))) ++ rest ≡ front ++ (payload ++ rest) = sym (rejoined a b c d payload rest) in
    record {
      head = ap (take 16) same ∙ take_at front (payload ++ rest) 16 sixteen;
      behind = ap (drop 16) same ∙ drop_at front (payload ++ rest) 16 sixteen;
      size = ap length same ∙ (omega (arith, length-append front (payload ++ rest), length-append payload rest));
    }

-- the four numbers of a head
numbers_read : (now : Context) (said : Caught) → said.seconds < 256 ^ 4 → said.fraction < 256 ^ 4 → said.taken ≤ 262144 → said.original < 256 ^ 4
    → said.time ≡ time_of now.unit said.seconds said.fraction → said.moment ≡ max now.moment said.time
    → (head : List ℕ)
    → head
    ≡ octets_of now.order 4 said.seconds
    ++ (octets_of now.order 4 said.fraction ++ (octets_of now.order 4 said.taken ++ octets_of now.order 4 said.original))
    → IsHeadOf now head said said.taken
numbers_read now said a b c d t m head is =
    let order = now.order in
    let captured = octets_of order 4 said.taken in
    let original = octets_of order 4 said.original in
    let one : number order 4 head ≡ said.seconds =
    ap (number order 4) is ∙ number_read order 4 said.seconds (octets_of order 4 said.fraction ++ (captured ++ original)) a in
    let second : drop 4 head ≡ octets_of order 4 said.fraction ++ (captured ++ original) =
    ap (drop 4) is ∙ drop_at (octets_of order 4 said.seconds) _ 4 (octets_count order 4 said.seconds) in
    let third : drop 8 head ≡ captured ++ original =
    sym (drop-drop 4 4 head) ∙ ap (drop 4) second ∙ drop_at (octets_of order 4 said.fraction) _ 4 (octets_count order 4 said.fraction) in
    let fourth : drop 12 head ≡ original =
    sym (drop-drop 4 8 head) ∙ ap (drop 4) third ∙ drop_at captured _ 4 (octets_count order 4 said.taken) in
    let two : number order 4 (drop 4 head) ≡ said.fraction =
    ap (number order 4) second ∙ number_read order 4 said.fraction (captured ++ original) b in
    let three : number order 4 (drop 8 head) ≡ said.taken =
    ap (number order 4) third ∙ number_read order 4 said.taken original (omega arith) in
    let four : number order 4 (drop 12 head) ≡ said.original =
    ap (number order 4) (fourth ∙ sym (append-nil original)) ∙ number_read order 4 said.original [] d in
    let five : time_of now.unit (number order 4 head) (number order 4 (drop 4 head)) ≡ said.time =
    (λ i. time_of now.unit (one i) (two i)) ∙ sym t in
    let six = ap (max now.moment) five ∙ sym m in
    record {
      said_is = λ i. record { seconds = one i; fraction = two i; taken = three i; original = four i; time = five i; moment = six i };
      size_is = three;
      small = c;
    }

pub packet_read : ReadsText (first_record records) (λ now packet. packet_text now.order packet) Fits after
packet_read now packet rest fits =
    let order = now.order in
    let octets = packet_text order packet ++ rest in
    let p =
    parted (octets_of order 4 packet.seconds) (octets_of order 4 packet.fraction) (octets_of order 4 (length packet.octets))
    (octets_of order 4 packet.original) packet.octets rest
    (octets_count order 4 packet.seconds) (octets_count order 4 packet.fraction) (octets_count order 4 (length packet.octets))
    (octets_count order 4 packet.original) in
    let said : Caught = record {
      seconds = packet.seconds;
      fraction = packet.fraction;
      taken = length packet.octets;
      original = packet.original;
      time = packet.time;
      moment = packet.moment;
    } in
    let sixteen : length (take 16 octets) ≡ 16 = omega (arith, length-take 16 octets, p.size) in
    let head : head_of now (take 16 octets) ≡ Whole said (length packet.octets) =
    head_known now (take 16 octets) said (length packet.octets) sixteen
    (numbers_read now said fits.seconds fits.fraction fits.captured fits.original fits.time_is fits.moment_is (take 16 octets) p.head) in
    let enough : nat_le (16 + length packet.octets) (length octets) ≡ true =
    let l : length octets ≡ 16 + (length packet.octets + length rest) = p.size in grind (arith, nat_tests) in
    let held : take (length packet.octets) (drop 16 octets) ≡ packet.octets =
    ap (take (length packet.octets)) p.behind ∙ take_at packet.octets rest (length packet.octets) refl in
    let behind : drop (16 + length packet.octets) octets ≡ rest =
    sym (drop-drop (length packet.octets) 16 octets) ∙ ap (drop (length packet.octets)) p.behind
    ∙ drop_at packet.octets rest (length packet.octets) refl in
    rw (head, enough, behind, held) refl

-- the order stays, so the text of the packets is that of each
pub texts : (order : Endian) (unit : FractionUnit) (moment : ℕ) (packets : List Captured)
    → text_from (λ (now : Context) (packet : Captured). packet_text now.order packet) after (stands order unit moment) packets
    ≡ flat_map (packet_text order) packets
texts order unit moment [] = refl
texts order unit moment (packet ∷ packets) = ap (λ more. packet_text order packet ++ more) (texts order unit packet.moment packets)
