-- Records as they stand in a dump: what is read of one, and that no other octets are.
use Rattle.fs_mrt.proofs.Words.{◌≡◌, ℕ, List, [], ◌++◌, Option, Some, None, Bool, true, false, ◌<◌, ◌≤◌, ◌+◌, ◌-◌, ◌*◌, ◌==◌, ◌&&◌, max, length, take}
use Rattle.fs_mrt.proofs.Words.{drop, refl, ap, sym, subst, ◌∙◌, arith, append-nil, append_assoc, length-append, if◌then◌else◌, nat_le, drop-drop}
use Rattle.fs_mrt.proofs.Words.{drop_at, length-drop, nat_tests, big_number, big_from-append, Address, Peer, Takes, whole, Scanner, and, field, gives}
use Rattle.fs_mrt.proofs.Words.{skips, ReadsBack, number_at, Said, Spoken, body_in, change, ends_in, ends_size, family_in, front_behind, front_in}
use Rattle.fs_mrt.proofs.Words.{front_of, asn_of, head_of, headed_in, heard_in, message, message_behind, message_in, moment_behind, record_behind}
use Rattle.fs_mrt.proofs.Words.{record_in, said_at, said_in, spoken, states_behind, states_in, time_of, address_of, address_size, family_of}
use Rattle.fs_mrt.proofs.Words.{front_size, shape_of, states_size, Body, Entry, Header, IsBody, IsEntry, IsHeader, IsSaidBy, body_text, entry_gives}
use Rattle.fs_mrt.proofs.Words.{entry_text, entry_told, header_text, heard_as, peer_in, said_of, shape_in, told, unread, DumpReason, Cut, Length}
use Rattle.fs_mrt.proofs.Words.{Front, Head, Family}
use Rattle.fs_mrt.specs.declared.{fault.DumpReason.TheVariants.{Family as WrongFamily, Message as WrongMessage}, shape.Shape.{Shape as RecordShape}}
use Rattle.fs_base.proofs.Bools.{and_parts}
use Rattle.fs_input.proofs.Spelling.{Part, Reads, Spells, and_reads, and_spells, cut_at, fails_spells, field_reads, field_spells, gives_reads}
use Rattle.fs_input.proofs.Spelling.{gives_spells, map_reads, map_spells, needs_reads, needs_spells, part_spells, skips_reads, skips_spells}
use Rattle.fs_input.proofs.Written.{IsSpelled, spelled_takes, told_text}

-- messages and states

record SaidSpelled (is_change : Bool) (size : ℕ) (said : Said) (octets : List ℕ) : Type 0 where
  pub long : length octets ≡ size
  pub judged : (peer : ℕ) → IsSaidBy (Some peer) is_change octets
  pub is : said ≡ said_of is_change octets

states_spelled : (size : ℕ) (states rest : List ℕ) → 4 ≤ size → length states ≡ 4 → length rest ≡ size - 4
    → SaidSpelled true size (change (big_number 2 states) (big_number 2 (drop 2 states))) (states ++ rest)
states_spelled size states rest least front behind = record {
  long = omega (arith, length-append states rest, least, front, behind);
  judged = λ peer. tt;
  is = λ i. change (old i) (new i);
}
  where
    old : big_number 2 states ≡ big_number 2 (states ++ rest)
    old = sym (big_from-append 2 states rest (omega (arith, front)))

    second : drop 2 (states ++ rest) ≡ drop 2 states ++ rest
    second =
        let c = cut_at 2 states (omega (arith, front)) in
        ap (λ l. drop 2 (l ++ rest)) c.is ∙ ap (drop 2) (append_assoc c.front c.rest rest) ∙ drop_at c.front (c.rest ++ rest) 2 c.front_size
        ∙ ap (λ l. l ++ rest) (sym (drop_at c.front c.rest 2 c.front_size)) ∙ ap (λ l. drop 2 l ++ rest) (sym c.is)

    new : big_number 2 (drop 2 states) ≡ big_number 2 (drop 2 (states ++ rest))
    new = sym (ap (λ (l : List ℕ). big_number 2 l) second ∙ big_from-append 2 (drop 2 states) rest (omega (arith, front, length-drop 2 states)))

states_spells : (size : ℕ) → 4 ≤ size → Spells (SaidSpelled true size) (states_in size)
states_spells size least =
    and_spells (Part 4) (SaidSpelled true size) (field 4 whole) (states_behind size) (part_spells 4)
    (λ states part is.
    map_spells (λ n rest. length rest ≡ size - 4) (λ said rest. SaidSpelled true size said (part ++ rest)) (skips (size - 4))
    (λ _. change (big_number 2 states) (big_number 2 (drop 2 states)))
    (skips_spells (λ n rest. length rest ≡ size - 4) (size - 4) (λ rest long. long))
    (λ n rest long. subst (λ (l : List ℕ). SaidSpelled true size (change (big_number 2 l) (big_number 2 (drop 2 l))) (part ++ rest)) (sym is.is)
    (states_spelled size part rest least is.long long)))

drop_front : (front rest : List ℕ) → length front ≡ 18 → drop 16 (front ++ rest) ≡ drop 16 front ++ rest
drop_front front rest long =
    let c = cut_at 16 front (omega (arith, long)) in
    ap (λ l. drop 16 (l ++ rest)) c.is ∙ ap (drop 16) (append_assoc c.front c.rest rest) ∙ drop_at c.front (c.rest ++ rest) 16 c.front_size
    ∙ ap (λ l. l ++ rest) (sym (drop_at c.front c.rest 16 c.front_size)) ∙ ap (λ l. drop 16 l ++ rest) (sym c.is)

length_in : (front rest : List ℕ) → length front ≡ 18 → big_number 2 (drop 16 (front ++ rest)) ≡ big_number 2 (drop 16 front)
length_in front rest long =
    ap (λ (l : List ℕ). big_number 2 l) (drop_front front rest long) ∙ big_from-append 2 (drop 16 front) rest (omega (arith, long, length-drop 16 front))

message_spelled : (size : ℕ) (front rest : List ℕ) → 19 ≤ size → length front ≡ 18 → length rest ≡ size - 18 → (big_number 2 (drop 16 front) == size) ≡ true
    → SaidSpelled false size (message (front ++ rest)) (front ++ rest)
message_spelled size front rest least first behind test =
    let long : length (front ++ rest) ≡ size = omega (arith, length-append front rest, least, first, behind) in
    let told_size : big_number 2 (drop 16 front) ≡ size = grind (arith, nat_tests) in
    record {
      long = long;
      judged = λ peer. record { header = omega (arith, long, least); size_is = length_in front rest first ∙ told_size ∙ sym long };
      is = refl;
    }

message_spells : (size : ℕ) → Spells (SaidSpelled false size) (message_in size)
message_spells size place =
    needs_spells (SaidSpelled false size) (nat_le 19 size) WrongMessage place (and (field 18 whole) (message_behind size place))
    (λ test.
    let least : 19 ≤ size = grind (arith, nat_tests) in
    and_spells (Part 18) (SaidSpelled false size) (field 18 whole) (message_behind size place) (part_spells 18)
    (λ front part first.
    needs_spells (λ said more. SaidSpelled false size said (part ++ more)) (big_number 2 (drop 16 front) == size) WrongMessage place
    (and (field (size - 18) whole) (λ rest. gives (message (front ++ rest))))
    (λ length_test.
    map_spells (Part (size - 18)) (λ said more. SaidSpelled false size said (part ++ more)) (field (size - 18) whole) (λ rest. message (front ++ rest))
    (part_spells (size - 18))
    (λ rest more later.
    subst (λ (l : List ℕ). SaidSpelled false size (message l) (part ++ more)) (sym (λ i. first.is i ++ later.is i))
    (message_spelled size part more least first.long later.long
    (subst (λ (l : List ℕ). (big_number 2 (drop 16 l) == size) ≡ true) first.is length_test))))))
    place

said_spells : (is_change : Bool) (size : ℕ) → (if is_change then 4 else 0) ≤ size → Spells (SaidSpelled is_change size) (said_in is_change size)
said_spells true size least = states_spells size least
said_spells false size least = message_spells size

-- what stands behind the addresses

pub record HeardSpelled (moment size : ℕ) (shape : RecordShape) (peer : Option ℕ) (heard : Option Spoken) (octets : List ℕ) : Type 0 where
  pub long : length octets ≡ size
  pub judged : IsSaidBy peer shape.change octets
  pub is : heard ≡ heard_as moment shape peer octets

pub heard_spells : (moment size : ℕ) (shape : RecordShape) (peer : Option ℕ) → states_size shape ≤ size
    → Spells (HeardSpelled moment size shape peer) (heard_in moment size shape peer)
heard_spells moment size shape None least =
    map_spells (λ n part. length part ≡ size) (HeardSpelled moment size shape None) (skips size) (λ _. None)
    (skips_spells (λ n part. length part ≡ size) size (λ part long. long))
    (λ n part long. record { long = long; judged = tt; is = refl })
heard_spells moment size shape (Some peer) least =
    map_spells (SaidSpelled shape.change size) (HeardSpelled moment size shape (Some peer)) (said_in shape.change size)
    (λ said. Some (spoken peer moment shape.wide said))
    (said_spells shape.change size least)
    (λ said part s. record { long = s.long; judged = s.judged peer; is = ap (λ x. Some (spoken peer moment shape.wide x)) s.is })

-- the octets up to the family

pub record FrontSpelled (seconds size : ℕ) (shape : RecordShape) (front : Front) (octets : List ℕ) : Type 0 where
  pub micros : List ℕ
  pub numbers : List ℕ
  pub family : List ℕ
  pub is : octets ≡ micros ++ (numbers ++ family)
  pub micros_size : length micros ≡ (if shape.timed then 4 else 0)
  pub numbers_size : length numbers ≡ (if shape.wide then 8 else 4) + 2
  pub family_size : length family ≡ 2
  pub family_is : family_of (big_number 2 family) ≡ Some front.family
  pub time_is : front.time ≡ time_of shape seconds micros
  pub fits : ends_size shape front.family + states_size shape ≤ size
  pub most : size ≤ 65536

time_front : (timed : Bool) (seconds : ℕ) (micros rest : List ℕ) → length micros ≡ (if timed then 4 else 0)
    → seconds * 1000000000 + (if timed then big_number 4 (micros ++ rest) * 1000 else 0)
    ≡ seconds * 1000000000 + (if timed then big_number 4 micros * 1000 else 0)
time_front true seconds micros rest long =
    ap (λ n. seconds * 1000000000 + n * 1000) (big_from-append 4 micros rest (omega (arith, long)))
time_front false seconds micros rest long = refl

behind_front : (shape : RecordShape) (micros numbers family : List ℕ) → length micros ≡ (if shape.timed then 4 else 0)
    → length numbers ≡ (if shape.wide then 8 else 4) + 2 → drop (front_size shape) (micros ++ (numbers ++ family)) ≡ family
behind_front shape micros numbers family m n =
    ap (drop (front_size shape)) (sym (append_assoc micros numbers family))
    ∙ drop_at (micros ++ numbers) family (front_size shape) (omega (arith, length-append micros numbers, m, n))

family_spells : (spot start seconds size : ℕ) (shape : RecordShape) (octets part : List ℕ) (family : Option Family)
    → size ≤ 65536 → octets ≡ part → length part ≡ front_size shape + 2 → family_of (big_number 2 (drop (front_size shape) octets)) ≡ family
    → Spells (λ front more. FrontSpelled seconds size shape front (part ++ more))
    (family_in spot start size (time_of shape seconds octets) (asn_of shape octets) shape family)
family_spells spot start seconds size shape octets part None most same long told_so =
    fails_spells (λ front more. FrontSpelled seconds size shape front (part ++ more)) WrongFamily start
family_spells spot start seconds size shape octets part (Some family) most same long told_so =
    needs_spells (λ front more. FrontSpelled seconds size shape front (part ++ more)) (nat_le (ends_size shape family + states_size shape) size) Length spot
    (gives (front_of (time_of shape seconds octets) (asn_of shape octets) family))
    (λ test.
    gives_spells (λ front more. FrontSpelled seconds size shape front (part ++ more))
    (front_of (time_of shape seconds octets) (asn_of shape octets) family) (found test))
  where
    found : nat_le (ends_size shape family + states_size shape) size ≡ true
        → FrontSpelled seconds size shape (front_of (time_of shape seconds octets) (asn_of shape octets) family) (part ++ [])
    found test =
        let a = cut_at (if shape.timed then 4 else 0) part (omega (arith, long)) in
        let b = cut_at ((if shape.wide then 8 else 4) + 2) a.rest (omega (arith, long, a.rest_size)) in
        let is : part ≡ a.front ++ (b.front ++ b.rest) = a.is ∙ ap (λ l. a.front ++ l) b.is in
        record {
          micros = a.front;
          numbers = b.front;
          family = b.rest;
          is = append-nil part ∙ is;
          micros_size = a.front_size;
          numbers_size = b.front_size;
          family_size = omega (arith, long, a.rest_size, b.rest_size);
          family_is =
              ap (λ (l : List ℕ). family_of (big_number 2 l))
              (sym (ap (drop (front_size shape)) (same ∙ is) ∙ behind_front shape a.front b.front b.rest a.front_size b.front_size)) ∙ told_so;
          time_is = ap (time_of shape seconds) (same ∙ is) ∙ time_front shape.timed seconds a.front (b.front ++ b.rest) a.front_size;
          fits = grind (arith, nat_tests, test);
          most = most;
        }

pub front_spells : (spot seconds size : ℕ) (shape : RecordShape) → Spells (FrontSpelled seconds size shape) (front_in spot seconds size shape)
front_spells spot seconds size shape place =
    needs_spells (FrontSpelled seconds size shape) (nat_le (front_size shape + 2) size && nat_le size 65536) Length spot
    (and (field (front_size shape + 2) whole) (front_behind spot place seconds size shape))
    (λ test.
    let second : nat_le size 65536 ≡ true = (and_parts (nat_le (front_size shape + 2) size) (nat_le size 65536) test).1 in
    let most : size ≤ 65536 = grind (arith, nat_tests) in
    and_spells (Part (front_size shape + 2)) (FrontSpelled seconds size shape) (field (front_size shape + 2) whole) (front_behind spot place seconds size shape)
    (part_spells (front_size shape + 2))
    (λ octets part p.
    family_spells spot (place + front_size shape) seconds size shape octets part (family_of (big_number 2 (drop (front_size shape) octets))) most p.is
    p.long refl))
    place

-- bodies

record BodySpelled (peers : List Peer) (moment seconds size : ℕ) (shape : RecordShape) (heard : Option Spoken) (octets : List ℕ) : Type 0 where
  pub family : Family
  pub body : Body
  pub is : octets ≡ body_text body
  pub body_is : IsBody shape family body
  pub judged : IsSaidBy (peer_in peers family body) shape.change body.said
  pub long : length octets ≡ size
  pub heard_is : heard ≡ heard_as (max moment (time_of shape seconds body.micros)) shape (peer_in peers family body) body.said

record AddressesRead (family : Family) (address : Address) (octets : List ℕ) : Type 0 where
  pub is : address ≡ address_of family octets
  pub long : length octets ≡ 2 * address_size family

body_spelled : (peers : List Peer) (moment seconds size : ℕ) (shape : RecordShape) (front : Front) (first addresses said : List ℕ) (address : Address)
    (heard : Option Spoken)
    → FrontSpelled seconds size shape front first → AddressesRead front.family address addresses
    → HeardSpelled (max moment front.time) (size - ends_size shape front.family) shape (number_at address peers) heard said
    → BodySpelled peers moment seconds size shape heard (first ++ (addresses ++ said))
body_spelled peers moment seconds size shape front first addresses said address heard f a h =
    let size_is : length (first ++ (addresses ++ said)) ≡ size =
    omega (
      arith,
      length-append first (addresses ++ said),
      length-append addresses said,
      ap length f.is,
      length-append f.micros (f.numbers ++ f.family),
      length-append f.numbers f.family,
      f.micros_size,
      f.numbers_size,
      f.family_size,
      a.long,
      h.long,
      f.fits,
    ) in
    let text : first ++ (addresses ++ said) ≡ (f.micros ++ (f.numbers ++ f.family)) ++ (addresses ++ said) = ap (λ l. l ++ (addresses ++ said)) f.is in
    let known : number_at address peers ≡ number_at (address_of front.family addresses) peers = ap (λ x. number_at x peers) a.is in
    record {
      family = front.family;
      body = record { micros = f.micros; numbers = f.numbers; family = f.family; addresses = addresses; said = said };
      is = text;
      body_is = record {
        micros = f.micros_size;
        numbers = f.numbers_size;
        family_size = f.family_size;
        family_is = f.family_is;
        addresses = a.long;
        states = omega (arith, h.long, f.fits);
        room = omega (arith, ap length text, size_is, f.most);
      };
      judged = subst (λ (p : Option ℕ). IsSaidBy p shape.change said) known h.judged;
      long = size_is;
      heard_is = h.is ∙ (λ i. heard_as (max moment (f.time_is i)) shape (known i) said);
    }

ends_spells : (peers : List Peer) (moment seconds size : ℕ) (shape : RecordShape) (front : Front) (first : List ℕ) → FrontSpelled seconds size shape front first
    → Spells (λ heard more. BodySpelled peers moment seconds size shape heard (first ++ more)) (ends_in peers moment size shape front)
ends_spells peers moment seconds size shape front first f =
    let rest = size - ends_size shape front.family in
    let later = max moment front.time in
    and_spells (AddressesRead front.family) (λ heard more. BodySpelled peers moment seconds size shape heard (first ++ more))
    (field (2 * address_size front.family) (address_of front.family)) (said_at peers later rest shape)
    (field_spells (AddressesRead front.family) (2 * address_size front.family) (address_of front.family) (λ part long. record { is = refl; long = long }))
    (λ address addresses a place octets heard count e.
    let h = heard_spells later rest shape (number_at address peers) (omega (arith, f.fits)) place octets heard count e in
    (h.0, body_spelled peers moment seconds size shape front first addresses (take count octets) address heard f a h.1))

-- what a record's body gives, as its type tells
abbrev InBody : List Peer → (moment seconds size : ℕ) → Option RecordShape → Option Spoken → List ℕ → Type 0
InBody peers moment seconds size None heard octets = (length octets ≡ size) × (heard ≡ None)
InBody peers moment seconds size (Some shape) heard octets = BodySpelled peers moment seconds size shape heard octets

body_spells : (peers : List Peer) (moment spot seconds size : ℕ) (shape : Option RecordShape)
    → Spells (InBody peers moment seconds size shape) (body_in peers moment spot seconds size shape)
body_spells peers moment spot seconds size None =
    map_spells (λ n part. length part ≡ size) (InBody peers moment seconds size None) (skips size) (λ _. None)
    (skips_spells (λ n part. length part ≡ size) size (λ part long. long)) (λ n part long. (long, refl))
body_spells peers moment spot seconds size (Some shape) =
    and_spells (FrontSpelled seconds size shape) (BodySpelled peers moment seconds size shape) (front_in spot seconds size shape)
    (ends_in peers moment size shape)
    (front_spells spot seconds size shape) (λ front first f. ends_spells peers moment seconds size shape front first f)

-- heads

abbrev head_with : (spot : ℕ) → Header → Head
head_with spot h = record { spot = spot; seconds = big_number 4 h.seconds; size = big_number 4 h.size; shape = shape_in h }

record HeaderSpelled (octets : List ℕ) : Type 0 where
  pub header : Header
  pub is : octets ≡ header_text header
  pub seconds : length header.seconds ≡ 4
  pub kind : length header.kind ≡ 2
  pub subtype : length header.subtype ≡ 2
  pub room : length header.size ≡ 4

header_spelled : (octets : List ℕ) → length octets ≡ 12 → HeaderSpelled octets
header_spelled octets long =
    let a = cut_at 4 octets (omega (arith, long)) in
    let b = cut_at 2 a.rest (omega (arith, long, a.rest_size)) in
    let c = cut_at 2 b.rest (omega (arith, long, a.rest_size, b.rest_size)) in
    record {
      header = record { seconds = a.front; kind = b.front; subtype = c.front; size = c.rest };
      is = a.is ∙ ap (λ l. a.front ++ l) (b.is ∙ ap (λ l. b.front ++ l) c.is);
      seconds = a.front_size;
      kind = b.front_size;
      subtype = c.front_size;
      room = omega (arith, long, a.rest_size, b.rest_size, c.rest_size);
    }

head_is : (spot : ℕ) (h : Header) → length h.seconds ≡ 4 → length h.kind ≡ 2 → length h.subtype ≡ 2 → length h.size ≡ 4
    → head_of spot (header_text h) ≡ head_with spot h
head_is spot h a b c d =
    let first : drop 4 (header_text h) ≡ h.kind ++ (h.subtype ++ h.size) = drop_at h.seconds (h.kind ++ (h.subtype ++ h.size)) 4 a in
    let second : drop 6 (header_text h) ≡ h.subtype ++ h.size =
    sym (drop-drop 2 4 (header_text h)) ∙ ap (drop 2) first ∙ drop_at h.kind (h.subtype ++ h.size) 2 b in
    let third : drop 8 (header_text h) ≡ h.size = sym (drop-drop 2 6 (header_text h)) ∙ ap (drop 2) second ∙ drop_at h.subtype h.size 2 c in
    let seconds : big_number 4 (header_text h) ≡ big_number 4 h.seconds = big_from-append 4 h.seconds (h.kind ++ (h.subtype ++ h.size)) (omega (arith, a)) in
    let size : big_number 4 (drop 8 (header_text h)) ≡ big_number 4 h.size = ap (λ (l : List ℕ). big_number 4 l) third in
    let kind : big_number 2 (drop 4 (header_text h)) ≡ big_number 2 h.kind =
    ap (λ (l : List ℕ). big_number 2 l) first ∙ big_from-append 2 h.kind (h.subtype ++ h.size) (omega (arith, b)) in
    let subtype : big_number 2 (drop 6 (header_text h)) ≡ big_number 2 h.subtype =
    ap (λ (l : List ℕ). big_number 2 l) second ∙ big_from-append 2 h.subtype h.size (omega (arith, c)) in
    let shape : shape_of (big_number 2 (drop 4 (header_text h))) (big_number 2 (drop 6 (header_text h))) ≡ shape_in h = λ i. shape_of (kind i) (subtype i) in
    λ i. record { spot = spot; seconds = seconds i; size = size i; shape = shape i }

-- records

abbrev pub Given : List Peer → ℕ → Option Spoken × ℕ → List ℕ → Type 0
Given peers moment = IsSpelled (record_in peers) entry_text (λ moment. IsEntry peers) (entry_gives peers) moment

record_given : (peers : List Peer) (moment : ℕ) (octets : List ℕ) (h : HeaderSpelled octets) (shape : Option RecordShape) (heard : Option Spoken)
    (body : List ℕ)
    → shape_in h.header ≡ shape → InBody peers moment (big_number 4 h.header.seconds) (big_number 4 h.header.size) shape heard body
    → Given peers moment (heard, moment_behind moment heard) (octets ++ body)
record_given peers moment octets h None heard body known b = record {
  part = unread h.header body;
  fits = (record { seconds = h.seconds; kind = h.kind; subtype = h.subtype; room = h.room; size_is = sym b.0 }, known);
  text_is = ap (λ l. l ++ body) h.is;
  value_is = ap (λ x. (x, moment_behind moment x)) b.1;
}
record_given peers moment octets h (Some shape) heard body known b = record {
  part = told h.header shape b.family b.body;
  fits = record {
    header = record { seconds = h.seconds; kind = h.kind; subtype = h.subtype; room = h.room; size_is = sym b.long ∙ ap length b.is };
    shape_is = known;
    body_is = b.body_is;
    said_is = b.judged;
  };
  text_is = λ i. h.is i ++ b.is i;
  value_is = ap (λ x. (x, moment_behind moment x)) b.heard_is;
}

pub record_spells : (peers : List Peer) (moment : ℕ) → Spells (Given peers moment) (record_in peers moment)
record_spells peers moment place =
    and_spells (Part 12) (Given peers moment) (field 12 whole) (record_behind peers moment place) (part_spells 12)
    (λ octets part p.
    let h = header_spelled part p.long in
    let same : head_of (place + 8) octets ≡ head_with (place + 8) h.header =
    ap (head_of (place + 8)) (p.is ∙ h.is) ∙ head_is (place + 8) h.header h.seconds h.kind h.subtype h.room in
    subst (λ (head : Head). Spells (λ found more. Given peers moment found (part ++ more)) (headed_in peers moment head)) (sym same)
    (map_spells (InBody peers moment (big_number 4 h.header.seconds) (big_number 4 h.header.size) (shape_in h.header))
    (λ found more. Given peers moment found (part ++ more))
    (body_in peers moment (place + 8) (big_number 4 h.header.seconds) (big_number 4 h.header.size) (shape_in h.header))
    (λ heard. (heard, moment_behind moment heard))
    (body_spells peers moment (place + 8) (big_number 4 h.header.seconds) (big_number 4 h.header.size) (shape_in h.header))
    (λ heard body b. record_given peers moment part h (shape_in h.header) heard body refl b)))
    place

entry_some : (peers : List Peer) (moment : ℕ) (entry : Entry) → IsEntry peers entry → 0 < length (entry_text entry)
entry_some peers moment (unread h body) is =
    omega (arith, length-append (header_text h) body, length-append h.seconds (h.kind ++ (h.subtype ++ h.size)), is.0.seconds)
entry_some peers moment (told h shape family body) is =
    omega (arith, length-append (header_text h) (body_text body), length-append h.seconds (h.kind ++ (h.subtype ++ h.size)), is.header.seconds)

pub record_takes : (peers : List Peer) (moment : ℕ) → Takes 1 (record_in peers moment)
record_takes peers moment =
    spelled_takes (record_in peers) entry_text (λ moment. IsEntry peers) (entry_gives peers) (entry_some peers) (record_spells peers) moment

-- what was written is read

states_read : (size : ℕ) (octets : List ℕ) → 4 ≤ size → length octets ≡ size → Reads (states_in size) octets (said_of true octets)
states_read size octets least long =
    let c = cut_at 4 octets (omega (arith, least, long)) in
    let behind : length c.rest ≡ size - 4 = omega (arith, c.rest_size, long) in
    let found = change (big_number 2 c.front) (big_number 2 (drop 2 c.front)) in
    subst (λ l. Reads (states_in size) l (said_of true l)) (sym c.is)
    (subst (Reads (states_in size) (c.front ++ c.rest)) (states_spelled size c.front c.rest least c.front_size behind).is
    (and_reads (field 4 whole) (states_behind size) c.front c.rest c.front found (field_reads 4 whole c.front c.front_size)
    (map_reads (skips (size - 4)) (λ _. found) c.rest (size - 4) (skips_reads (size - 4) c.rest behind))))

message_read : (size : ℕ) (front rest : List ℕ) → length front ≡ 18 → length rest ≡ size - 18 → 19 ≤ size → big_number 2 (drop 16 front) ≡ size
    → Reads (message_in size) (front ++ rest) (message (front ++ rest))
message_read size front rest first behind least size_is place =
    let enough : nat_le 19 size ≡ true = grind (arith, nat_tests, least) in
    let same : (big_number 2 (drop 16 front) == size) ≡ true = grind (arith, nat_tests, size_is) in
    needs_reads (nat_le 19 size) WrongMessage place (and (field 18 whole) (message_behind size place)) (front ++ rest) (message (front ++ rest)) enough
    (and_reads (field 18 whole) (message_behind size place) front rest front (message (front ++ rest)) (field_reads 18 whole front first)
    (needs_reads (big_number 2 (drop 16 front) == size) WrongMessage place (and (field (size - 18) whole) (λ more. gives (message (front ++ more))))
    rest (message (front ++ rest)) same
    (map_reads (field (size - 18) whole) (λ more. message (front ++ more)) rest rest (field_reads (size - 18) whole rest behind))))
    place

said_read : (is_change : Bool) (size peer : ℕ) (octets : List ℕ) → (if is_change then 4 else 0) ≤ size → length octets ≡ size
    → IsSaidBy (Some peer) is_change octets
    → Reads (said_in is_change size) octets (said_of is_change octets)
said_read true size peer octets least long said = states_read size octets least long
said_read false size peer octets least long said =
    let c = cut_at 18 octets (omega (arith, said.header)) in
    let behind : length c.rest ≡ size - 18 = omega (arith, c.rest_size, long) in
    let size_is : big_number 2 (drop 16 c.front) ≡ size =
    sym (length_in c.front c.rest c.front_size) ∙ ap (λ (l : List ℕ). big_number 2 (drop 16 l)) (sym c.is) ∙ said.size_is ∙ long in
    subst (λ l. Reads (message_in size) l (message l)) (sym c.is)
    (message_read size c.front c.rest c.front_size behind (omega (arith, said.header, long)) size_is)

heard_read : (moment size : ℕ) (shape : RecordShape) (peer : Option ℕ) (octets : List ℕ) → states_size shape ≤ size → length octets ≡ size
    → IsSaidBy peer shape.change octets → Reads (heard_in moment size shape peer) octets (heard_as moment shape peer octets)
heard_read moment size shape None octets least long said = map_reads (skips size) (λ _. None) octets size (skips_reads size octets long)
heard_read moment size shape (Some peer) octets least long said =
    map_reads (said_in shape.change size) (λ found. Some (spoken peer moment shape.wide found)) octets (said_of shape.change octets)
    (said_read shape.change size peer octets least long said)

-- a body, with its parts' sizes
module _ (peers : List Peer) (moment spot seconds size : ℕ) (shape : RecordShape) (family : Family) (body : Body) (is : IsBody shape family body)
    (long : length (body_text body) ≡ size) (said : IsSaidBy (peer_in peers family body) shape.change body.said) where
  abbrev first : List ℕ
  first = body.micros ++ (body.numbers ++ body.family)

  first_size : length first ≡ front_size shape + 2
  first_size =
      omega (arith, length-append body.micros (body.numbers ++ body.family), length-append body.numbers body.family, is.micros, is.numbers, is.family_size)

  parts_size : size ≡ ends_size shape family + length body.said
  parts_size = omega (arith, long, length-append first (body.addresses ++ body.said), length-append body.addresses body.said, first_size, is.addresses)

  abbrev front : Front
  front = front_of (time_of shape seconds body.micros) (asn_of shape first) family

  abbrev family_at : ℕ → ℕ × Option Family → Scanner Front DumpReason
  family_at start told_so = family_in spot start size told_so.0 (asn_of shape first) shape told_so.1

  family_read : (start : ℕ) → Reads (family_at start (time_of shape seconds first, family_of (big_number 2 (drop (front_size shape) first)))) [] front
  family_read start =
      let time : time_of shape seconds first ≡ time_of shape seconds body.micros =
      time_front shape.timed seconds body.micros (body.numbers ++ body.family) is.micros in
      let told_so : family_of (big_number 2 (drop (front_size shape) first)) ≡ Some family =
      ap (λ (l : List ℕ). family_of (big_number 2 l)) (behind_front shape body.micros body.numbers body.family is.micros is.numbers) ∙ is.family_is in
      let states : states_size shape ≤ length body.said = is.states in
      let fits : nat_le (ends_size shape family + states_size shape) size ≡ true = grind (arith, nat_tests, parts_size, states) in
      subst (λ (p : ℕ × Option Family). Reads (family_at start p) [] front) (sym (λ i. (time i, told_so i)))
      (needs_reads (nat_le (ends_size shape family + states_size shape) size) Length spot (gives front) [] front fits (gives_reads front))

  front_read : Reads (front_in spot seconds size shape) first front
  front_read place =
      let room : length (body_text body) ≤ 65536 = is.room in
      let enough : nat_le (front_size shape + 2) size ≡ true = grind (arith, nat_tests, parts_size) in
      let most : nat_le size 65536 ≡ true = grind (arith, nat_tests, room, long) in
      let test : (nat_le (front_size shape + 2) size && nat_le size 65536) ≡ true = λ i. enough i && most i in
      needs_reads (nat_le (front_size shape + 2) size && nat_le size 65536) Length spot
      (and (field (front_size shape + 2) whole) (front_behind spot place seconds size shape)) first front test
      (subst (λ l. Reads (and (field (front_size shape + 2) whole) (front_behind spot place seconds size shape)) l front) (append-nil first)
      (and_reads (field (front_size shape + 2) whole) (front_behind spot place seconds size shape) first [] first front
      (field_reads (front_size shape + 2) whole first first_size) (family_read (place + front_size shape))))
      place

  abbrev tells : Option Spoken
  tells = heard_as (max moment (time_of shape seconds body.micros)) shape (peer_in peers family body) body.said

  ends_read : Reads (ends_in peers moment size shape front) (body.addresses ++ body.said) tells
  ends_read =
      let later = max moment front.time in
      let rest = size - ends_size shape family in
      and_reads (field (2 * address_size family) (address_of family)) (said_at peers later rest shape) body.addresses body.said
      (address_of family body.addresses) tells
      (field_reads (2 * address_size family) (address_of family) body.addresses is.addresses)
      (heard_read later rest shape (peer_in peers family body) body.said (omega (arith, parts_size, is.states)) (omega (arith, parts_size)) said)

  body_read : Reads (body_in peers moment spot seconds size (Some shape)) (body_text body) tells
  body_read =
      and_reads (front_in spot seconds size shape) (ends_in peers moment size shape) first (body.addresses ++ body.said) front tells front_read ends_read

header_read : (peers : List Peer) (moment size : ℕ) (h : Header) (body : List ℕ) (shape : Option RecordShape) (heard : Option Spoken)
    → IsHeader size h → shape_in h ≡ shape
    → ((spot : ℕ) → Reads (body_in peers moment spot (big_number 4 h.seconds) size shape) body heard)
    → Reads (record_in peers moment) (header_text h ++ body) (heard, moment_behind moment heard)
header_read peers moment size h body shape heard is known read place =
    let long : length (header_text h) ≡ 12 =
    omega (
      arith,
      length-append h.seconds (h.kind ++ (h.subtype ++ h.size)),
      length-append h.kind (h.subtype ++ h.size),
      length-append h.subtype h.size,
      is.seconds,
      is.kind,
      is.subtype,
      is.room,
    ) in
    let made : Option Spoken → Option Spoken × ℕ = λ found. (found, moment_behind moment found) in
    let same = head_is (place + 8) h is.seconds is.kind is.subtype is.room in
    and_reads (field 12 whole) (record_behind peers moment place) (header_text h) body (header_text h) (made heard) (field_reads 12 whole (header_text h) long)
    (subst (λ (head : Head). Reads (headed_in peers moment head) body (made heard)) (sym same)
    (map_reads (body_in peers moment (place + 8) (big_number 4 h.seconds) (big_number 4 h.size) (shape_in h)) made body heard
    (subst (λ (p : ℕ × Option RecordShape). Reads (body_in peers moment (place + 8) (big_number 4 h.seconds) p.0 p.1) body heard)
    (sym (λ i. (is.size_is i, known i))) (read (place + 8)))))
    place

record_reads : (peers : List Peer) (moment : ℕ) (entry : Entry) → IsEntry peers entry
    → Reads (record_in peers moment) (entry_text entry) (entry_gives peers moment entry)
record_reads peers moment (unread h body) is =
    header_read peers moment (length body) h body None None is.0 is.1
    (λ spot. map_reads (skips (length body)) (λ _. None) body (length body) (skips_reads (length body) body refl))
record_reads peers moment (told h shape family body) is =
    header_read peers moment (length (body_text body)) h (body_text body) (Some shape) (entry_told peers moment (told h shape family body)) is.header
    is.shape_is
    (λ spot. body_read peers moment spot (big_number 4 h.seconds) (length (body_text body)) shape family body is.body_is refl is.said_is)

pub reads_back : ReadsBack
reads_back config limit content heard =
    told_text (record_in config.peers) entry_text (λ moment. IsEntry config.peers) (entry_gives config.peers) Cut
    (record_takes config.peers) (record_spells config.peers) (record_reads config.peers) limit 0 content heard
