-- What is known of all that is heard in a dump of octets.
use Rattle.fs_mrt.proofs.Words.{◌≡◌, ℕ, List, [], ◌∷◌, ◌++◌, Option, Some, None, Bool, true, false, ◌<◌, ◌≤◌, ◌+◌, ◌-◌, ◌*◌, ◌^◌, ◌==◌, max, min}
use Rattle.fs_mrt.proofs.Words.{length, refl, sym, subst, ◌∙◌, arith, length-append, append_assoc, ◌⊎◌, inl, inr, if◌then◌else◌, IsSome, find, ⊤}
use Rattle.fs_mrt.proofs.Words.{nat_tests, big_number, Address, Peer, Placed, all_told, first_part, placed, got, AreHeard, HeardFits, IsHeard, IsSaid}
use Rattle.fs_mrt.proofs.Words.{is_same, lesser, lowest, number_at, Spoken, moment_behind, record_in, time_of, address_of, Entry, IsEntry, body_text}
use Rattle.fs_mrt.proofs.Words.{entry_text, entry_told, header_text, heard_as, peer_in, said_of, told, unread}
use Rattle.fs_mrt.proofs.Written.{record_spells, record_takes}
use Rattle.fs_mrt.specs.declared.shape.Shape.{Shape as RecordShape}
use Rattle.std.proofs.lemmas.Bool.{cases_lt}
use Rattle.fs_base.specs.{Config.{peer_of}, Language.{IsOctets}, Parts.{window}}
use Rattle.fs_base.proofs.{Digits.{big_below}, Octets.{octets_drop, octets_left, octets_right, octets_take}}
use Rattle.fs_input.{specs.Parts.{At, at, parts_from, to_come}, proofs.{Coming.{part_found, shrinks}, PartsOfRecords.{parts_all}}}

-- the peer of an address is configured

find_some : (test : Peer → Bool) (front : List Peer) (peer : Peer) (rest : List Peer) → test peer ≡ true → IsSome (find test (front ++ peer ∷ rest))
find_some test [] peer rest e = by (test peer) e
  where
    by : (b : Bool) → b ≡ true → IsSome (if b then Some peer else find test rest)
    by true same = refl
    by false same = absurd cc
find_some test (x ∷ front) peer rest e = by (test x) (find_some test front peer rest e)
  where
    by : (b : Bool) → IsSome (find test (front ++ peer ∷ rest)) → IsSome (if b then Some x else find test (front ++ peer ∷ rest))
    by true h = refl
    by false h = h

abbrev IfKnown : List Peer → Option ℕ → Type 0
IfKnown all None = ⊤
IfKnown all (Some n) = IsSome (peer_of n all)

min_either : (a b : ℕ) → (min a b ≡ a) ⊎ (min a b ≡ b)
min_either a b = elim (cases_lt b a) [ inl less ↦ inr (omega (arith, less)) | inr more ↦ inl (omega (arith, more)) ]

lesser_known : (all : List Peer) (found : Option ℕ) (number : ℕ) → IfKnown all found → IsSome (peer_of number all) → IsSome (peer_of (lesser found number) all)
lesser_known all None number f n = n
lesser_known all (Some other) number f n = elim (min_either number other) [
  | inl e ↦ subst (λ (k : ℕ). IsSome (peer_of k all)) (sym e) n
  | inr e ↦ subst (λ (k : ℕ). IsSome (peer_of k all)) (sym e) f
]

lowest_known : (all front peers : List Peer) (address : Address) (found : Option ℕ) → all ≡ front ++ peers → IfKnown all found
    → IfKnown all (lowest address found peers)
lowest_known all front [] address found e f = f
lowest_known all front (peer ∷ peers) address found e f =
    lowest_known all (front ++ peer ∷ []) peers address (if is_same peer.address address then Some (lesser found peer.number) else found)
    (e ∙ sym (append_assoc front (peer ∷ []) peers)) (by (is_same peer.address address))
  where
    itself : (peer.number == peer.number) ≡ true
    itself = grind (arith, nat_tests)

    listed : IsSome (peer_of peer.number all)
    listed = subst (λ (l : List Peer). IsSome (peer_of peer.number l)) (sym e) (find_some (λ p. p.number == peer.number) front peer peers itself)

    by : (b : Bool) → IfKnown all (if b then Some (lesser found peer.number) else found)
    by true = lesser_known all found peer.number f listed
    by false = f

number_known : (peers : List Peer) (address : Address) (n : ℕ) → number_at address peers ≡ Some n → IsSome (peer_of n peers)
number_known peers address n e = subst (IfKnown peers) e (lowest_known peers [] peers address None refl tt)

-- what is heard

abbrev IfHeard : List Peer → ℕ → Option Spoken → Type 0
IfHeard peers last None = ⊤
IfHeard peers last (Some heard) = IsHeard peers last heard

heard_known : (peers : List Peer) (last moment : ℕ) (shape : RecordShape) (peer : Option ℕ) (said : List ℕ)
    → ((n : ℕ) → peer ≡ Some n → IsSome (peer_of n peers)) → last ≤ moment → moment < 2 ^ 64 → IsOctets said → length said ≤ 65536
    → IfHeard peers last (heard_as moment shape peer said)
heard_known peers last moment shape None said known rises room are few = tt
heard_known peers last moment shape (Some n) said known rises room are few =
    record { known = known n refl; rises = rises; room = room; said = said_known shape.change }
  where
    said_known : (is_change : Bool) → IsSaid (said_of is_change said)
    said_known true = tt
    said_known false = (are, few)

time_small : (timed : Bool) (seconds : ℕ) (octets : List ℕ) → seconds < 256 ^ 4 → IsOctets octets
    → seconds * 1000000000 + (if timed then big_number 4 octets * 1000 else 0) < 2 ^ 64
time_small true seconds octets s are = let m = big_below 4 octets are in omega (arith, s, m)
time_small false seconds octets s are = omega (arith, s)

entry_known : (peers : List Peer) (moment : ℕ) (entry : Entry) → moment < 2 ^ 64 → IsEntry peers entry → IsOctets (entry_text entry)
    → IfHeard peers moment (entry_told peers moment entry)
entry_known peers moment (unread h body) small is are = tt
entry_known peers moment (told h shape family body) small is are =
    let first = body.micros ++ (body.numbers ++ body.family) in
    let rest = body.addresses ++ body.said in
    let seconds : IsOctets h.seconds =
    octets_left h.seconds (h.kind ++ (h.subtype ++ h.size)) (octets_left (header_text h) (body_text body) are) in
    let all : IsOctets (body_text body) = octets_right (header_text h) (body_text body) are in
    let micros : IsOctets body.micros = octets_left body.micros (body.numbers ++ body.family) (octets_left first rest all) in
    let time = time_small shape.timed (big_number 4 h.seconds) body.micros (big_below 4 h.seconds seconds) micros in
    heard_known peers moment (max moment (time_of shape (big_number 4 h.seconds) body.micros)) shape (peer_in peers family body) body.said
    (number_known peers (address_of family body.addresses)) (omega arith) (omega (arith, small, time))
    (octets_right body.addresses body.said (octets_right first rest all))
    (omega (arith, is.body_is.room, length-append first rest, length-append body.addresses body.said))

-- what a record gives, and the moment behind it
record Behind (peers : List Peer) (moment : ℕ) (found : Option Spoken × ℕ) : Type 0 where
  pub heard : IfHeard peers moment found.0
  pub moment_is : found.1 ≡ moment_behind moment found.0

record_known : (peers : List Peer) (moment : ℕ) → moment < 2 ^ 64 → (place : ℕ) (octets : List ℕ) (value : Option Spoken × ℕ) (count : ℕ)
    → IsOctets octets → record_in peers moment place octets ≡ got value count → Behind peers moment value
record_known peers moment small place octets value count are e =
    let s = (record_spells peers moment place octets value count e).1 in
    subst (Behind peers moment) (sym s.value_is)
    (record { heard = entry_known peers moment s.part small s.fits (subst IsOctets s.text_is (octets_take count octets are)); moment_is = refl })

-- all records

told_more : (peers : List Peer) (last moment : ℕ) (heard : Option Spoken) (rest : List (Option Spoken)) → Behind peers last (heard, moment) → last < 2 ^ 64
    → (moment < 2 ^ 64 → AreHeard peers moment (all_told rest)) → AreHeard peers last (all_told (heard ∷ rest))
told_more peers last moment None rest b small later =
    subst (λ (m : ℕ). AreHeard peers m (all_told rest)) b.moment_is (later (subst (λ (m : ℕ). m < 2 ^ 64) (sym b.moment_is) small))
told_more peers last moment (Some heard) rest b small later = (
  b.heard,
  subst (λ (m : ℕ). AreHeard peers m (all_told rest)) b.moment_is (later (subst (λ (m : ℕ). m < 2 ^ 64) (sym b.moment_is) b.heard.room)),
)

all_heard : (peers : List Peer) (now : At (Placed ℕ)) → now.state.now < 2 ^ 64 → IsOctets now.octets
    → AreHeard peers now.state.now (all_told (parts_from (first_part (record_in peers)) now).0)
all_heard peers =
    let next = first_part (record_in peers) in
    parts_all next (shrinks (record_in peers) (record_takes peers))
    (λ now parts. now.state.now < 2 ^ 64 → IsOctets now.octets → AreHeard peers now.state.now (all_told parts.0))
    (λ now h small are. tt)
    (λ now found h later small are.
    let p = part_found (record_in peers) now found h in
    let b = record_known peers now.state.now small now.state.place now.octets (found.0, found.1.state.now) p.count are p.is in
    told_more peers now.state.now found.1.state.now found.0 (parts_from next found.1).0 b small
    (λ room. later room (subst IsOctets (sym p.rest_is) (octets_drop p.count now.octets are))))

pub heard_fits : HeardFits
unfolding to_come
heard_fits config limit content are =
    all_heard config.peers (at (placed 0 0) (window limit 0 content)) (omega arith) (octets_take (limit - 0) content are)
