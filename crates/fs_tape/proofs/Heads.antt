-- What a whole head says, exactly where its octets are its text.
use Rattle.fs_tape.proofs.Words.{◌≡◌, ℕ, List, [], ◌∷◌, ◌++◌, Option, Some, None, Bool, true, false, ◌<◌, ◌≤◌, ◌+◌, ◌^◌, ◌==◌, length, drop, refl, ap}
use Rattle.fs_tape.proofs.Words.{sym, subst, ◌∙◌, arith, take-append-drop, eqb-true, IsSome, is_none, nat_lt, if◌then◌else◌, length-drop, nat_tests}
use Rattle.fs_tape.proofs.Words.{IsOctets, Config, octets_drop, octets_tail, Whole, Wrong, Partial, nothing, Kind, Peer, Length, Moment, Up, Received}
use Rattle.fs_tape.proofs.Words.{Lost, Version, One, Two, IsTimed, allows, behind_peer, head_from, head_size, kind_of, peer_field, size_field}
use Rattle.fs_tape.proofs.Words.{IsNumbered, moment_text}
use Rattle.fs_tape.specs.declared.{header.Said.{Said}, item.Kind.{Kind as RecordKind}}
use Rattle.byteorder.specs.{Endian.{big_bytes, big_number}, Numbers.{big_number-reads_back}}
use Rattle.fs_base.{specs.Config.{peer_of}, proofs.Digits.{big_below, big_written}}

abbrev pub said : RecordKind → ℕ → ℕ → Said
said kind peer moment = record { kind = kind; peer = peer; moment = moment }

-- what is written of a head is read back as it

known : {A : Type 0} (o : Option A) → IsSome o → is_none o ≡ false
known None h = cc
known (Some x) h = refl

abbrev pub head_text : Version → (octet peer moment size : ℕ) → List ℕ
head_text version octet peer moment size =
    octet ∷ (big_bytes 2 peer ++ (moment_text version moment ++ big_bytes 4 size))

pub head_read : (config : Config) (version : Version) (last octet : ℕ) (kind : RecordKind) (peer moment size : ℕ) → kind_of octet ≡ Some kind
    → IsNumbered config peer → size ≤ 65536 → allows kind size ≡ true → moment < 2 ^ 64 → IsTimed version last moment
    → head_from config version last (head_text version octet peer moment size) ≡ Whole (said kind peer moment) size
head_read config One last octet kind peer moment size k numbered small allowed room timed =
    let p : big_number 2 (big_bytes 2 peer ++ big_bytes 4 size) ≡ peer = big_number-reads_back 2 peer (big_bytes 4 size) numbered.0 in
    let s : big_number 4 (big_bytes 4 size ++ []) ≡ size = big_number-reads_back 4 size [] (omega arith) in
    let there : is_none (peer_of peer config.peers) ≡ false = known (peer_of peer config.peers) numbered.1 in
    rw (k, head_from, p, there, s, allowed) (ap (λ m. Whole (said kind peer m) size) (sym timed))
head_read config Two last octet kind peer moment size k numbered small allowed room timed =
    let p : big_number 2 (big_bytes 2 peer ++ (big_bytes 8 moment ++ big_bytes 4 size)) ≡ peer =
    big_number-reads_back 2 peer (big_bytes 8 moment ++ big_bytes 4 size) numbered.0 in
    let m : big_number 8 (big_bytes 8 moment ++ big_bytes 4 size) ≡ moment = big_number-reads_back 8 moment (big_bytes 4 size) room in
    let s : big_number 4 (big_bytes 4 size ++ []) ≡ size = big_number-reads_back 4 size [] (omega arith) in
    let there : is_none (peer_of peer config.peers) ≡ false = known (peer_of peer config.peers) numbered.1 in
    let after : nat_lt moment last ≡ false = grind (arith, nat_tests) in
    rw (k, head_from, p, there, m, after, s, allowed) refl

-- a head that is read was written so

abbrev pub octet_of : RecordKind → ℕ
octet_of Up = 1
octet_of Received = 2
octet_of Lost = 3

kind_octet : (octet : ℕ) (kind : RecordKind) → kind_of octet ≡ Some kind → octet ≡ octet_of kind
kind_octet octet kind h = by (octet == 1) (octet == 2) (octet == 3) (eqb-true octet 1) (eqb-true octet 2) (eqb-true octet 3) h
  where
    by : (a b c : Bool) → (a ≡ true → octet ≡ 1) → (b ≡ true → octet ≡ 2) → (c ≡ true → octet ≡ 3)
        → (if a then Some Up else if b then Some Received else if c then Some Lost else None) ≡ Some kind → octet ≡ octet_of kind
    by true b c one two three e = let k : Up ≡ kind = cc in one refl ∙ ap octet_of k
    by false true c one two three e = let k : Received ≡ kind = cc in two refl ∙ ap octet_of k
    by false false true one two three e = let k : Lost ≡ kind = cc in three refl ∙ ap octet_of k
    by false false false one two three e = cc

-- the octets of a number, and what follows them
number_written : (n : ℕ) (octets : List ℕ) → n ≤ length octets → IsOctets octets
    → octets ≡ big_bytes n (big_number n octets) ++ drop n octets
number_written n octets held are =
    sym (take-append-drop n octets) ∙ ap (λ front. front ++ drop n octets) (big_written n octets held are)

-- the octets of a head's last fields, from the length on
record IsSized (kind : RecordKind) (peer moment : ℕ) (octets : List ℕ) (told : Said) (size : ℕ) : Type 0 where
  pub is : told ≡ said kind peer moment
  pub text : length octets ≡ 4 → IsOctets octets → octets ≡ big_bytes 4 size
  pub allowed : allows kind size ≡ true

size_told : (place : ℕ) (kind : RecordKind) (peer moment : ℕ) (octets : List ℕ) (told : Said) (size : ℕ)
    → size_field place kind peer moment octets ≡ Whole told size → IsSized kind peer moment octets told size
size_told place kind peer moment octets told size h =
    by (nat_lt (length octets) 4) (allows kind (big_number 4 octets)) refl h
  where
    by : (short allowed : Bool) → allows kind (big_number 4 octets) ≡ allowed
        → (if short then Partial else if allowed then Whole (said kind peer moment) (big_number 4 octets) else Wrong Length place)
        ≡ Whole told size
        → IsSized kind peer moment octets told size
    by true allowed a e = cc
    by false false a e = cc
    by false true a e =
        let same : big_number 4 octets ≡ size = cc in
        record {
          is = (cc);
          text = λ four are.
              let none : drop 4 octets ≡ [] = nothing (drop 4 octets) (omega (arith, four, length-drop 4 octets)) in
              number_written 4 octets (omega (arith, four)) are ∙ ap (λ rest. big_bytes 4 (big_number 4 octets) ++ rest) none ∙ ap (big_bytes 4) same;
          allowed = ap (allows kind) (sym same) ∙ a;
        }

-- those behind the peer's number
record IsBehind (version : Version) (last : ℕ) (kind : RecordKind) (peer : ℕ) (octets : List ℕ) (told : Said) (size : ℕ) : Type 0 where
  pub is : told ≡ said kind peer told.moment
  pub text : 3 + length octets ≡ head_size version → IsOctets octets → octets ≡ moment_text version told.moment ++ big_bytes 4 size
  pub allowed : allows kind size ≡ true
  pub room : IsOctets octets → told.moment < 2 ^ 64
  pub timed : IsTimed version last told.moment

with_moment : (version : Version) (last : ℕ) (kind : RecordKind) (peer moment : ℕ) (octets rest : List ℕ) (told : Said) (size : ℕ)
    → IsSized kind peer moment rest told size
    → (3 + length octets ≡ head_size version → IsOctets octets → octets ≡ moment_text version moment ++ rest)
    → (3 + length octets ≡ head_size version → length rest ≡ 4) → (IsOctets octets → IsOctets rest) → (IsOctets octets → moment < 2 ^ 64)
    → IsTimed version last moment → IsBehind version last kind peer octets told size
with_moment version last kind peer moment octets rest told size sized text rest_size rest_are room timed =
    let same : moment ≡ told.moment = sym (ap (λ (s : Said). s.moment) sized.is) in
    record {
      is = sized.is ∙ ap (said kind peer) same;
      text = λ count are.
          text count are ∙ ap (λ more. moment_text version moment ++ more) (sized.text (rest_size count) (rest_are are))
          ∙ ap (λ m. moment_text version m ++ big_bytes 4 size) same;
      allowed = sized.allowed;
      room = λ are. subst (λ m. m < 2 ^ 64) same (room are);
      timed = subst (IsTimed version last) same timed;
    }

behind_told : (version : Version) (last : ℕ) (kind : RecordKind) (peer : ℕ) (octets : List ℕ) (told : Said) (size : ℕ)
    → behind_peer version last kind peer octets ≡ Whole told size → IsBehind version last kind peer octets told size
behind_told One last kind peer octets told size h =
    with_moment One last kind peer 0 octets octets told size (size_told 3 kind peer 0 octets told size h) (λ count are. refl)
    (λ count. omega (arith, count)) (λ are. are) (λ are. omega arith) refl
behind_told Two last kind peer octets told size h =
    by (nat_lt (length octets) 8) (nat_lt (big_number 8 octets) last) refl h
  where
    by : (short before : Bool) → nat_lt (big_number 8 octets) last ≡ before
        → (if short then Partial else if before then Wrong Moment 3 else size_field 11 kind peer (big_number 8 octets) (drop 8 octets))
        ≡ Whole told size
        → IsBehind Two last kind peer octets told size
    by true before b e = cc
    by false true b e = cc
    by false false b e =
        let timed : last ≤ big_number 8 octets = grind (arith, nat_tests) in
        with_moment Two last kind peer (big_number 8 octets) octets (drop 8 octets) told size
        (size_told 11 kind peer (big_number 8 octets) (drop 8 octets) told size e)
        (λ count are. number_written 8 octets (omega (arith, count)) are) (λ count. omega (arith, count, length-drop 8 octets))
        (octets_drop 8 octets) (big_below 8 octets) timed

some_of : {A : Type 0} (o : Option A) → is_none o ≡ false → IsSome o
some_of None h = cc
some_of (Some x) h = refl

-- All of a head's octets, where they are octets and no more than a head's. Its moment may stand behind the last one.
pub record IsHeadOf (config : Config) (version : Version) (last : ℕ) (octets : List ℕ) (told : Said) (size : ℕ) : Type 0 where
  pub text : length octets ≡ head_size version → IsOctets octets → octets ≡ head_text version (octet_of told.kind) told.peer told.moment size
  pub allowed : allows told.kind size ≡ true
  pub numbered : IsOctets octets → IsNumbered config told.peer
  pub room : IsOctets octets → told.moment < 2 ^ 64
  pub timed : IsTimed version last told.moment

with_peer : (config : Config) (version : Version) (last octet : ℕ) (kind : RecordKind) (peer : ℕ) (octets rest : List ℕ) (told : Said) (size : ℕ)
    → octet ≡ octet_of kind → (1 + length octets ≡ head_size version → IsOctets octets → octets ≡ big_bytes 2 peer ++ rest)
    → (1 + length octets ≡ head_size version → 3 + length rest ≡ head_size version) → (IsOctets octets → IsOctets rest)
    → (IsOctets octets → IsNumbered config peer) → IsBehind version last kind peer rest told size
    → IsHeadOf config version last (octet ∷ octets) told size
with_peer config version last octet kind peer octets rest told size first text rest_size rest_are numbered behind =
    let kind_is : kind ≡ told.kind = sym (ap (λ (s : Said). s.kind) behind.is) in
    let peer_is : peer ≡ told.peer = sym (ap (λ (s : Said). s.peer) behind.is) in
    record {
      text = λ count are.
          let long : 1 + length octets ≡ head_size version = omega (arith, count) in
          let tail = octets_tail octet octets are in
          ap (λ o. o ∷ octets) (first ∙ ap octet_of kind_is)
          ∙ ap (λ more. octet_of told.kind ∷ more)
          (text long tail ∙ ap (λ more. big_bytes 2 peer ++ more) (behind.text (rest_size long) (rest_are tail)))
          ∙ ap (λ p. head_text version (octet_of told.kind) p told.moment size) peer_is;
      allowed = subst (λ k. allows k size ≡ true) kind_is behind.allowed;
      numbered = λ are. subst (IsNumbered config) peer_is (numbered (octets_tail octet octets are));
      room = λ are. behind.room (rest_are (octets_tail octet octets are));
      timed = behind.timed;
    }

peer_told : (config : Config) (version : Version) (last octet : ℕ) (kind : RecordKind) (octets : List ℕ) (told : Said) (size : ℕ)
    → octet ≡ octet_of kind → peer_field config version last kind octets ≡ Whole told size
    → IsHeadOf config version last (octet ∷ octets) told size
peer_told config version last octet kind octets told size first h =
    by (nat_lt (length octets) 2) (is_none (peer_of (big_number 2 octets) config.peers)) refl h
  where
    held : (v : Version) → 1 + length octets ≡ head_size v → 2 ≤ length octets
    held One c = omega arith
    held Two c = omega arith

    by : (short unknown : Bool) → is_none (peer_of (big_number 2 octets) config.peers) ≡ unknown
        → (if short then Partial
        else if unknown then Wrong Peer 1
        else behind_peer version last kind (big_number 2 octets) (drop 2 octets))
        ≡ Whole told size
        → IsHeadOf config version last (octet ∷ octets) told size
    by true unknown u e = cc
    by false true u e = cc
    by false false u e =
        with_peer config version last octet kind (big_number 2 octets) octets (drop 2 octets) told size first
        (λ count are. number_written 2 octets (held version count) are)
        (λ count. let two : 2 ≤ length octets = held version count in omega (arith, count, two, length-drop 2 octets)) (octets_drop 2 octets)
        (λ are. (big_below 2 octets are, some_of (peer_of (big_number 2 octets) config.peers) u))
        (behind_told version last kind (big_number 2 octets) (drop 2 octets) told size e)

by_kind : (config : Config) (version : Version) (last octet : ℕ) (octets : List ℕ) (kind : Option RecordKind) (told : Said) (size : ℕ)
    → kind_of octet ≡ kind → head_from config version last (octet ∷ octets) ≡ Whole told size
    → IsHeadOf config version last (octet ∷ octets) told size
by_kind config version last octet octets None told size k h =
    absurd (let no : Wrong Kind 0 ≡ Whole told size = rw (k, head_from) at h in cc)
by_kind config version last octet octets (Some kind) told size k h =
    peer_told config version last octet kind octets told size (kind_octet octet kind k) (rw (k, head_from) at h)

pub head_told : (config : Config) (version : Version) (last : ℕ) (octets : List ℕ) (told : Said) (size : ℕ)
    → head_from config version last octets ≡ Whole told size → IsHeadOf config version last octets told size
head_told config version last [] told size h = cc
head_told config version last (octet ∷ octets) told size h =
    by_kind config version last octet octets (kind_of octet) told size refl h
