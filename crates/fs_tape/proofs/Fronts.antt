-- A front of a tape gives a front of its items, and ends done or cut.
use Rattle.fs_tape.proofs.Words.{◌≡◌, ℕ, List, [], ◌∷◌, ◌++◌, Option, Some, None, Err, Bool, true, false, ◌<◌, ◌≤◌, ◌+◌, ◌-◌, ◌==◌, ◌⊎◌, inl, inr}
use Rattle.fs_tape.proofs.Words.{length, take, drop, refl, ap, sym, subst, ◌∙◌, arith, length-append, flat_map, nat_le, nat_lt, if◌then◌else◌}
use Rattle.fs_tape.proofs.Words.{is_none, cases_lt, drop-append-le, drop_at, length-drop, take-append-le, nat_tests, Config, overlap, take-append-add}
use Rattle.fs_tape.proofs.Words.{take_of_none, at_limit, window, with_part, to_come_end, to_come_step, AllFrom, At, at, text_from, bad, done}
use Rattle.fs_tape.proofs.Words.{ends_short, first_record, head_at, records_to_come, stop, Whole, Wrong, Partial, all_taken, opened_by, nothing}
use Rattle.fs_tape.proofs.Words.{record_found, records_shrink, Cut, Kind, Peer, Moment, Version, One, Two, Stands, behind_peer, head_from, head_size}
use Rattle.fs_tape.proofs.Words.{kind_of, peer_field, size_field, Fits, FrontReads, IsFrontOf, IsTapeOf, after, item_text, magic_field, magic_of}
use Rattle.fs_tape.proofs.Words.{Timed, items_to_come, records, stands, tape_of, version_of}
use Rattle.fs_tape.proofs.Items.{has_head, item_read, texts}
use Rattle.fs_tape.proofs.ReadsBack.{behind_magic, behind_opening, magic_opens, magic_size, reads_back, text_at}
use Rattle.fs_tape.specs.declared.{fault.TapeReason.{TapeReason}, header.Said.{Said}, item.Kind.{Kind as RecordKind}}
use Rattle.fs_input.specs.declared.head.Head.{Head}
use Rattle.byteorder.specs.{Endian.{big_number}, Numbers.{big_from-append}}
use Rattle.fs_base.specs.Config.{peer_of}

-- Of a whole head a shorter front says nothing yet.

size_front : (place : ℕ) (kind : RecordKind) (peer moment : ℕ) (front : List ℕ) → length front < 4
    → size_field place kind peer moment front ≡ Partial
size_front place kind peer moment front short = let test : nat_lt (length front) 4 ≡ true = grind (arith, nat_tests) in rw test refl

moment_front : (last : ℕ) (kind : RecordKind) (peer : ℕ) (front more : List ℕ) (said : Said) (size : ℕ)
    → behind_peer Two last kind peer (front ++ more) ≡ Whole said size → length front < 12 → behind_peer Two last kind peer front ≡ Partial
moment_front last kind peer front more said size h short = by (nat_lt (length front) 8) refl
  where
    long : (before : Bool) → nat_lt (big_number 8 front) last ≡ before → 8 ≤ length front
        → (if nat_lt (length (front ++ more)) 8 then Partial
        else if before then Wrong Moment 3
        else size_field 11 kind peer (big_number 8 (front ++ more)) (drop 8 (front ++ more)))
        ≡ Whole said size
        → (if before then Wrong Moment 3 else size_field 11 kind peer (big_number 8 front) (drop 8 front)) ≡ Partial
    long true b held e =
        let test : nat_lt (length (front ++ more)) 8 ≡ false = grind (arith, nat_tests, length-append front more) in
        absurd (let no : Wrong Moment 3 ≡ Whole said size = rw test at e in cc)
    long false b held e = size_front 11 kind peer (big_number 8 front) (drop 8 front) (omega (arith, held, short, length-drop 8 front))

    by : (test : Bool) → nat_lt (length front) 8 ≡ test → behind_peer Two last kind peer front ≡ Partial
    by true t = rw t refl
    by false t =
        let held : 8 ≤ length front = grind (arith, nat_tests) in
        let same : big_number 8 (front ++ more) ≡ big_number 8 front = big_from-append 8 front more held in
        rw t (long (nat_lt (big_number 8 front) last) refl held
        (sym (ap (λ n. if nat_lt (length (front ++ more)) 8 then Partial
        else if nat_lt n last then Wrong Moment 3
        else size_field 11 kind peer (big_number 8 (front ++ more)) (drop 8 (front ++ more))) same) ∙ h))

behind_front : (version : Version) (last : ℕ) (kind : RecordKind) (peer : ℕ) (front more : List ℕ) (said : Said) (size : ℕ)
    → behind_peer version last kind peer (front ++ more) ≡ Whole said size → 3 + length front < head_size version
    → behind_peer version last kind peer front ≡ Partial
behind_front One last kind peer front more said size h short = size_front 3 kind peer 0 front (omega arith)
behind_front Two last kind peer front more said size h short = moment_front last kind peer front more said size h (omega arith)

peer_front : (config : Config) (version : Version) (last : ℕ) (kind : RecordKind) (front more : List ℕ) (said : Said) (size : ℕ)
    → peer_field config version last kind (front ++ more) ≡ Whole said size → 1 + length front < head_size version
    → peer_field config version last kind front ≡ Partial
peer_front config version last kind front more said size h short = by (nat_lt (length front) 2) refl
  where
    long : (unknown : Bool) (peer : ℕ) (behind : List ℕ) → 2 ≤ length front → behind ≡ drop 2 front ++ more
        → (if nat_lt (length (front ++ more)) 2 then Partial
        else if unknown then Wrong Peer 1
        else behind_peer version last kind peer behind)
        ≡ Whole said size
        → (if unknown then Wrong Peer 1 else behind_peer version last kind peer (drop 2 front)) ≡ Partial
    long true peer behind held is e =
        let test : nat_lt (length (front ++ more)) 2 ≡ false = grind (arith, nat_tests, length-append front more) in
        absurd (let no : Wrong Peer 1 ≡ Whole said size = rw test at e in cc)
    long false peer behind held is e =
        let test : nat_lt (length (front ++ more)) 2 ≡ false = grind (arith, nat_tests, length-append front more) in
        behind_front version last kind peer (drop 2 front) more said size
        (ap (behind_peer version last kind peer) (sym is) ∙ (rw test at e)) (omega (arith, held, short, length-drop 2 front))

    by : (test : Bool) → nat_lt (length front) 2 ≡ test → peer_field config version last kind front ≡ Partial
    by true t = rw t refl
    by false t =
        let held : 2 ≤ length front = grind (arith, nat_tests) in
        let same : big_number 2 (front ++ more) ≡ big_number 2 front = big_from-append 2 front more held in
        rw t (long (is_none (peer_of (big_number 2 front) config.peers)) (big_number 2 front) (drop 2 (front ++ more)) held
        (drop-append-le 2 front more held)
        (sym (ap (λ n. if nat_lt (length (front ++ more)) 2 then Partial
        else if is_none (peer_of n config.peers) then Wrong Peer 1
        else behind_peer version last kind n (drop 2 (front ++ more))) same) ∙ h))

abbrev by_kind : Config → Version → ℕ → Option RecordKind → List ℕ → Head Said TapeReason
by_kind config version last kind octets =
    elim kind as (λ _. Head Said TapeReason) [ None ↦ Wrong Kind 0 | Some kind ↦ peer_field config version last kind octets ]

head_front : (config : Config) (version : Version) (last : ℕ) (front more : List ℕ) (said : Said) (size : ℕ)
    → head_from config version last (front ++ more) ≡ Whole said size → length front < head_size version
    → head_from config version last front ≡ Partial
head_front config version last [] more said size h short = refl
head_front config version last (octet ∷ front) more said size h short = by (kind_of octet) h
  where
    by : (kind : Option RecordKind)
        → by_kind config version last kind (front ++ more) ≡ Whole said size → by_kind config version last kind front ≡ Partial
    by None e = absurd cc
    by (Some kind) e = peer_front config version last kind front more said size e (omega (arith, short))

-- No record stands where fewer octets are than its text has, and what stands there isn't wrong.
record StandsShort (now : Stands) (front : List ℕ) : Type 0 where
  pub none : first_record records (at now front) ≡ None
  pub end_is : (place : ℕ) → stop records false place (at now front) ≡ ends_short Cut false place (length front)

by_head : (now : Stands) (front : List ℕ) (said : Said) (size : ℕ) → head_at records (at now front) ≡ Whole said size
    → length front < head_size now.version + size → StandsShort now front
by_head now front said size head short =
    let test : nat_le (head_size now.version + size) (length front) ≡ false = grind (arith, nat_tests) in
    record { none = rw (head, test) refl; end_is = λ place. rw head refl }

by_part : (now : Stands) (front : List ℕ) → head_at records (at now front) ≡ Partial → StandsShort now front
by_part now front head = record { none = rw head refl; end_is = λ place. rw head refl }

record_short : (now : Stands) (part : Timed) (front rest behind : List ℕ) → Fits now part
    → front ++ rest ≡ item_text now.version part ++ behind → length front < length (item_text now.version part) → StandsShort now front
record_short now part front rest behind fits same short =
    let whole = item_text now.version part ++ behind in
    let n = head_size now.version in
    let found = record_found records (at now whole) (part, at (after now part) behind) (item_read now part behind fits) in
    let held : n + found.size ≤ length whole = found.held in
    let left : length (drop (n + found.size) whole) ≡ length behind = ap (λ (a : At Stands). length a.octets) found.behind in
    let size : n + found.size ≡ length (item_text now.version part) =
    omega (arith, held, left, length-drop (n + found.size) whole, length-append (item_text now.version part) behind) in
    let head : head_from now.config now.version now.moment (take n whole) ≡ Whole found.said found.size = found.head in
    elim (cases_lt (length front) n) [
      | inr has ↦
          let fronts : take n front ≡ take n whole = sym (take-append-le n front rest (omega (arith, has))) ∙ ap (take n) same in
          by_head now front found.said found.size (ap (head_from now.config now.version now.moment) fronts ∙ head) (omega (arith, size, short))
      | inl few ↦
          let few' : length front ≤ n = omega (arith, few) in
          let more = take (n - length front) rest in
          let fronts : take n whole ≡ front ++ more =
          ap (take n) (sym same) ∙ ap (λ m. take m (front ++ rest)) (let long : n ≡ length front + (n - length front) = omega (arith, few') in long)
          ∙ take-append-add front rest (n - length front) in
          by_part now front
          (ap (head_from now.config now.version now.moment) (all_taken n front few')
          ∙ head_front now.config now.version now.moment front more found.said found.size
          (ap (head_from now.config now.version now.moment) (sym fronts) ∙ head) few)
    ]

-- the end of what is cut, or of nothing
short_end : (place size : ℕ) → (ends_short Cut false place size ≡ done) ⊎ (ends_short Cut false place size ≡ bad Cut (place + size))
short_end place size = by (size == 0)
  where
    by : (test : Bool) → ((if test then done else bad Cut (place + size)) ≡ done) ⊎ ((if test then done else bad Cut (place + size)) ≡ bad Cut (place + size))
    by true = inl refl
    by false = inr refl

module _ (limit : ℕ) where
  front_ends : (taken : ℕ) (now : Stands) (items : List Timed) (front : List ℕ) → taken + length front < limit → StandsShort now front
      → IsFrontOf items (taken + length front) (records_to_come records limit taken now front)
  front_ends taken now items front below short =
      let judged : window limit taken front ≡ front = all_taken (limit - taken) front (omega (arith, below)) in
      let free : at_limit limit taken front ≡ false = grind (arith, nat_tests) in
      let none : first_record records (at now (window limit taken front)) ≡ None = ap (λ octets. first_record records (at now octets)) judged ∙ short.none in
      let comes : records_to_come records limit taken now front ≡ ([], ends_short Cut false taken (length front)) =
      to_come_end (first_record records) (stop records) limit taken (at now front) none
      ∙ rw (free, judged) (ap (λ end. ([], end)) (short.end_is taken)) in
      subst (IsFrontOf items (taken + length front)) (sym comes)
      (record { later = items; items_are = refl; end_is = short_end taken (length front) })

  front_step : (taken : ℕ) (now : Stands) (part : Timed) (items : List Timed) (front : List ℕ) → Fits now part
      → taken + length (item_text now.version part ++ front) < limit
      → IsFrontOf items (taken + length (item_text now.version part ++ front))
      (records_to_come records limit (taken + length (item_text now.version part)) (after now part) front)
      → IsFrontOf (part ∷ items) (taken + length (item_text now.version part ++ front))
      (records_to_come records limit taken now (item_text now.version part ++ front))
  front_step taken now part items front fits below later =
      let text = item_text now.version part in
      let whole = text ++ front in
      let judged : window limit taken whole ≡ whole = all_taken (limit - taken) whole (omega (arith, below)) in
      let rest : drop (length text) (window limit taken whole) ≡ front = ap (drop (length text)) judged ∙ drop_at text front (length text) refl in
      let comes = to_come_step (first_record records) (stop records) (records_shrink records has_head) limit taken (at now whole) part (after now part)
      (length text) (omega (arith, ap length judged, length-append text front))
      (ap (λ octets. first_record records (at now octets)) judged ∙ item_read now part front fits
      ∙ ap (λ octets. Some (part, at (after now part) octets)) (sym rest)) in
      let all : records_to_come records limit taken now whole ≡ with_part part (records_to_come records limit (taken + length text) (after now part) front) =
      comes ∙ ap (λ octets. with_part part (records_to_come records limit (taken + length text) (after now part) octets))
      (drop_at text front (length text) refl) in
      subst (IsFrontOf (part ∷ items) (taken + length whole)) (sym all)
      (record { later = later.later; items_are = ap (λ more. part ∷ more) later.items_are; end_is = later.end_is })

  front_items : (taken : ℕ) (now : Stands) (items : List Timed) (front rest : List ℕ) → AllFrom Fits after now items
      → front ++ rest ≡ text_from text_at after now items → taken + length front < limit
      → IsFrontOf items (taken + length front) (records_to_come records limit taken now front)
  front_items taken now [] front rest fit same below =
      let none : front ≡ [] = nothing front (omega (arith, ap length same, length-append front rest)) in
      front_ends taken now [] front below
      (subst (StandsShort now) (sym none)
      (by_part now [] (ap (head_from now.config now.version now.moment) (take_of_none (head_size now.version) [] refl))))
  front_items taken now (part ∷ items) front rest fit same below =
      let text = item_text now.version part in
      let behind = text_from text_at after (after now part) items in
      elim (cases_lt (length front) (length text)) [
        | inr has ↦
            let parted = overlap text behind front rest (sym same) has in
            let is : front ≡ text ++ parted.between = parted.front in
            subst (λ octets. IsFrontOf (part ∷ items) (taken + length octets) (records_to_come records limit taken now octets)) (sym is)
            (front_step taken now part items parted.between fit.0 (subst (λ octets. taken + length octets < limit) is below)
            (subst
            (λ size. IsFrontOf items size (records_to_come records limit (taken + length text) (after now part) parted.between))
            (let size : taken + length text + length parted.between ≡ taken + length (text ++ parted.between) =
            omega (arith, length-append text parted.between) in size)
            (front_items (taken + length text) (after now part) items parted.between rest fit.1 (sym parted.rest)
            (omega (arith, below, ap length is, length-append text parted.between)))))
        | inl few ↦ front_ends taken now (part ∷ items) front below (record_short now part front rest behind fit.0 same few)
      ]

magic_long : (version : Version) → length (magic_of version) ≡ 8
magic_long One = refl
magic_long Two = refl

-- a front that has the magic
behind_magic_reads : (config : Config) (limit : ℕ) (version : Version) (items : List Timed) (between rest : List ℕ)
    → AllFrom Fits after (stands config version 0) items → between ++ rest ≡ flat_map (item_text version) items
    → length (magic_of version ++ between) < limit
    → IsFrontOf items (length (magic_of version ++ between)) (tape_of config limit (magic_of version ++ between))
behind_magic_reads config limit version items between rest fit same below =
    let front = magic_of version ++ between in
    let size : 8 + length between ≡ length front = sym (magic_size version between) in
    let opens : tape_of config limit front ≡ items_to_come config version limit 8 0 between =
    ap (behind_opening config limit (drop 8 front)) (magic_opens limit version between below)
    ∙ ap (items_to_come config version limit 8 0) (behind_magic version between) in
    subst (λ told. IsFrontOf items (length front) told) (sym opens)
    (subst (λ n. IsFrontOf items n (items_to_come config version limit 8 0 between)) size
    (front_items limit 8 (stands config version 0) items between rest fit (same ∙ sym (texts config version 0 items)) (omega (arith, below, size))))

-- a front that is shorter than the magic
short_reads : (config : Config) (limit : ℕ) (items : List Timed) (front : List ℕ) → length front < 8 → length front < limit
    → IsFrontOf items (length front) (tape_of config limit front)
short_reads config limit items front short below =
    let judged : take 8 (take limit front) ≡ front =
    ap (take 8) (all_taken limit front (omega (arith, below))) ∙ all_taken 8 front (omega (arith, short)) in
    let test : nat_lt (length front) 8 ≡ true = grind (arith, nat_tests) in
    let free : nat_le limit (length front) ≡ false = grind (arith, nat_tests) in
    let cut : version_of limit front ≡ Err (bad Cut (length front)) =
    ap (λ (octets : List ℕ). opened_by Cut (nat_le limit (length front)) (length octets) (magic_field octets)) judged ∙ rw (test, free) refl in
    subst (λ told. IsFrontOf items (length front) told) (sym (ap (behind_opening config limit (drop 8 front)) cut))
    (record { later = items; items_are = refl; end_is = inr refl })

text_reads : (config : Config) (limit : ℕ) (version : Version) (content front rest : List ℕ) (items : List Timed)
    → IsTapeOf config limit version content items → front ++ rest ≡ content → IsFrontOf items (length front) (tape_of config limit front)
text_reads config limit version content front rest items h same =
    let body = flat_map (item_text version) items in
    let all : magic_of version ++ body ≡ front ++ rest = sym (same ∙ h.spelled) in
    let below : length front < limit = omega (arith, h.below, ap length same, length-append front rest) in
    elim (cases_lt (length front) 8) [
      | inr has ↦
          let parted = overlap (magic_of version) body front rest all (omega (arith, has, magic_long version)) in
          subst (λ octets. IsFrontOf items (length octets) (tape_of config limit octets)) (sym parted.front)
          (behind_magic_reads config limit version items parted.between rest h.fit (sym parted.rest)
          (subst (λ octets. length octets < limit) parted.front below))
      | inl few ↦ short_reads config limit items front few below
    ]

pub front_reads : FrontReads
front_reads config limit content front rest items are h same =
    let text = (reads_back config limit content items are).0 h in
    text_reads config limit text.0 content front rest items text.1 same
