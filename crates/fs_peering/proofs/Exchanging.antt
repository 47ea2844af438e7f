-- Two joined ends, round by round.
use Rattle.fs_peering.proofs.Words.{Told, WireEnd, WireEnds, end_at, heard_end, ◌≡◌, ℕ, ◌+◌, ◌-◌, ◌<◌, ◌≤◌, List, [], ◌∷◌, ◌++◌, Bool, true, false}
use Rattle.fs_peering.proofs.Words.{Option, Some, None, if◌then◌else◌, length, refl, ap, sym, ◌∙◌, subst, arith, append_assoc, append-nil}
use Rattle.fs_peering.proofs.Words.{length-append, IsTrue, flat_map-append, map-append, Grew, Grew-refl, Grew-trans, Talk, Broken, AreJoined}
use Rattle.fs_peering.proofs.Words.{ExchangedOut, Exchanges, Heard, Side, StopsSo, heard_by, moments_of, of_first, of_second, Part, Pieces, Speech}
use Rattle.fs_peering.proofs.Words.{Stance, Round, octets_in}
use Rattle.fs_peering.proofs.{Composing.{octets_then, same_stance}, WrittenInParts.{told_and, told_same}}
use Rattle.fs_peering.specs.{declared.joined.{InFlight.{InFlight}, Talk.TheVariants.{Done}}, Joined.{Ended}}
use Rattle.fs_peering.specs.InFlight.{no_flow, first_heard, second_heard, second_said}

side_none : (stance : Stance) (end : WireEnd) → end.joined ≡ true → end.left ≡ [] → Side stance stance [] [] [] end end
side_none stance end tied empty = record {
  stands = λ earlier spoken s. same_stance stance _ _ _ _ (sym (append-nil earlier)) (sym (append-nil spoken)) s;
  read = sym empty;
  wrote = sym (append-nil end.written);
  tied = tied;
}

-- an end heard more and said more
side_more : (s0 s1 s2 : Stance) (place : ℕ) (heard more : Pieces) (said out others : List ℕ) (b : WireEnd) (m n : WireEnds)
    → Side s0 s1 heard said others b (end_at place m)
    → Part s1 s2 place more out m n → Side s0 s2 (heard ++ more) (said ++ out) others b (end_at place n)
side_more s0 s1 s2 place heard more said out others b m n s part = record {
  stands = λ earlier spoken e. same_stance s2 _ _ _ _ (append_assoc earlier heard more) (append_assoc spoken said out)
      (part.stands (earlier ++ heard) (spoken ++ said) (s.stands earlier spoken e));
  read = s.read ∙ ap (λ (octets : List ℕ). octets_in heard ++ octets) part.read ∙ sym (append_assoc (octets_in heard) (octets_in more) (end_at place n).left)
      ∙ ap (λ (octets : List ℕ). octets ++ (end_at place n).left) (sym (octets_then heard more));
  wrote = part.wrote ∙ ap (λ (octets : List ℕ). octets ++ out) s.wrote ∙ append_assoc b.written said out;
  tied = part.tied ∙ s.tied;
}

joined_left : (end : WireEnd) (out : List ℕ) → end.joined ≡ true → (heard_end out end).left ≡ end.left ++ out
joined_left end out tied = ap (λ (b : Bool). if b then end.left ++ out else end.left) tied

-- the other end said more
side_told : (s0 s1 : Stance) (heard : Pieces) (said others out : List ℕ) (b m n : WireEnd) → Side s0 s1 heard said others b m
    → n ≡ heard_end out m → Side s0 s1 heard said (others ++ out) b n
side_told s0 s1 heard said others out b m n s e = record {
  stands = s.stands;
  read = ap (λ (octets : List ℕ). octets ++ out) s.read ∙ append_assoc (octets_in heard) m.left out
      ∙ ap (λ (octets : List ℕ). octets_in heard ++ octets) (sym (ap (λ (end : WireEnd). end.left) e ∙ joined_left m out s.tied));
  wrote = ap (λ (end : WireEnd). end.written) e ∙ s.wrote;
  tied = ap (λ (end : WireEnd). end.joined) e ∙ s.tied;
}

side_same : (s0 s1 : Stance) (heard heard' : Pieces) (said said' others others' : List ℕ) (b n : WireEnd) → heard ≡ heard' → said ≡ said' → others ≡ others'
    → Side s0 s1 heard said others b n → Side s0 s1 heard' said' others' b n
side_same s0 s1 heard heard' said said' others others' b n h s o side = rw (← h, ← s, ← o) side

-- An end as above: so many octets are unread at it, and so many it has read.
pub record Counted (old new : Stance) (heard : Pieces) (said others : List ℕ) (before now : WireEnd) (unread read : ℕ) : Type 0 where
  pub side : Side old new heard said others before now
  pub unread_is : unread ≡ length now.left
  pub read_is : read ≡ length (octets_in heard)

-- Both ends, with the counts of octets.
pub record Exchanging (r r' a a' : Stance) (given : List ℕ) (flow : InFlight) (before now : WireEnds) : Type 0 where
  pub events : List Heard
  pub replied : List ℕ
  pub announced : List ℕ
  pub asked : moments_of events ≡ given
  pub one : Counted r r' (of_first events) replied announced before.first now.first flow.to_first flow.first_read
  pub other : Counted a a' (of_second events) announced replied before.second now.second flow.to_second flow.second_read

counted_none : (stance : Stance) (end : WireEnd) → end.joined ≡ true → end.left ≡ [] → Counted stance stance [] [] [] end end 0 0
counted_none stance end tied empty = record { side = side_none _ _ tied empty; unread_is = sym (ap length empty); read_is = refl }

exchanging_none : (r a : Stance) (ends : WireEnds) → AreJoined ends → Exchanging r r a a [] no_flow ends ends
exchanging_none r a ends j = record {
  events = [];
  replied = [];
  announced = [];
  asked = refl;
  one = counted_none _ _ j.0 j.2;
  other = counted_none _ _ j.1 j.3;
}

abbrev event : Bool → ℕ → List ℕ → Heard
event first moment piece = record { first = first; moment = moment; piece = piece }

first_more : (events : List Heard) (moment : ℕ) (got : List ℕ)
    → (of_first (events ++ event true moment got ∷ []) ≡ of_first events ++ (moment, got) ∷ [])
    × (of_second (events ++ event true moment got ∷ []) ≡ of_second events)
first_more events moment got = (
  flat_map-append (heard_by true) events (event true moment got ∷ []),
  flat_map-append (heard_by false) events (event true moment got ∷ [])
      ∙ append-nil (of_second events),
)

second_more : (events : List Heard) (moment : ℕ) (got : List ℕ)
    → (of_first (events ++ event false moment got ∷ []) ≡ of_first events)
    × (of_second (events ++ event false moment got ∷ []) ≡ of_second events ++ (moment, got) ∷ [])
second_more events moment got = (
  flat_map-append (heard_by true) events (event false moment got ∷ [])
      ∙ append-nil (of_first events),
  flat_map-append (heard_by false) events (event false moment got ∷ []),
)

moments_more : (events : List Heard) (given : List ℕ) (first : Bool) (moment : ℕ) (got : List ℕ) → moments_of events ≡ given
    → moments_of (events ++ event first moment got ∷ []) ≡ given ++ moment ∷ []
moments_more events given first moment got e =
    map-append (λ (h : Heard). h.moment) events (event first moment got ∷ []) ∙ ap (λ (moments : List ℕ). moments ++ moment ∷ []) e

-- of what was left these octets were read
left_less : (left left' got : List ℕ) (n count : ℕ) → left ≡ (got ++ []) ++ left' → n ≡ length left → length got ≡ count → n - count ≡ length left'
left_less left left' got n count e h k =
    let whole : length left ≡ length got + length left' = ap length (e ∙ ap (λ (octets : List ℕ). octets ++ left') (append-nil got))
    ∙ length-append got left' in
    omega (arith, h, k, whole)

left_grown : (m n : WireEnd) (out : List ℕ) (count said : ℕ) → n ≡ heard_end out m → m.joined ≡ true → count ≡ length m.left → length out ≡ said
    → count + said ≡ length n.left
left_grown m n out count said e tied h k =
    let whole : length n.left ≡ length m.left + length out = ap (λ (end : WireEnd). length end.left) e ∙ ap length (joined_left m out tied)
    ∙ length-append m.left out in
    omega (arith, h, k, whole)

read_more : (heard heard' : Pieces) (moment : ℕ) (got : List ℕ) (n count : ℕ) → heard' ≡ heard ++ (moment, got) ∷ [] → n ≡ length (octets_in heard)
    → length got ≡ count
    → n + count ≡ length (octets_in heard')
read_more heard heard' moment got n count e h k =
    let whole : length (octets_in heard') ≡ length (octets_in heard) + length got =
    ap (λ (p : Pieces). length (octets_in p)) e
    ∙ ap length (octets_then heard ((moment, got) ∷ []) ∙ ap (λ (octets : List ℕ). octets_in heard ++ octets) (append-nil got))
    ∙ length-append (octets_in heard) got in
    omega (arith, h, k, whole)

-- an end heard a piece and said more
counted_more : (s0 s1 s2 : Stance) (place : ℕ) (heard heard' : Pieces) (moment : ℕ) (got said out others : List ℕ) (b : WireEnd) (m n : WireEnds)
    (unread read count : ℕ)
    → heard' ≡ heard ++ (moment, got) ∷ [] → length got ≡ count → Counted s0 s1 heard said others b (end_at place m) unread read
    → Part s1 s2 place ((moment, got) ∷ []) out m n
    → Counted s0 s2 heard' (said ++ out) others b (end_at place n) (unread - count) (read + count)
counted_more s0 s1 s2 place heard heard' moment got said out others b m n unread read count e k c part = record {
  side = side_same _ _ _ _ _ _ _ _ _ _ (sym e) refl refl (side_more _ _ _ _ _ _ _ _ _ _ _ _ c.side part);
  unread_is = left_less _ _ _ _ _ part.read c.unread_is k;
  read_is = read_more _ _ _ _ _ _ e c.read_is k;
}

-- the other end did
counted_told : (s0 s1 : Stance) (heard heard' : Pieces) (said others out : List ℕ) (b m n : WireEnd) (unread read more : ℕ) → heard' ≡ heard → length out ≡ more
    → Counted s0 s1 heard said others b m unread read → n ≡ heard_end out m → Counted s0 s1 heard' said (others ++ out) b n (unread + more) read
counted_told s0 s1 heard heard' said others out b m n unread read more e k c told = record {
  side = side_same _ _ _ _ _ _ _ _ _ _ (sym e) refl refl (side_told _ _ _ _ _ _ _ _ _ c.side told);
  unread_is = left_grown _ _ _ _ _ told c.side.tied c.unread_is k;
  read_is = c.read_is ∙ ap (λ (p : Pieces). length (octets_in p)) (sym e);
}

exchanging_first : (r r1 r2 a a1 : Stance) (given : List ℕ) (flow : InFlight) (moment count said : ℕ) (b m n : WireEnds) → Exchanging r r1 a a1 given flow b m
    → Round r1 r2 0 moment count said m n → Exchanging r r2 a a1 (given ++ moment ∷ []) (first_heard count said flow) b n
exchanging_first r r1 r2 a a1 given flow moment count said b m n x round = record {
  events = x.events ++ event true moment round.got ∷ [];
  replied = x.replied ++ round.out;
  announced = x.announced;
  asked = moments_more _ _ _ _ _ x.asked;
  one = counted_more _ _ _ _ _ _ _ _ _ _ _ _ _ _ _ _ _ (first_more x.events moment round.got).0 round.counted x.one round.part;
  other = counted_told _ _ _ _ _ _ _ _ _ _ _ _ _ (first_more x.events moment round.got).1 round.sized x.other round.part.other;
}

exchanging_second : (r r1 a a1 a2 : Stance) (given : List ℕ) (flow : InFlight) (moment count said : ℕ) (b m n : WireEnds) → Exchanging r r1 a a1 given flow b m
    → Round a1 a2 1 moment count said m n → Exchanging r r1 a a2 (given ++ moment ∷ []) (second_heard count said flow) b n
exchanging_second r r1 a a1 a2 given flow moment count said b m n x round = record {
  events = x.events ++ event false moment round.got ∷ [];
  replied = x.replied;
  announced = x.announced ++ round.out;
  asked = moments_more _ _ _ _ _ x.asked;
  one = counted_told _ _ _ _ _ _ _ _ _ _ _ _ _ (second_more x.events moment round.got).0 round.sized x.one round.part.other;
  other = counted_more _ _ _ _ _ _ _ _ _ _ _ _ _ _ _ _ _
      (second_more x.events moment round.got).1 round.counted x.other round.part;
}

exchanging_said : (r r1 a a1 a2 : Stance) (given : List ℕ) (flow : InFlight) (said : ℕ) (b m n : WireEnds) → Exchanging r r1 a a1 given flow b m
    → Speech a1 a2 1 said m n → Exchanging r r1 a a2 (given ++ []) (second_said said flow) b n
exchanging_said r r1 a a1 a2 given flow said b m n x speech = record {
  events = x.events;
  replied = x.replied;
  announced = x.announced ++ speech.out;
  asked = x.asked ∙ sym (append-nil given);
  one = counted_told _ _ _ _ _ _ _ _ _ _ _ _ _ refl speech.sized x.one speech.part.other;
  other = record {
    side = side_same _ _ _ _ _ _ _ _ _ _ (append-nil (of_second x.events)) refl refl
        (side_more _ _ _ _ _ _ _ _ _ _ _ _ x.other.side speech.part);
    unread_is = x.other.unread_is ∙ ap length (speech.part.read);
    read_is = x.other.read_is;
  };
}

-- An end is open, has read less than the limit, and is whose it was.
pub record Within {S : Type 0} (over : Bool) (count limit : ℕ) (own own' : S) : Type 0 where
  pub opened : over ≡ false
  pub within : count < limit
  pub own_is : own' ≡ own

-- So where the wire tells, between joined ends; and the clock answered these moments.
pub record Talking (r r' a a' : Stance) (flow : InFlight) (before now : Option WireEnds) (answers answers' : Option (List ℕ)) : Type 0 where
  pub given : List ℕ
  pub grew : Grew answers answers' given
  pub told : Told (λ b n. AreJoined b → Exchanging r r' a a' given flow b n) before now

pub talking_none : (r a : Stance) (told : Option WireEnds) (answers : Option (List ℕ)) → Talking r r a a no_flow told told answers answers
talking_none r a told answers = record {
  given = [];
  grew = Grew-refl answers;
  told = told_same (λ b n. AreJoined b → Exchanging r r a a [] no_flow b n) (λ ends j. exchanging_none r a ends j) told;
}

-- neither end has read more than the limit
abbrev pub IsBounded : InFlight → (limit : ℕ) → Type 0
IsBounded flow limit = (flow.first_read ≤ limit) × (flow.second_read ≤ limit)

-- What the counts say of octets when no more is heard.
abbrev pub Counts : Talk → Ended → (limit : ℕ) → InFlight → Type 0
Counts talk end limit flow =
    (events : List Heard) (now : WireEnds) → flow.to_first ≡ length now.first.left → flow.to_second ≡ length now.second.left
    → flow.first_read ≡ length (octets_in (of_first events))
    → StopsSo talk end (length (octets_in (of_first events))) limit now

pub talked : (talk : Talk) (r r' a a' : Stance) (end : Ended) (limit : ℕ) (flow : InFlight) (before now : Option WireEnds) (answers answers' : Option (List ℕ))
    → Talking r r' a a' flow before now answers answers' → IsBounded flow limit → Counts talk end limit flow
    → Exchanges talk r r' a a' end limit before now answers answers'
talked talk r r' a a' end limit flow before now answers answers' t few stops = record {
  given = t.given;
  grew = t.grew;
  told = by before now t.told;
}
  where
    by : (before now : Option WireEnds) → Told (λ b n. AreJoined b → Exchanging r r' a a' t.given flow b n) before now
        → Told (λ b n. AreJoined b → ExchangedOut talk r r' a a' end limit t.given b n) before now
    by before None told = tt
    by None (Some n) told = absurd told
    by (Some b) (Some n) told = λ j.
        let x = told j in
        record {
          events = x.events;
          exchanged = record { replied = x.replied; announced = x.announced; one = x.one.side; other = x.other.side };
          asked = x.asked;
          within_first = subst (λ (n : ℕ). n ≤ limit) x.one.read_is few.0;
          within_second = subst (λ (n : ℕ). n ≤ limit) x.other.read_is few.1;
          stops = stops x.events n x.one.unread_is x.other.unread_is x.one.read_is;
        }

-- octets in flight to an end arrive there: a read of none found none left
never_arrives : (left left' got : List ℕ) (flying count : ℕ) → left ≡ (got ++ []) ++ left' → flying ≡ length left → 0 < flying → length got ≡ count
    → count ≡ 0 → left' ≡ [] → ⊥
never_arrives left left' got flying count e h some k none empty =
    let whole : length left ≡ length got + length left' = ap length (e ∙ ap (λ (octets : List ℕ). octets ++ left') (append-nil got))
    ∙ length-append got left' in
    absurd (omega (arith, h, some, k, none, whole, ap length empty))

pub no_octets : (octets : List ℕ) → 0 ≡ length octets → octets ≡ []
no_octets [] h = refl
no_octets (octet ∷ octets) h = absurd (omega (arith, h))

-- One step more.
module _ {r r1 a a1 : Stance} {flow : InFlight} {before now : Option WireEnds} {answers asked : Option (List ℕ)}
    (t : Talking r r1 a a1 flow before now answers asked)
    (later : Option WireEnds) where
  -- in which the clock answered these moments
  stepped : (r2 a2 : Stance) (flow' : InFlight) (step : WireEnds → WireEnds → Type 0) (more : List ℕ) (last : Option (List ℕ))
      → ((b m n : WireEnds) → Exchanging r r1 a a1 t.given flow b m → step m n → Exchanging r r2 a a2 (t.given ++ more) flow' b n)
      → Told step now later → Grew asked last more → Talking r r2 a a2 flow' before later answers last
  stepped r2 a2 flow' step more last join told grew = record {
    given = t.given ++ more;
    grew = Grew-trans answers asked last t.given more t.grew grew;
    told = told_and _ _ _ (λ b m n x taken j. join b m n (x j) taken) before now later t.told told;
  }

  pub talking_first : (r2 : Stance) (flow' : InFlight) (moment count said : ℕ) (last : Option (List ℕ)) → flow' ≡ first_heard count said flow
      → Told (Round r1 r2 0 moment count said) now later → Grew asked last (moment ∷ []) → Talking r r2 a a1 flow' before later answers last
  talking_first r2 flow' moment count said last e round grew =
      subst (λ (f : InFlight). Talking r r2 a a1 f before later answers last) (sym e) (stepped _ _ _ _ _ _
      (exchanging_first r r1 r2 a a1 t.given flow moment count said) round grew)

  pub talking_second : (a2 : Stance) (flow' : InFlight) (moment count said : ℕ) (last : Option (List ℕ)) → flow' ≡ second_heard count said flow
      → Told (Round a1 a2 1 moment count said) now later → Grew asked last (moment ∷ []) → Talking r r1 a a2 flow' before later answers last
  talking_second a2 flow' moment count said last e round grew =
      subst (λ (f : InFlight). Talking r r1 a a2 f before later answers last) (sym e) (stepped _ _ _ _ _ _
      (exchanging_second r r1 a a1 a2 t.given flow moment count said) round grew)

  pub talking_said : (a2 : Stance) (flow' : InFlight) (said : ℕ) → flow' ≡ second_said said flow → Told (Speech a1 a2 1 said) now later
      → Talking r r1 a a2 flow' before later answers asked
  talking_said a2 flow' said e speech =
      subst (λ (f : InFlight). Talking r r1 a a2 f before later answers asked) (sym e)
      (stepped _ _ _ _ _ _ (exchanging_said r r1 a a1 a2 t.given flow said) speech (Grew-refl asked))

  -- or octets that were in flight didn't arrive
  never : (r2 a2 : Stance) (end : Ended) (limit : ℕ) (step : WireEnds → WireEnds → Type 0) (more : List ℕ) (last : Option (List ℕ))
      → ((b m n : WireEnds) → Exchanging r r1 a a1 t.given flow b m → step m n → ⊥) → Told step now later → Grew asked last more
      → Exchanges Broken r r2 a a2 end limit before later answers last
  never r2 a2 end limit step more last arrives told grew = record {
    given = t.given ++ more;
    grew = Grew-trans answers asked last t.given more t.grew grew;
    told = told_and _ _ _ (λ b m n x taken j. absurd (arrives b m n (x j) taken)) before now later t.told told;
  }

  pub never_first : (r2 : Stance) (end : Ended) (limit moment count said : ℕ) (last : Option (List ℕ))
      → Told (Round r1 r2 0 moment count said) now later → Grew asked last (moment ∷ [])
      → 0 < flow.to_first → count ≡ 0 → Exchanges Broken r r2 a a1 end limit before later answers last
  never_first r2 end limit moment count said last round grew some none =
      never _ _ _ _ _ _ _ (λ b m n x turned. never_arrives _ _ _ _ _ turned.part.read x.one.unread_is some turned.counted
      none (turned.none none)) round grew

  pub never_second : (a2 : Stance) (end : Ended) (limit moment count said : ℕ) (last : Option (List ℕ))
      → Told (Round a1 a2 1 moment count said) now later → Grew asked last (moment ∷ [])
      → 0 < flow.to_second → count ≡ 0 → Exchanges Broken r r1 a a2 end limit before later answers last
  never_second a2 end limit moment count said last round grew some none =
      never _ _ _ _ _ _ _ (λ b m n x turned. never_arrives _ _ _ _ _ turned.part.read x.other.unread_is some
      turned.counted none (turned.none none)) round grew

  -- or the second end said no more
  pub talked_done : (a2 : Stance) (end : Ended) (limit : ℕ) → Told (Speech a1 a2 1 0) now later → IsBounded flow limit → end.over_first ≡ false
      → end.over_second ≡ false → flow.first_read < limit
      → end.count < limit → flow.to_first ≡ 0 → IsTrue end.begun → (end.ready ≡ false → flow.to_second ≡ 0) → (IsTrue end.ready → end.ahead ≡ 0)
      → Exchanges Done r r1 a a2 end limit before later answers asked
  talked_done a2 end limit speech few one other within counted none begun rest all =
      talked _ _ _ _ _ _ _ _ _ _ _ _ (talking_said _ _ _ refl speech) few (λ events ends first second read. record {
        open_first = one;
        open_second = other;
        within_first = subst (λ (n : ℕ). n < limit) read within;
        within_second = counted;
        heard_first = no_octets _ (omega (arith, first, none));
        begun = begun;
        heard_second = λ waits. no_octets _ (omega (arith, second, rest waits));
        all = all;
      })
