-- What `keep` does, event by event.
use Rattle.cmd_wire.proofs.Words.{◌≡◌, ◌∙◌, ◌+◌, ℕ, Bool, true, false, List, [], ◌∷◌, ◌++◌, Option, Some, None, IfSome, append-nil, append_assoc}
use Rattle.cmd_wire.proofs.Words.{length, length-append, arith, ap, refl, sym, subst, Grew, Grew-trans}
use Rattle.std.{specs.Prelude.{is_some, max, take, ◌^◌, ◌-◌}, proofs.Common.{length-take-le}}
use Rattle.fs_base.specs.Gate.{FitsIn, Turn, What, came, what_from}
use Rattle.fs_base.specs.declared.Came.{Came, TheVariants.{Taken, Made, Octets, Ended as HasEnded, Nothing}}
use Rattle.fs_base.proofs.Grew.{Grew-refl}
use Rattle.cmd_wire.proofs.{Kept.{broke_at_once}, KeptExactly.{kept_exactly}}
use Rattle.cmd_wire.specs.Keeping.{AllFit, Begins, Between, Breaks, BreaksFollow, BreaksFollowing, BreaksHearing, BreaksNext, BreaksOne, Continues}
use Rattle.cmd_wire.specs.Keeping.{ContinuesSo, Fills, Fits, Follows, FollowsSo, Happening, HearsNext, HearsOne, HearsSo, IsFirst, IsFull, IsOver}
use Rattle.cmd_wire.specs.Keeping.{IsRight, Keeps, Order, Reread, StandsAt, Stationed, Took, begun, begun_text, begun_turns, behind, count_of}
use Rattle.cmd_wire.specs.Keeping.{event_of, follows, is_over, is_read, octets_in, passed, passed_by, stands_from, starts, step_at, text_from}
use Rattle.cmd_wire.specs.Keeping.{turns_at, turns_from}

-- octets that came are as many as were counted
pub octets_counted : (came : Came) (into : List ℕ) → FitsIn came into → count_of came ≡ octets_in (what_from came into)
octets_counted (Octets line count) into fits = sym (length-take-le count into fits.1)
octets_counted (Taken line from) into fits = refl
octets_counted (Made line) into fits = refl
octets_counted (HasEnded line) into fits = refl
octets_counted Nothing into fits = refl

-- an event's moment and octets have passed
passed_stands : (moment count : ℕ) (old mid : Stationed) (between : Between) → mid ≡ passed_by moment count old → StandsAt between old
    → StandsAt (passed moment count between) mid
passed_stands moment count old mid between is s =
    subst (StandsAt (passed moment count between)) (sym is)
    (record {
      config_is = s.config_is;
      stands = s.stands;
      shelf_is = s.shelf_is;
      moment_is = ap (λ (n : ℕ). max n moment) s.moment_is;
      heard_is = ap (λ (n : ℕ). n + count) s.heard_is;
    })

over_at : (order : Order) (b : Bool) (count count' heard heard' : ℕ) → count ≡ count' → heard ≡ heard' → is_over order.limit heard count ≡ b
    → is_over order.limit heard' count' ≡ b
over_at order b count count' heard heard' c h is =
    subst (λ (n : ℕ). is_over order.limit heard' n ≡ b) c (subst (λ (n : ℕ). is_over order.limit n count ≡ b) h is)

module _ (moment time : ℕ) (what : What) (count : ℕ) (same : count ≡ octets_in what) (old mid : Stationed) (is : mid ≡ passed_by moment count old) where
  stands_passed : (between : Between) → StandsAt between old → StandsAt (passed moment (octets_in what) between) mid
  stands_passed between s = subst (λ (n : ℕ). StandsAt (passed moment n between) mid) same (passed_stands moment count old mid between is s)

  order_passed : mid.order ≡ old.order
  order_passed = ap (λ (station : Stationed). station.order) is

  retook : (new : Stationed) (t t' : Option (List Turn)) (w w' : Option (List ℕ)) (line : ℕ) (reads : Option Reread) (between : Between)
      → Took (follows mid.order line time what reads (passed moment (octets_in what) between)) mid new t t' w w'
      → Took (step_at old.order between (event_of moment time what line reads)) old new t t' w w'
  retook new t t' w w' line reads between k =
      let k : Took (step_at old.order between (event_of moment time what line reads)) mid new t t' w w' =
      subst (λ (order : Order). Took (follows order line time what reads (passed moment (octets_in what) between)) mid new t t' w w') order_passed k in
      record { gate = k.gate; lines = k.lines; stands = k.stands; order_is = k.order_is ∙ order_passed }

  pub hears_took : (new : Stationed) (t t' : Option (List Turn)) (w w' : Option (List ℕ)) → is_over old.order.limit old.heard count ≡ false
      → FollowsSo time what mid new t t' w w' → HearsSo moment time what old new t t' w w'
  hears_took new t t' w w' below did between s =
      let f : Follows time what (passed moment (octets_in what) between) mid new t t' w w' =
      did (passed moment (octets_in what) between) (stands_passed between s) in (
        f.line,
        f.reads,
        record {
          fits = record {
            below = over_at old.order false count (octets_in what) old.heard between.heard same s.heard_is below;
            due = subst (λ (order : Order). is_some f.reads ≡ is_read order time what between) order_passed f.due;
            done = f.done;
            right = subst (λ (order : Order). IfSome f.reads (IsRight order.config)) order_passed f.right;
          };
          took = retook new t t' w w' f.line f.reads between f.took;
        },
      )

  pub hears_broke : {L : Type 0} → (t t' : Option (List Turn)) (w w' : Option (List ℕ)) → (L → ⊥)
      → BreaksFollowing time what mid t t' w w' → BreaksHearing L moment time what old t t' w w'
  hears_broke {L} t t' w w' never broke between s =
      let b : BreaksFollow time what mid.order (passed moment (octets_in what) between) t t' w w' =
      broke (passed moment (octets_in what) between) (stands_passed between s) in (
        b.line,
        b.reads,
        record {
          fits = record {
            due = subst (λ (order : Order). IfSome b.reads (λ reread. is_read order time what between ≡ true)) order_passed b.due;
            right = subst (λ (order : Order). IfSome b.reads (IsRight order.config)) order_passed b.right;
          };
          breaks = subst (λ (order : Order). Breaks (follows order b.line time what b.reads (passed moment (octets_in what) between)) t t' w w')
              order_passed b.breaks;
          full = λ limited. absurd (never limited);
        },
      )

-- the limit is met
pub hears_over : {L : Type 0} → (moment time : ℕ) (what : What) (count : ℕ) → count ≡ octets_in what
    → (old : Stationed) (t : Option (List Turn)) (w : Option (List ℕ))
    → is_over old.order.limit old.heard count ≡ true → BreaksHearing L moment time what old t t w w
hears_over {L} moment time what count same old t w over between s = (
  0,
  None,
  record {
    fits = record { due = tt; right = tt };
    breaks = broke_at_once (step_at old.order between (event_of moment time what 0 None)) t t w w (Grew-refl t) (Grew-refl w);
    full = λ limited. (over_at old.order true count (octets_in what) old.heard between.heard same s.heard_is over, Grew-refl t);
  },
)

-- Behind the turn of the event.

pub next_took : (moment time : ℕ) (what : What) (old new : Stationed) (t t1 t2 : Option (List Turn)) (w w' : Option (List ℕ))
    → Grew t t1 (came moment time what ∷ [])
    → HearsSo moment time what old new t1 t2 w w' → HearsOne old new t t2 w w'
next_took moment time what old new t t1 t2 w w' told did between s =
    let h = did between s in
    let event : Happening = event_of moment time what h.0 h.1 in (
      event,
      record {
        fits = h.2.fits;
        gate = Grew-trans t t1 t2 (came moment time what ∷ []) (step_at old.order between event).turns told h.2.took.gate;
        lines = h.2.took.lines;
        stands = h.2.took.stands;
        order_is = h.2.took.order_is;
      },
    )

pub next_broke : {L : Type 0} → (moment time : ℕ) (what : What) (old : Stationed) (t t1 t2 : Option (List Turn)) (w w' : Option (List ℕ))
    → Grew t t1 (came moment time what ∷ [])
    → BreaksHearing L moment time what old t1 t2 w w' → BreaksOne L old t t2 w w'
next_broke {L} moment time what old t t1 t2 w w' told did between s =
    let h = did between s in
    let event : Happening = event_of moment time what h.0 h.1 in
    record {
      last = Some event;
      fits = h.2.fits;
      asked = h.2.breaks.asked;
      gate = Grew-trans t t1 t2 (came moment time what ∷ []) (take h.2.breaks.asked (step_at old.order between event).turns) told h.2.breaks.gate;
      told = h.2.breaks.told;
      lines = h.2.breaks.lines;
      full = λ limited. ((h.2.full limited).0, Grew-trans t t1 t2 (came moment time what ∷ []) [] told (h.2.full limited).1);
    }

pub next_none : {L : Type 0} → (old : Stationed) (t t' : Option (List Turn)) (w : Option (List ℕ)) → Grew t t' [] → (L → ⊥) → BreaksOne L old t t' w w
next_none {L} old t t' w none never between s =
    record { last = None; fits = tt; asked = 0; gate = none; told = 0; lines = Grew-refl w; full = λ limited. absurd (never limited) }

-- One more at the end.

stands_more : (order : Order) (now : Between) (events : List Happening) (event : Happening)
    → stands_from order now (events ++ event ∷ []) ≡ behind order (stands_from order now events) event
stands_more order now [] event = refl
stands_more order now (first ∷ later) event = stands_more order (behind order now first) later event

turns_more : (order : Order) (now : Between) (events : List Happening) (event : Happening)
    → turns_from order now (events ++ event ∷ []) ≡ turns_from order now events ++ turns_at order (stands_from order now events) event
turns_more order now [] event = append-nil (turns_at order now event)
turns_more order now (first ∷ later) event =
    ap (λ (rest : List Turn). turns_at order now first ++ rest) (turns_more order (behind order now first) later event)
    ∙ sym (append_assoc (turns_at order now first) (turns_from order (behind order now first) later)
    (turns_at order (stands_from order (behind order now first) later) event))

text_more : (order : Order) (now : Between) (events : List Happening) (event : Happening)
    → text_from order now (events ++ event ∷ []) ≡ text_from order now events ++ (step_at order (stands_from order now events) event).text
text_more order now [] event = append-nil (step_at order now event).text
text_more order now (first ∷ later) event =
    ap (λ (rest : List ℕ). (step_at order now first).text ++ rest) (text_more order (behind order now first) later event)
    ∙ sym (append_assoc (step_at order now first).text (text_from order (behind order now first) later)
    (step_at order (stands_from order (behind order now first) later) event).text)

fit_more : (order : Order) (now : Between) (events : List Happening) (event : Happening) → AllFit order now events
    → Fits order (stands_from order now events) event
    → AllFit order now (events ++ event ∷ [])
fit_more order now [] event all one = (one, tt)
fit_more order now (first ∷ later) event all one = (all.0, fit_more order (behind order now first) later event all.1 one)

-- Behind so many events since the first reading.
pub record Heard (count : ℕ) (order : Order) (start : Between) (station : Stationed) (turns turns' : Option (List Turn))
    (before now : Option (List ℕ)) : Type 0 where
  pub events : List Happening
  pub count_is : length events ≡ count
  pub fit : AllFit order start events
  pub stands : StandsAt (stands_from order start events) station
  pub order_is : station.order ≡ order
  pub gate : Grew turns turns' (turns_from order start events)
  pub lines : Grew before now (text_from order start events)

abbrev pub HeardSo : (count : ℕ) → (old station : Stationed) → (turns turns' : Option (List Turn)) → (before now : Option (List ℕ)) → Type 0
HeardSo count old station turns turns' before now = (start : Between) → StandsAt start old → Heard count old.order start station turns turns' before now

pub heard_none : (old : Stationed) (t : Option (List Turn)) (w : Option (List ℕ)) → HeardSo 0 old old t t w w
heard_none old t w start s =
    record { events = []; count_is = refl; fit = tt; stands = s; order_is = refl; gate = Grew-refl t; lines = Grew-refl w }

pub heard_more : (count : ℕ) (old station new : Stationed) (t t1 t2 : Option (List Turn)) (w w1 w2 : Option (List ℕ)) → HeardSo count old station t t1 w w1
    → HearsOne station new t1 t2 w1 w2 → HeardSo (count + 1) old new t t2 w w2
heard_more count old station new t t1 t2 w w1 w2 heard one start s =
    let h : Heard count old.order start station t t1 w w1 = heard start s in
    let order : Order = old.order in
    let now : Between = stands_from order start h.events in
    let o = one now h.stands in
    let next : HearsNext now o.0 station new t1 t2 w1 w2 = o.1 in
    record {
      events = h.events ++ o.0 ∷ [];
      count_is = omega (arith, h.count_is, length-append h.events (o.0 ∷ []));
      fit = fit_more order start h.events o.0 h.fit (subst (λ (k : Order). Fits k now o.0) h.order_is next.fits);
      stands = subst (λ (between : Between). StandsAt between new) (sym (stands_more order start h.events o.0))
          (subst (λ (k : Order). StandsAt (behind k now o.0) new) h.order_is next.stands);
      order_is = next.order_is ∙ h.order_is;
      gate = subst (Grew t t2) (sym (turns_more order start h.events o.0))
          (Grew-trans t t1 t2 (turns_from order start h.events) (turns_at order now o.0) h.gate
          (subst (λ (k : Order). Grew t1 t2 (turns_at k now o.0)) h.order_is next.gate));
      lines = subst (Grew w w2) (sym (text_more order start h.events o.0))
          (Grew-trans w w1 w2 (text_from order start h.events) (step_at order now o.0).text h.lines
          (subst (λ (k : Order). Grew w1 w2 (step_at k now o.0).text) h.order_is next.lines));
    }

over_full : (order : Order) (start : Between) (events : List Happening) (last : Option Happening) → IsOver order (stands_from order start events) last
    → IsFull order start events last
over_full order start events None over = absurd over
over_full order start events (Some event) over = over

pub heard_broken : {L M : Type 0} → (count : ℕ) (old station : Stationed) (t t1 t2 : Option (List Turn)) (w w1 w2 : Option (List ℕ)) → (M → L)
    → HeardSo count old station t t1 w w1 → BreaksOne L station t1 t2 w1 w2 → ContinuesSo M old t t2 w w2
heard_broken {L} {M} count old station t t1 t2 w w1 w2 named heard broke start s =
    let h : Heard count old.order start station t t1 w w1 = heard start s in
    let order : Order = old.order in
    let now : Between = stands_from order start h.events in
    let b : BreaksNext L order now t1 t2 w1 w2 = subst (λ (k : Order). BreaksNext L k now t1 t2 w1 w2) h.order_is (broke now h.stands) in
    record {
      earlier = h.events;
      fit = h.fit;
      last = b.last;
      fits = b.fits;
      asked = b.asked;
      gate = Grew-trans t t1 t2 (turns_from order start h.events) (begun_turns order now b.last b.asked) h.gate b.gate;
      told = b.told;
      lines = Grew-trans w w1 w2 (text_from order start h.events) (begun_text order now b.last b.told) h.lines b.lines;
      full = λ limited. (
        over_full order start h.events b.last (b.full (named limited)).0,
        Grew-trans t t1 t2 (turns_from order start h.events) (begun_turns order now b.last 0) h.gate (b.full (named limited)).1,
      );
    }

pub heard_all : {M : Type 0} → (count : ℕ) (old station : Stationed) (t t1 : Option (List Turn)) (w w1 : Option (List ℕ)) → count ≡ 2 ^ 64 - 1
    → HeardSo count old station t t1 w w1 → ContinuesSo M old t t1 w w1
heard_all {M} count old station t t1 w w1 many heard start s =
    let h : Heard count old.order start station t t1 w w1 = heard start s in
    let none : Grew t t1 (turns_from old.order start h.events ++ []) = Grew-trans t t1 t1 (turns_from old.order start h.events) [] h.gate (Grew-refl t1) in
    record {
      earlier = h.events;
      fit = h.fit;
      last = None;
      fits = tt;
      asked = 0;
      gate = none;
      told = 0;
      lines = Grew-trans w w1 w1 (text_from old.order start h.events) [] h.lines (Grew-refl w1);
      full = λ limited. (h.count_is ∙ many, none);
    }

-- Behind the first reading.

module _ {L : Type 0} (order : Order) (old mid : Stationed) (t t1 t2 : Option (List Turn)) (w w1 w2 : Option (List ℕ)) (same : old.order ≡ order)
    (began : Begins old mid t t1 w w1) (goes_on : ContinuesSo L mid t1 t2 w1 w2) where
  behind_first : Continues L order (begun order began.first) t1 t2 w1 w2
  behind_first =
      subst (λ (k : Order). Continues L k (begun k began.first) t1 t2 w1 w2) same
      (subst (λ (k : Order). Continues L k (begun old.order began.first) t1 t2 w1 w2) began.took.order_is
      (goes_on (begun old.order began.first) began.took.stands))

  first_turns : Grew t t1 (starts order began.first).turns
  first_turns = subst (λ (k : Order). Grew t t1 (starts k began.first).turns) same began.took.gate

  pub kept_all : Keeps order t t2 w w2
  kept_all =
      let c : Continues L order (begun order began.first) t1 t2 w1 w2 = behind_first in
      let now : Between = stands_from order (begun order began.first) c.earlier in
      let is_first : IsFirst order began.first = subst (λ (k : Order). IsFirst k began.first) same began.is_first in
      record {
        first = began.first;
        begins = is_first;
        earlier = c.earlier;
        fit = c.fit;
        last = c.last;
        fits = c.fits;
        asked = c.asked;
        gate = Grew-trans t t1 t2 (starts order began.first).turns (turns_from order (begun order began.first) c.earlier
            ++ begun_turns order now c.last c.asked) first_turns c.gate;
        told = c.told;
        lines = Grew-trans w w1 w2 (starts order began.first).text (text_from order (begun order began.first) c.earlier ++ begun_text order now c.last c.told)
            (subst (λ (k : Order). Grew w w1 (starts k began.first).text) same began.took.lines) c.lines;
        exact = kept_exactly order began.first c.earlier is_first c.fit;
      }

  pub kept_full : L → Fills order t t2
  kept_full limited =
      let c : Continues L order (begun order began.first) t1 t2 w1 w2 = behind_first in
      let now : Between = stands_from order (begun order began.first) c.earlier in
      record {
        first = began.first;
        begins = subst (λ (k : Order). IsFirst k began.first) same began.is_first;
        earlier = c.earlier;
        fit = c.fit;
        last = c.last;
        gate = Grew-trans t t1 t2 (starts order began.first).turns (turns_from order (begun order began.first) c.earlier
            ++ begun_turns order now c.last 0) first_turns (c.full limited).1;
        full = (c.full limited).0;
      }
