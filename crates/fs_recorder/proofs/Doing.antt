-- Deeds, one after the other.
use Rattle.fs_recorder.proofs.Words.{ℕ, Bool, List, [], ◌∷◌, ◌++◌, Option, ◌≡◌, map, refl, ap, sym, subst, ◌∙◌, append-nil, append_assoc}
use Rattle.fs_recorder.proofs.Words.{AllByRecursion, Turn, said, shut, Grew, Grew-refl, Grew-trans, part_more, part_then, GrewPart, take, IsWritable}
use Rattle.fs_recorder.proofs.Words.{item_text, Item, timed, Two, expired_after, nobody, AgreesBut, Booked, Tells, TellsPart, BreaksAt, Deed, Does}
use Rattle.fs_recorder.proofs.Words.{asked_in, items_of, leaves, says, sends, shuts, tells, text_at, text_now, told_at, Seat, was_lost, Result, Ok}
use Rattle.fs_recorder.proofs.{Words.{Err, OnErr, OnOk, arith, length, length-append, ◌+◌, ◌≤◌, Ran, Recording, AtDoor, Step}, Telling.{told_on}}
use Rattle.std.specs.Result.{IsErrAnd, IsErrOf}
use Rattle.fs_recorder.specs.declared.stop.Stop.{Stop}
use Rattle.fs_recorder.specs.declared.stop.Stop.TheVariants.{Limit, Memory}

pub items_both : (first later : List Deed) → items_of (first ++ later) ≡ items_of first ++ items_of later
items_both [] later = refl
items_both (tells item ∷ first) later = ap (λ items. item ∷ items) (items_both first later)
items_both (sends line octets ∷ first) later = items_both first later
items_both (shuts line ∷ first) later = items_both first later

asked_both : (first later : List Deed) → asked_in (first ++ later) ≡ asked_in first ++ asked_in later
asked_both [] later = refl
asked_both (tells item ∷ first) later = asked_both first later
asked_both (sends line octets ∷ first) later = ap (λ turns. said line octets ∷ turns) (asked_both first later)
asked_both (shuts line ∷ first) later = ap (λ turns. shut line ∷ turns) (asked_both first later)

-- lines are closed

pub shuts_items : (lines : List ℕ) → items_of (map shuts lines) ≡ []
shuts_items [] = refl
shuts_items (line ∷ lines) = shuts_items lines

pub shuts_asked : (lines : List ℕ) → asked_in (map shuts lines) ≡ map shut lines
shuts_asked [] = refl
shuts_asked (line ∷ lines) = ap (λ turns. shut line ∷ turns) (shuts_asked lines)

told_both : (moment : ℕ) (first later : List Item) → told_at moment (first ++ later) ≡ told_at moment first ++ told_at moment later
told_both moment [] later = refl
told_both moment (item ∷ first) later = ap (λ told. timed moment item ∷ told) (told_both moment first later)

text_both : (moment : ℕ) (first later : List Item) → text_at moment (first ++ later) ≡ text_at moment first ++ text_at moment later
text_both moment [] later = refl
text_both moment (item ∷ first) later =
    ap (λ text. item_text Two (timed moment item) ++ text) (text_both moment first later)
    ∙ sym (append_assoc (item_text Two (timed moment item)) (text_at moment first) (text_at moment later))

-- the records of deeds, and of others behind them
text_size : (moment : ℕ) (first later : List Deed)
    → length (text_at moment (items_of (first ++ later))) ≡ length (text_at moment (items_of first)) + length (text_at moment (items_of later))
text_size moment first later =
    ap length (ap (text_at moment) (items_both first later) ∙ text_both moment (items_of first) (items_of later))
    ∙ length-append (text_at moment (items_of first)) (text_at moment (items_of later))

-- the record of one
one_size : (books : Booked) (item : Item) → length (text_at books.scribe.moment (item ∷ [])) ≡ length (text_now books item)
one_size books item = ap length (append-nil (text_now books item))

all_both : (P : Item → Type 0) (first later : List Item) → AllByRecursion P first → AllByRecursion P later → AllByRecursion P (first ++ later)
all_both P [] later a b = b
all_both P (item ∷ first) later a b = (a.0, all_both P first later a.1 b)

-- the gate alone was asked
pub does_ask : (expired : ℕ → Bool) (deeds : List Deed) (books : Booked) (turns turns' : Option (List Turn)) (written : Option (List ℕ))
    → items_of deeds ≡ [] → Grew turns turns' (asked_in deeds) → Does expired expired deeds books books turns turns' written written
does_ask expired deeds books turns turns' written none grew = record {
  writable = subst (AllByRecursion (IsWritable books.desk.config)) (sym none) tt;
  tape = subst (λ items. Grew written written (text_at books.scribe.moment items)) (sym none) (Grew-refl written);
  gate = grew;
  moment_is = refl;
  written_is = subst (λ items. books.scribe.written ≡ books.scribe.written + length (text_at books.scribe.moment items)) (sym none) (omega arith);
  limit_is = refl;
  config_is = refl;
  agrees = λ config told agrees.
      subst (λ items. AgreesBut expired config (told ++ told_at books.scribe.moment items) books) (sym none)
      (subst (λ t. AgreesBut expired config t books) (sym (append-nil told)) agrees);
}

-- one item was told
pub does_tell : (item : Item) (old new : Booked) (turns : Option (List Turn)) (before now : Option (List ℕ)) → Tells item old new before now
    → (expired : ℕ → Bool) → Does expired (expired_after item expired) (tells item ∷ []) old new turns turns before now
does_tell item old new turns before now told expired = record {
  writable = (told.writable, tt);
  tape = subst (Grew before now) (sym (append-nil (item_text Two (timed old.scribe.moment item)))) told.grew;
  gate = Grew-refl turns;
  moment_is = ap (λ s. s.moment) told.scribe_is;
  written_is = ap (λ s. s.written) told.scribe_is ∙ ap (λ n. old.scribe.written + n) (sym (one_size old item));
  limit_is = ap (λ s. s.limit) told.scribe_is;
  config_is = told.config_is;
  agrees = told_on item old new before now told expired;
}

-- a front of an item's record was written
pub breaks_tell : {L : Type 0} → (item : Item) (old : Booked) (turns : Option (List Turn)) (before now : Option (List ℕ)) → TellsPart L item old before now
    → BreaksAt L (tells item ∷ []) old turns turns before now
breaks_tell {L} item old turns before now part = record {
  writable = (part.writable, tt);
  part = (part.part.0, subst (λ text. Grew before now (take part.part.0 text)) (sym (append-nil (item_text Two (timed old.scribe.moment item)))) part.part.1);
  full = λ limited. subst (λ n. old.scribe.limit ≤ old.scribe.written + n) (sym (one_size old item)) (part.full limited);
  asked = [];
  later = [];
  front = refl;
  gate = Grew-refl turns;
}

-- it was broken off before anything was written or asked
pub breaks_early : {L : Type 0} → (deeds : List Deed) (old : Booked) (turns : Option (List Turn)) (written : Option (List ℕ))
    → AllByRecursion (IsWritable old.desk.config) (items_of deeds) → (L → ⊥) → BreaksAt L deeds old turns turns written written
breaks_early {L} deeds old turns written writable never = record {
  writable = writable;
  part = (0, Grew-refl written);
  full = λ limited. absurd (never limited);
  asked = [];
  later = asked_in deeds;
  front = refl;
  gate = Grew-refl turns;
}

-- so where the limit is named otherwise
pub breaks_where : {L M : Type 0} {deeds : List Deed} {old : Booked} {turns turns' : Option (List Turn)} {before now : Option (List ℕ)}
    → (M → L) → BreaksAt L deeds old turns turns' before now → BreaksAt M deeds old turns turns' before now
breaks_where named breaks = record {
  writable = breaks.writable;
  part = breaks.part;
  full = λ limited. breaks.full (named limited);
  asked = breaks.asked;
  later = breaks.later;
  front = breaks.front;
  gate = breaks.gate;
}

-- what breaks off a step breaks off that step and another one
pub breaks_more : {L : Type 0} → (deeds more : List Deed) (old : Booked) (turns turns' : Option (List Turn)) (before now : Option (List ℕ))
    → AllByRecursion (IsWritable old.desk.config) (items_of more) → BreaksAt L deeds old turns turns' before now
    → BreaksAt L (deeds ++ more) old turns turns' before now
breaks_more {L} deeds more old turns turns' before now writable breaks =
    let moment = old.scribe.moment in
    let all : items_of (deeds ++ more) ≡ items_of deeds ++ items_of more = items_both deeds more in
    record {
      writable = subst (AllByRecursion (IsWritable old.desk.config)) (sym all)
          (all_both (IsWritable old.desk.config) (items_of deeds) (items_of more) breaks.writable writable);
      part = subst (GrewPart before now) (sym (ap (text_at moment) all ∙ text_both moment (items_of deeds) (items_of more)))
          (part_more before now (text_at moment (items_of deeds)) (text_at moment (items_of more)) breaks.part);
      full = λ limited. (let short = breaks.full limited in omega (arith, short, text_size moment deeds more));
      asked = breaks.asked;
      later = breaks.later ++ asked_in more;
      front = sym (append_assoc breaks.asked breaks.later (asked_in more)) ∙ ap (λ turns. turns ++ asked_in more) breaks.front ∙ sym (asked_both deeds more);
      gate = breaks.gate;
    }

module _ (expired expired1 : ℕ → Bool) (first : List Deed) (a b : Booked) (t t1 : Option (List Turn)) (w w1 : Option (List ℕ))
    (one : Does expired expired1 first a b t t1 w w1) where
  pub does_then : (expired2 : ℕ → Bool) (later : List Deed) (c : Booked) (t2 : Option (List Turn)) (w2 : Option (List ℕ))
      → Does expired1 expired2 later b c t1 t2 w1 w2 → Does expired expired2 (first ++ later) a c t t2 w w2
  does_then expired2 later c t2 w2 next =
      let moment = a.scribe.moment in
      let all : items_of (first ++ later) ≡ items_of first ++ items_of later = items_both first later in
      let tape : Grew w1 w2 (text_at moment (items_of later)) =
      subst (λ m. Grew w1 w2 (text_at m (items_of later))) one.moment_is next.tape in
      record {
        writable = subst (AllByRecursion (IsWritable a.desk.config)) (sym all)
            (all_both (IsWritable a.desk.config) (items_of first) (items_of later) one.writable
            (subst (λ config. AllByRecursion (IsWritable config) (items_of later)) one.config_is next.writable));
        tape = subst (Grew w w2) (sym (ap (text_at moment) all ∙ text_both moment (items_of first) (items_of later)))
            (Grew-trans w w1 w2 (text_at moment (items_of first)) (text_at moment (items_of later)) one.tape tape);
        gate = subst (Grew t t2) (sym (asked_both first later)) (Grew-trans t t1 t2 (asked_in first) (asked_in later) one.gate next.gate);
        moment_is = next.moment_is ∙ one.moment_is;
        written_is = (let size = subst (λ m. c.scribe.written ≡ b.scribe.written + length (text_at m (items_of later))) one.moment_is next.written_is in
            omega (arith, one.written_is, size, text_size moment first later));
        limit_is = next.limit_is ∙ one.limit_is;
        config_is = next.config_is ∙ one.config_is;
        agrees = λ config told agrees.
            subst (λ t. AgreesBut expired2 config t c)
            (append_assoc told (told_at moment (items_of first)) (told_at moment (items_of later))
            ∙ ap (λ more. told ++ more) (sym (ap (told_at moment) all ∙ told_both moment (items_of first) (items_of later))))
            (subst (λ m. AgreesBut expired2 config ((told ++ told_at moment (items_of first)) ++ told_at m (items_of later)) c) one.moment_is
            (next.agrees config (told ++ told_at moment (items_of first)) (one.agrees config told agrees)));
      }

  pub breaks_then : {L : Type 0} → (later : List Deed) (t2 : Option (List Turn)) (w2 : Option (List ℕ)) → BreaksAt L later b t1 t2 w1 w2
      → BreaksAt L (first ++ later) a t t2 w w2
  breaks_then {L} later t2 w2 next =
      let moment = a.scribe.moment in
      let all : items_of (first ++ later) ≡ items_of first ++ items_of later = items_both first later in
      let part : GrewPart w1 w2 (text_at moment (items_of later)) = subst (λ m. GrewPart w1 w2 (text_at m (items_of later))) one.moment_is next.part in
      record {
        writable = subst (AllByRecursion (IsWritable a.desk.config)) (sym all)
            (all_both (IsWritable a.desk.config) (items_of first) (items_of later) one.writable
            (subst (λ config. AllByRecursion (IsWritable config) (items_of later)) one.config_is next.writable));
        part = subst (GrewPart w w2) (sym (ap (text_at moment) all ∙ text_both moment (items_of first) (items_of later)))
            (part_then w w1 w2 (text_at moment (items_of first)) (text_at moment (items_of later)) one.tape part);
        full = λ limited. (let short = subst (λ m. b.scribe.limit ≤ b.scribe.written + length (text_at m (items_of later))) one.moment_is (next.full limited) in
            omega (arith, short, one.limit_is, one.written_is, text_size moment first later));
        asked = asked_in first ++ next.asked;
        later = next.later;
        front = append_assoc (asked_in first) next.asked next.later ∙ ap (λ turns. asked_in first ++ turns) next.front ∙ sym (asked_both first later);
        gate = Grew-trans t t1 t2 (asked_in first) next.asked one.gate next.gate;
      }

-- what a session replied is sent, where it is something

pub says_items : (line : ℕ) (octets : List ℕ) → items_of (says line octets) ≡ []
says_items line [] = refl
says_items line (octet ∷ octets) = refl

-- what follows at a success, and at a failure

pub ok_to : {T E : Type 0} {X Y : Type 0} (result : Result T E) → OnOk result X → (X → Y) → OnOk result Y
ok_to (Ok value) x f = f x
ok_to (Err error) x f = tt

pub err_to : {T E : Type 0} {X Y : Type 0} (result : Result T E) → OnErr result X → (X → Y) → OnErr result Y
err_to (Ok value) x f = tt
err_to (Err error) x f = f x

pub ok_both : {T E : Type 0} {X Y Z : Type 0} (result : Result T E) → OnOk result X → OnOk result Y → (X → Y → Z) → OnOk result Z
ok_both (Ok value) x y f = f x y
ok_both (Err error) x y f = tt

-- an error that `?` hands on names the limit only where it did
pub handed_on : {T U : Type 0} → (stop : Stop) (result : Result T Stop) → IsErrAnd result (λ e. e ≡ stop) → IsErrOf result Limit
    → IsErrOf {T = U} {E = Stop} (Err stop) Limit
handed_on stop (Ok value) same limited = absurd same
handed_on stop (Err error) same limited = (let is : error ≡ Limit = cc in ap Err (sym same ∙ is))

-- what is broken off where `?` hands the error on
pub handed : {T : Type 0} {stop : Stop} {t t1 : Option (List Turn)} {w w1 : Option (List ℕ)} → (result : Result T Stop)
    → IsErrAnd result (λ e. e ≡ stop) → (door : AtDoor) (step : Step) (old new : Recording) → BreaksAt (stop ≡ Limit) step.deeds old.books t t1 w w1
    → Ran result door step old new t t1 w w1
handed (Ok value) same door step old new breaks = absurd same
handed (Err error) same door step old new breaks = breaks_where (λ limited. sym same ∙ limited) breaks

-- where it wanted memory, it names none
pub wanted_memory : {T : Type 0} → (stop : Stop) → IsErrOf {T = T} {E = Stop} (Err stop) Memory → stop ≡ Limit → ⊥
wanted_memory stop wanted limited = absurd cc

pub no_memory : {T : Type 0} (result : Result T Stop) → IsErrAnd result (λ e. e ≡ Memory) → IsErrOf result Limit → ⊥
no_memory (Ok value) same limited = same
no_memory (Err error) same limited = (let is : error ≡ Limit = cc in let no : Memory ≡ Limit = sym same ∙ is in absurd cc)

-- a line is closed, and its peer lost
module _ (seat : Seat) (old : Booked) (turns turns' : Option (List Turn)) (before now : Option (List ℕ))
    (closed : Grew turns turns' (shut seat.line ∷ [])) where
  shutting : (expired : ℕ → Bool) → Does expired expired (shuts seat.line ∷ []) old old turns turns' before before
  shutting expired = does_ask expired (shuts seat.line ∷ []) old turns turns' before refl closed

  pub does_leave : (new : Booked) → Tells (was_lost seat.peer) old new before now → (expired : ℕ → Bool)
      → Does expired (expired_after (was_lost seat.peer) expired) (leaves seat) old new turns turns' before now
  does_leave new told expired =
      does_then expired expired (shuts seat.line ∷ []) old old turns turns' before before (shutting expired)
      (expired_after (was_lost seat.peer) expired) (tells (was_lost seat.peer) ∷ []) new turns' now
      (does_tell (was_lost seat.peer) old new turns' before now told expired)

  pub breaks_leave : {L : Type 0} → TellsPart L (was_lost seat.peer) old before now → BreaksAt L (leaves seat) old turns turns' before now
  breaks_leave {L} part =
      breaks_then nobody nobody (shuts seat.line ∷ []) old old turns turns' before before (shutting nobody) (tells (was_lost seat.peer) ∷ []) turns' now
      (breaks_tell (was_lost seat.peer) old turns' before now part)

-- a session's replies are sent, its line is closed, and its peer lost
module _ (seat : Seat) (replies : List ℕ) (old : Booked) (turns turns1 turns2 : Option (List Turn)) (before now : Option (List ℕ))
    (said : Grew turns turns1 (asked_in (says seat.line replies))) where
  saying : (expired : ℕ → Bool) → Does expired expired (says seat.line replies) old old turns turns1 before before
  saying expired = does_ask expired (says seat.line replies) old turns turns1 before (says_items seat.line replies) said

  pub does_answer : (new : Booked)
      → ((expired : ℕ → Bool) → Does expired (expired_after (was_lost seat.peer) expired) (leaves seat) old new turns1 turns2 before now)
      → (expired : ℕ → Bool)
      → Does expired (expired_after (was_lost seat.peer) expired) (says seat.line replies ++ leaves seat) old new turns turns2 before now
  does_answer new left expired =
      does_then expired expired (says seat.line replies) old old turns turns1 before before (saying expired)
      (expired_after (was_lost seat.peer) expired) (leaves seat) new turns2 now (left expired)

  pub breaks_answer : {L : Type 0} → BreaksAt L (leaves seat) old turns1 turns2 before now
      → BreaksAt L (says seat.line replies ++ leaves seat) old turns turns2 before now
  breaks_answer {L} breaks = breaks_then nobody nobody (says seat.line replies) old old turns turns1 before before (saying nobody)
      (leaves seat) turns2 now breaks
