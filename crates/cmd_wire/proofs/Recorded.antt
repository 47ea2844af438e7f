-- What a recorder did, event by event.
use Rattle.cmd_wire.proofs.Words.{◌≡◌, ◌∙◌, ◌<◌, ◌≤◌, ◌+◌, inl, ℕ, List, [], ◌∷◌, ◌++◌, Option, Some, None, Result, Ok, Err, length, length-append}
use Rattle.cmd_wire.proofs.Words.{append_assoc, arith, ap, refl, sym, subst, inr, Grew, Grew-trans, Config}
use Rattle.cmd_wire.proofs.Folding.{recorded_more, stands_more, timed_at, turns_at, turns_more}
use Rattle.std.{specs.Prelude.{OnErr, OnOk, flat_map, max, take, ◌^◌, ◌-◌}, proofs.{lemmas.Grind.{flat_map-append}, Math.Seq.{take-append_seam}}}
use Rattle.fs_base.{specs.{Gate.{Turn, What, came}, Language.{IsOctets}}, proofs.Grew.{Grew-refl}}
use Rattle.fs_input.specs.Parts.{AllFrom}
use Rattle.fs_tape.proofs.ReadsBack.{reads_back}
use Rattle.fs_tape.specs.{Laws.{Fits, after, item_text, tape_text}, Magic.{magic_of}, Tape.{Timed, stands}, declared.magic.Version.TheVariants.{Two}}
use Rattle.std.specs.Result.{IsErrAnd}
use Rattle.fs_recorder.proofs.Doing.{breaks_where}
use Rattle.fs_recorder.specs.declared.stop.Stop.{Stop, TheVariants.{Failed, Limit as TooLong}}
use Rattle.fs_recorder.specs.Books.{Agrees}
use Rattle.fs_recorder.specs.Deeds.{AreKnown, Recording, StayKnown, asked_in, items_of, passing, text_at, told_at}
use Rattle.fs_recorder.specs.Door.{AtDoor, empty_door}
use Rattle.fs_recorder.specs.Steps.{Between, Happening, at_first, behind, door_after, empty_station, hears, recorded, stands_from, step_at}
use Rattle.fs_recorder.specs.Steps.{Station, Step, turns_from}
use Rattle.fs_recorder.specs.{Tapes.{Scribed, begun}, Works.{BreaksAt, DoesStep, RanHear, Stands}, declared.seats.Seat.{Seat}}
use Rattle.cmd_wire.specs.Recording.{Breaks, BreaksOne, Continues, Fills, Hears, HearsOne, Records, RecordsAll, StandsAt, TellsAll, begun_text, begun_turns}

-- the clock on the wall says another moment
agrees_passed : (config : Config) (told : List Timed) (moment : ℕ) → moment < 2 ^ 64 → (old : Recording) → Agrees config told old.books
    → Agrees config told (passing moment old).books
agrees_passed config told moment small old a = record {
  played = a.played;
  fit = a.fit;
  risen = omega (arith, a.risen);
  room = omega (arith, a.room, small);
  long = a.long;
  below = a.below;
}

-- one event, by what its turn tells and what it calls for
module _ (old new : Recording) (moment time : ℕ) (what : What) (small : moment < 2 ^ 64) (t t1 t2 : Option (List Turn)) (w w' : Option (List ℕ))
    (tells : Grew t t1 (came moment time what ∷ [])) where
  abbrev event : Happening
  event = record { moment = moment; time = time; what = what }

  passed_stands : (between : Between) → Stands between.station old → Stands between.station (passing moment old)
  passed_stands between s = record {
    played = s.played;
    seats_are = s.seats_are;
    live = s.live;
    apart = s.apart;
    known = s.known;
  }

  pub hears_of : RanHear {T = Unit {0}} (Ok tt) (door_after old.books.desk.config time what old.seats old.door)
      (hears old.books.desk.config old.door time what) (passing moment old) new t1 t2 w w'
      → StayKnown (passing moment old) new → HearsOne old new t t2 w w'
  hears_of did stay config between s =
      let d : DoesStep (door_after old.books.desk.config time what old.seats old.door)
      (hears old.books.desk.config old.door time what between.station) (passing moment old) new t1 t2 w w' =
      did between.station (passed_stands between s.stands) in
      let d : DoesStep (door_after config time what old.seats old.door) (hears config old.door time what between.station) (passing moment old) new t1 t2 w w' =
      subst (λ (c : Config). DoesStep (door_after c time what old.seats old.door) (hears c old.door time what between.station)
      (passing moment old) new t1 t2 w w') s.config_is d in
      let d : DoesStep (door_after config time what old.seats between.door) (step_at config between event) (passing moment old) new t1 t2 w w' =
      subst (λ (door : AtDoor). DoesStep (door_after config time what old.seats door) (hears config door time what between.station)
      (passing moment old) new t1 t2 w w') s.door_is d in
      let d : DoesStep (behind config between event).door (step_at config between event) (passing moment old) new t1 t2 w w' =
      subst (λ (seats : List Seat). DoesStep (door_after config time what seats between.door) (step_at config between event)
      (passing moment old) new t1 t2 w w') s.stands.seats_are d in
      let at : max old.books.scribe.moment moment ≡ max between.moment moment = ap (λ (n : ℕ). max n moment) s.moment_is in (
        event,
        record {
          stands = record {
            config_is = d.does.config_is ∙ s.config_is;
            stands = d.stands;
            door_is = d.door_is;
            moment_is = d.does.moment_is ∙ at;
            known = subst (λ (c : Config). AreKnown c new.seats) (d.does.config_is ∙ s.config_is)
                (stay (subst (λ (c : Config). AreKnown c old.seats) (sym s.config_is) s.known));
          };
          gate = Grew-trans t t1 t2 (came moment time what ∷ []) (asked_in (step_at config between event).deeds) tells d.does.gate;
          tape = subst (λ (n : ℕ). Grew w w' (text_at n (items_of (step_at config between event).deeds))) at d.does.tape;
          limit_is = d.does.limit_is;
          agrees = λ told a.
              subst (λ (n : ℕ). Agrees config (told ++ told_at n (items_of (step_at config between event).deeds)) new.books) at
              (d.does.agrees config told (agrees_passed config told moment small old a));
        },
      )

  pub breaks_of : {L : Type 0} → ((station : Station) → Stands station (passing moment old)
      → BreaksAt L (hears old.books.desk.config old.door time what station).deeds (passing moment old).books t1 t2 w w') → BreaksOne L old t t2 w w'
  breaks_of {L} broke config between s =
      let b : BreaksAt L (hears old.books.desk.config old.door time what between.station).deeds (passing moment old).books t1 t2 w w' =
      broke between.station (passed_stands between s.stands) in
      let b : BreaksAt L (hears config old.door time what between.station).deeds (passing moment old).books t1 t2 w w' =
      subst (λ (c : Config). BreaksAt L (hears c old.door time what between.station).deeds (passing moment old).books t1 t2 w w') s.config_is b in
      let b : BreaksAt L (step_at config between event).deeds (passing moment old).books t1 t2 w w' =
      subst (λ (door : AtDoor). BreaksAt L (hears config door time what between.station).deeds (passing moment old).books t1 t2 w w') s.door_is b in
      let at : max old.books.scribe.moment moment ≡ max between.moment moment = ap (λ (n : ℕ). max n moment) s.moment_is in
      let front : b.asked ≡ take (length b.asked) (asked_in (step_at config between event).deeds) =
      sym (take-append_seam b.asked b.later) ∙ ap (take (length b.asked)) b.front in
      record {
        last = Some event;
        asked = length b.asked;
        gate = subst (λ (asked : List Turn). Grew t t2 (came moment time what ∷ asked)) front
            (Grew-trans t t1 t2 (came moment time what ∷ []) b.asked tells b.gate);
        told = b.part.0;
        tape = subst (λ (n : ℕ). Grew w w' (take b.part.0 (text_at n (items_of (step_at config between event).deeds)))) at b.part.1;
        full = λ limited.
            subst (λ (n : ℕ). old.books.scribe.limit ≤ old.books.scribe.written + length (text_at n (items_of (step_at config between event).deeds)))
            at (b.full limited);
      }

-- no event came
pub breaks_before : {L : Type 0} → (old : Recording) (t t' : Option (List Turn)) (w : Option (List ℕ)) → Grew t t' [] → (L → ⊥) → BreaksOne L old t t' w w
breaks_before {L} old t t' w none never config between s =
    record { last = None; asked = 0; gate = none; told = 0; tape = Grew-refl w; full = λ limited. absurd (never limited) }

-- Behind so many events since the first.
pub record Heard (count limit : ℕ) (config : Config) (recording : Recording) (turns turns' : Option (List Turn)) (before now : Option (List ℕ)) : Type 0 where
  pub events : List Happening
  pub count_is : length events ≡ count
  pub limit_is : recording.books.scribe.limit ≡ limit
  pub stands : StandsAt config (stands_from config at_first events) recording
  pub agrees : Agrees config (recorded config events) recording.books
  pub gate : Grew turns turns' (turns_from config at_first events)
  pub tape : Grew before now (flat_map (item_text Two) (recorded config events))

pub heard_none : (config : Config) (recording : Recording) (turns : Option (List Turn)) (written : Option (List ℕ)) → StandsAt config at_first recording
    → Agrees config [] recording.books → Heard 0 recording.books.scribe.limit config recording turns turns written written
heard_none config recording turns written s a =
    record { events = []; count_is = refl; limit_is = refl; stands = s; agrees = a; gate = Grew-refl turns; tape = Grew-refl written }

pub heard_more : (count limit : ℕ) (config : Config) (old new : Recording) (t t1 t2 : Option (List Turn)) (w w1 w2 : Option (List ℕ))
    → Heard count limit config old t t1 w w1 → HearsOne old new t1 t2 w1 w2 → Heard (count + 1) limit config new t t2 w w2
heard_more count limit config old new t t1 t2 w w1 w2 h one =
    let now : Between = stands_from config at_first h.events in
    let o : (event : Happening) × Hears config now event old new t1 t2 w1 w2 = one config now h.stands in
    record {
      events = h.events ++ o.0 ∷ [];
      count_is = omega (arith, h.count_is, length-append h.events (o.0 ∷ []));
      limit_is = o.1.limit_is ∙ h.limit_is;
      stands = subst (λ (between : Between). StandsAt config between new) (sym (stands_more config at_first h.events o.0)) o.1.stands;
      agrees = subst (λ (told : List Timed). Agrees config told new.books) (sym (recorded_more config at_first h.events o.0))
          (o.1.agrees (recorded config h.events) h.agrees);
      gate = subst (Grew t t2) (sym (turns_more config at_first h.events o.0))
          (Grew-trans t t1 t2 (turns_from config at_first h.events) (turns_at config now o.0) h.gate o.1.gate);
      tape = subst (λ (told : List Timed). Grew w w2 (flat_map (item_text Two) told)) (sym (recorded_more config at_first h.events o.0))
          (subst (Grew w w2) (sym (flat_map-append (item_text Two) (recorded config h.events) (timed_at config now o.0)))
          (Grew-trans w w1 w2 (flat_map (item_text Two) (recorded config h.events)) (flat_map (item_text Two) (timed_at config now o.0)) h.tape o.1.tape));
    }

pub broken_behind : {L M : Type 0} → (count limit : ℕ) (config : Config) (old : Recording) (t t1 t2 : Option (List Turn)) (w w1 w2 : Option (List ℕ))
    → (M → L) → Heard count limit config old t t1 w w1 → BreaksOne L old t1 t2 w1 w2 → Continues M limit config t t2 w w2
broken_behind {L} {M} count limit config old t t1 t2 w w1 w2 named h broke =
    let now : Between = stands_from config at_first h.events in
    let b : Breaks L config now old.books.scribe t1 t2 w1 w2 = broke config now h.stands in
    record {
      earlier = h.events;
      last = b.last;
      asked = b.asked;
      gate = Grew-trans t t1 t2 (turns_from config at_first h.events) (begun_turns config now b.last b.asked) h.gate b.gate;
      fit = h.agrees.fit;
      told = b.told;
      tape = Grew-trans w w1 w2 (flat_map (item_text Two) (recorded config h.events)) (begun_text config now b.last b.told) h.tape b.tape;
      full = λ limited. inl (let short = b.full (named limited) in omega (arith, short, h.limit_is, h.agrees.long));
    }

pub ended_behind : {L : Type 0} → (count limit : ℕ) (config : Config) (recording : Recording) (t t1 : Option (List Turn)) (w w1 : Option (List ℕ))
    → count ≡ 2 ^ 64 - 1 → Heard count limit config recording t t1 w w1 → Continues L limit config t t1 w w1
ended_behind {L} count limit config recording t t1 w w1 many h = record {
  earlier = h.events;
  last = None;
  asked = 0;
  gate = Grew-trans t t1 t1 (turns_from config at_first h.events) [] h.gate (Grew-refl t1);
  fit = h.agrees.fit;
  told = 0;
  tape = Grew-trans w w1 w1 (flat_map (item_text Two) (recorded config h.events)) [] h.tape (Grew-refl w1);
  full = λ limited. inr (h.count_is ∙ many);
}

told_all : (config : Config) (items : List Timed) → AllFrom Fits after (stands config Two 0) items → (limit : ℕ) → IsOctets (tape_text Two items)
    → TellsAll config limit items
told_all config items fit limit are =
    let law = reads_back config limit (tape_text Two items) items are in (
      λ given. (law.0 given).1.below,
      λ below. law.1 (Two, record { spelled = refl; fit = fit; below = below }),
    )

-- behind the magic
pub records_of : {L : Type 0} → (limit : ℕ) (config : Config) (t t' : Option (List Turn)) (w w1 w2 : Option (List ℕ)) → Grew w w1 (magic_of Two)
    → Continues L limit config t t' w1 w2
    → Records config t t' w w2
records_of {L} limit config t t' w w1 w2 magic c =
    let now : Between = stands_from config at_first c.earlier in
    record {
      earlier = c.earlier;
      last = c.last;
      asked = c.asked;
      gate = c.gate;
      read_back = told_all config (recorded config c.earlier) c.fit;
      told = c.told;
      tape = subst (Grew w w2)
          (sym (append_assoc (magic_of Two) (flat_map (item_text Two) (recorded config c.earlier)) (begun_text config now c.last c.told)))
          (Grew-trans w w1 w2 (magic_of Two) (flat_map (item_text Two) (recorded config c.earlier) ++ begun_text config now c.last c.told) magic c.tape);
    }

-- of an answer

pub both_ok : {T E X Y Z : Type 0} (result : Result T E) → OnOk result X → OnOk result Y → (X → Y → Z) → OnOk result Z
both_ok (Ok t) x y f = f x y
both_ok (Err e) x y f = tt

pub ok_to : {T E X Y : Type 0} (result : Result T E) → OnOk result X → (X → Y) → OnOk result Y
ok_to (Ok t) x f = f x
ok_to (Err e) x f = tt

pub err_to : {T E X Y : Type 0} (result : Result T E) → OnErr result X → (X → Y) → OnErr result Y
err_to (Ok t) x f = tt
err_to (Err e) x f = f x

-- what the run of a recorder says of a success, and of a failure
module _ {T : Type 0} (door : AtDoor) (step : Station → Step) (old new : Recording) (t t1 : Option (List Turn)) (w w1 : Option (List ℕ)) where
  pub ran_ok : (result : Result T Stop) → RanHear result door step old new t t1 w w1
      → OnOk result (RanHear {T = Unit {0}} (Ok tt) door step old new t t1 w w1)
  ran_ok (Ok value) did = did
  ran_ok (Err stop) broke = tt

  pub ran_err : (result : Result T Stop) → RanHear result door step old new t t1 w w1
      → OnErr result ((station : Station) → Stands station old → BreaksAt (result ≡ Err TooLong) (step station).deeds old.books t t1 w w1)
  ran_err (Ok value) did = tt
  ran_err (Err stop) broke = λ station stands. breaks_where (λ e. (let is : stop ≡ TooLong = cc in is)) (broke station stands)

-- an error of the gate doesn't name the limit
pub never_failed : {T : Type 0} (result : Result T Stop) → IsErrAnd result (λ e. e ≡ Failed) → result ≡ Err TooLong → ⊥
never_failed (Ok t) same limited = same
never_failed (Err e) same limited = (let is : e ≡ TooLong = cc in let no : Failed ≡ TooLong = sym same ∙ is in absurd cc)

-- A recorder that has just begun.
pub begins_at : (config : Config) (recording : Recording) (limit : ℕ) → recording.books.desk.config ≡ config → recording.books.scribe ≡ begun limit
    → recording.seats ≡ [] → Stands empty_station recording → recording.door ≡ empty_door → StandsAt recording.books.desk.config at_first recording
begins_at config recording limit config_is scribe_is seats_are stands door_is = record {
  config_is = refl;
  stands = stands;
  door_is = door_is;
  moment_is = ap (λ (s : Scribed). s.moment) scribe_is;
  known = subst (AreKnown recording.books.desk.config) (sym seats_are) tt;
}

-- what follows the magic, of the configuration with which it began
pub recorded_behind : {L : Type 0} → (limit : ℕ) (config : Config) (recording : Recording) (t t' : Option (List Turn)) (w w1 w2 : Option (List ℕ))
    → recording.books.desk.config ≡ config
    → Grew w w1 (magic_of Two) → Continues L limit recording.books.desk.config t t' w1 w2 → RecordsAll config t t' w w2
recorded_behind {L} limit config recording t t' w w1 w2 is magic c =
    inr (records_of limit config t t' w w1 w2 magic (subst (λ (c : Config). Continues L limit c t t' w1 w2) is c))

-- and where the limit was named, it was met
pub filled_behind : {L : Type 0} → (limit : ℕ) (config : Config) (recording : Recording) (t t' : Option (List Turn)) (w1 w2 : Option (List ℕ))
    → recording.books.desk.config ≡ config → recording.books.scribe ≡ begun limit
    → Continues L recording.books.scribe.limit recording.books.desk.config t t' w1 w2
    → L → Fills limit config t t'
filled_behind {L} limit config recording t t' w1 w2 is begins c limited =
    let all : Continues L limit config t t' w1 w2 =
    subst (λ (n : ℕ). Continues L n config t t' w1 w2) (ap (λ (s : Scribed). s.limit) begins)
    (subst (λ (k : Config). Continues L recording.books.scribe.limit k t t' w1 w2) is c) in
    record { earlier = all.earlier; last = all.last; asked = all.asked; gate = all.gate; full = all.full limited }

-- where the magic alone is as long as the limit
pub filled_by_magic : (limit : ℕ) (config : Config) (t : Option (List Turn)) → limit ≤ 8 → Fills limit config t t
filled_by_magic limit config t short = record { earlier = []; last = None; asked = 0; gate = Grew-refl t; full = inl short }
