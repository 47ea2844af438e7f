-- What a station does at an event, step by step.
use Rattle.cmd_wire.proofs.Words.{◌≡◌, ◌∙◌, ℕ, zero, suc, Bool, true, false, List, [], ◌∷◌, ◌++◌, Option, Some, None, IfSome, length, ap, refl, sym}
use Rattle.cmd_wire.proofs.Words.{subst, if◌then◌else◌, Grew, Grew-trans, Config}
use Rattle.std.{specs.Prelude.{max, take, ◌&&◌, ◌||◌, not}, proofs.Math.Seq.{take-append_seam}}
use Rattle.fs_base.{specs.{Gate.{Content, Turn, What, read}, Sink.{GrewPart}}, proofs.{Bools.{if_true}, Grew.{Grew-refl}}}
use Rattle.fs_peering.specs.Keeper.{Kept, Outcome, dials, hears, tells_all}
use Rattle.fs_peering.specs.Keeping.{Keeping, Took as KeeperTook, TookSo as KeeperTookSo, BreaksAt as KeeperBreaksAt, BreaksSo as KeeperBreaksSo}
use Rattle.fs_peering.specs.declared.keeper.News.{News}
use Rattle.cmd_wire.specs.{Judged.{IsJudged, Judged, held_in}, News.{line_of}}
use Rattle.cmd_wire.specs.Shelf.{Shelf, changed_by, is_due, is_same_as, kept_by, settled_by, settles, shelved}
use Rattle.cmd_wire.specs.Keeping.{Between, Breaks, BreaksFollowing, BreaksLooking, BreaksReading, BreaksShelving, BreaksSo, DialsSo, FollowsSo}
use Rattle.cmd_wire.specs.Keeping.{IsRight, IsUpSo, Looks, Order, Reads, Reread, Shelves, StandsAt, Stationed, Step, Took, TookSo, changes, is_done}
use Rattle.cmd_wire.specs.Keeping.{is_read, is_up, judges, keeps, looks, order_by, put, reread_of, rereads, rereads_if, rests, shelves, tells_if}
use Rattle.cmd_wire.specs.Keeping.{then_do, was_done}

-- fronts

-- a front of a list is one of a longer list
front_more : {A : Type 0} (n : ℕ) (xs ys : List A) → (m : ℕ) × (take m (xs ++ ys) ≡ take n xs)
front_more zero xs ys = (zero, refl)
front_more (suc n) [] ys = (zero, refl)
front_more (suc n) (x ∷ xs) ys = (suc (front_more n xs ys).0, ap (λ rest. x ∷ rest) (front_more n xs ys).1)

-- a list, and then a front of another
front_then : {A : Type 0} (xs ys : List A) (n : ℕ) → (m : ℕ) × (take m (xs ++ ys) ≡ xs ++ take n ys)
front_then [] ys n = (n, refl)
front_then (x ∷ xs) ys n = (suc (front_then xs ys n).0, ap (λ rest. x ∷ rest) (front_then xs ys n).1)

front_all : {A : Type 0} (xs : List A) → (m : ℕ) × (take m xs ≡ xs)
front_all [] = (zero, refl)
front_all (x ∷ xs) = (suc (front_all xs).0, ap (λ rest. x ∷ rest) (front_all xs).1)

-- steps

pub broke_at_once : (step : Step) (t t' : Option (List Turn)) (w w' : Option (List ℕ)) → Grew t t' [] → Grew w w' [] → Breaks step t t' w w'
broke_at_once step t t' w w' asked told = record { asked = zero; gate = asked; told = zero; lines = told }

-- a step that was broken off behind all that it asks for
pub broke_late : (step : Step) (t t' : Option (List Turn)) (w w' : Option (List ℕ)) → Grew t t' step.turns → GrewPart w w' step.text → Breaks step t t' w w'
broke_late step t t' w w' asked told = record {
  asked = (front_all step.turns).0;
  gate = subst (Grew t t') (sym (front_all step.turns).1) asked;
  told = told.0;
  lines = told.1;
}

pub broke_first : (first : Step) (later : Between → Step) (t t' : Option (List Turn)) (w w' : Option (List ℕ)) → Breaks first t t' w w'
    → Breaks (then_do first later) t t' w w'
broke_first first later t t' w w' b = record {
  asked = (front_more b.asked first.turns (later first.now).turns).0;
  gate = subst (Grew t t') (sym (front_more b.asked first.turns (later first.now).turns).1) b.gate;
  told = (front_more b.told first.text (later first.now).text).0;
  lines = subst (Grew w w') (sym (front_more b.told first.text (later first.now).text).1) b.lines;
}

pub broke_then : (first : Step) (later : Between → Step) (t t1 t2 : Option (List Turn)) (w w1 w2 : Option (List ℕ)) → Grew t t1 first.turns
    → Grew w w1 first.text
    → Breaks (later first.now) t1 t2 w1 w2 → Breaks (then_do first later) t t2 w w2
broke_then first later t t1 t2 w w1 w2 asked told b = record {
  asked = (front_then first.turns (later first.now).turns b.asked).0;
  gate = subst (Grew t t2) (sym (front_then first.turns (later first.now).turns b.asked).1)
      (Grew-trans t t1 t2 first.turns (take b.asked (later first.now).turns) asked b.gate);
  told = (front_then first.text (later first.now).text b.told).0;
  lines = subst (Grew w w2) (sym (front_then first.text (later first.now).text b.told).1)
      (Grew-trans w w1 w2 first.text (take b.told (later first.now).text) told b.lines);
}

pub took_then : (first : Step) (later : Between → Step) (old mid new : Stationed) (t t1 t2 : Option (List Turn)) (w w1 w2 : Option (List ℕ))
    → Took first old mid t t1 w w1
    → Took (later first.now) mid new t1 t2 w1 w2 → Took (then_do first later) old new t t2 w w2
took_then first later old mid new t t1 t2 w w1 w2 a b = record {
  gate = Grew-trans t t1 t2 first.turns (later first.now).turns a.gate b.gate;
  lines = Grew-trans w w1 w2 first.text (later first.now).text a.lines b.lines;
  stands = b.stands;
  order_is = b.order_is ∙ a.order_is;
}

-- the session

-- a station with another keeper
abbrev pub with_keeping : Stationed → Keeping → Stationed
with_keeping old keeping = record {
  order = order_by old.order.rules old.order.address old.order.limit keeping.config;
  keeping = keeping;
  shelf = old.shelf;
  moment = old.moment;
  heard = old.heard;
}

same_order : (order : Order) (config : Config) → config ≡ order.config → order_by order.rules order.address order.limit config ≡ order
same_order order config same = ap (λ c. order_by order.rules order.address order.limit c) same

module _ (act : Kept → Outcome) (old : Stationed) (t t' : Option (List Turn)) (w w' : Option (List ℕ)) where
  keeps_took : (keeping : Keeping) (news : Option News) → KeeperTookSo act news old.keeping keeping t t' → Grew w w' (line_of old.moment news)
      → TookSo (keeps act) old (with_keeping old keeping) t t' w w'
  keeps_took keeping news took told between s =
      let k : KeeperTook (act between.kept) news old.keeping keeping t t' = took between.kept s.stands in
      record {
        gate = k.asked;
        lines = subst (λ (n : Option News). Grew w w' (line_of between.moment n)) k.news_is
            (subst (λ (n : ℕ). Grew w w' (line_of n news)) s.moment_is told);
        stands = record {
          config_is = refl;
          stands = k.stands;
          shelf_is = s.shelf_is;
          moment_is = s.moment_is;
          heard_is = s.heard_is;
        };
        order_is = same_order old.order keeping.config (k.config_is ∙ s.config_is);
      }

  keeps_broke : KeeperBreaksSo act old.keeping t t' → BreaksSo (keeps act) old t t' w w
  keeps_broke broke between s =
      let b : KeeperBreaksAt (act between.kept).turns t t' = broke between.kept s.stands in
      record {
        asked = length b.asked;
        gate = subst (Grew t t') (sym (take-append_seam b.asked b.later) ∙ ap (take (length b.asked)) b.front) b.gate;
        told = zero;
        lines = Grew-refl w;
      }

  keeps_untold : (keeping : Keeping) (news : Option News) → KeeperTookSo act news old.keeping keeping t t' → GrewPart w w' (line_of old.moment news)
      → BreaksSo (keeps act) old t t' w w'
  keeps_untold keeping news took told between s =
      let k : KeeperTook (act between.kept) news old.keeping keeping t t' = took between.kept s.stands in
      broke_late (keeps act between) t t' w w' k.asked
      (subst (λ (n : Option News). GrewPart w w' (line_of between.moment n)) k.news_is
      (subst (λ (n : ℕ). GrewPart w w' (line_of n news)) s.moment_is told))

  up_so : (keeping : Keeping) (news : Option News) (answer : Bool) → KeeperTookSo act news old.keeping keeping t t' → answer ≡ is_up news
      → IsUpSo act answer old
  up_so keeping news answer took is between s = is ∙ ap is_up (took between.kept s.stands).news_is

-- so where the station stands open, and its keeper took the step
module _ (act : Config → Kept → Outcome) (inside old : Stationed) (is : inside ≡ old) (agrees : inside.keeping.config ≡ inside.order.config)
    (t t' : Option (List Turn)) (w w' : Option (List ℕ)) where
  pub open_took : (keeping : Keeping) (news : Option News) → KeeperTookSo (act inside.keeping.config) news inside.keeping keeping t t'
      → Grew w w' (line_of inside.moment news)
      → TookSo (keeps (act old.order.config)) old (with_keeping inside keeping) t t' w w'
  open_took keeping news took told =
      subst (λ (r : Stationed). TookSo (keeps (act r.order.config)) r (with_keeping inside keeping) t t' w w') is
      (subst (λ (c : Config). TookSo (keeps (act c)) inside (with_keeping inside keeping) t t' w w') agrees
      (keeps_took (act inside.keeping.config) inside t t' w w' keeping news took told))

  pub open_broke : KeeperBreaksSo (act inside.keeping.config) inside.keeping t t' → BreaksSo (keeps (act old.order.config)) old t t' w w
  open_broke broke =
      subst (λ (r : Stationed). BreaksSo (keeps (act r.order.config)) r t t' w w) is
      (subst (λ (c : Config). BreaksSo (keeps (act c)) inside t t' w w) agrees
      (keeps_broke (act inside.keeping.config) inside t t' w w' broke))

  pub open_untold : (keeping : Keeping) (news : Option News) → KeeperTookSo (act inside.keeping.config) news inside.keeping keeping t t'
      → GrewPart w w' (line_of inside.moment news)
      → BreaksSo (keeps (act old.order.config)) old t t' w w'
  open_untold keeping news took told =
      subst (λ (r : Stationed). BreaksSo (keeps (act r.order.config)) r t t' w w') is
      (subst (λ (c : Config). BreaksSo (keeps (act c)) inside t t' w w') agrees
      (keeps_untold (act inside.keeping.config) inside t t' w w' keeping news took told))

  pub open_up : (keeping : Keeping) (news : Option News) (answer : Bool) → KeeperTookSo (act inside.keeping.config) news inside.keeping keeping t t'
      → answer ≡ is_up news
      → IsUpSo (act old.order.config) answer old
  open_up keeping news answer took up =
      subst (λ (r : Stationed). IsUpSo (act r.order.config) answer r) is
      (subst (λ (c : Config). IsUpSo (act c) answer inside) agrees
      (up_so (act inside.keeping.config) inside t t' w w' keeping news answer took up))

pub open_dialled : (inside old : Stationed) (is : inside ≡ old) (agrees : inside.keeping.config ≡ inside.order.config) (t t' : Option (List Turn))
    (keeping : Keeping) (time : ℕ)
    → ((line : ℕ) × KeeperTookSo (dials inside.keeping.config line time inside.order.address) None inside.keeping keeping t t')
    → DialsSo time old (with_keeping inside keeping) t t'
open_dialled inside old is agrees t t' keeping time took =
    subst (λ (r : Stationed). DialsSo time r (with_keeping inside keeping) t t') is (
      took.0,
      λ written.
          subst (λ (c : Config). TookSo (keeps (dials c took.0 time inside.order.address)) inside (with_keeping inside keeping) t t' written written) agrees
          (keeps_took (dials inside.keeping.config took.0 time inside.order.address) inside t t' written written keeping None took.1 (Grew-refl written)),
    )

-- a line says why a file isn't accepted

-- A reading is put on the shelf.

abbrev pub put_by : (moment time : ℕ) → Content → Stationed → Stationed
put_by moment time content old = record {
  order = old.order;
  keeping = old.keeping;
  shelf = shelved content time old.shelf;
  moment = max old.moment moment;
  heard = old.heard;
}

module _ (moment time : ℕ) (content : Content) (old : Stationed) where
  puts : (judged : Option Judged) (between : Between) → StandsAt between old
      → StandsAt (put (reread_of moment time content judged) between) (put_by moment time content old)
  puts judged between s = record {
    config_is = s.config_is;
    stands = s.stands;
    shelf_is = ap (λ (shelf : Shelf). shelved content time shelf) s.shelf_is;
    moment_is = ap (λ (n : ℕ). max n moment) s.moment_is;
    heard_is = s.heard_is;
  }

  same_settles : (between : Between) → StandsAt between old → (changed : Bool) → settles old.shelf content time ≡ changed
      → settles between.shelf content time ≡ changed
  same_settles between s changed is = ap (λ (shelf : Shelf). settles shelf content time) (sym s.shelf_is) ∙ is

  settled_one : settles old.shelf content time ≡ true → held_in (shelved content time old.shelf) ≡ content
  settled_one changed =
      ap held_in (if_true (settles old.shelf content time) (settled_by content time old.shelf)
      (if is_same_as old.shelf.settled content then kept_by time old.shelf else changed_by content time old.shelf) changed)

  judges_it : (judged : Option Judged) (between : Between) → StandsAt between old → settles old.shelf content time ≡ true
      → shelves old.order (reread_of moment time content judged) between ≡ judges old.order time judged (put (reread_of moment time content judged) between)
  judges_it judged between s changed =
      let reread : Reread = reread_of moment time content judged in
      if_true (changes between.shelf reread) (judges old.order time judged (put reread between)) (rests (put reread between))
      (same_settles between s true changed)

  module _ (judged : Judged) (t t' : Option (List Turn)) (w w' : Option (List ℕ)) (changed : settles old.shelf content time ≡ true)
      (right : IsJudged old.order.config (held_in (shelved content time old.shelf)) judged) where
    pub shelved_took : (new : Stationed) → TookSo (judges old.order time (Some judged)) (put_by moment time content old) new t t' w w'
        → Shelves moment time content old new t t' w w'
    shelved_took new took = record {
      judged = Some judged;
      done = ap (λ (b : Bool). not b || true) changed;
      right = subst (λ (c : Content). IsJudged old.order.config c judged) (settled_one changed) right;
      took = λ between s.
          let reread : Reread = reread_of moment time content (Some judged) in
          let k : Took (judges old.order time (Some judged) (put reread between)) (put_by moment time content old) new t t' w w' =
          took (put reread between) (puts (Some judged) between s) in
          subst (λ (step : Step). Took step old new t t' w w') (sym (judges_it (Some judged) between s changed))
          (record { gate = k.gate; lines = k.lines; stands = k.stands; order_is = k.order_is });
    }

    pub shelved_broke : BreaksSo (judges old.order time (Some judged)) (put_by moment time content old) t t' w w'
        → BreaksShelving moment time content old t t' w w'
    shelved_broke broke = record {
      judged = Some judged;
      right = subst (λ (c : Content). IsJudged old.order.config c judged) (settled_one changed) right;
      breaks = λ between s.
          subst (λ (step : Step). Breaks step t t' w w') (sym (judges_it (Some judged) between s changed))
          (broke (put (reread_of moment time content (Some judged)) between) (puts (Some judged) between s));
    }

-- so where the station stands open, and its shelf and its moment are these

abbrev pub with_shelf : Stationed → Shelf → ℕ → Stationed
with_shelf old shelf moment = record { order = old.order; keeping = old.keeping; shelf = shelf; moment = moment; heard = old.heard }

module _ (moment time : ℕ) (content content' : Content) (same : content' ≡ content) (inside old : Stationed) (is : inside ≡ old) (shelf' : Shelf)
    (moment' : ℕ) (answer : Bool)
    (shelf_is : shelf' ≡ shelved content' time inside.shelf) (moment_is : moment' ≡ max inside.moment moment)
    (answered : answer ≡ settles inside.shelf content' time) where
  shelf_so : shelf' ≡ shelved content time inside.shelf
  shelf_so = shelf_is ∙ ap (λ (c : Content). shelved c time inside.shelf) same

  mid_is : with_shelf inside shelf' moment' ≡ put_by moment time content inside
  mid_is = ap (λ (shelf : Shelf). with_shelf inside shelf moment') shelf_so ∙ ap (λ (n : ℕ). with_shelf inside (shelved content time inside.shelf) n) moment_is

  settles_is : (b : Bool) → answer ≡ b → settles inside.shelf content time ≡ b
  settles_is b is_b = ap (λ (c : Content). settles inside.shelf c time) (sym same) ∙ (sym answered ∙ is_b)

  module _ (judged : Judged) (config : Config) (config_is : config ≡ inside.order.config) (yes : answer ≡ true)
      (right : IsJudged config (held_in shelf') judged)
      (t t' : Option (List Turn)) (w w' : Option (List ℕ)) where
    right_so : IsJudged inside.order.config (held_in (shelved content time inside.shelf)) judged
    right_so = subst (λ (shelf : Shelf). IsJudged inside.order.config (held_in shelf) judged) shelf_so
        (subst (λ (c : Config). IsJudged c (held_in shelf') judged) config_is right)

    pub shelve_took : (new : Stationed) → TookSo (judges inside.order time (Some judged)) (with_shelf inside shelf' moment') new t t' w w'
        → Shelves moment time content old new t t' w w'
    shelve_took new took =
        subst (λ (r : Stationed). Shelves moment time content r new t t' w w') is
        (shelved_took moment time content inside judged t t' w w' (settles_is true yes) right_so new
        (subst (λ (mid : Stationed). TookSo (judges inside.order time (Some judged)) mid new t t' w w') mid_is took))

    pub shelve_broke : BreaksSo (judges inside.order time (Some judged)) (with_shelf inside shelf' moment') t t' w w'
        → BreaksShelving moment time content old t t' w w'
    shelve_broke broke =
        subst (λ (r : Stationed). BreaksShelving moment time content r t t' w w') is
        (shelved_broke moment time content inside judged t t' w w' (settles_is true yes) right_so
        (subst (λ (mid : Stationed). BreaksSo (judges inside.order time (Some judged)) mid t t' w w') mid_is broke))

-- A reading.

pub rereads_took : (moment time : ℕ) (content : Content) (judged : Option Judged) (old new : Stationed) (t t1 t2 : Option (List Turn)) (w w' : Option (List ℕ))
    → Grew t t1 (read moment time old.order.rules content ∷ []) → TookSo (shelves old.order (reread_of moment time content judged)) old new t1 t2 w w'
    → TookSo (rereads old.order (reread_of moment time content judged)) old new t t2 w w'
rereads_took moment time content judged old new t t1 t2 w w' told took between s =
    let k : Took (shelves old.order (reread_of moment time content judged) between) old new t1 t2 w w' = took between s in
    record {
      gate = Grew-trans t t1 t2 (read moment time old.order.rules content ∷ [])
          (shelves old.order (reread_of moment time content judged) between).turns told k.gate;
      lines = k.lines;
      stands = k.stands;
      order_is = k.order_is;
    }

pub reads_took : (moment time : ℕ) (content : Content) (old new : Stationed) (t t1 t2 : Option (List Turn)) (w w' : Option (List ℕ))
    → Grew t t1 (read moment time old.order.rules content ∷ []) → Shelves moment time content old new t1 t2 w w' → Reads old new t t2 w w'
reads_took moment time content old new t t1 t2 w w' told b = record {
  reread = reread_of moment time content b.judged;
  done = b.done;
  right = b.right;
  took = rereads_took moment time content b.judged old new t t1 t2 w w' told b.took;
}

pub reads_broke : (moment time : ℕ) (content : Content) (old : Stationed) (t t1 t2 : Option (List Turn)) (w w' : Option (List ℕ))
    → Grew t t1 (read moment time old.order.rules content ∷ []) → BreaksShelving moment time content old t1 t2 w w' → BreaksReading old t t2 w w'
reads_broke moment time content old t t1 t2 w w' told b = record {
  reads = Some (reread_of moment time content b.judged);
  right = b.right;
  breaks = λ between s.
      let k : Breaks (shelves old.order (reread_of moment time content b.judged) between) t1 t2 w w' = b.breaks between s in
      record {
        asked = suc k.asked;
        gate = Grew-trans t t1 t2 (read moment time old.order.rules content ∷ [])
            (take k.asked (shelves old.order (reread_of moment time content b.judged) between).turns) told k.gate;
        told = k.told;
        lines = k.lines;
      };
}

pub reads_none : (old : Stationed) (t t' : Option (List Turn)) (w : Option (List ℕ)) → Grew t t' [] → BreaksReading old t t' w w
reads_none old t t' w none = record {
  reads = None;
  right = tt;
  breaks = λ between s. broke_at_once (rests between) t t' w w none (Grew-refl w);
}

-- of the name that the station has
pub read_by : (inside old : Stationed) → inside ≡ old → (moment time : ℕ) (content : Content) (t t1 : Option (List Turn))
    → Grew t t1 (read moment time inside.order.rules content ∷ [])
    → Grew t t1 (read moment time old.order.rules content ∷ [])
read_by inside old is moment time content t t1 told = subst (λ (r : Stationed). Grew t t1 (read moment time r.order.rules content ∷ [])) is told

-- A session that came up is told all rules.

pub untold_not : (up : Bool) → up ≡ false → (time : ℕ) (old : Stationed) (t : Option (List Turn)) (w : Option (List ℕ))
    → TookSo (tells_if old.order time up) old old t t w w
untold_not true down time old t w between s = absurd cc
untold_not false down time old t w between s = record { gate = Grew-refl t; lines = Grew-refl w; stands = s; order_is = refl }

pub told_by : (up : Bool) → up ≡ true → (time : ℕ) (old new : Stationed) (t t' : Option (List Turn)) (w w' : Option (List ℕ))
    → TookSo (keeps (tells_all old.order.config time)) old new t t' w w'
    → TookSo (tells_if old.order time up) old new t t' w w'
told_by true it_is time old new t t' w w' took = took
told_by false it_is time old new t t' w w' took = absurd cc

pub untold_by : (up : Bool) → up ≡ true → (time : ℕ) (old : Stationed) (t t' : Option (List Turn)) (w w' : Option (List ℕ))
    → BreaksSo (keeps (tells_all old.order.config time)) old t t' w w'
    → BreaksSo (tells_if old.order time up) old t t' w w'
untold_by true it_is time old t t' w w' broke = broke
untold_by false it_is time old t t' w w' broke = absurd cc

-- Whether the file is to be read.

and_true : (b c : Bool) → c ≡ true → (b && c) ≡ b
and_true true c is = is
and_true false c is = refl

always : {A : Type 0} {P : Type 0} (option : Option A) → P → IfSome option (λ _. P)
always None p = tt
always (Some a) p = p

done_at : (old : Stationed) (between : Between) (reread : Reread) → StandsAt between old → is_done old.shelf reread ≡ true → is_done between.shelf reread ≡ true
done_at old between reread s done = subst (λ (shelf : Shelf). is_done shelf reread ≡ true) s.shelf_is done

pub looks_still : (up : Bool) (time : ℕ) (old : Stationed) (t : Option (List Turn)) (w : Option (List ℕ)) → (up || is_due old.shelf time) ≡ false
    → Looks up time old old t t w w
looks_still true time old t w still = absurd cc
looks_still false time old t w still = record {
  reads = None;
  due = sym still;
  done = tt;
  right = tt;
  took = λ between s. record { gate = Grew-refl t; lines = Grew-refl w; stands = s; order_is = refl };
}

module _ (up : Bool) (time : ℕ) (old : Stationed) (due : (up || is_due old.shelf time) ≡ true) where
  pub looks_unread : (t t' : Option (List Turn)) (w w' : Option (List ℕ)) → BreaksReading old t t' w w' → BreaksLooking up time old t t' w w'
  looks_unread t t' w w' b = record {
    reads = b.reads;
    due = always b.reads due;
    right = b.right;
    breaks = λ between s.
        broke_first (rereads_if old.order b.reads between) (tells_if old.order time (up && was_done between.shelf b.reads)) t t' w w' (b.breaks between s);
  }

  module _ (mid : Stationed) (t t1 t2 : Option (List Turn)) (w w1 w2 : Option (List ℕ)) (reads : Reads old mid t t1 w w1) where
    telling : (between : Between) → StandsAt between old → mid.order ≡ old.order
        → tells_if mid.order time up ≡ tells_if old.order time (up && was_done between.shelf (Some reads.reread))
    telling between s same =
        ap (λ (order : Order). tells_if order time up) same
        ∙ ap (tells_if old.order time) (sym (and_true up (is_done between.shelf reads.reread) (done_at old between reads.reread s reads.done)))

    pub looks_took : (new : Stationed) → TookSo (tells_if mid.order time up) mid new t1 t2 w1 w2 → Looks up time old new t t2 w w2
    looks_took new told = record {
      reads = Some reads.reread;
      due = sym due;
      done = reads.done;
      right = reads.right;
      took = λ between s.
          let a : Took (rereads old.order reads.reread between) old mid t t1 w w1 = reads.took between s in
          took_then (rereads old.order reads.reread between) (tells_if old.order time (up && was_done between.shelf (Some reads.reread))) old mid new
          t t1 t2 w w1 w2 a
          (subst (λ (one_more : Between → Step). Took (one_more (rereads old.order reads.reread between).now) mid new t1 t2 w1 w2)
          (telling between s a.order_is)
          (told (rereads old.order reads.reread between).now a.stands));
    }

    pub looks_untold : BreaksSo (tells_if mid.order time up) mid t1 t2 w1 w2 → BreaksLooking up time old t t2 w w2
    looks_untold broke = record {
      reads = Some reads.reread;
      due = due;
      right = reads.right;
      breaks = λ between s.
          let a : Took (rereads old.order reads.reread between) old mid t t1 w w1 = reads.took between s in
          broke_then (rereads old.order reads.reread between) (tells_if old.order time (up && was_done between.shelf (Some reads.reread))) t t1 t2 w
          w1 w2 a.gate a.lines
          (subst (λ (one_more : Between → Step). Breaks (one_more (rereads old.order reads.reread between).now) t1 t2 w1 w2) (telling between s a.order_is)
          (broke (rereads old.order reads.reread between).now a.stands));
    }

-- What an event calls for.

some_to : {A : Type 0} {P Q : A → Type 0} (option : Option A) → ((a : A) → P a → Q a) → IfSome option P → IfSome option Q
some_to None f p = tt
some_to (Some a) f p = f a p

due_to : (reads : Option Reread) (b c : Bool) → b ≡ c → IfSome reads (λ reread. b ≡ true) → IfSome reads (λ reread. c ≡ true)
due_to None b c same due = tt
due_to (Some reread) b c same due = sym same ∙ due

right_at : (order order' : Order) (reads : Option Reread) → order ≡ order' → IfSome reads (IsRight order.config) → IfSome reads (IsRight order'.config)
right_at order order' reads same right = subst (λ (o : Order). IfSome reads (IsRight o.config)) same right

module _ (time : ℕ) (what : What) (old : Stationed) where
  abbrev act : Kept → Outcome
  act = hears old.order.config time what

  pub follows_unheard : (t t' : Option (List Turn)) (w w' : Option (List ℕ)) → BreaksSo (keeps act) old t t' w w' → BreaksFollowing time what old t t' w w'
  follows_unheard t t' w w' broke between s = record {
    line = 0;
    reads = None;
    due = tt;
    right = tt;
    breaks = broke_first (keeps act between) (λ heard.
        then_do (keeps (dials old.order.config 0 time old.order.address) heard) (looks old.order (is_up (act between.kept).news) time None)) t t' w w'
        (broke between s);
  }

  module _ (one : Stationed) (t t1 t2 : Option (List Turn)) (w w1 : Option (List ℕ)) (heard : TookSo (keeps act) old one t t1 w w1) where
    pub follows_undialled : Grew t1 t2 [] → BreaksFollowing time what old t t2 w w1
    follows_undialled none between s =
        let a : Took (keeps act between) old one t t1 w w1 = heard between s in
        record {
          line = 0;
          reads = None;
          due = tt;
          right = tt;
          breaks = broke_then (keeps act between) (λ heard.
              then_do (keeps (dials old.order.config 0 time old.order.address) heard) (looks old.order (is_up (act between.kept).news) time None))
              t t1 t2 w w1 w1 a.gate a.lines
              (broke_at_once (then_do (keeps (dials old.order.config 0 time old.order.address) (keeps act between).now)
              (looks old.order (is_up (act between.kept).news) time None))
              t1 t2 w1 w1 none (Grew-refl w1));
        }

    module _ (two : Stationed) (up : Bool) (is : IsUpSo act up old) (dialled : DialsSo time one two t1 t2) where
      abbrev dial : Between → Step
      dial = keeps (dials old.order.config dialled.0 time old.order.address)

      second : (between : Between) → StandsAt between old → Took (dial (keeps act between).now) one two t1 t2 w1 w1
      second between s =
          let a : Took (keeps act between) old one t t1 w w1 = heard between s in
          subst (λ (order : Order). Took (keeps (dials order.config dialled.0 time order.address) (keeps act between).now) one two t1 t2 w1 w1) a.order_is
          (dialled.1 w1 (keeps act between).now a.stands)

      order_two : (between : Between) → StandsAt between old → two.order ≡ old.order
      order_two between s = (second between s).order_is ∙ (heard between s).order_is

      shelf_two : (between : Between) → StandsAt between old → two.shelf ≡ between.shelf
      shelf_two between s = (second between s).stands.shelf_is

      read_two : (between : Between) → StandsAt between old → (up || is_due two.shelf time) ≡ is_read old.order time what between
      read_two between s = ap (λ (b : Bool). b || is_due two.shelf time) (is between s)
          ∙ ap (λ (shelf : Shelf). is_up (act between.kept).news || is_due shelf time) (shelf_two between s)

      looks_two : (between : Between) → StandsAt between old → (reads : Option Reread)
          → looks two.order up time reads ≡ looks old.order (is_up (act between.kept).news) time reads
      looks_two between s reads =
          ap (λ (order : Order). looks order up time reads) (order_two between s)
          ∙ ap (λ (b : Bool). looks old.order b time reads) (is between s)

      pub follows_took : (new : Stationed) (t3 : Option (List Turn)) (w3 : Option (List ℕ)) → Looks up time two new t2 t3 w1 w3
          → FollowsSo time what old new t t3 w w3
      follows_took new t3 w3 looked between s =
          let a : Took (keeps act between) old one t t1 w w1 = heard between s in
          let d : Took (dial (keeps act between).now) one two t1 t2 w1 w1 = second between s in
          let look : Between → Step = looks old.order (is_up (act between.kept).news) time looked.reads in
          let l : Took (look (dial (keeps act between).now).now) two new t2 t3 w1 w3 =
          subst (λ (one_more : Between → Step). Took (one_more (dial (keeps (hears old.order.config time what) between).now).now) two new t2 t3 w1 w3)
          (looks_two between s looked.reads)
          (looked.took (dial (keeps act between).now).now d.stands) in
          record {
            line = dialled.0;
            reads = looked.reads;
            due = looked.due ∙ read_two between s;
            done = some_to looked.reads (λ reread done. subst (λ (shelf : Shelf). is_done shelf reread ≡ true) (shelf_two between s) done) looked.done;
            right = right_at two.order old.order looked.reads (order_two between s) looked.right;
            took = took_then (keeps act between) (λ heard. then_do (dial heard) look) old one new t t1 t3 w w1 w3 a
                (took_then (dial (keeps act between).now) look one two new t1 t2 t3 w1 w1 w3 d l);
          }

      pub follows_unread : (t3 : Option (List Turn)) (w3 : Option (List ℕ)) → BreaksLooking up time two t2 t3 w1 w3 → BreaksFollowing time what old t t3 w w3
      follows_unread t3 w3 broke between s =
          let a : Took (keeps act between) old one t t1 w w1 = heard between s in
          let d : Took (dial (keeps act between).now) one two t1 t2 w1 w1 = second between s in
          let look : Between → Step = looks old.order (is_up (act between.kept).news) time broke.reads in
          let l : Breaks (look (dial (keeps act between).now).now) t2 t3 w1 w3 =
          subst (λ (one_more : Between → Step). Breaks (one_more (dial (keeps (hears old.order.config time what) between).now).now) t2 t3 w1 w3)
          (looks_two between s broke.reads)
          (broke.breaks (dial (keeps act between).now).now d.stands) in
          record {
            line = dialled.0;
            reads = broke.reads;
            due = due_to broke.reads (up || is_due two.shelf time) (is_read old.order time what between) (read_two between s) broke.due;
            right = right_at two.order old.order broke.reads (order_two between s) broke.right;
            breaks = broke_then (keeps act between) (λ heard. then_do (dial heard) look) t t1 t3 w w1 w3 a.gate a.lines
                (broke_then (dial (keeps act between).now) look t1 t2 t3 w1 w1 w3 d.gate d.lines l);
          }
