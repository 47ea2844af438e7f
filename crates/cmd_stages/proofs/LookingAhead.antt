-- A player that holds one item ahead.
use Rattle.cmd_stages.proofs.Words.{◌≡◌, inl, inr, ◌≤◌, ◌<◌, ◌-◌, ℕ, suc, List, [], ◌∷◌, ◌++◌, Bool, true, false, Option, Some, None, refl, ap, sym}
use Rattle.cmd_stages.proofs.Words.{◌∙◌, subst, append_assoc, append-nil, arith, filter, nat_le, if◌then◌else◌, IfSome, each_append, each_weaker}
use Rattle.cmd_stages.proofs.Words.{filter-append, filter_all, filter_none, OnlySlot, Rose, with_part, End, done, limited, bad, Config, IsItem, Item}
use Rattle.cmd_stages.proofs.Words.{TapeState, Timed, coming, item_from, items_to_come, timed, version_of, TapeReason, Version, One, Two, Desked}
use Rattle.cmd_stages.proofs.Words.{Played, Plays, Leaves, nobody, Covers, Noted, Refusal, Names, Stage, Found, Stopped, HasReason, Gives, HasVersion}
use Rattle.cmd_stages.proofs.Words.{HaveNoMoments, IsOpened, played_to, tape_stage, until, untimed, IsReady, IsUnplayed, PlayerState, Stands}
use Rattle.cmd_stages.proofs.Words.{IsReadWhole, PlaysOn, due_item, items_ahead, to_play, rose_earlier}
use Rattle.cmd_stages.proofs.Playing.{comes_at, done_found, untimed_more}
use Rattle.std.{specs.{Prelude.{option_map, Result, Ok}, Option.{is_some}, List.{AllByRecursion}}, proofs.lemmas.Bool.{le-leb, leb-false, leb-true, lt-leb}}
use Rattle.fs_tape.{specs.{Laws.{AreFrom}, declared.item.TapeItem.{TapeItem}}, proofs.Rising.{moments_rise}}
use Rattle.fs_desk.proofs.Leaves.{played_leaves}
use Rattle.fs_rules.specs.Table.{Held}

-- what the reader gave is held ahead
ahead_of : (found : Option TapeItem) (before now : List Timed × End TapeReason) (moment : ℕ) (into : List ℕ)
    → Gives before now moment into found → before ≡ items_ahead found moment into now
ahead_of None before now moment into h = h
ahead_of (Some item) before now moment into h = h

pub found_items : (r : List Timed × End TapeReason) (items : List Timed) → played_to r ≡ Found items → r ≡ (items, done)
found_items (found, done) items e = let same : found ≡ items = cc in ap (λ (l : List Timed). (l, done)) same
found_items (found, limited) items e = absurd cc
found_items (found, bad reason place) items e = absurd cc

-- a stage that gives its value has no refusal of its own
pub unplayed : {A : Type 0} (stage : Stage A) (a : A) (failed : Type 0) (refusal : Refusal) → stage ≡ Found a → HasReason stage failed refusal
    → IsUnplayed failed refusal
unplayed stage a failed refusal e (inl h) = let wrong : Found a ≡ Stopped refusal = sym e ∙ h in absurd cc
unplayed stage a failed refusal e (inr h) = h

one_version : {A : Type 0} (x : Option A) (view : A → Result Version (End TapeReason)) (a b : Version) → option_map view x ≡ Some (Ok a)
    → option_map view x ≡ Some (Ok b) → a ≡ b
one_version x view a b e f = let both : Some (Ok a) ≡ Some (Ok b) = sym e ∙ f in cc

-- none is due where one is
pub never_due : {A : Type 0} (o : Option TapeItem) (item : TapeItem) → o ≡ None → o ≡ Some item → A
never_due o item none some = let wrong : None ≡ Some item = sym none ∙ some in absurd cc

-- what is said of an item ahead
if_then : {A P : Type 0} (o : Option A) → P → IfSome o (λ _. P)
if_then None p = tt
if_then (Some a) p = p

if_ahead : {A P : Type 0} (o : Option A) (a : A) → o ≡ Some a → IfSome o (λ _. P) → P
if_ahead None a e h = absurd cc
if_ahead (Some b) a e h = h

abbrev pub player_with : TapeState → Option TapeItem → List ℕ → Desked → PlayerState
player_with tape ahead into desk = record { tape = tape; ahead = ahead; into = into; desk = desk }

-- the item ahead was played, and the next one was read
pub stands_step : (items : List Timed) (t : ℕ) (old new : PlayerState) (left left' : List ℕ) (item : TapeItem)
    → old.ahead ≡ Some item → old.tape.moment ≤ t → Stands items t old left
    → Plays (item_from item old.into) old.desk new.desk → new.desk.config ≡ old.desk.config
    → Gives (coming old.desk.config old.tape left) (coming old.desk.config new.tape left') new.tape.moment new.into new.ahead
    → new.tape.version ≡ old.tape.version → Stands items t new left'
stands_step items t old new left left' item h m s plays same g v =
    let first : Timed = timed old.tape.moment (item_from item old.into) in
    let all : to_play old left ≡ with_part first (to_play new left') =
    ap (λ (a : Option TapeItem). items_ahead a old.tape.moment old.into (coming old.desk.config old.tape left)) h
    ∙ ap (with_part first)
    (ahead_of new.ahead _ _ _ _ g
    ∙ ap (λ (c : Config). items_ahead new.ahead new.tape.moment new.into (coming c new.tape left')) (sym same)) in
    record {
      gone = s.gone ++ first ∷ [];
      parts = s.parts ∙ ap (λ (r : List Timed × End TapeReason). s.gone ++ r.0) all ∙ sym (append_assoc s.gone (first ∷ []) (to_play new left').0);
      ends = sym (ap (λ (r : List Timed × End TapeReason). r.1) all) ∙ s.ends;
      early = each_append (λ (x : Timed). x.moment ≤ t) s.gone (first ∷ []) s.early (m, tt);
      played = subst (λ (c : Config). Played c (untimed (s.gone ++ first ∷ [])) new.desk) (sym same)
          (subst (λ (z : List Item). Played old.desk.config z new.desk) (sym (untimed_more s.gone (first ∷ [])))
          (plays nobody old.desk.config (untimed s.gone) s.played));
      version_is = if_then new.ahead (v ∙ if_ahead old.ahead item h s.version_is);
    }

-- whatever the desk notes
pub stands_noted : (items : List Timed) (t : ℕ) (player : PlayerState) (desk : Desked) (noted : Noted) (left : List ℕ)
    → desk ≡ record player.desk { changes = noted } → Stands items t player left → Stands items t (record player { desk = desk }) left
stands_noted items t player desk noted left e s = subst (λ (d : Desked). Stands items t (record player { desk = d }) left) (sym e) (record {
  gone = s.gone;
  parts = s.parts;
  ends = s.ends;
  early = s.early;
  played = record { config_is = s.played.config_is; held_is = s.played.held_is; listed = s.played.listed; sessions = s.played.sessions; each = s.played.each };
  version_is = s.version_is;
})

-- from there on nothing has changed
pub covers_first : (base : Held) (old desk : Desked) → base ≡ old.held → desk ≡ record old { changes = record { places = []; all = false } }
    → Covers base desk.changes desk.held
covers_first base old desk b e =
    subst (λ (d : Desked). Covers base d.changes d.held) (sym e)
    (subst (λ (h : Held). Covers h (record { places = []; all = false }) old.held) (sym b) (λ none family. refl))

-- a later moment is no less late
pub stands_later : (items : List Timed) (t t' : ℕ) (player : PlayerState) (left : List ℕ) → t ≤ t' → Stands items t player left → Stands items t' player left
stands_later items t t' player left l s = record {
  gone = s.gone;
  parts = s.parts;
  ends = s.ends;
  early = each_weaker (λ (x : Timed). x.moment ≤ t) (λ (x : Timed). x.moment ≤ t') (λ x h. omega (arith, l, h)) s.gone s.early;
  played = s.played;
  version_is = s.version_is;
}

-- what is still to be played is late, where no item is due

late : (ahead : Option TapeItem) (at t : ℕ) (into : List ℕ) (rest : List Timed × End TapeReason)
    → due_item ahead at t ≡ None → IfSome ahead (λ _. AreFrom at rest.0) → AllByRecursion (λ (x : Timed). t < x.moment) (items_ahead ahead at into rest).0
late None at t into rest h all = tt
late (Some item) at t into rest h all =
    let below : t < at = by (nat_le at t) refl h in
    (below, each_weaker (λ (x : Timed). at ≤ x.moment) (λ (x : Timed). t < x.moment) (λ x h. omega (arith, below, h)) rest.0 all)
  where
    by : (b : Bool) → nat_le at t ≡ b → (if b then Some item else None) ≡ None → t < at
    by true e h = absurd cc
    by false e h = leb-false at t e

rises : (config : Config) (version : Version) (limit taken moment : ℕ) (left : List ℕ) → version ≡ Two
    → AreFrom moment (items_to_come config version limit taken moment left).0
rises config version limit taken moment left e =
    subst (λ (v : Version). AreFrom moment (items_to_come config v limit taken moment left).0) (sym e) (moments_rise config limit taken moment left)

-- those up to t are those that were played
until_gone : (t : ℕ) (gone rest : List Timed) → AllByRecursion (λ (x : Timed). x.moment ≤ t) gone → AllByRecursion (λ (x : Timed). t < x.moment) rest
    → filter (λ (x : Timed). nat_le x.moment t) (gone ++ rest) ≡ gone
until_gone t gone rest early late =
    let up_to : Timed → Bool = λ x. nat_le x.moment t in
    filter-append up_to gone rest
    ∙ ap (λ (l : List Timed). l ++ filter up_to rest)
    (filter_all up_to gone (each_weaker (λ x. x.moment ≤ t) (λ x. up_to x ≡ true) (λ x l. le-leb x.moment t l) gone early))
    ∙ ap (λ (l : List Timed). gone ++ l)
    (filter_none up_to rest (each_weaker (λ x. t < x.moment) (λ x. up_to x ≡ false) (λ x l. lt-leb x.moment t l) rest late))
    ∙ append-nil gone

-- Where no item is due any more, the desk holds what the items up to this moment leave.
pub leaves_until : (items : List Timed) (t : ℕ) (player : PlayerState) (left : List ℕ) → Stands items t player left
    → due_item player.ahead player.tape.moment t ≡ None → Leaves player.desk.config (until t items) player.desk.held
leaves_until items t player left s none =
    let behind : AllByRecursion (λ (x : Timed). t < x.moment) (to_play player left).0 =
    late player.ahead player.tape.moment t player.into (coming player.desk.config player.tape left) none
    (rising player.ahead player.tape.version s.version_is) in
    let same : filter (λ (x : Timed). nat_le x.moment t) items ≡ s.gone =
    ap (filter (λ (x : Timed). nat_le x.moment t)) s.parts ∙ until_gone t s.gone (to_play player left).0 s.early behind in
    subst (λ (l : List Timed). Leaves player.desk.config (untimed l) player.desk.held) (sym same)
    (played_leaves player.desk.config (untimed s.gone) player.desk s.played)
  where
    rising : (o : Option TapeItem) (version : Version) → IfSome o (λ _. version ≡ Two)
        → IfSome o (λ _. AreFrom player.tape.moment (items_to_come player.desk.config version player.tape.limit player.tape.place player.tape.moment left).0)
    rising None version h = tt
    rising (Some item) version h = rises player.desk.config version player.tape.limit player.tape.place player.tape.moment left h

-- so of a test for an item that is due
pub none_due : (o : Option TapeItem) → is_some o ≡ false → o ≡ None
none_due None h = refl
none_due (Some item) h = absurd cc

-- a tape without moments was played to its end
pub stands_ended : (items : List Timed) (tape : TapeState) (into : List ℕ) (desk : Desked) (left : List ℕ)
    → Played desk.config (untimed items) desk → HaveNoMoments One items → Stands items 0 (player_with tape None into desk) left
stands_ended items tape into desk left p none = record {
  gone = items;
  parts = sym (append-nil items);
  ends = refl;
  early = each_weaker (λ (x : Timed). One ≡ One → x.moment ≡ 0) (λ (x : Timed). x.moment ≤ 0) (λ x h. omega (arith, h refl)) items none;
  played = p;
  version_is = tt;
}

-- the whole tape was read, and one of the first version was played
pub read_played : (config : Config) (limit : ℕ) (holds : Names) (name : List ℕ) (left : ℕ → List ℕ) (tape tape' : TapeState) (into : List ℕ) (desk : Desked)
    → IsOpened limit holds name (left 1) tape → tape.slot ≡ 1 → tape.version ≡ One
    → PlaysOn config tape.version (coming config tape (left tape.slot)) desk → IsReadWhole config limit holds name (Some (player_with tape' None into desk))
read_played config limit holds name left tape tape' into desk o one v p = record {
  items = (coming config tape (left tape.slot)).0;
  found = comes_at config limit holds name left tape o one ∙ done_found (coming config tape (left tape.slot)) p.done_is;
  stands = λ left'. stands_ended (coming config tape (left tape.slot)).0 tape' into desk left'
      (subst (λ (c : Config). Played c (untimed (coming config tape (left tape.slot)).0) desk) (sym p.played.config_is) p.played)
      (subst (λ (z : Version). HaveNoMoments z (coming config tape (left tape.slot)).0) v p.moments);
}

pub rose_on : (before mid after : ℕ) (refusal : Refusal) → before ≤ mid → IsUnplayed (Rose mid after) refusal → IsUnplayed (Rose before after) refusal
rose_on before mid after refusal l (inl h) = inl h
rose_on before mid after refusal l (inr h) = inr (h.0, rose_earlier before mid after l h.1)

-- the item that is due is held ahead, and its moment has come
pub due_is : (ahead : Option TapeItem) (at moment : ℕ) (item : TapeItem) → due_item ahead at moment ≡ Some item → (ahead ≡ Some item) × (at ≤ moment)
due_is None at moment item h = absurd cc
due_is (Some other) at moment item h = by (nat_le at moment) refl h
  where
    by : (b : Bool) → nat_le at moment ≡ b → (if b then Some other else None) ≡ Some item → (Some other ≡ Some item) × (at ≤ moment)
    by true e h = (h, leb-true at moment e)
    by false e h = absurd cc

-- what is left behind the item ahead, where there is one
abbrev pub ahead_left : Option TapeItem → (limit place : ℕ) → ℕ
ahead_left None limit place = 0
ahead_left (Some item) limit place = suc (limit - place)

pub fewer_left : (old new : Option TapeItem) (item : TapeItem) (limit place limit' place' : ℕ)
    → old ≡ Some item → limit' ≡ limit → IfSome new (λ _. (place < place') × (place' ≤ limit')) → ahead_left new limit' place' < ahead_left old limit place
fewer_left old new item limit place limit' place' h e g =
    subst (λ (o : Option TapeItem). ahead_left new limit' place' < ahead_left o limit place) (sym h) (by new g)
  where
    by : (new : Option TapeItem) → IfSome new (λ _. (place < place') × (place' ≤ limit')) → ahead_left new limit' place' < suc (limit - place)
    by None g = omega (arith)
    by (Some next) g = omega (arith, e, g.0, g.1)

-- the first item was read ahead, or why it wasn't

-- a tape of these items was opened in the first slot, and so much of each slot is left
pub record Begun : Type 0 where
  pub config : Config
  pub limit : ℕ
  pub holds : Names
  pub name : List ℕ
  pub left : ℕ → List ℕ
  pub items : List Timed
  pub tape : TapeState
  pub found : tape_stage config limit holds name ≡ Found items
  pub opened : IsOpened limit holds name (left 1) tape
  pub first : tape.slot ≡ 1

abbrev pub begun : (config : Config) (limit : ℕ) (holds : Names) (name : List ℕ) (left : ℕ → List ℕ) (items : List Timed) (tape : TapeState)
    → tape_stage config limit holds name ≡ Found items → IsOpened limit holds name (left 1) tape → tape.slot ≡ 1 → Begun
begun config limit holds name left items tape found opened one =
    record { config = config; limit = limit; holds = holds; name = name; left = left; items = items; tape = tape; found = found; opened = opened; first = one }

pub stands_begun : (b : Begun) (left : ℕ → List ℕ) (player : PlayerState) → HasVersion b.limit b.holds b.name Two
    → Gives (coming b.config b.tape (b.left b.tape.slot)) (coming b.config player.tape (left b.tape.slot)) player.tape.moment player.into player.ahead
    → player.tape.version ≡ b.tape.version → Played b.config [] player.desk → Stands b.items 0 player (left 1)
stands_begun b left player v g same p =
    let config_is : player.desk.config ≡ b.config = p.config_is in
    let P : ℕ → Type 0 =
    λ n. Gives (coming b.config b.tape (b.left n)) (coming b.config player.tape (left n)) player.tape.moment player.into player.ahead in
    let all : (b.items, done) ≡ to_play player (left 1) =
    sym (found_items (coming b.config b.tape (b.left 1)) b.items (sym (b.opened.comes b.config) ∙ b.found))
    ∙ ahead_of player.ahead _ _ _ _ (subst P b.first g)
    ∙ ap (λ (c : Config). items_ahead player.ahead player.tape.moment player.into (coming c player.tape (left 1))) (sym config_is) in
    record {
      gone = [];
      parts = ap (λ (r : List Timed × End TapeReason). r.0) all;
      ends = sym (ap (λ (r : List Timed × End TapeReason). r.1) all);
      early = tt;
      played = subst (λ (c : Config). Played c [] player.desk) (sym config_is) p;
      version_is = if_then player.ahead (same ∙ one_version (b.holds b.name) (version_of b.limit) b.tape.version Two b.opened.has_version v);
    }

pub unbegun : (b : Begun) (before mid after : ℕ) (refusal : Refusal) → before ≤ mid
    → HasReason (played_to (coming b.config b.tape (b.left b.tape.slot))) (Rose mid after) refusal → IsUnplayed (Rose before after) refusal
unbegun b before mid after refusal l h =
    rose_on before mid after refusal l
    (unplayed (played_to (coming b.config b.tape (b.left 1))) b.items (Rose mid after) refusal (sym (b.opened.comes b.config) ∙ b.found)
    (subst (λ (n : ℕ). HasReason (played_to (coming b.config b.tape (b.left n))) (Rose mid after) refusal) b.first h))

pub slots_then : {F : Type 0} (tells : Bool) (left : F → ℕ → List ℕ) (holds : F → List ℕ → Option (List ℕ)) (slot slot' : ℕ) (old mid new : F)
    → OnlySlot tells left holds slot old mid → slot' ≡ slot → OnlySlot tells left holds slot' mid new → OnlySlot tells left holds slot old new
slots_then tells left holds slot slot' old mid new a same b = λ told. record {
  others = λ other n. (b told).others other (λ e. n (e ∙ same)) ∙ (a told).others other n;
  names = (b told).names ∙ (a told).names;
}

pub ready_ahead : (o : Option TapeItem) (tape : TapeState) (place : ℕ) (config config' : Config) → config' ≡ config
    → IfSome o (IsItem config) → IfSome o (λ _. tape.end ≡ None) → IfSome o (λ _. (place < tape.place) × (tape.place ≤ tape.limit))
    → IfSome o (IsReady tape config')
ready_ahead None tape place config config' e known unended grows = tt
ready_ahead (Some item) tape place config config' e known unended grows =
    (subst (λ (c : Config). IsItem c item) (sym e) known, unended, grows.1)

pub with_room : (o : Option TapeItem) (R : Type 0) (P : TapeItem → Type 0) → R → IfSome o P → IfSome o (λ item. R × P item)
with_room None R P r h = tt
with_room (Some item) R P r h = (r, h)
