-- A tape that is followed item by item.
use Rattle.std.proofs.Common.{◌≡◌, ◌⊎◌, inl, inr, ◌≤◌, ◌<◌, ◌==◌, ◌∙◌, ◌+◌, ◌-◌, ℕ, List, [], ◌∷◌, ◌++◌, Bool, true, false, Option, Result, Ok, Err}
use Rattle.std.proofs.Common.{length, map, take, refl, ap, sym, subst, arith, append-nil, append_assoc, if◌then◌else◌}
use Rattle.std.proofs.lemmas.{Bool.{Decides.{nat_tests}, eq-eqb, eqb-true}, List.{length-append, length-map, take-append-le, take_all}}
use Rattle.std.specs.{Prelude.{⊤}, Result.{IsErrAnd}}
use Rattle.fs_base.proofs.{Grew.{Grew-refl, Grew-trans, part_then, part_whole}, Drawing.{rose_earlier}}
use Rattle.fs_base.specs.{Outside.{Rose}, Parts.{with_part}, Sink.{Grew, GrewPart}}
use Rattle.fs_base.specs.declared.{config.Config.{Config}, prefix.Family.TheVariants.{V4, V6}}
use Rattle.fs_changes.specs.{Changes.{ActingRules, acting_in, none_act, told}, Tape.{HoldAfter, changes_from, changes_of}}
use Rattle.fs_desk.{specs.{Desk.{Desked, Played, Plays}, Laws.{LeaveSame}, Leaves.{Leaves, nobody}}, proofs.Leaves.{played_leaves}}
use Rattle.fs_input.specs.Records.{End, done, limited, bad}
use Rattle.fs_rules.specs.Table.{Held, admitted}
use Rattle.fs_tape.specs.{Tape.{Item, Timed}, declared.fault.TapeReason.{TapeReason}}
use Rattle.cmd_stages.proofs.Playing.{untimed_more}
use Rattle.cmd_stages.specs.{Items.{Ceases}, Play.{played_to, untimed}, Refusal.{Found, Stopped}, Writing.{Fails}, declared.refusal.Refusal.{Refusal}}
use Rattle.fs_cli.specs.Changes.{CameTo, FollowsItems, LeaveSameAfter, StopsTo}

-- the rules that act after these items
abbrev pub acting_after : (ℕ → Held) → ℕ → ActingRules → List Timed → ActingRules
acting_after held k old [] = old
acting_after held k old (t ∷ ts) = acting_after held (k + 1) (acting_in (held (k + 1))) ts

-- both take nothing of a tape but the routes that are held after its items
abbrev Agree : (held kept : ℕ → Held) → (from count : ℕ) → Type 0
Agree held kept from count = (n : ℕ) → from < n → n ≤ from + count → held n ≡ kept n

changes_agree : (held kept : ℕ → Held) (k : ℕ) (old : ActingRules) (items other : List Timed)
    → map (λ (t : Timed). t.moment) items ≡ map (λ (t : Timed). t.moment) other → Agree held kept k (length items)
    → changes_from held k old items ≡ changes_from kept k old other
changes_agree held kept k old [] [] e same = refl
changes_agree held kept k old [] (u ∷ us) e same = absurd cc
changes_agree held kept k old (t ∷ ts) [] e same = absurd cc
changes_agree held kept k old (t ∷ ts) (u ∷ us) e same =
    let moment : t.moment ≡ u.moment = cc in
    let moments : map (λ (t : Timed). t.moment) ts ≡ map (λ (t : Timed). t.moment) us = cc in
    ap (λ (h : Held). told t.moment old (acting_in h) ++ changes_from held (k + 1) (acting_in h) ts) (same (k + 1) (omega (arith)) (omega (arith)))
    ∙ ap (λ (z : List ℕ). told t.moment old (acting_in (kept (k + 1))) ++ z)
    (changes_agree held kept (k + 1) (acting_in (kept (k + 1))) ts us moments (λ n a b. same n (omega (arith, a)) (omega (arith, b))))
    ∙ ap (λ (m : ℕ). told m old (acting_in (kept (k + 1))) ++ changes_from kept (k + 1) (acting_in (kept (k + 1))) us) moment

-- tapes that leave the same routes after each item have one text
pub changes_same : ((config : Config) (items other : List Item) (held kept : Held) → LeaveSame config items other → Leaves config items held
    → Leaves config other kept → held ≡ kept)
    → (config : Config) (items other : List Timed) (held kept : ℕ → Held) → LeaveSameAfter config items other → HoldAfter config items held
    → HoldAfter config other kept
    → changes_of held items ≡ changes_of kept other
changes_same one config items other held kept same a b =
    changes_agree held kept 0 none_act items other same.moments (λ n some few.
    let at : (n - 1) + 1 ≡ n = omega (arith, some) in
    let below : n - 1 < length items = omega (arith, some, few) in
    subst (λ (m : ℕ). held m ≡ kept m) at
    (one config (untimed (take ((n - 1) + 1) items)) (untimed (take ((n - 1) + 1) other)) (held ((n - 1) + 1)) (kept ((n - 1) + 1))
    (same.routes (n - 1) below) (a (n - 1) below) (b (n - 1) (omega (arith, below, sizes)))))
  where
    sizes : length items ≡ length other
    sizes = sym (length-map items (λ (t : Timed). t.moment)) ∙ ap length same.moments ∙ length-map other (λ (t : Timed). t.moment)

acting_agree : (held kept : ℕ → Held) (k : ℕ) (old : ActingRules) (items : List Timed) → Agree held kept k (length items)
    → acting_after held k old items ≡ acting_after kept k old items
acting_agree held kept k old [] same = refl
acting_agree held kept k old (t ∷ ts) same =
    ap (λ (h : Held). acting_after held (k + 1) (acting_in h) ts) (same (k + 1) (omega (arith)) (omega (arith)))
    ∙ acting_agree held kept (k + 1) (acting_in (kept (k + 1))) ts (λ n a b. same n (omega (arith, a)) (omega (arith, b)))

-- one item more
changes_more : (held : ℕ → Held) (k : ℕ) (old : ActingRules) (items : List Timed) (t : Timed)
    → changes_from held k old (items ++ t ∷ [])
    ≡ changes_from held k old items ++ told t.moment (acting_after held k old items) (acting_in (held (k + length items + 1)))
changes_more held k old [] t =
    append-nil (told t.moment old (acting_in (held (k + 1))))
    ∙ ap (λ (n : ℕ). told t.moment old (acting_in (held n))) (omega (arith))
changes_more held k old (x ∷ xs) t =
    let first : List ℕ = told x.moment old (acting_in (held (k + 1))) in
    let rules : ActingRules = acting_after held (k + 1) (acting_in (held (k + 1))) xs in
    ap (λ (z : List ℕ). first ++ z) (changes_more held (k + 1) (acting_in (held (k + 1))) xs t)
    ∙ sym (append_assoc first (changes_from held (k + 1) (acting_in (held (k + 1))) xs) (told t.moment rules (acting_in (held (k + 1 + length xs + 1)))))
    ∙ ap (λ (n : ℕ). (first ++ changes_from held (k + 1) (acting_in (held (k + 1))) xs) ++ told t.moment rules (acting_in (held n))) (omega (arith))

acting_more : (held : ℕ → Held) (k : ℕ) (old : ActingRules) (items : List Timed) (t : Timed)
    → acting_after held k old (items ++ t ∷ []) ≡ acting_in (held (k + length items + 1))
acting_more held k old [] t = ap (λ (n : ℕ). acting_in (held n)) (omega (arith))
acting_more held k old (x ∷ xs) t =
    acting_more held (k + 1) (acting_in (held (k + 1))) xs t ∙ ap (λ (n : ℕ). acting_in (held n)) (omega (arith))

-- the routes that are held after one item more
abbrev with_held : (ℕ → Held) → ℕ → Held → ℕ → Held
with_held held k last n = if n == k then last else held n

still_held : (held : ℕ → Held) (size : ℕ) (last : Held) → Agree (with_held held (size + 1) last) held 0 size
still_held held size last n some few = by (n == size + 1) refl
  where
    by : (b : Bool) → (n == size + 1) ≡ b → (if b then last else held n) ≡ held n
    by true e = let same : n ≡ size + 1 = eqb-true n (size + 1) e in absurd (omega (arith, same, few))
    by false e = refl

now_held : (held : ℕ → Held) (k : ℕ) (last : Held) → with_held held k last k ≡ last
now_held held k last = ap (λ (b : Bool). if b then last else held k) (eq-eqb k k refl)

held_at : (config : Config) (held : ℕ → Held) (gone : List Timed) (t : Timed) (last : Held) (k : ℕ) → k < length (gone ++ t ∷ [])
    → HoldAfter config gone held → Leaves config (untimed (gone ++ t ∷ [])) last
    → Leaves config (untimed (take (k + 1) (gone ++ t ∷ []))) (with_held held (length gone + 1) last (k + 1))
held_at config held gone t last k below all l = by (k + 1 == length gone + 1) refl
  where
    size : length (gone ++ t ∷ []) ≡ length gone + 1
    size = length-append gone (t ∷ [])

    by : (b : Bool) → (k + 1 == length gone + 1) ≡ b → Leaves config (untimed (take (k + 1) (gone ++ t ∷ []))) (if b then last else held (k + 1))
    by true e =
        let same : k + 1 ≡ length gone + 1 = eqb-true (k + 1) (length gone + 1) e in
        subst (λ (z : List Timed). Leaves config (untimed z) last) (sym (take_all (k + 1) (gone ++ t ∷ []) (omega (arith, same, size)))) l
    by false e =
        let other : k < length gone = grind (arith, nat_tests, e, below, size) in
        subst (λ (z : List Timed). Leaves config (untimed z) (held (k + 1))) (sym (take-append-le (k + 1) gone (t ∷ []) (omega (arith, other)))) (all k other)

pub record Extended (config : Config) (held : ℕ → Held) (gone : List Timed) (t : Timed) (last : Held) : Type 0 where
  pub kept : ℕ → Held
  pub holds : HoldAfter config (gone ++ t ∷ []) kept
  pub acts : acting_after kept 0 none_act (gone ++ t ∷ []) ≡ acting_in last
  pub lines : changes_of kept (gone ++ t ∷ [])
      ≡ changes_of held gone ++ told t.moment (acting_after held 0 none_act gone) (acting_in last)

extend : (config : Config) (held : ℕ → Held) (gone : List Timed) (t : Timed) (last : Held)
    → HoldAfter config gone held → Leaves config (untimed (gone ++ t ∷ [])) last → Extended config held gone t last
extend config held gone t last all l =
    let kept : ℕ → Held = with_held held (length gone + 1) last in
    let same : Agree kept held 0 (length gone) = still_held held (length gone) last in
    let zero : 0 + length gone ≡ length gone = omega arith in
    let here : kept (0 + length gone + 1) ≡ last = ap (λ (n : ℕ). kept (n + 1)) zero ∙ now_held held (length gone + 1) last in
    record {
      kept = kept;
      holds = λ k below. held_at config held gone t last k below all l;
      acts = acting_more kept 0 none_act gone t ∙ ap acting_in here;
      lines =
          changes_more kept 0 none_act gone t
          ∙ ap (λ (z : List ℕ). z ++ told t.moment (acting_after kept 0 none_act gone) (acting_in (kept (0 + length gone + 1))))
          (changes_agree kept held 0 none_act gone gone refl same)
          ∙ ap (λ (rules : ActingRules). changes_of held gone ++ told t.moment rules (acting_in (kept (0 + length gone + 1))))
          (acting_agree kept held 0 none_act gone same)
          ∙ ap (λ (h : Held). changes_of held gone ++ told t.moment (acting_after held 0 none_act gone) (acting_in h)) here;
    }

-- no admitted rule, no rule that acts
pub acting_none : (held : Held) → admitted V4 held ≡ [] → admitted V6 held ≡ [] → acting_in held ≡ none_act
acting_none held v4 v6 = λ i. record { v4 = v4 i; v6 = v6 i }

-- Of all items some were come to, what each of them changes was written, and the rest is to come.
pub record Following (config : Config) (all rest : List Timed × End TapeReason) (before now : Option (List ℕ)) (desk : Desked)
    (acting : ActingRules) : Type 0 where
  pub held : ℕ → Held
  pub gone : List Timed
  pub parts : all.0 ≡ gone ++ rest.0
  pub end_is : all.1 ≡ rest.1
  pub holds : HoldAfter config gone held
  pub played : Played config (untimed gone) desk
  pub acts : acting_after held 0 none_act gone ≡ acting
  pub grew : Grew before now (changes_of held gone)

-- none was
pub following_first : (config : Config) (all : List Timed × End TapeReason) (before : Option (List ℕ)) (desk : Desked) (acting : ActingRules)
    → Played config [] desk → acting ≡ none_act → Following config all all before before desk acting
following_first config all before desk acting p e = record {
  held = λ n. desk.held;
  gone = [];
  parts = refl;
  end_is = refl;
  holds = λ k below. absurd (omega (arith, below));
  played = p;
  acts = sym e;
  grew = Grew-refl before;
}

-- the desk after one more
played_more : (config : Config) (gone : List Timed) (moment : ℕ) (item : Item) (old new : Desked) → Played config (untimed gone) old → Plays item old new
    → Played config (untimed (gone ++ record { moment = moment; item = item } ∷ [])) new
played_more config gone moment item old new p plays =
    subst (λ (z : List Item). Played config z new) (sym (untimed_more gone (record { moment = moment; item = item } ∷ [])))
    (plays nobody config (untimed gone) p)

abbrev timed_at : ℕ → Item → Timed
timed_at moment item = record { moment = moment; item = item }

-- What is known once one more item is come to.
pub record Reached (config : Config) (all rest : List Timed × End TapeReason) (held : ℕ → Held) (gone : List Timed) (t : Timed) (desk : Desked) : Type 0 where
  pub parts : all.0 ≡ (gone ++ t ∷ []) ++ rest.0
  pub end_is : all.1 ≡ rest.1
  pub played : Played config (untimed (gone ++ t ∷ [])) desk
  pub more : Extended config held gone t desk.held

reached : {config : Config} {all now : List Timed × End TapeReason} {before written : Option (List ℕ)} {old : Desked} {acting : ActingRules}
    (rest : List Timed × End TapeReason) (moment : ℕ) (item : Item) (new : Desked)
    → (f : Following config all now before written old acting) → now ≡ with_part (timed_at moment item) rest → Plays item old new
    → Reached config all rest f.held f.gone (timed_at moment item) new
reached {config} {old = old} rest moment item new f e plays =
    let played : Played config (untimed (f.gone ++ timed_at moment item ∷ [])) new = played_more config f.gone moment item old new f.played plays in
    record {
      parts = f.parts ∙ ap (λ (r : List Timed × End TapeReason). f.gone ++ r.0) e ∙ sym (append_assoc f.gone (timed_at moment item ∷ []) rest.0);
      end_is = f.end_is ∙ ap (λ (r : List Timed × End TapeReason). r.1) e;
      played = played;
      more = extend config f.held f.gone (timed_at moment item) new.held f.holds
          (played_leaves config (untimed (f.gone ++ timed_at moment item ∷ [])) new played);
    }

-- what it changes, with the lines of those before
lines_reached : {config : Config} {held : ℕ → Held} {gone : List Timed} {t : Timed} {last : Held} (acting : ActingRules) (x : Extended config held gone t last)
    → acting_after held 0 none_act gone ≡ acting → changes_of held gone ++ told t.moment acting (acting_in last) ≡ changes_of x.kept (gone ++ t ∷ [])
lines_reached {held = held} {gone = gone} {t = t} {last = last} acting x e =
    ap (λ (rules : ActingRules). changes_of held gone ++ told t.moment rules (acting_in last)) (sym e) ∙ sym x.lines

pub following_more : {config : Config} {all now : List Timed × End TapeReason} {before written : Option (List ℕ)} {old : Desked} {acting : ActingRules}
    (rest : List Timed × End TapeReason) (moment : ℕ) (item : Item) (new : Desked) (acting' : ActingRules) (after : Option (List ℕ))
    → Following config all now before written old acting → now ≡ with_part (timed_at moment item) rest → Plays item old new
    → acting' ≡ acting_in new.held → Grew written after (told moment acting (acting_in new.held)) → Following config all rest before after new acting'
following_more {config} {all} {now} {before} {written} {old} {acting} rest moment item new acting' after f e plays a grew =
    let r : Reached config all rest f.held f.gone (timed_at moment item) new = reached rest moment item new f e plays in
    record {
      held = r.more.kept;
      gone = f.gone ++ timed_at moment item ∷ [];
      parts = r.parts;
      end_is = r.end_is;
      holds = r.more.holds;
      played = r.played;
      acts = r.more.acts ∙ sym a;
      grew = subst (λ (text : List ℕ). Grew before after text) (lines_reached acting r.more f.acts) (Grew-trans before written after _ _ f.grew grew);
    }

-- the items that were come to
abbrev came_of : {config : Config} {all rest : List Timed × End TapeReason} {before now : Option (List ℕ)} {desk : Desked} {acting : ActingRules}
    → Following config all rest before now desk acting → CameTo config all.0
came_of {rest = rest} f = record { held = f.held; played = f.gone; rest = rest.0; parts = f.parts; holds = f.holds }

-- the tape is done
pub followed_done : {config : Config} {all rest : List Timed × End TapeReason} {before now : Option (List ℕ)} {desk : Desked} {acting : ActingRules}
    → Following config all rest before now desk acting → rest ≡ ([], done) → FollowsItems {T = ⊤} config all ⊤ before now (Ok tt)
followed_done f e =
    (came_of f, (ap (λ (r : List Timed × End TapeReason). r.0) e, f.end_is ∙ ap (λ (r : List Timed × End TapeReason). r.1) e, f.grew))

-- a tape that ends so stops whatever items it gave
stopped_as : (items others : List Timed) (end other : End TapeReason) (refusal : Refusal) → end ≡ other → played_to (items, other) ≡ Stopped refusal
    → played_to (others, end) ≡ Stopped refusal
stopped_as items others end other refusal same h = by end (subst (λ (x : End TapeReason). played_to (items, x) ≡ Stopped refusal) (sym same) h)
  where
    by : (x : End TapeReason) → played_to (items, x) ≡ Stopped refusal → played_to (others, x) ≡ Stopped refusal
    by done h = absurd cc
    by limited h = h
    by (bad reason place) h = h

-- no further item was come to
pub followed_ceased : {config : Config} {all rest : List Timed
    × End TapeReason} {before now : Option (List ℕ)} {desk : Desked} {acting : ActingRules} {T : Type 0}
    (early mid after : ℕ) (other : Type 0) (refusal : Refusal) (result : Result T Refusal)
    → Following config all rest before now desk acting → early ≤ mid → Ceases (Found rest) (Rose mid after) refusal → IsErrAnd result (λ e. e ≡ refusal)
    → FollowsItems config all (Rose early after ⊎ other) before now result
followed_ceased early mid after other refusal (Ok value) f l h is = absurd is
followed_ceased {config} {all} {rest} {before} {now} early mid after other refusal (Err cause) f l h is =
    (came_of f, subst (λ (r : Refusal). StopsTo (came_of f) all.1 (Rose early after ⊎ other) before now r) (sym is) (stops h))
  where
    stops : Ceases (Found rest) (Rose mid after) refusal → StopsTo (came_of f) all.1 (Rose early after ⊎ other) before now refusal
    stops (inl h) = inl (h.0, stopped_as rest.0 all.0 all.1 rest.1 refusal f.end_is h.1, f.grew)
    stops (inr (inl h)) = inr (inl (h, f.grew))
    stops (inr (inr h)) = inr (inr (h.0, inl (rose_earlier early mid after l h.1), part_whole before now (changes_of f.held f.gone) f.grew))

-- what one more item changes couldn't be written
pub followed_unwritten : {config : Config} {all now : List Timed
    × End TapeReason} {before written : Option (List ℕ)} {old : Desked} {acting : ActingRules} {T : Type 0}
    (rest : List Timed × End TapeReason) (moment : ℕ) (item : Item) (new : Desked) (after : Option (List ℕ)) (files : Type 0) (early mid last : ℕ)
    (refusal : Refusal) (result : Result T Refusal)
    → Following config all now before written old acting → now ≡ with_part (timed_at moment item) rest → Plays item old new → early ≤ mid
    → Fails (told moment acting (acting_in new.held)) (Rose mid last) written after refusal → IsErrAnd result (λ e. e ≡ refusal)
    → FollowsItems config all (files ⊎ Rose early last) before after result
followed_unwritten rest moment item new after files early mid last refusal (Ok value) f e plays l h is = absurd is
followed_unwritten {config} {all} {now} {before} {written} {old} {acting} {T} rest moment item new after files early mid last refusal
    (Err cause) f e plays l h is =
    subst (λ (r : Refusal). FollowsItems {T = T} config all (files ⊎ Rose early last) before after (Err r)) (sym is) (by h)
  where
    by : Fails (told moment acting (acting_in new.held)) (Rose mid last) written after refusal
        → FollowsItems {T = T} config all (files ⊎ Rose early last) before after (Err refusal)
    by (inl h) = (
      came_of f,
      inr (inl (
        h.0,
        subst (λ (text : List ℕ). Grew before after text) (append-nil (changes_of f.held f.gone))
            (Grew-trans before written after _ _ f.grew h.1),
      )),
    )
    by (inr h) =
        let r : Reached config all rest f.held f.gone (timed_at moment item) new = reached rest moment item new f e plays in
        let came : CameTo config all.0 =
        record { held = r.more.kept; played = f.gone ++ timed_at moment item ∷ []; rest = rest.0; parts = r.parts; holds = r.more.holds } in (
          came,
          inr (inr (
            h.0,
            inr (rose_earlier early mid last l h.1),
            subst (λ (text : List ℕ). GrewPart before after text) (lines_reached acting r.more f.acts) (part_then before written after _ _ f.grew h.2),
          )),
        )
