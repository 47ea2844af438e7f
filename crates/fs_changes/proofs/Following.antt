-- The rules of a family followed from one noted place to the next.
use Rattle.fs_changes.proofs.Words.{Bool, IfSome, List, Option, Some, None, [], ap, ap₂, cond, false, length, not, refl, subst, sym, true, true≢false}
use Rattle.fs_changes.proofs.Words.{ℕ, ◌&&◌, ◌++◌, ◌==◌, ◌∙◌, ◌∷◌, ◌≡◌, ◌⊎◌, inl, inr, append-nil, append_assoc, eqb-true, eq-eqb, flat_map-append}
use Rattle.fs_changes.proofs.Words.{AllByRecursion, filter, afi_of, Family, Prefix, FlowRoute, Held, IsRuleOf, IsAdmitted, AdmitsElsewhere, admitted}
use Rattle.fs_changes.proofs.Words.{is_most_preferred, Change, IsOwn, is_to, touched_by, place_by, target_of, act_of, acts_of, changes, line_text}
use Rattle.fs_changes.proofs.Words.{lines_text, is_before, is_same, AreInOrder, AreInPlaces, after_it, at_it, before_it, Puts, is_due, next_of}
use Rattle.fs_changes.proofs.Words.{targets, Act, Line}
use Rattle.fs_changes.proofs.Apart.{key, stand_apart, to_is}
use Rattle.fs_changes.proofs.Filters.{between, is_past, is_up, parted_reached, reached, reached_last, reached_next, up_and_past}
use Rattle.fs_changes.proofs.Nexting.{none_due}
use Rattle.fs_changes.proofs.Noting.{IsNext, between_same, both_true, none_touches, past_same, refused}
use Rattle.fs_changes.proofs.{Placing.{parted, weaker}, Seams.{lines_last, lines_next}, Spans.{in_order}}

abbrev up_to : Option (Option Prefix) → List FlowRoute → List FlowRoute
up_to last routes = filter (is_up place_by key (targets last)) routes

abbrev pub lines : ℕ → (old new : List FlowRoute) → List ℕ
lines moment old new = lines_text moment (changes 0 (acts_of old) (acts_of new))

-- Up to the last place the routes are those that the table admits, past it those of before, and the lines of that are told.
pub record Followed (family : Family) (moment : ℕ) (base all routes : List FlowRoute) (last : Option (Option Prefix)) (before text : List ℕ) : Type 0 where
  pub known : (last ≡ None) ⊎ AreInOrder family all
  pub reached_is : routes ≡ reached place_by key (targets last) base all
  pub told : text ≡ before ++ lines moment (up_to last base) (up_to last all)

none_up : (routes : List FlowRoute) → up_to None routes ≡ []
none_up [] = refl
none_up (r ∷ rs) = none_up rs

all_past : (routes : List FlowRoute) → filter (is_past place_by key None) routes ≡ routes
all_past [] = refl
all_past (r ∷ rs) = ap (λ xs. r ∷ xs) (all_past rs)

pub followed_first : (family : Family) (moment : ℕ) (base all : List FlowRoute) (text : List ℕ) → Followed family moment base all base None text text
followed_first family moment base all text = record {
  known = inl refl;
  reached_is = sym (ap₂ (λ a b. a ++ b) (none_up all) (all_past base));
  told = sym (ap (λ ls. text ++ ls) (ap₂ (lines moment) (none_up base) (none_up all)) ∙ append-nil text);
}

-- the routes of a destination are those that have its place
pub at_destination : (family : Family) (d : Option Prefix) (routes : List FlowRoute) → IfSome d (λ p. p.family ≡ family)
    → AllByRecursion (IsRuleOf family) routes
    → filter (λ r. is_to family d r.rule) routes ≡ at_it (target_of d) routes
at_destination family d [] own each = refl
at_destination family d (r ∷ rs) own each = ap₂ (λ b xs. cond b (r ∷ xs) xs) (to_is family d r own each.0) (at_destination family d rs own each.1)

-- what has been reached stands in parts at the next place
pub places_next : (family : Family) (moment : ℕ) (places : List Change) (base all routes : List FlowRoute) (last : Option (Option Prefix))
    (d : Option Prefix) (before text : List ℕ)
    → IsNext family last places d → AreInOrder family base → AreInOrder family all
    → filter (λ r. not (touched_by places r.rule)) all ≡ filter (λ r. not (touched_by places r.rule)) base
    → Followed family moment base all routes last before text → AreInPlaces (target_of d) routes
places_next family moment places base all routes last d before text next old new same f =
    subst (AreInPlaces (target_of d)) (sym f.reached_is)
    (parted_reached place_by key in_order (targets last) (target_of d) base all next.later (parted family base old (target_of d)) (parted family all new)
    (between_same family last places d base all next old.own new.own same))

pub followed_next : (family : Family) (moment : ℕ) (places : List Change) (base all routes news now : List FlowRoute) (last : Option (Option Prefix))
    (d : Option Prefix) (before text after : List ℕ)
    → IsNext family last places d → AreInOrder family base → AreInOrder family all
    → filter (λ r. not (touched_by places r.rule)) all ≡ filter (λ r. not (touched_by places r.rule)) base
    → news ≡ filter (λ r. is_to family d r.rule) all → Puts moment (target_of d) news routes now text after
    → Followed family moment base all routes last before text → Followed family moment base all now (Some d) before after
followed_next family moment places base all routes news now last d before text after next old new same news_are puts f = record {
  known = inr new;
  reached_is = puts.put ∙ ap₂ (λ xs ys. before_it t xs ++ (ys ++ after_it t xs)) f.reached_is news_is
      ∙ reached_next place_by key in_order (targets last) t base all next.later (parted family all new) same_between;
  told = puts.told ∙ ap₂ (λ bs xs. bs ++ lines_text moment xs) f.told
      (ap₂ (λ xs ys. changes (length (before_it t xs)) (acts_of (at_it t xs)) (acts_of ys)) f.reached_is news_is)
      ∙ append_assoc before (lines moment (up_to last base) (up_to last all)) (lines_text moment more)
      ∙ ap (λ ls. before ++ ls)
      (sym (flat_map-append (line_text moment) (changes 0 (acts_of (up_to last base)) (acts_of (up_to last all))) more)
      ∙ ap (lines_text moment) (lines_next place_by key act_of is_before is_same (IsRuleOf family) (stand_apart family)
      (targets last) t base all old.own new.own next.later (parted family base old) (parted family all new) same_between));
} where
  t : Option (ℕ × ℕ)
  t = target_of d

  news_is : news ≡ at_it t all
  news_is = news_are ∙ at_destination family d all next.own new.own

  same_between : between place_by key (targets last) t base ≡ between place_by key (targets last) t all
  same_between = between_same family last places d base all next old.own new.own same

  more : List (Line Act)
  more = changes (length (before_it t (reached place_by key (targets last) base all)))
      (acts_of (at_it t (reached place_by key (targets last) base all))) (acts_of (at_it t all))

-- each is of the family
of_family : (family : Family) (held : Held) → AllByRecursion (λ r. afi_of r.rule.family ≡ afi_of family) (admitted family held)
of_family family held = each held.flows where
  each : (rs : List FlowRoute) → AllByRecursion (λ r. afi_of r.rule.family ≡ afi_of family)
      (filter (λ r. (afi_of r.rule.family == afi_of family) && is_most_preferred held r) rs)
  each [] = tt
  each (r ∷ rs) = at (afi_of r.rule.family == afi_of family) refl (is_most_preferred held r) (each rs) where
    at : (b : Bool) → (afi_of r.rule.family == afi_of family) ≡ b → (c : Bool)
        → AllByRecursion (λ s. afi_of s.rule.family ≡ afi_of family) (filter (λ s. (afi_of s.rule.family == afi_of family) && is_most_preferred held s) rs)
        → AllByRecursion (λ s. afi_of s.rule.family ≡ afi_of family)
        (cond (b && c) (r ∷ filter (λ s. (afi_of s.rule.family == afi_of family) && is_most_preferred held s) rs)
        (filter (λ s. (afi_of s.rule.family == afi_of family) && is_most_preferred held s) rs))
    at true e true ih = (eqb-true (afi_of r.rule.family) (afi_of family) e, ih)
    at true e false ih = ih
    at false e c ih = ih

-- where no place of the family is noted, none of its rules is touched
none_noted : (family : Family) (places : List Change) (r : FlowRoute) → AllByRecursion (λ p. is_due family None p ≡ false) places
    → afi_of r.rule.family ≡ afi_of family → touched_by places r.rule ≡ false
none_noted family places r none own = none_touches places r.rule (each places none) where
  each : (ps : List Change) → AllByRecursion (λ p. is_due family None p ≡ false) ps → AllByRecursion (λ p. is_to p.family p.destination r.rule ≡ false) ps
  each [] d = tt
  each (p ∷ ps) d = (refused (is_to p.family p.destination r.rule) no, each ps d.1) where
    no : is_to p.family p.destination r.rule ≡ true → ⊥
    no e =
        let same : afi_of r.rule.family ≡ afi_of p.family =
        eqb-true (afi_of r.rule.family) (afi_of p.family) (both_true (afi_of r.rule.family == afi_of p.family) _ e).0 in
        true≢false (sym (ap₂ (λ b c. b && c) (eq-eqb (afi_of p.family) (afi_of family) (sym same ∙ own)) refl) ∙ d.0)

all_kept : (test : FlowRoute → Bool) (rs : List FlowRoute) → AllByRecursion (λ r. test r ≡ true) rs → filter test rs ≡ rs
all_kept test [] each = refl
all_kept test (r ∷ rs) each = ap₂ (λ b xs. cond b (r ∷ xs) xs) each.0 (all_kept test rs each.1)

none_changed : (family : Family) (places : List Change) (old new : Held) → next_of family None places ≡ None
    → filter (λ r. not (touched_by places r.rule)) (admitted family new) ≡ filter (λ r. not (touched_by places r.rule)) (admitted family old)
    → admitted family old ≡ admitted family new
none_changed family places old new none same = sym (kept old) ∙ sym same ∙ kept new where
  due : AllByRecursion (λ p. is_due family None p ≡ false) places
  due = (none_due place_by target_of in_order (is_due family None) (λ place. place.destination) None places none).1

  kept : (held : Held) → filter (λ r. not (touched_by places r.rule)) (admitted family held) ≡ admitted family held
  kept held = all_kept (λ r. not (touched_by places r.rule)) (admitted family held)
      (weaker (λ r. afi_of r.rule.family ≡ afi_of family) (λ r. not (touched_by places r.rule) ≡ true) (admitted family held)
      (λ r own. ap not (none_noted family places r due own)) (of_family family held))

-- Behind the last place the routes are those that the table admits, and all lines are told.
pub record IsFollowed (family : Family) (moment : ℕ) (base all routes : List FlowRoute) (before text : List ℕ) : Type 0 where
  pub order : AreInOrder family all
  pub are : routes ≡ all
  pub told : text ≡ before ++ lines moment base all

pub followed_last : (family : Family) (moment : ℕ) (places : List Change) (old new : Held) (routes : List FlowRoute) (last : Option (Option Prefix))
    (before text : List ℕ)
    → AllByRecursion IsOwn places → next_of family last places ≡ None → AreInOrder family (admitted family old)
    → filter (λ r. not (touched_by places r.rule)) (admitted family new) ≡ filter (λ r. not (touched_by places r.rule)) (admitted family old)
    → Followed family moment (admitted family old) (admitted family new) routes last before text
    → IsFollowed family moment (admitted family old) (admitted family new) routes before text
followed_last family moment places old new routes last before text own none was same f = record {
  order = ordered;
  are = f.reached_is ∙ reached_last place_by key in_order (targets last) base all (parted family all ordered) same_past;
  told = f.told ∙ ap (λ ls. before ++ lines_text moment ls)
      (lines_last place_by key act_of is_before is_same (IsRuleOf family) (stand_apart family) (targets last) base all was.own ordered.own
      (up_and_past place_by key in_order (targets last) base (parted family base was))
      (up_and_past place_by key in_order (targets last) all (parted family all ordered)) same_past);
} where
  base : List FlowRoute
  base = admitted family old

  all : List FlowRoute
  all = admitted family new

  at : (last ≡ None) ⊎ AreInOrder family all → AreInOrder family all
  at (inr h) = h
  at (inl e) = subst (AreInOrder family) (none_changed family places old new (subst (λ l. next_of family l places ≡ None) e none) same) was

  ordered : AreInOrder family all
  ordered = at f.known

  same_past : filter (is_past place_by key (targets last)) base ≡ filter (is_past place_by key (targets last)) all
  same_past = past_same family last places base all own none was.own ordered.own same

-- All that a walk over the noted places knows: of the rules before, of the table that noted them, and of the table now.
pub record Walks (family : Family) (places : List Change) (base : List FlowRoute) (old new : Held) : Type 0 where
  pub order : AreInOrder family base
  pub are : base ≡ admitted family old
  pub covers : AdmitsElsewhere (touched_by places) old new
  pub own : AllByRecursion IsOwn places

untouched_same : (family : Family) (places : List Change) (base : List FlowRoute) (old new : Held) → Walks family places base old new
    → filter (λ r. not (touched_by places r.rule)) (admitted family new) ≡ filter (λ r. not (touched_by places r.rule)) base
untouched_same family places base old new w = w.covers family ∙ ap (filter (λ r. not (touched_by places r.rule))) (sym w.are)

pub walk_places : (family : Family) (moment : ℕ) (places : List Change) (base routes : List FlowRoute) (old new : Held)
    (last : Option (Option Prefix)) (d : Option Prefix) (before text : List ℕ)
    → Walks family places base old new → IsNext family last places d → AreInOrder family (admitted family new)
    → Followed family moment base (admitted family new) routes last before text → AreInPlaces (target_of d) routes
walk_places family moment places base routes old new last d before text w next order f =
    places_next family moment places base (admitted family new) routes last d before text next w.order order (untouched_same family places base old new w) f

pub walk_next : (family : Family) (moment : ℕ) (places : List Change) (base routes news now : List FlowRoute) (old new : Held)
    (last : Option (Option Prefix)) (d : Option Prefix) (before text after : List ℕ)
    → Walks family places base old new → IsNext family last places d → AreInOrder family (admitted family new)
    → news ≡ filter (λ r. is_to family d r.rule) (admitted family new) → Puts moment (target_of d) news routes now text after
    → Followed family moment base (admitted family new) routes last before text → Followed family moment base (admitted family new) now (Some d) before after
walk_next family moment places base routes news now old new last d before text after w next order are puts f =
    followed_next family moment places base (admitted family new) routes news now last d before text after next w.order order
    (untouched_same family places base old new w) are puts f

pub walk_last : (family : Family) (moment : ℕ) (places : List Change) (base routes : List FlowRoute) (old new : Held) (last : Option (Option Prefix))
    (before text : List ℕ)
    → Walks family places base old new → next_of family last places ≡ None
    → Followed family moment base (admitted family new) routes last before text → IsFollowed family moment base (admitted family new) routes before text
walk_last family moment places base routes old new last before text w none f =
    subst (λ b. IsFollowed family moment b (admitted family new) routes before text) (sym w.are)
    (followed_last family moment places old new routes last before text w.own none (subst (AreInOrder family) w.are w.order) (w.covers family)
    (subst (λ b. Followed family moment b (admitted family new) routes last before text) w.are f))

pub in_order_now : (family : Family) (held : Held) → AllByRecursion (IsRuleOf family) (admitted family held)
    → IsAdmitted family held (admitted family held) → AreInOrder family (admitted family held)
in_order_now family held own is = record { own = own; ordered = is.ordered }
