-- The rules of a matcher put anew, one place after the other.
use Rattle.fs_compile.proofs.Words.{◌≡◌, ℕ, true≢false, false, zero, suc, ◌<◌, ◌||◌, refl, sym, ap, Bool, true, cond, arith, get_or, length, Result}
use Rattle.fs_compile.proofs.Words.{Ok, Err, IfOk, subst, ◌∙◌, List, [], ◌∷◌, filter, map, AllByRecursion, AllZip, Fast, StandsFor, Family, V4, V6}
use Rattle.fs_compile.proofs.Words.{Listed, listed, Held, IsAdmitted, IsRuleOf, admitted, Change, Compiled, IsIndexOf, target_of, AreMadeWhereNoted}
use Rattle.fs_compile.proofs.Words.{ArePut, StandsForLists, compiled_in, admitted_in, AreOwn, put_in, replaced, all_of_family, nesting}
use Rattle.std.{specs.Prelude.{⊤}, proofs.Math.Bool.{or-true}}
use Rattle.fs_nlri.specs.Parts.{Ruled}
use Rattle.fs_buckets.proofs.ListMending.{rules_to, AreLeft, left_first, left_fewer, left_none, own_last, own_here, own_put, listed_to}
use Rattle.fs_rules.specs.Changes.{AdmitsElsewhere, IsOwn, Noted, is_noted, is_to, touched_by}

pub stands_mended : (held : Held) (rules : Family → List Listed) (compiled : Compiled) → AreLeft [] held rules → StandsForLists rules compiled
    → StandsForLists (admitted_in held) compiled
stands_mended held rules compiled left h = record {
  v4 = subst (λ rs. IsIndexOf V4 rs compiled.v4) (left_none held rules left V4) h.v4;
  v6 = subst (λ rs. IsIndexOf V6 rs compiled.v6) (left_none held rules left V6) h.v6;
}

pub if_ok : {T E P : Type 0} (r : Result T E) → P → IfOk r (λ _. P)
if_ok (Ok t) p = p
if_ok (Err e) p = tt

-- each compiled rule stands for that at its place
pub stand_in : (rules : Family → List Listed) (compiled : Compiled) → StandsForLists rules compiled → (family : Family)
    → AllZip (λ r fast. StandsFor r.rule fast) (rules family) (compiled_in compiled family)
stand_in rules compiled h V4 = h.v4.stands
stand_in rules compiled h V6 = h.v6.stands

-- what follows for each pair from what holds of its second, or of any
each_so : (R S : Listed → Fast → Type 0) (P : Fast → Type 0) → ((r : Listed) (fast : Fast) → P fast → S r fast) → (rules : List Listed) (fasts : List Fast)
    → AllZip R rules fasts → AllByRecursion P fasts → AllZip S rules fasts
each_so R S P f [] [] h k = tt
each_so R S P f [] (x ∷ xs) h k = absurd h
each_so R S P f (r ∷ rs) [] h k = absurd h
each_so R S P f (r ∷ rs) (x ∷ xs) h k = (f r x k.0, each_so R S P f rs xs h.1 k.1)

or_second : (a b : Bool) → b ≡ true → (a || b) ≡ true
or_second a true e = or-true a
or_second a false e = absurd (true≢false (sym e))

or_first : (a b : Bool) → a ≡ true → (a || b) ≡ true
or_first a b e = ap (λ c. c || b) e

made_first : (noted : Noted) (rules : Family → List Listed) (compiled : Compiled) → StandsForLists rules compiled
    → AreMadeWhereNoted noted rules compiled compiled
made_first noted rules compiled h = λ family holds each.
    each_so (λ r fast. StandsFor r.rule fast) (λ r fast. (is_noted noted r.rule || holds fast) ≡ true) (λ fast. holds fast ≡ true)
    (λ r fast e. or_second (is_noted noted r.rule) (holds fast) e) (rules family) (compiled_in compiled family) (stand_in rules compiled h family) each

-- where any rule may have changed all may be compiled anew
pub made_all : (noted : Noted) (rules : Family → List Listed) (old new : Compiled) → noted.all ≡ true → StandsForLists rules new
    → AreMadeWhereNoted noted rules old new
made_all noted rules old new all h = λ family holds each.
    each_so (λ r fast. StandsFor r.rule fast) (λ r fast. (is_noted noted r.rule || holds fast) ≡ true) (λ fast. ⊤)
    (λ r fast e. or_first (is_noted noted r.rule) (holds fast) (or_first noted.all (touched_by noted.places r.rule) all))
    (rules family) (compiled_in new family) (stand_in rules new h family) (each_any (compiled_in new family)) where
      each_any : (fasts : List Fast) → AllByRecursion (λ fast. ⊤) fasts
      each_any [] = tt
      each_any (x ∷ xs) = (tt, each_any xs)

-- a rule to a place that was noted is noted
touched_item : (places : List Change) (i : ℕ) (place : Change) → i < length places → place ≡ get_or places i place → (rule : Ruled)
    → is_to place.family place.destination rule ≡ true → touched_by places rule ≡ true
touched_item [] i place below is rule e = absurd (omega (arith, below))
touched_item (p ∷ ps) zero place below is rule e =
    or_first (is_to p.family p.destination rule) (touched_by ps rule) (ap (λ (q : Change). is_to q.family q.destination rule) (sym is) ∙ e)
touched_item (p ∷ ps) (suc i) place below is rule e =
    or_second (is_to p.family p.destination rule) (touched_by ps rule) (touched_item ps i place (omega (arith, below)) is rule e)

pub noted_item : (noted : Noted) (places : List Change) (i : ℕ) (place : Change) → places ≡ noted.places → i < length places
    → place ≡ get_or places i place → (rule : Ruled)
    → is_to place.family place.destination rule ≡ true → is_noted noted rule ≡ true
noted_item noted places i place e below is rule to =
    or_second noted.all (touched_by noted.places rule) (subst (λ ps. touched_by ps rule ≡ true) e (touched_item places i place below is rule to))

-- each rule that a filter leaves passes it
each_passes : (p : Listed → Bool) (S : Listed → Type 0) → ((r : Listed) → p r ≡ true → S r) → (rules : List Listed) → AllByRecursion S (filter p rules)
each_passes p S f [] = tt
each_passes p S f (r ∷ rs) = at (p r) refl (each_passes p S f rs) where
  at : (b : Bool) → p r ≡ b → AllByRecursion S (filter p rs) → AllByRecursion S (cond b (r ∷ filter p rs) (filter p rs))
  at true e ih = (f r e, ih)
  at false e ih = ih

-- All that is known of the rules behind some of the places.
abbrev pub Mends : Noted → List Change → Held → (first now : Compiled) → Type 0
Mends noted left held first now =
    (rules : Family → List Listed) × StandsForLists rules now × AreOwn rules × AreLeft left held rules × AreMadeWhereNoted noted rules first now

pub mends_first : (noted : Noted) (base held : Held) (compiled : Compiled) → StandsForLists (admitted_in base) compiled → AreOwn (admitted_in base)
    → AdmitsElsewhere (touched_by noted.places) base held → Mends noted noted.places held compiled compiled
mends_first noted base held compiled stands own elsewhere =
    (admitted_in base, stands, own, left_first noted.places base held elsewhere, made_first noted (admitted_in base) compiled stands)

pub mends_next : (noted : Noted) (place : Change) (rest : List Change) (held : Held) (first old new : Compiled) (list : List Listed) → IsOwn place
    → ((rule : Ruled) → is_to place.family place.destination rule ≡ true → is_noted noted rule ≡ true)
    → ((f : Family) → AllByRecursion (IsRuleOf f) (admitted f held)) → ((f : Family) → IsAdmitted f held (admitted f held))
    → list ≡ map listed (filter (λ r. is_to place.family place.destination r.rule) (admitted place.family held))
    → ((rules : Family → List Listed) → StandsForLists rules old
    → ArePut list rules (put_in place.family (replaced (target_of place.destination) list (rules place.family)) rules) old new)
    → Mends noted (place ∷ rest) held first old → Mends noted rest held first new
mends_next noted place rest held first old new list here there own admits is puts m = (
  put_in place.family (replaced (target_of place.destination) news (m.0 place.family)) m.0,
  put.stands,
  own_put place.family (target_of place.destination) news m.0 (own_here place.family place.destination (admitted_in held place.family) (each place.family)) m.2,
  left_fewer place rest held m.0 here each m.2 (λ f. nesting f (admitted f held) (own f) (admits f).ordered) m.3,
  λ family holds was. put.kept family (λ r fast. is_noted noted r.rule || holds fast)
      (each_passes (λ r. is_to place.family place.destination r.rule) (λ r. (fast : Fast) → (is_noted noted r.rule || holds fast) ≡ true)
      (λ r e fast. or_first (is_noted noted r.rule) (holds fast) (there r.rule e)) (admitted_in held place.family))
      (m.4 family holds was),
) where
  each : AreOwn (admitted_in held)
  each f = all_of_family f (admitted f held) (own f)

  news : List Listed
  news = rules_to place.family place.destination (admitted_in held place.family)

  same : list ≡ news
  same = is ∙ listed_to place.family place.destination held

  put : ArePut news m.0 (put_in place.family (replaced (target_of place.destination) news (m.0 place.family)) m.0) old new
  put = subst (λ l. ArePut l m.0 (put_in place.family (replaced (target_of place.destination) l (m.0 place.family)) m.0) old new) same (puts m.0 m.1)

pub mends_stand : (noted : Noted) (held : Held) (first now : Compiled) → Mends noted [] held first now → StandsForLists (admitted_in held) now
mends_stand noted held first now m = stands_mended held m.0 now m.3 m.1

pub mends_own : (noted : Noted) (held : Held) (first now : Compiled) → Mends noted [] held first now → AreOwn (admitted_in held)
mends_own noted held first now m = own_last held m.0 m.3 m.2

pub mends_kept : (noted : Noted) (held : Held) (first now : Compiled) → Mends noted [] held first now → AreMadeWhereNoted noted (admitted_in held) first now
mends_kept noted held first now m = λ family holds was.
    subst (λ rs. AllZip (λ r fast. (is_noted noted r.rule || holds fast) ≡ true) rs (compiled_in now family)) (left_none held m.0 m.3 family)
    (m.4 family holds was)
