-- Loops that gather the values of attributes, or look for a wrong segment.
use Rattle.fs_attrs.proofs.Words.{◌≡◌, ℕ, suc, ◌==◌, Bool, true, false, not, cond, ◌&&◌, ◌||◌, nat_lt, List, [], ◌∷◌, length, Option, Some, None}
use Rattle.fs_attrs.proofs.Words.{refl, sym, ap, subst, ◌∙◌, arith, if◌then◌else◌, option_map, find, filter, list_any, option_or, is_some, is_none}
use Rattle.fs_attrs.proofs.Words.{nat_tests, Segment, parts_of, parts_step, parts_end, Terms, Attribute, first_attribute, attributes_of}
use Rattle.fs_attrs.proofs.Words.{are_attributes, value_of, is_doubled, stands_before, routes_doubled, Valued, values_of, values_with, kept_of}
use Rattle.fs_attrs.proofs.Words.{has_kept, first_segment, is_confederation, path_wrong}
use Rattle.fs_attrs.proofs.PartSizes.{attribute_shrinks, segment_shrinks}
use Rattle.fs_base.proofs.Bools.{or_false, or_weaker}

-- the attributes of octets are the first one and those behind it
pub attributes_more : (octets : List ℕ) (found : Attribute × List ℕ) → first_attribute octets ≡ Some found
    → attributes_of octets ≡ found.0 ∷ attributes_of found.1
attributes_more octets found h = ap (λ (z : List Attribute × List ℕ). z.0) (parts_step first_attribute attribute_shrinks octets found h)

pub attributes_end : (octets : List ℕ) → first_attribute octets ≡ None → attributes_of octets ≡ []
attributes_end octets h = ap (λ (z : List Attribute × List ℕ). z.0) (parts_end first_attribute octets h)

pub whole_more : (octets : List ℕ) (found : Attribute × List ℕ) → first_attribute octets ≡ Some found → are_attributes octets ≡ are_attributes found.1
whole_more octets found h = ap (λ (z : List Attribute × List ℕ). length z.1 == 0) (parts_step first_attribute attribute_shrinks octets found h)

pub whole_end : (octets : List ℕ) → first_attribute octets ≡ None → are_attributes octets ≡ (length octets == 0)
whole_end octets h = ap (λ (z : List Attribute × List ℕ). length z.1 == 0) (parts_end first_attribute octets h)

-- over the test of the first attribute
abbrev pub value_here : Bool → ℕ → Attribute → List Attribute → Option (List ℕ)
value_here here kind first rest = option_map (λ found. found.value) (cond here (Some first) (find (λ attribute. attribute.kind == kind) rest))

pub above_one : (n : ℕ) → nat_lt 1 (suc n) ≡ nat_lt 0 n
above_one n = grind (arith, nat_tests)

there_here : (here : Bool) (first : Attribute) (later : Option Attribute) (rest : List Attribute)
    → nat_lt 0 (length rest) ≡ is_some (option_map (λ (found : Attribute). found.value) later)
    → nat_lt 0 (length (cond here (first ∷ rest) rest)) ≡ is_some (option_map (λ (found : Attribute). found.value) (cond here (Some first) later))
there_here true first later rest h = grind (arith, nat_tests)
there_here false first later rest h = h

-- a type stands where it has a value
pub there : (kind : ℕ) (attributes : List Attribute)
    → nat_lt 0 (length (filter (λ attribute. attribute.kind == kind) attributes)) ≡ is_some (value_of kind attributes)
there kind [] = refl
there kind (first ∷ rest) =
    there_here (first.kind == kind) first (find (λ attribute. attribute.kind == kind) rest) (filter (λ attribute. attribute.kind == kind) rest)
    (there kind rest)

-- What is kept of the attributes before gives, together with those to come, what all of them say.

abbrev twice_with : ℕ → Option (List ℕ) → List Attribute → Bool
twice_with kind kept rest = if is_some kept then is_some (value_of kind rest) else is_doubled kind rest

abbrev first_with : Bool → Option (List ℕ) → Option (List ℕ) → Bool → Bool
first_with first reach unreach later = first || (not (is_some reach || is_some unreach) && later)

pub record SoFar (kept : Valued) (rest all : List Attribute) : Type 0 where
  pub origin : option_or kept.origin (value_of 1 rest) ≡ value_of 1 all
  pub as_path : option_or kept.as_path (value_of 2 rest) ≡ value_of 2 all
  pub local_pref : option_or kept.local_pref (value_of 5 rest) ≡ value_of 5 all
  pub originator : option_or kept.originator (value_of 9 rest) ≡ value_of 9 all
  pub reach : option_or kept.reach (value_of 14 rest) ≡ value_of 14 all
  pub unreach : option_or kept.unreach (value_of 15 rest) ≡ value_of 15 all
  pub communities : option_or kept.communities (value_of 16 rest) ≡ value_of 16 all
  pub first : first_with kept.unreach_first kept.reach kept.unreach (stands_before 15 14 rest) ≡ stands_before 15 14 all
  pub behind : (kept.unreach_first && is_none kept.unreach) ≡ false
  pub reach_twice : twice_with 14 kept.reach rest ≡ is_doubled 14 all
  pub unreach_twice : twice_with 15 kept.unreach rest ≡ is_doubled 15 all

-- the parts of one attribute more, over the tests of its type

kept_more : (here : Bool) (kept : Option (List ℕ)) (next : Attribute) (later : Option Attribute)
    → option_or (kept_of here kept next.value) (option_map (λ (found : Attribute). found.value) later)
    ≡ option_or kept (option_map (λ (found : Attribute). found.value) (cond here (Some next) later))
kept_more true None next later = refl
kept_more true (Some value) next later = refl
kept_more false kept next later = refl

twice_more : (kind : ℕ) (here : Bool) (kept : Option (List ℕ)) (next : Attribute) (rest : List Attribute) → (next.kind == kind) ≡ here
    → (here && is_some kept) ≡ false
    → twice_with kind (kept_of here kept next.value) rest ≡ twice_with kind kept (next ∷ rest)
twice_more kind true (Some value) next rest e once = cc
twice_more kind true None next rest e once =
    let here : List Attribute = filter (λ attribute. attribute.kind == kind) rest in
    sym (there kind rest) ∙ sym (above_one (length here)) ∙ sym (ap (λ (b : Bool). nat_lt 1 (length (cond b (next ∷ here) here))) e)
twice_more kind false (Some value) next rest e once = sym (ap (λ (b : Bool). is_some (value_here b kind next rest)) e)
twice_more kind false None next rest e once =
    let here : List Attribute = filter (λ attribute. attribute.kind == kind) rest in
    sym (ap (λ (b : Bool). nat_lt 1 (length (cond b (next ∷ here) here))) e)

abbrev before_at : Bool → Bool → Bool → Bool
before_at one two later = if one then true else if two then false else later

abbrev before_here : Bool → Bool → Attribute → ℕ → ℕ → List Attribute → Bool
before_here one two next a b rest =
    elim (cond (one || two) (Some next) (find (λ attribute. (attribute.kind == a) || (attribute.kind == b)) rest))
    [ Some found ↦ found.kind == a | None ↦ false ]

before_more : (one two : Bool) (next : Attribute) (a b : ℕ) (rest : List Attribute) → (next.kind == a) ≡ one
    → before_here one two next a b rest ≡ before_at one two (stands_before a b rest)
before_more true two next a b rest e = e
before_more false true next a b rest e = e
before_more false false next a b rest e = refl

first_more : (one two first : Bool) (reach unreach : Option (List ℕ)) (value : List ℕ) (later : Bool)
    → (two && is_some reach) ≡ false → (one && is_some unreach) ≡ false → (first && is_none unreach) ≡ false
    → first_with (if one then is_none reach else first) (kept_of two reach value) (kept_of one unreach value) later
    ≡ first_with first reach unreach (before_at one two later)
first_more one two true reach None value later r u quiet = cc
first_more true two first reach (Some other) value later r u quiet = cc
first_more one true first (Some other) unreach value later r u quiet = cc
first_more false two true reach (Some other) value later r u quiet = refl
first_more true two false None None value later r u quiet = refl
first_more true false false (Some other) None value later r u quiet = refl
first_more false true false None None value later r u quiet = refl
first_more false false false reach None value later r u quiet = refl
first_more false true false None (Some other) value later r u quiet = refl
first_more false false false reach (Some other) value later r u quiet = refl

behind_more : (one first : Bool) (reach unreach : Option (List ℕ)) (value : List ℕ) → (first && is_none unreach) ≡ false
    → ((if one then is_none reach else first) && is_none (kept_of one unreach value)) ≡ false
behind_more true first None None value quiet = refl
behind_more true first None (Some other) value quiet = refl
behind_more true first (Some other) unreach value quiet = refl
behind_more false first reach unreach value quiet = quiet

-- the first attribute of the octets, and those behind it
first_of : (kept : Valued) (octets : List ℕ) (found : Attribute × List ℕ) (all : List Attribute) → first_attribute octets ≡ Some found
    → SoFar kept (attributes_of octets) all
    → SoFar kept (found.0 ∷ attributes_of found.1) all
first_of kept octets found all h so = subst (λ (z : List Attribute). SoFar kept z all) (attributes_more octets found h) so

pub kept_next : (kept : Valued) (octets : List ℕ) (found : Attribute × List ℕ) (all : List Attribute) → first_attribute octets ≡ Some found
    → has_kept kept found.0.kind ≡ false
    → SoFar kept (attributes_of octets) all → SoFar (values_with kept found.0) (attributes_of found.1) all
kept_next kept octets (next, behind) all h once before =
    let rest : List Attribute = attributes_of behind in
    let so = first_of kept octets (next, behind) all h before in
    let parts = or_false ((next.kind == 14) && is_some kept.reach) ((next.kind == 15) && is_some kept.unreach) once in
    let later : ℕ → Option Attribute = λ (kind : ℕ). find (λ attribute. attribute.kind == kind) rest in
    record {
      origin = kept_more (next.kind == 1) kept.origin next (later 1) ∙ so.origin;
      as_path = kept_more (next.kind == 2) kept.as_path next (later 2) ∙ so.as_path;
      local_pref = kept_more (next.kind == 5) kept.local_pref next (later 5) ∙ so.local_pref;
      originator = kept_more (next.kind == 9) kept.originator next (later 9) ∙ so.originator;
      reach = kept_more (next.kind == 14) kept.reach next (later 14) ∙ so.reach;
      unreach = kept_more (next.kind == 15) kept.unreach next (later 15) ∙ so.unreach;
      communities = kept_more (next.kind == 16) kept.communities next (later 16) ∙ so.communities;
      first =
          first_more (next.kind == 15) (next.kind == 14) kept.unreach_first kept.reach kept.unreach next.value
          (stands_before 15 14 rest) parts.0 parts.1 so.behind
          ∙ sym (ap (λ (b : Bool). first_with kept.unreach_first kept.reach kept.unreach b)
          (before_more (next.kind == 15) (next.kind == 14) next 15 14 rest refl))
          ∙ so.first;
      behind = behind_more (next.kind == 15) kept.unreach_first kept.reach kept.unreach next.value so.behind;
      reach_twice = twice_more 14 (next.kind == 14) kept.reach next rest refl parts.0 ∙ so.reach_twice;
      unreach_twice = twice_more 15 (next.kind == 15) kept.unreach next rest refl parts.1 ∙ so.unreach_twice;
    }

twice_here : (kind : ℕ) (here : Bool) (kept : Option (List ℕ)) (next : Attribute) (rest : List Attribute) → (next.kind == kind) ≡ here
    → (here && is_some kept) ≡ true
    → twice_with kind kept (next ∷ rest) ≡ true
twice_here kind true (Some value) next rest e twice = ap (λ (b : Bool). is_some (value_here b kind next rest)) e
twice_here kind true None next rest e twice = cc
twice_here kind false kept next rest e twice = cc

pub kept_twice : (kept : Valued) (octets : List ℕ) (found : Attribute × List ℕ) (all : List Attribute) → first_attribute octets ≡ Some found
    → has_kept kept found.0.kind ≡ true
    → SoFar kept (attributes_of octets) all → routes_doubled all ≡ true
kept_twice kept octets (next, behind) all h twice before =
    let rest : List Attribute = attributes_of behind in
    let so = first_of kept octets (next, behind) all h before in
    or_weaker ((next.kind == 14) && is_some kept.reach) ((next.kind == 15) && is_some kept.unreach) (is_doubled 14 all) (is_doubled 15 all)
    (λ (e : ((next.kind == 14) && is_some kept.reach) ≡ true). sym so.reach_twice ∙ twice_here 14 (next.kind == 14) kept.reach next rest refl e)
    (λ (e : ((next.kind == 15) && is_some kept.unreach) ≡ true). sym so.unreach_twice ∙ twice_here 15 (next.kind == 15) kept.unreach next rest refl e)
    twice

-- behind the last attribute

none_later : (kept : Option (List ℕ)) → kept ≡ option_or kept None
none_later None = refl
none_later (Some value) = refl

first_last : (first none : Bool) → first ≡ (first || (none && false))
first_last true none = refl
first_last false true = refl
first_last false false = refl

twice_last : (kind : ℕ) (kept : Option (List ℕ)) → false ≡ twice_with kind kept []
twice_last kind None = refl
twice_last kind (Some value) = refl

same_values : (values : Valued) (origin as_path local_pref originator reach unreach communities : Option (List ℕ)) (first : Bool)
    → origin ≡ values.origin → as_path ≡ values.as_path → local_pref ≡ values.local_pref → originator ≡ values.originator
    → reach ≡ values.reach → unreach ≡ values.unreach → communities ≡ values.communities → first ≡ values.unreach_first
    → record {
      origin = origin;
      as_path = as_path;
      local_pref = local_pref;
      originator = originator;
      reach = reach;
      unreach = unreach;
      communities =
          communities;
      unreach_first = first;
    } ≡ values
same_values values origin as_path local_pref originator reach unreach communities first a b c d e f g h = rw (a, b, c, d, e, f, g, h) refl

pub kept_all : (kept : Valued) (all : List Attribute) → SoFar kept [] all → kept ≡ values_of all
kept_all kept all so =
    same_values (values_of all) kept.origin kept.as_path kept.local_pref kept.originator kept.reach kept.unreach kept.communities kept.unreach_first
    (none_later kept.origin ∙ so.origin) (none_later kept.as_path ∙ so.as_path) (none_later kept.local_pref ∙ so.local_pref)
    (none_later kept.originator ∙ so.originator) (none_later kept.reach ∙ so.reach) (none_later kept.unreach
    ∙ so.unreach) (none_later kept.communities ∙ so.communities)
    (first_last kept.unreach_first (not (is_some kept.reach || is_some kept.unreach)) ∙ so.first)

pub kept_once : (kept : Valued) (all : List Attribute) → SoFar kept [] all → false ≡ routes_doubled all
kept_once kept all so =
    ap (λ (b : Bool). b || false) (twice_last 14 kept.reach ∙ so.reach_twice)
    ∙ ap (λ (b : Bool). is_doubled 14 all || b) (twice_last 15 kept.unreach ∙ so.unreach_twice)

-- a wrong path, over its segments
abbrev wrong_in : Bool → List Segment × List ℕ → Bool
wrong_in external parts = not (length parts.1 == 0) || (external && list_any is_confederation parts.0)

wrong_here : (external here whole rest : Bool) → (external && here) ≡ true → (whole || (external && (here || rest))) ≡ true
wrong_here external here true rest h = refl
wrong_here true true false rest h = refl
wrong_here true false false rest h = cc
wrong_here false here false rest h = cc

wrong_later : (external here whole rest : Bool) → (external && here) ≡ false → (whole || (external && (here || rest))) ≡ (whole || (external && rest))
wrong_later true true whole rest h = cc
wrong_later true false whole rest h = refl
wrong_later false here whole rest h = refl

wrong_last : (whole external : Bool) → (not whole || (external && false)) ≡ not whole
wrong_last true true = refl
wrong_last true false = refl
wrong_last false external = refl

pub wrong_found : (terms : Terms) (octets : List ℕ) (next : Segment × List ℕ) → first_segment terms.four octets ≡ Some next
    → (terms.external && is_confederation next.0) ≡ true
    → path_wrong terms octets ≡ true
wrong_found terms octets next h e =
    let rest : List Segment × List ℕ = parts_of (first_segment terms.four) next.1 in
    ap (wrong_in terms.external) (parts_step (first_segment terms.four) (segment_shrinks terms.four) octets next h)
    ∙ wrong_here terms.external (is_confederation next.0) (not (length rest.1 == 0)) (list_any is_confederation rest.0) e

pub wrong_more : (terms : Terms) (octets : List ℕ) (next : Segment × List ℕ) → first_segment terms.four octets ≡ Some next
    → (terms.external && is_confederation next.0) ≡ false
    → path_wrong terms octets ≡ path_wrong terms next.1
wrong_more terms octets next h e =
    let rest : List Segment × List ℕ = parts_of (first_segment terms.four) next.1 in
    ap (wrong_in terms.external) (parts_step (first_segment terms.four) (segment_shrinks terms.four) octets next h)
    ∙ wrong_later terms.external (is_confederation next.0) (not (length rest.1 == 0)) (list_any is_confederation rest.0) e

pub wrong_end : (terms : Terms) (octets : List ℕ) → first_segment terms.four octets ≡ None → path_wrong terms octets ≡ not (length octets == 0)
wrong_end terms octets h =
    ap (wrong_in terms.external) (parts_end (first_segment terms.four) octets h) ∙ wrong_last (length octets == 0) terms.external
