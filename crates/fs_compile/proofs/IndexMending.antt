-- An index with the rules of one destination put anew.
use Rattle.fs_compile.proofs.Words.{◌≡◌, ℕ, ◌≤◌, sym, ap, subst, ◌∙◌, Option, true, List, [], ◌∷◌, ◌++◌, take, drop, length, arith, AllByRecursion}
use Rattle.fs_compile.proofs.Words.{AllZip, splice, length-map, Family, Listed, Fast, StandsFor, AreHoused, HasStretch, Indexed, IsIndexOf}
use Rattle.fs_compile.proofs.Words.{StandForEach, AreKept, actions_of, IsOfFamily, span_of, spans_of, IsStretch, each_spliced, map_spliced}
use Rattle.fs_compile.proofs.Words.{rules_size}
use Rattle.fs_compile.proofs.Indexing.{stand_size}
use Rattle.fs_buckets.proofs.Pairing.{each_append as pairs_append, each_dropped as pairs_dropped, each_taken as pairs_taken}

-- the index stands for the rules with the stretch put anew
pub index_spliced : (family : Family) (rules news : List Listed) (from to : ℕ) (new : Indexed) → AllByRecursion (IsOfFamily family) rules
    → AllByRecursion (IsOfFamily family) news → StandForEach (splice rules from to news) new.rules
    → new.actions ≡ actions_of (splice rules from to news) → AreHoused (splice (spans_of rules) from to (spans_of news)) new.buckets
    → IsIndexOf family (splice rules from to news) new
index_spliced family rules news from to new each own stand actions housed = record {
  stands = stand;
  housed = subst (λ xs. AreHoused xs new.buckets) (sym (map_spliced (λ r. span_of r.rule) rules news from to)) housed;
  each = each_spliced (IsOfFamily family) rules news from to each own;
  actions_are = actions;
}

-- the stretch of an index's rules is one of those of its buckets
pub has_stretch : (family : Family) (rules : List Listed) (inside index : Indexed) (target : Option (ℕ × ℕ)) (from to : ℕ) → inside ≡ index
    → length inside.buckets.homes.items ≤ length inside.rules → IsIndexOf family rules index
    → IsStretch (spans_of rules) target from to → HasStretch family rules inside.buckets target from to
has_stretch family rules inside index target from to is few h s = record {
  whole = let z : length inside.rules ≡ length rules = stand_size rules inside.rules inner.stands in omega (arith, few, z);
  housed = inner.housed;
  each = inner.each;
  stretch = s;
} where
  inner : IsIndexOf family rules inside
  inner = subst (IsIndexOf family rules) (sym is) h

pub stretch_bounds : (family : Family) (rules : List Listed) (index : Indexed) (target : Option (ℕ × ℕ)) (from to : ℕ) → IsIndexOf family rules index
    → IsStretch (spans_of rules) target from to → (from ≤ to) × (to ≤ length index.rules)
stretch_bounds family rules index target from to h s =
    (s.ordered, let z : length index.rules ≡ length rules = stand_size rules index.rules h.stands in omega (arith, s.within, rules_size rules, z))

-- there are actions for each rule
pub all_shared : (family : Family) (rules : List Listed) (index : Indexed) (to : ℕ) → IsIndexOf family rules index → to ≤ length index.rules
    → to ≤ length index.actions
all_shared family rules index to h le =
    let z : length index.rules ≡ length rules = stand_size rules index.rules h.stands in
    let a : length index.actions ≡ length rules = ap length h.actions_are ∙ length-map rules (λ r. r.actions) in
    omega (arith, le, z, a)

-- what holds of each rule and what it was compiled to still does where a stretch of both is put anew
pub pairs_spliced : (R : Listed → Fast → Type 0) (rules news : List Listed) (fasts others : List Fast) (from to : ℕ) → AllZip R rules fasts
    → AllZip R news others
    → AllZip R (splice rules from to news) (splice fasts from to others)
pairs_spliced R rules news fasts others from to h k =
    pairs_append R (take from rules) (news ++ drop to rules) (take from fasts) (others ++ drop to fasts) (pairs_taken R from rules fasts h)
    (pairs_append R news (drop to rules) others (drop to fasts) k (pairs_dropped R to rules fasts h))

-- what holds of these rules whatever they are compiled to
any_form : (R S : Listed → Fast → Type 0) (news : List Listed) (others : List Fast) → AllZip R news others
    → AllByRecursion (λ r. (fast : Fast) → S r fast) news → AllZip S news others
any_form R S [] [] h k = tt
any_form R S [] (f ∷ fs) h k = absurd h
any_form R S (r ∷ rs) [] h k = absurd h
any_form R S (r ∷ rs) (f ∷ fs) h k = (k.0 f, any_form R S rs fs h.1 k.1)

pub kept_spliced : (rules news : List Listed) (fasts others : List Fast) (from to : ℕ) → StandForEach news others
    → AreKept news rules (splice rules from to news) fasts (splice fasts from to others)
kept_spliced rules news fasts others from to k = λ holds anew was.
    pairs_spliced (λ r fast. holds r fast ≡ true) rules news fasts others from to was
    (any_form (λ r fast. StandsFor r.rule fast) (λ r fast. holds r fast ≡ true) news others k anew)
