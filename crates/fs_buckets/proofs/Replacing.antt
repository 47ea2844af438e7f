-- Buckets with the rules of one destination put anew.
use Rattle.fs_buckets.proofs.Words.{◌≡◌, ℕ, ◌+◌, ◌-◌, ◌<◌, ◌≤◌, ◌⊎◌, inl, inr, sym, ap, subst, ◌∙◌, Option, Some, None, List, [], length, get_or}
use Rattle.fs_buckets.proofs.Words.{arith, AllByRecursion, splice, cases_lt, length-map, Family, width_of, Listed, all_admitted, shown_lent, LentRule}
use Rattle.fs_buckets.proofs.Words.{Buckets, IsSubnet, AreHoused, AreBucketsOf, HasStretch, Mends, AreSound, IsOfFamily, span_of, spans_of, AreNarrow}
use Rattle.fs_buckets.proofs.Words.{AreTo, IsStretch, place_by, AreNesting}
use Rattle.fs_buckets.proofs.Splicing.{each_spliced, map_spliced}
use Rattle.fs_buckets.proofs.Stretching.{bare_behind, housed_same, mends_spliced, nesting_housed, less_equal, nesting_spliced, none_count, same_count}
use Rattle.fs_buckets.proofs.{Widths.{narrow}, Nesting.{nesting_from}}

pub spans_size : (list : List LentRule) → length (spans_of (all_admitted list)) ≡ length list
spans_size list = length-map (all_admitted list) (λ r. span_of r.rule) ∙ length-map list shown_lent

pub rules_size : (rules : List Listed) → length (spans_of rules) ≡ length rules
rules_size rules = length-map rules (λ r. span_of r.rule)

-- buckets of another count of rules
pub sound_more : (b : Buckets) (n m : ℕ) → AreSound b n → length b.homes.items ≤ m → AreSound b m
sound_more b n m s le = record {
  size = s.size;
  rising = s.rising;
  subnets = s.subnets;
  nested = s.nested;
  after = s.after;
  within = s.within;
  least = s.least;
  starts = s.starts;
  tail = s.tail;
  few = le;
  home = s.home;
  begins = s.begins;
  ends = s.ends;
}

-- The rules without a destination stand behind the others.
pub bare_from : (xs : List (Option (ℕ × ℕ))) (b : Buckets) (from to : ℕ) → AreHoused xs b → length b.homes.items ≤ length xs
    → IsStretch xs None from to → length b.homes.items ≤ from
bare_from xs b from to h whole s = at (cases_lt from (length b.homes.items)) (cases_lt from to) where
  at : (from < length b.homes.items) ⊎ (length b.homes.items ≤ from) → (from < to) ⊎ (to ≤ from) → length b.homes.items ≤ from
  at (inr le) c = le
  at (inl less) (inl below) = absurd (less_equal (sym (ap (place_by None) (h.homed from less)) ∙ s.at from (omega arith) below))
  at (inl less) (inr le) = absurd (bare_behind (get_or xs from None) (s.behind from le (omega (arith, less, whole))))

-- Where the rules have no destination, or are as many as before, the buckets stay.
pub none_stay : (family : Family) (rules : List Listed) (b : Buckets) (from to n : ℕ) (news : List (Option (ℕ × ℕ)))
    → HasStretch family rules b None from to → AreSound b (length b.homes.items) → AreTo None news
    → AreBucketsOf (splice (spans_of rules) from to news) b (from + n + (length rules - to))
none_stay family rules b from to n news h sound each = record {
  sound = sound_more b (length b.homes.items) _ sound (omega (arith, front));
  housed = housed_same (spans_of rules) (splice (spans_of rules) from to news) b (none_count (spans_of rules) news from to h.stretch each) h.housed;
} where
  front : length b.homes.items ≤ from
  front = bare_from (spans_of rules) b from to h.housed (omega (arith, h.whole, rules_size rules)) h.stretch

pub same_stay : (family : Family) (rules : List Listed) (b : Buckets) (target : Option (ℕ × ℕ)) (from to n : ℕ) (news : List (Option (ℕ × ℕ)))
    → HasStretch family rules b target from to → AreSound b (length b.homes.items)
    → AreTo target news → n ≡ to - from → length news ≡ n → AreBucketsOf (splice (spans_of rules) from to news) b (from + n + (length rules - to))
same_stay family rules b target from to n news h sound each count size = record {
  sound = sound_more b (length b.homes.items) _ sound (let w = h.whole in let o = h.stretch.ordered in let i = h.stretch.within in
      omega (arith, w, o, i, count, rules_size rules));
  housed = housed_same (spans_of rules) (splice (spans_of rules) from to news) b
      (same_count (spans_of rules) news target from to h.stretch each (size ∙ count)) h.housed;
}

-- The destinations of rules of which a stretch is put anew: what the runs of these are made of, and that they nest.
pub record Mended (family : Family) (b : Buckets) (from to : ℕ) (news spans : List (Option (ℕ × ℕ))) : Type 0 where
  pub mends : Mends b from to news spans
  pub narrow : AreNarrow (width_of family) spans
  pub nesting : AreNesting spans

pub mended : (family : Family) (rules : List Listed) (b : Buckets) (target : Option (ℕ × ℕ)) (from to : ℕ) (news : List Listed)
    → HasStretch family rules b target from to → to ≤ length b.homes.items → AreSound b (length b.homes.items)
    → AllByRecursion (IsOfFamily family) news → AreTo target (spans_of news)
    → Mended family b from to (spans_of news) (splice (spans_of rules) from to (spans_of news))
mended family rules b target from to news h homes sound own each = record {
  mends = mends_spliced (spans_of rules) (spans_of news) b from to h.housed h.stretch.ordered homes
      (let w = h.whole in omega (arith, w, rules_size rules));
  narrow = subst (AreNarrow (width_of family)) same
      (narrow family (splice rules from to news) (each_spliced (IsOfFamily family) rules news from to h.each own));
  nesting = subst AreNesting same (nesting_spliced family rules news target from to h.each own before h.stretch each);
} where
  same : spans_of (splice rules from to news) ≡ splice (spans_of rules) from to (spans_of news)
  same = map_spliced (λ r. span_of r.rule) rules news from to

  before : AreNesting (spans_of rules)
  before = nesting_housed (spans_of rules) b (length b.homes.items) sound h.housed

-- the rules of a destination are of a prefix
pub subnet_to : (family : Family) (news : List Listed) (p : ℕ × ℕ) → AllByRecursion (IsOfFamily family) news → AreTo (Some p) (spans_of news)
    → 0 < length (spans_of news) → IsSubnet p.0 p.1
subnet_to family news p own each some = (narrow family news own 0 p (each 0 some)).2

pub nothing_nests : AreNesting []
nothing_nests = nesting_from [] (λ i j less. tt)
