use Rattle.fs_compile.proofs.Words.{◌≡◌, ℕ, ◌+◌, ◌-◌, ◌^◌, ◌<◌, ◌≤◌, List, length, sym, ap, ap₂, subst, ◌∙◌, arith, splice, all_admitted, Fast}
use Rattle.fs_compile.proofs.Words.{StandsFor, AreKept, AreFilters, Indexed, StandForEach, target_of, AreSound, sound_more, map_spliced, spliced_size}
use Rattle.fs_compile.proofs.Indexing.{stand_size}
use Rattle.fs_compile.proofs.IndexMending.{has_stretch, index_spliced, kept_spliced, pairs_spliced}
use Rattle.fs_compile.proofs.index.Index.put_stretch.Goals as goal

-- how many rules there are
new_size : (old news new : List Fast) (from to count : ℕ) → new ≡ splice old from to news → from ≤ to → to ≤ length old → length news ≡ count
    → length new ≡ from + count + (length old - to)
new_size old news new from to count is le within size = let a = spliced_size old news from to le within in
    let b : length new ≡ length (splice old from to news) = ap length is in omega (arith, a, b, size, within)

pub mended_filters-requires-clause-was : goal.mended_filters-requires-clause-was
mended_filters-requires-clause-was c = (
  c.self.inside.rules.items,
  c.in_ok-compiled_rules.field-0.items,
  c.self.invariant.2,
  subst (λ (x : Indexed). c.args.to ≤ length x.rules) (sym c.self.view_is) c.requires.bounds.1,
  c.in_ok-compiled_rules.ensures.size,
  c.deref.ensures.value ∙ c.in_ok-put_between-2.ensures,
)

pub mended-requires-clause-sound : goal.mended-requires-clause-sound
mended-requires-clause-sound c = sound_more c.self.inside.buckets (length c.self.inside.rules.items) _ c.self.invariant.0 (omega arith)

pub mended-requires-clause-whole : goal.mended-requires-clause-whole
mended-requires-clause-whole c = let few = c.self.invariant.0.few in let most = c.self.invariant.1 in omega (arith, few, most)

pub mended-requires-clause-fits : goal.mended-requires-clause-fits
mended-requires-clause-fits c = let few = c.self.invariant.0.few in let same = ap (λ (x : Indexed). length x.rules) c.self.view_is in
    omega (arith, few, same, c.requires.few)

pub mended-requires-clause-homes : goal.mended-requires-clause-homes
mended-requires-clause-homes c = λ some. subst (λ (x : Indexed). c.args.to ≤ length x.buckets.homes.items) (sym c.self.view_is) (c.requires.homes some)

pub mended-requires-clause-some : goal.mended-requires-clause-some
mended-requires-clause-some c = (
  c.requires.some.0,
  has_stretch c.args.place.family c.requires.some.0
      (record { buckets = c.self.inside.buckets; rules = c.self.inside.rules.items; actions = c.self.inside.actions.items }) c.args.self
      (target_of c.args.place.destination) c.args.from c.args.to c.self.view_is c.self.invariant.0.few c.requires.some.1 c.requires.some.2,
)

pub invariant_of-result : goal.invariant_of-result
invariant_of-result c = (
  subst (AreSound c.in_ok-buckets.buckets) (sym (size ∙ same)) sound,
  few,
  subst (λ (rules : List Fast). AreFilters rules c.in_ok-filters.filters) c.deref.ensures.value c.in_ok-filters.ensures,
) where
  old : length c.self.inside.rules.items ≡ length c.args.self.rules
  old = ap (λ (x : Indexed). length x.rules) c.self.view_is

  size : length c.put_between-2.new.items.items ≡ c.args.from + length c.args.list.now + (length c.self.inside.rules.items - c.args.to)
  size = new_size c.self.inside.rules.items c.in_ok-compiled_rules.field-0.items c.put_between-2.new.items.items c.args.from c.args.to (length c.args.list.now)
      c.in_ok-put_between-2.ensures c.requires.bounds.0 (omega (arith, old, c.requires.bounds.1)) c.in_ok-compiled_rules.ensures.size

  few : length c.put_between-2.new.items.items < 2 ^ 32
  few = omega (arith, size, old, c.requires.few, c.requires.bounds.1)

  same : c.args.from + length c.args.list.now + (length c.self.inside.rules.items - c.args.to) ≡ c.args.from + length c.args.list.now
      + (length c.requires.some.0 - c.args.to)
  same = ap (λ n. c.args.from + length c.args.list.now + (n - c.args.to)) (old ∙ stand_size c.requires.some.0 c.args.self.rules c.requires.some.1.stands)

  sound : AreSound c.in_ok-buckets.buckets (c.args.from + length c.args.list.now + (length c.requires.some.0 - c.args.to))
  sound = (c.in_ok-buckets.ensures c.requires.some.0
      (has_stretch c.args.place.family c.requires.some.0
      (record { buckets = c.self.inside.buckets; rules = c.self.inside.rules.items; actions = c.self.inside.actions.items }) c.args.self
      (target_of c.args.place.destination) c.args.from c.args.to c.self.view_is c.self.invariant.0.few c.requires.some.1 c.requires.some.2)).sound

pub returns : goal.returns
returns c = λ rules h s. record {
  kept = subst (λ fasts. AreKept (all_admitted c.args.list.now) rules (splice rules c.args.from c.args.to (all_admitted c.args.list.now))
      c.args.self.rules fasts) (sym c.in_ok-put_between-2.ensures)
      (subst (λ (x : Indexed). AreKept (all_admitted c.args.list.now) rules (splice rules c.args.from c.args.to (all_admitted c.args.list.now))
      x.rules (splice c.self.inside.rules.items c.args.from c.args.to c.in_ok-compiled_rules.field-0.items))
      c.self.view_is (kept_spliced rules (all_admitted c.args.list.now) c.self.inside.rules.items c.in_ok-compiled_rules.field-0.items c.args.from
      c.args.to c.in_ok-compiled_rules.ensures.stand));
  stands = index_spliced c.args.place.family rules (all_admitted c.args.list.now) c.args.from c.args.to
      (record { buckets = c.in_ok-buckets.buckets; rules = c.put_between-2.new.items.items; actions = c.put_between.new.items.items }) h.each
      c.requires.each
      (subst (StandForEach (splice rules c.args.from c.args.to (all_admitted c.args.list.now))) (sym c.in_ok-put_between-2.ensures)
      (pairs_spliced (λ r fast. StandsFor r.rule fast) rules (all_admitted c.args.list.now) c.self.inside.rules.items
      c.in_ok-compiled_rules.field-0.items c.args.from c.args.to
      (subst (λ (x : Indexed). StandForEach rules x.rules) (sym c.self.view_is) h.stands) c.in_ok-compiled_rules.ensures.stand))
      (c.in_ok-put_between.ensures ∙ ap₂ (λ xs ys. splice xs c.args.from c.args.to ys) (ap (λ (x : Indexed). x.actions) c.self.view_is
      ∙ h.actions_are) c.in_ok-shared_actions.ensures
      ∙ sym (map_spliced (λ r. r.actions) rules (all_admitted c.args.list.now) c.args.from c.args.to))
      ((c.in_ok-buckets.ensures rules
      (has_stretch c.args.place.family rules
      (record { buckets = c.self.inside.buckets; rules = c.self.inside.rules.items; actions = c.self.inside.actions.items }) c.args.self
      (target_of c.args.place.destination) c.args.from c.args.to c.self.view_is
      c.self.invariant.0.few h s)).housed);
}
