-- The filters of rules of which a stretch is put anew.
use Rattle.fs_compile.proofs.Words.{◌≡◌, ℕ, ◌+◌, ◌-◌, ◌*◌, ◌<◌, ◌≤◌, max, refl, sym, ap, ap₂, subst, ◌∙◌, false, List, length, get_or, arith, splice}
use Rattle.fs_compile.proofs.Words.{length-map, PortRows, Fast, Filter, ArePortRows, AreRowsOf, IsColumn, bit_in, words_for, Facts, facts_hold}
use Rattle.fs_compile.proofs.Words.{IsFilter, hits, at_back, at_front, map_spliced, spliced_size}
use Rattle.fs_compile.specs.declared.columns.Column.{Column}

column_moved : (before after : List Fast) (first end first' end' : ℕ) (column : Column) → first ≤ end → end' ≡ first' + (end - first)
    → ((facts : Facts) (i : ℕ) → first + i < end → get_or (hits facts after) (first' + i) false ≡ get_or (hits facts before) (first + i) false)
    → IsColumn before first end column → IsColumn after first' end' column
column_moved before after first end first' end' column le is same h = record {
  shaped = subst (λ n. AreRowsOf column.bounds.items column.rows.items (words_for n)) size h.shaped;
  few = h.few;
  marked = λ facts number class low high hit own.
      let there : first' + (number - first') ≡ number = omega (arith, low) in
      let below : first + (number - first') < end = omega (arith, low, high, is, le) in
      let place : first + (number - first') - first ≡ number - first' = omega arith in
      ap₂ (λ w r. bit_in column.rows.items (words_for w) class r) (sym size) (sym place)
      ∙ h.marked facts (first + (number - first')) class (omega arith) below (sym (same facts (number - first') below)
      ∙ ap (λ k. get_or (hits facts after) k false) there ∙ hit) own;
} where
  size : end - first ≡ end' - first'
  size = omega (arith, is, le)

ports_moved : (before after : List Fast) (first end first' end' : ℕ) (destination source : List ℕ) (rows : PortRows) → first ≤ end
    → end' ≡ first' + (end - first)
    → ((facts : Facts) (i : ℕ) → first + i < end → get_or (hits facts after) (first' + i) false ≡ get_or (hits facts before) (first + i) false)
    → ArePortRows before first end destination source rows
    → ArePortRows after first' end' destination source rows
ports_moved before after first end first' end' destination source rows le is same h = record {
  to = subst (λ n. length rows.to.items ≡ (length destination + 1) * words_for n) size h.to;
  from = subst (λ n. length rows.from.items ≡ (length source + 1) * words_for n) size h.from;
  marked = λ facts number class other low high hit own too.
      let there : first' + (number - first') ≡ number = omega (arith, low) in
      let below : first + (number - first') < end = omega (arith, low, high, is, le) in
      let place : first + (number - first') - first ≡ number - first' = omega arith in
      ap₂ (λ w r. max (bit_in rows.to.items (words_for w) class r) (bit_in rows.from.items (words_for w) other r)) (sym size) (sym place)
      ∙ h.marked facts (first + (number - first')) class other (omega arith) below (sym (same facts (number - first') below)
      ∙ ap (λ k. get_or (hits facts after) k false) there ∙ hit) own too;
} where
  size : end - first ≡ end' - first'
  size = omega (arith, is, le)

filter_at : (before after : List Fast) (f g : Filter) → g.source ≡ f.source → g.protocol ≡ f.protocol → g.destination_port ≡ f.destination_port
    → g.source_port ≡ f.source_port → g.length ≡ f.length → g.ports ≡ f.ports
    → g.end ≡ g.first + (f.end - f.first) → g.end ≤ length after
    → ((facts : Facts) (i : ℕ) → f.first + i < f.end → get_or (hits facts after) (g.first + i) false ≡ get_or (hits facts before) (f.first + i) false)
    → IsFilter before f → IsFilter after g
filter_at before after f g a b c d e p is within same h = record {
  ordered = omega (arith, is);
  within = within;
  source = moved f.source g.source a h.source;
  fields = (
    ap (λ (x : Column). x.field) b ∙ h.fields.0,
    ap (λ (x : Column). x.field) c ∙ h.fields.1,
    ap (λ (x : Column). x.field) d
        ∙ h.fields.2,
    ap (λ (x : Column). x.field) e ∙ h.fields.3,
  );
  protocol = moved f.protocol g.protocol b h.protocol;
  destination_port = moved f.destination_port g.destination_port c h.destination_port;
  source_port = moved f.source_port g.source_port d h.source_port;
  length = moved f.length g.length e h.length;
  ports = subst (λ (x : Column). ArePortRows after g.first g.end x.bounds.items g.source_port.bounds.items g.ports) (sym c)
      (subst (λ (x : Column). ArePortRows after g.first g.end f.destination_port.bounds.items x.bounds.items g.ports) (sym d)
      (subst (ArePortRows after g.first g.end f.destination_port.bounds.items f.source_port.bounds.items) (sym p)
      (ports_moved before after f.first f.end g.first g.end f.destination_port.bounds.items f.source_port.bounds.items f.ports h.ordered is same h.ports)));
} where
  moved : (x y : Column) → y ≡ x → IsColumn before f.first f.end x → IsColumn after g.first g.end y
  moved x y e k = subst (IsColumn after g.first g.end) (sym e) (column_moved before after f.first f.end g.first g.end x h.ordered is same k)

hits_spliced : (facts : Facts) (before news : List Fast) (from to : ℕ)
    → hits facts (splice before from to news) ≡ splice (hits facts before) from to (hits facts news)
hits_spliced facts before news from to = map_spliced (facts_hold facts) before news from to

-- A filter before the stretch stays.
pub filter_kept : (before news : List Fast) (from to : ℕ) (f : Filter) → from ≤ to → to ≤ length before → f.end ≤ from → IsFilter before f
    → IsFilter (splice before from to news) f
filter_kept before news from to f le within early h =
    filter_at before (splice before from to news) f f refl refl refl refl refl refl (omega (arith, h.ordered)) (omega (arith, early, within, size)) same h where
      size : length (splice before from to news) + to ≡ from + length news + length before
      size = spliced_size before news from to le within

      same : (facts : Facts) (i : ℕ) → f.first + i < f.end
          → get_or (hits facts (splice before from to news)) (f.first + i) false ≡ get_or (hits facts before) (f.first + i) false
      same facts i below = ap (λ bs. get_or bs (f.first + i) false) (hits_spliced facts before news from to)
          ∙ at_front (hits facts before) (hits facts news) from to (f.first + i) false
          (omega (arith, le, within, length-map before (facts_hold facts))) (omega (arith, below, early))

-- One behind it goes with its rules.
pub filter_moved : (before news : List Fast) (from to : ℕ) (size : ℕ) (f g : Filter) → from ≤ to → to ≤ length before → to ≤ f.first → length news ≡ size
    → g ≡ record f { first = f.first - to + from + size; end = f.first - to + from + size + (f.end - f.first) } → IsFilter before f
    → IsFilter (splice before from to news) g
filter_moved before news from to count f g le within late counted is h =
    subst (IsFilter (splice before from to news))
    (sym (is ∙ ap (λ n. record f { first = f.first - to + from + n; end = f.first - to + from + n + (f.end - f.first) }) (sym counted)))
    (filter_at before (splice before from to news) f
    (record f { first = f.first - to + from + length news; end = f.first - to + from + length news + (f.end - f.first) }) refl refl refl refl refl
    refl refl
    (omega (arith, late, size, h.ordered, h.within)) same h) where
      size : length (splice before from to news) + to ≡ from + length news + length before
      size = spliced_size before news from to le within

      same : (facts : Facts) (i : ℕ) → f.first + i < f.end
          → get_or (hits facts (splice before from to news)) (f.first - to + from + length news + i) false ≡ get_or (hits facts before) (f.first + i) false
      same facts i below =
          let news_size : length (hits facts news) ≡ length news = length-map news (facts_hold facts) in
          ap (λ bs. get_or bs (f.first - to + from + length news + i) false) (hits_spliced facts before news from to)
          ∙ at_back (hits facts before) (hits facts news) from to (f.first - to + from + length news + i) (f.first + i) false
          (omega (arith, le, within, length-map before (facts_hold facts))) (omega (arith, late)) (omega (arith, late, news_size))
