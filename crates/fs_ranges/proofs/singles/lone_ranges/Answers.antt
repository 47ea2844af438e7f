use Rattle.fs_ranges.proofs.Words.{◌≡◌, ◌+◌, ◌<◌, ◌++◌, [], ◌∷◌, map, drop, length, sym, ap, subst, ◌∙◌, arith, All, All-append, All-cons, All-nil}
use Rattle.fs_ranges.proofs.Words.{lone, IsRange}
use Rattle.fs_ranges.proofs.Numbering.{lone_next}
use Rattle.fs_ranges.proofs.singles.lone_ranges.Goals as goal

pub loop-value-preserved : goal.loop-value-preserved
loop-value-preserved c = record { items = items; ranges = ranges } where
  inside : c.loop-value.value-index < length c.args.pairs.now
  inside = omega arith

  items : c.push.new.self.items ++ map lone (drop (c.loop-value.value-index + 1) c.args.pairs.now) ≡ map lone c.args.pairs.now
  items = ap (λ zs. zs ++ map lone (drop (c.loop-value.value-index + 1) c.args.pairs.now)) (c.in_ok-push.ensures.items
      ∙ ap (λ z. c.loop-value.ranges.items ++ z ∷ []) c.lone_range.ensures.value)
      ∙ lone_next c.args.pairs.now c.loop-value.ranges.items c.loop-value.value-index (0, 0) inside c.loop-value.invariant.items

  ranges : All IsRange c.push.new.self.items
  ranges = subst (All IsRange) (sym c.in_ok-push.ensures.items)
      (All-append IsRange c.loop-value.ranges.items (c.lone_range.result ∷ []) c.loop-value.invariant.ranges
      (All-cons IsRange c.lone_range.result [] c.lone_range.ensures.range (All-nil IsRange)))
