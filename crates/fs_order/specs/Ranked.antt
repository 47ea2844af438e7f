-- The laws of the order of rules, which the impls of `Ranked` give.
use Rattle.std.specs.Cmp.{IsTotalOrder, IsEquivalence, on_total, then_total, back_total, nat_cmp_total, eq_by_cmp_equiv, Lexicographic.{lists_total}}
use Rattle.std.specs.{declared.cmp.Ordering.{Ordering}, Ordering.{eq_by_cmp}}
use Rattle.fs_base.specs.Bits.{afi_of}
use Rattle.fs_nlri.specs.Parts.{Part, Ruled}
use Rattle.fs_order.specs.{Component.{ended_cmp, kind_of, offset_of, last_of, length_of, octets_of, body_cmp, part_cmp}, Comparison.{rule_cmp}}

pub ended_total : {A : Type 0} {cmp : A → A → Ordering} → IsTotalOrder cmp → IsTotalOrder (ended_cmp cmp)
ended_total total = back_total (lists_total (back_total total))

pub body_total : IsTotalOrder body_cmp
body_total =
    then_total (on_total kind_of nat_cmp_total) (then_total (on_total offset_of nat_cmp_total)
    (then_total (on_total last_of nat_cmp_total) (then_total (back_total (on_total length_of nat_cmp_total)) (on_total octets_of (ended_total nat_cmp_total)))))

pub part_total : IsTotalOrder part_cmp
part_total = then_total (on_total (λ (p : Part). p.kind) nat_cmp_total) (on_total (λ (p : Part). p.body) body_total)

pub rule_total : IsTotalOrder rule_cmp
rule_total = then_total (on_total (λ (r : Ruled). afi_of r.family) nat_cmp_total) (on_total (λ (r : Ruled). r.parts) (ended_total part_total))

pub rule_equivalence : IsEquivalence (eq_by_cmp rule_cmp)
rule_equivalence = eq_by_cmp_equiv rule_total
