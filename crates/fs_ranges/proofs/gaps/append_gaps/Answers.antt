use Rattle.fs_ranges.proofs.Words.{◌≡◌, ℕ, List, sym, subst, rules, All-append, recursion_from_All, All-permutation}
use Rattle.fs_ranges.proofs.Words.{IsNonDecreasingBy-from_sort_by_key, list_any-IsPermutation, on_ok_weaker, All, AllByRecursion, list_any, IsRange}
use Rattle.fs_ranges.proofs.Words.{is_in}
use Rattle.fs_ranges.proofs.Gapping.{AreAscending, ascending_from, gaps_more, gaps_ranges, gaps_stand_apart}
use Rattle.fs_ranges.proofs.gaps.append_gaps.Goals as goal

pub returns-clause-numbers : goal.returns-clause-numbers
returns-clause-numbers c =
    let sorted = ascending_from c.sort_unstable_by_key.new.self.items
    (IsNonDecreasingBy-from_sort_by_key (λ (r : ℕ × ℕ). r.0) c.sort_unstable_by_key.new.self.items c.sort_unstable_by_key.ensures.sorted
    (λ a r q k. search rules)) in
    on_ok_weaker c.append_between.result
    (λ e n below. gaps_more c.args.gaps.now.items c.append_between.new.gaps.items c.deref.result.now c.args.ranges.now.items n
    (subst (AreAscending 0) (sym c.deref.ensures.value) sorted) e
    (λ m. subst (λ (l : List (ℕ × ℕ)). list_any (is_in m) l ≡ list_any (is_in m) c.args.ranges.now.items) (sym c.deref.ensures.value)
    (sym (list_any-IsPermutation (is_in m) c.args.ranges.now.items c.sort_unstable_by_key.new.self.items
    c.sort_unstable_by_key.ensures.permutation))) below)
    c.append_between.ensures

pub returns-clause-ranges : goal.returns-clause-ranges
returns-clause-ranges c =
    on_ok_weaker c.append_between.result
    (λ e before. subst (All IsRange) (sym e) (All-append IsRange c.args.gaps.now.items _ before (gaps_ranges 0 c.deref.result.now
    (subst (AllByRecursion IsRange) (sym c.deref.ensures.value)
    (recursion_from_All IsRange _ (All-permutation IsRange _ _ c.sort_unstable_by_key.ensures.permutation c.requires))))))
    c.append_between.ensures

pub returns-clause-apart : goal.returns-clause-apart
returns-clause-apart c =
    on_ok_weaker c.append_between.result
    (λ e none. gaps_stand_apart c.args.gaps.now.items c.append_between.new.gaps.items c.deref.result.now
    (subst (AllByRecursion IsRange) (sym c.deref.ensures.value)
    (recursion_from_All IsRange _ (All-permutation IsRange _ _ c.sort_unstable_by_key.ensures.permutation c.requires))) e none)
    c.append_between.ensures
