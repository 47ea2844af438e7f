use Rattle.fs_buckets.proofs.Words.{◌≡◌, ◌⊎◌, inl, inr, ℕ, ◌+◌, ◌-◌, ◌<◌, ◌≤◌, Option, None, List, length, get_or, sym, ap, subst, ◌∙◌, arith}
use Rattle.fs_buckets.proofs.Words.{cases_lt, all_admitted, LentRule, Buckets, AreAll, AreNarrow, spans_of, Adds, Keeps}
use Rattle.fs_buckets.proofs.Replacing.{spans_size}
use Rattle.fs_buckets.proofs.runs.mended_runs.Goals as goal

-- where each has a destination all were added
all_added : (spans : List (Option (ℕ × ℕ))) (n : ℕ) → AreAll spans → n ≤ length spans → get_or spans n None ≡ None → n ≡ length spans
all_added spans n all most rest = at (cases_lt n (length spans)) where
  at : (n < length spans) ⊎ (length spans ≤ n) → n ≡ length spans
  at (inl below) = absurd (all n below rest)
  at (inr past) = omega (arith, most, past)

-- how many runs hold so many rules: none, then those before the stretch, then the new ones too
kept_size : (first kept from : ℕ) → first ≡ 0 → kept + 0 ≡ first + from → kept ≡ from
kept_size first kept from none count = omega (arith, none, count)

added_size : (list : List LentRule) (kept added from : ℕ) → kept ≡ from → AreAll (spans_of (all_admitted list)) → kept ≤ added
    → added ≤ kept + length list → get_or (spans_of (all_admitted list)) (added - kept) None ≡ None
    → added ≡ from + length (spans_of (all_admitted list))
added_size list kept added from is all more few rest =
    let n : added - kept ≡ length (spans_of (all_admitted list)) =
    all_added (spans_of (all_admitted list)) (added - kept) all (omega (arith, more, few, spans_size list)) rest in
    omega (arith, is, more, n)

keeps_at : (b : Buckets) (from to place n : ℕ) (spans : List (Option (ℕ × ℕ))) → n ≡ place → Keeps b from to place spans → Keeps b from to n spans
keeps_at b from to place n spans is keeps = subst (λ (k : ℕ). Keeps b from to k spans) (sym is) keeps

adds_at : (news : List (Option (ℕ × ℕ))) (place n : ℕ) (spans : List (Option (ℕ × ℕ))) → n ≡ place → Adds news place spans → Adds news n spans
adds_at news place n spans is adds = subst (λ (k : ℕ). Adds news k spans) (sym is) adds

narrow_at : (width w : ℕ) (spans : List (Option (ℕ × ℕ))) → w ≡ width → AreNarrow width spans → AreNarrow w spans
narrow_at width w spans is narrow = subst (λ (k : ℕ). AreNarrow k spans) (sym is) narrow

pub keep_runs-requires-clause-some : goal.keep_runs-requires-clause-some
keep_runs-requires-clause-some c = (
  c.requires.some.0,
  c.in_ok-runs.ensures.runs c.requires.some.0,
  keeps_at c.args.old.now 0 c.args.from 0 _ c.requires.some.0 (ap length c.in_ok-runs.ensures.none) c.requires.some.1.front,
  narrow_at _ _ c.requires.some.0 c.in_ok-runs.ensures.width c.requires.some.2,
)

pub add_each-requires-clause-some : goal.add_each-requires-clause-some
add_each-requires-clause-some c =
    let none = ap length c.in_ok-runs.ensures.none in
    let kept = kept_size _ _ _ none c.in_ok-keep_runs.ensures.count in
    let front = keeps_at c.args.old.now 0 c.args.from 0 _ c.requires.some.0 none c.requires.some.1.front in (
      c.requires.some.0,
      c.in_ok-keep_runs.ensures.runs c.requires.some.0 (c.in_ok-runs.ensures.runs c.requires.some.0) front,
      adds_at (spans_of (all_admitted c.args.list.now)) c.args.from _ c.requires.some.0 kept c.requires.some.1.middle,
      narrow_at _ _ c.requires.some.0 (c.keep_runs.ensures.width ∙ c.in_ok-runs.ensures.width) c.requires.some.2,
    )

-- the rules behind the stretch stand behind the new ones
back_at : (b : Buckets) (list : List LentRule) (from to size n : ℕ) (spans : List (Option (ℕ × ℕ))) → n ≡ from + length (spans_of (all_admitted list))
    → size ≡ length b.homes.items
    → Keeps b to (length b.homes.items) (from + length (spans_of (all_admitted list))) spans → Keeps b to size n spans
back_at b list from to size n spans is whole keeps = λ k above below.
    ap (λ m. get_or spans (m + (k - to)) None) is ∙ keeps k above (subst (λ m. k < m) whole below)

pub keep_runs-requires-2-clause-some : goal.keep_runs-requires-2-clause-some
keep_runs-requires-2-clause-some c =
    let spans = c.requires.some.0 in
    let mends = c.requires.some.1 in
    let none = ap length c.in_ok-runs.ensures.none in
    let kept = kept_size _ _ _ none c.in_ok-keep_runs.ensures.count in
    let added = c.in_ok-add_each.ensures in
    let front = keeps_at c.args.old.now 0 c.args.from 0 _ spans none mends.front in
    let middle = adds_at (spans_of (all_admitted c.args.list.now)) c.args.from _ spans kept mends.middle in
    let behind = added_size c.args.list.now _ _ c.args.from kept c.requires.each added.more added.few added.rest in (
      spans,
      added.runs spans (c.in_ok-keep_runs.ensures.runs spans (c.in_ok-runs.ensures.runs spans) front) middle,
      back_at c.args.old.now c.args.list.now c.args.from c.args.to _ _ spans behind (c.len-2.ensures ∙ c.args.old.now.homes.ok.0) mends.back,
      narrow_at _ _ spans (c.add_each.ensures.width ∙ c.keep_runs.ensures.width ∙ c.in_ok-runs.ensures.width) c.requires.some.2,
    )

pub returns-clause-runs : goal.returns-clause-runs
returns-clause-runs c = λ spans mends.
    let none = ap length c.in_ok-runs.ensures.none in
    let kept = kept_size _ _ _ none c.in_ok-keep_runs.ensures.count in
    let added = c.in_ok-add_each.ensures in
    let front = keeps_at c.args.old.now 0 c.args.from 0 _ spans none mends.front in
    let middle = adds_at (spans_of (all_admitted c.args.list.now)) c.args.from _ spans kept mends.middle in
    let behind = added_size c.args.list.now _ _ c.args.from kept c.requires.each added.more added.few added.rest in
    c.in_ok-keep_runs-2.ensures.runs spans (added.runs spans (c.in_ok-keep_runs.ensures.runs spans (c.in_ok-runs.ensures.runs spans) front) middle)
    (back_at c.args.old.now c.args.list.now c.args.from c.args.to _ _ spans behind (c.len-2.ensures ∙ c.args.old.now.homes.ok.0) mends.back)
