use Rattle.fs_flows.proofs.Words.{◌≡◌, ◌<◌, ◌≤◌, Some, None, sym, ◌∙◌, subst, ℕ, true, is_le, List, [], ◌∷◌, Bool, false, length, arith, keys_of}
use Rattle.fs_flows.proofs.Words.{is_at, AllByRecursion, Config, Prefix, covers, prefix_cmp, or_false, Route, is_related, Entry, Noted, Mends}
use Rattle.fs_flows.proofs.Words.{IsNextRelated, Progress, progress}
use Rattle.fs_flows.proofs.Mending.{mends_none, mends_on, mends_keys, right_since}
use Rattle.fs_flows.proofs.Searching.{done, none_done, from_first, first_there, all_done, behind_now, related_done, apart_done, next_from, next_there}
use Rattle.fs_flows.proofs.Searching.{left, left_falls, IsFrom, IsThere}
use Rattle.fs_flows.proofs.search.retest_related.Goals as goal

-- where there is no group nothing is to do
none_mended : (unicast : List Route) (config : Config) (test : Prefix → Bool) (es : List Entry) (noted : Noted) (steps : ℕ) → length es ≡ 0
    → Mends unicast config test (progress es noted steps) (progress es noted steps)
none_mended unicast config test [] noted steps h = mends_none unicast config test (progress [] noted steps) tt
none_mended unicast config test (e ∷ es) noted steps h = absurd (omega (arith, h))

pub returns-then-is_empty : goal.returns-then-is_empty
returns-then-is_empty g c = none_mended c.args.unicast.now c.args.config.now (is_related c.args.swap.now.prefix) c.args.groups.now.entries
    c.args.changes.now c.args.steps.now (c.is_empty.ensures.0 c.if-is_empty.true)

pub loop-next-init : goal.loop-next-init
loop-next-init g c = record {
  mends = mends_none c.args.unicast.now c.args.config.now (done prefix c.first_from-next.result)
      (progress c.args.groups.now.entries c.args.changes.now c.args.steps.now)
      (none_done prefix c.first_under.result c.first_from-next.result c.args.groups.now.entries c.first_under.ensures c.first_from-next.ensures);
  from = from_first prefix c.first_under.result c.first_from-next.result c.args.groups.now.entries c.first_under.ensures c.first_from-next.ensures;
  there = first_there c.first_under.result c.first_from-next.result c.args.groups.now.entries c.first_from-next.ensures;
} where
  prefix : Prefix
  prefix = c.args.swap.now.prefix

pub returns : goal.returns
returns g c = mends_on unicast config (done prefix None) (is_related prefix)
    (subst (λ m. Mends unicast config (done prefix m) old here) c.in_default.is c.loop-next.invariant.mends)
    (all_done prefix c.args.groups.now.entries) where
      unicast : List Route
      unicast = c.args.unicast.now

      config : Config
      config = c.args.config.now

      prefix : Prefix
      prefix = c.args.swap.now.prefix

      old : Progress
      old = progress c.args.groups.now.entries c.args.changes.now c.args.steps.now

      here : Progress
      here = progress c.loop-next.groups.entries c.loop-next.changes c.loop-next.steps

pub first_over-next-requires-clause-behind : goal.first_over-next-requires-clause-behind
first_over-next-requires-clause-behind g c = subst (λ d. is_le (prefix_cmp c.args.swap.now.prefix d) ≡ true) (sym c.prefix-destination.ensures)
    (behind_now c.args.swap.now.prefix c.in-Some.key (subst (IsFrom c.args.swap.now.prefix) c.in-Some.is c.loop-next.invariant.from)
    (subst (λ d. covers c.args.swap.now.prefix d ≡ false) c.prefix-destination.ensures
    (or_false (covers c.prefix-destination.result c.args.swap.now.prefix) (covers c.args.swap.now.prefix c.prefix-destination.result)
    (sym c.is_related.ensures ∙ c.if-is_related.false)).1))

pub loop-next-preserved-then-is_related : goal.loop-next-preserved-then-is_related
loop-next-preserved-then-is_related g c = record {
  mends = related_done c.args.unicast.now c.args.config.now c.args.swap.now.prefix c.in-Some.key c.loop-next.next c.next_related-next.result
      c.in-Some.is c.loop-next.invariant.mends
      (subst (λ d. is_related c.args.swap.now.prefix d ≡ true) c.prefix-destination.ensures (sym c.is_related.ensures ∙ c.if-is_related.true))
      c.mark_group.ensures c.next_related-next.ensures;
  from = next_from c.args.swap.now.prefix c.in-Some.key c.next_related-next.result
      (subst (IsFrom c.args.swap.now.prefix) c.in-Some.is c.loop-next.invariant.from) c.next_related-next.ensures.from;
  there = next_there c.next_related-next.result c.mark_group.new.groups.entries c.next_related-next.ensures.there;
}

pub loop-next-preserved : goal.loop-next-preserved
loop-next-preserved g c =
    let over = subst (λ d. IsNextRelated c.loop-next.groups.entries c.args.swap.now.prefix d c.first_over-next.result) c.prefix-destination.ensures
    c.first_over-next.ensures in record {
      mends = apart_done c.args.unicast.now c.args.config.now c.args.swap.now.prefix c.in-Some.key c.loop-next.next c.first_over-next.result
          c.in-Some.is c.loop-next.invariant.mends
          (subst (λ d. is_related c.args.swap.now.prefix d ≡ false) c.prefix-destination.ensures (sym c.is_related.ensures ∙ c.if-is_related.false)) over;
      from = next_from c.args.swap.now.prefix c.in-Some.key c.first_over-next.result
          (subst (IsFrom c.args.swap.now.prefix) c.in-Some.is c.loop-next.invariant.from) over.from;
      there = next_there c.first_over-next.result c.loop-next.groups.entries over.there;
    }

pub loop-next-smaller-then-is_related : goal.loop-next-smaller-then-is_related
loop-next-smaller-then-is_related g c =
    subst (λ m. left c.next_related-next.result (keys_of c.mark_group.new.groups.entries) < left m (keys_of c.loop-next.groups.entries))
    (sym c.in-Some.is)
    (subst (λ ks. left c.next_related-next.result ks < left (Some c.in-Some.key) (keys_of c.loop-next.groups.entries))
    (sym (mends_keys c.args.unicast.now c.args.config.now (is_at (prefix_cmp c.in-Some.key)) c.mark_group.ensures))
    (left_falls c.in-Some.key c.next_related-next.result (keys_of c.loop-next.groups.entries) c.next_related-next.ensures.from
    (subst (IsThere (keys_of c.loop-next.groups.entries)) c.in-Some.is c.loop-next.invariant.there)))

pub loop-next-smaller : goal.loop-next-smaller
loop-next-smaller g c = subst (λ m. left c.first_over-next.result (keys_of c.loop-next.groups.entries) < left m (keys_of c.loop-next.groups.entries))
    (sym c.in-Some.is)
    (left_falls c.in-Some.key c.first_over-next.result (keys_of c.loop-next.groups.entries)
    (subst (λ d. IsNextRelated c.loop-next.groups.entries c.args.swap.now.prefix d c.first_over-next.result) c.prefix-destination.ensures
    c.first_over-next.ensures).from
    (subst (IsThere (keys_of c.loop-next.groups.entries)) c.in-Some.is c.loop-next.invariant.there))

pub next_related-next-requires : goal.next_related-next-requires
next_related-next-requires g c = subst (AllByRecursion (λ q. c.args.shortest ≤ q.length))
    (sym (mends_keys c.args.unicast.now c.args.config.now (is_at (prefix_cmp c.in-Some.key)) c.mark_group.ensures
    ∙ mends_keys c.args.unicast.now c.args.config.now (done c.args.swap.now.prefix c.loop-next.next) c.loop-next.invariant.mends))
    c.requires.shortest

pub first_over-next-requires-clause-shortest : goal.first_over-next-requires-clause-shortest
first_over-next-requires-clause-shortest g c = subst (AllByRecursion (λ q. c.args.shortest ≤ q.length))
    (sym (mends_keys c.args.unicast.now c.args.config.now (done c.args.swap.now.prefix c.loop-next.next) c.loop-next.invariant.mends))
    c.requires.shortest

pub mark_group-requires : goal.mark_group-requires
mark_group-requires g c = right_since c.args.unicast.now c.args.config.now c.args.swap.now
    (done c.args.swap.now.prefix c.loop-next.next) c.loop-next.invariant.mends c.requires.right
