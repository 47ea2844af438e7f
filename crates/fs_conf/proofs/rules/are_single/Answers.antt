use Rattle.fs_conf.proofs.Words.{◌≡◌, ◌+◌, Bool, false, true, rules, arith, refl, sym, ap, ◌∙◌, List, [], ◌∷◌, drop, drop_more, Ruled, Sent, has_seen}
use Rattle.fs_conf.proofs.Single.{are_fresh, fresh_none, fresh_more}
use Rattle.std.specs.BTreeSet.{BTreeSet}
use Rattle.fs_order.specs.declared.ranked.Ranked.{Ranked}
use Rattle.fs_conf.proofs.rules.are_single.Goals as goal

nothing_seen : (seen : BTreeSet Ranked) → seen.keys ≡ [] → (rule : Ruled) → has_seen seen rule ≡ false
nothing_seen seen e rule = rw e refl

pub loop-sent-init : goal.loop-sent-init
loop-sent-init c = fresh_none (has_seen c.new-seen.result) c.args.rules.now (nothing_seen c.new-seen.result c.new-seen.ensures.empty)

pub loop-sent-preserved : goal.loop-sent-preserved
loop-sent-preserved c =
    let rules_now : List Sent = c.args.rules.now in
    let has : Ruled → Bool = has_seen c.loop-sent.seen in
    let behind : List Sent = drop (c.loop-sent.sent-index + 1) rules_now in
    let new : c.in_ok-see.field-0 ≡ true = search rules in
    let here : drop c.loop-sent.sent-index rules_now ≡ c.sent-item.result ∷ behind =
    drop_more rules_now c.loop-sent.sent-index c.sent-item.result (omega arith) ∙ ap (λ (s : Sent). s ∷ behind) (sym c.sent-item.is) in
    c.loop-sent.invariant
    ∙ ap (are_fresh has) here
    ∙ fresh_more has (has_seen c.see.new.seen) c.sent-item.result behind (sym new ∙ c.in_ok-see.ensures.fresh) c.in_ok-see.ensures.seen
