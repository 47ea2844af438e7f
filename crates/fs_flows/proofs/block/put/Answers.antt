use Rattle.fs_flows.proofs.Words.{not, ◌≡◌, sym, ◌∙◌, ap, ap₂, insert, set, slice_get, FlowRoute, has_key_at, place_in}
use Rattle.fs_flows.proofs.Placing.{put_over, put_into, any_here}
use Rattle.fs_flows.proofs.block.put.Goals as goal

pub returns-then-is_at-clause-ok : goal.returns-then-is_at-clause-ok
returns-then-is_at-clause-ok c = ap (λ n. set c.args.kept.now.items n c.args.k) place
    ∙ put_over c.args.k c.args.kept.now.items
    (sym (c.is_at.ensures ∙ ap (λ (r : FlowRoute). has_key_at r.rule r.peer (slice_get c.deref-2.result.now c.place_of-place.result))
    c.route-route.ensures ∙ ap (has_key_at c.args.k.route.rule c.args.k.route.peer) (ap₂ slice_get c.deref-2.ensures.value place))
    ∙ c.if-is_at.true) where
      place : c.place_of-place.result ≡ place_in c.args.k.route.rule c.args.k.route.peer c.args.kept.now.items
      place = c.place_of-place.ensures.place ∙ ap (λ (r : FlowRoute). place_in r.rule r.peer c.deref.result.now) c.route-route.ensures
          ∙ ap (place_in c.args.k.route.rule c.args.k.route.peer) c.deref.ensures.value

pub returns-clause-ok : goal.returns-clause-ok
returns-clause-ok c = c.in_ok-insert.ensures.items ∙ ap (λ n. insert c.args.kept.now.items n c.args.k) place
    ∙ put_into c.args.k c.args.kept.now.items
    (sym (c.is_at.ensures ∙ ap (λ (r : FlowRoute). has_key_at r.rule r.peer (slice_get c.deref-2.result.now c.place_of-place.result))
    c.route-route.ensures ∙ ap (has_key_at c.args.k.route.rule c.args.k.route.peer) (ap₂ slice_get c.deref-2.ensures.value place))
    ∙ c.if-is_at.false) where
      place : c.place_of-place.result ≡ place_in c.args.k.route.rule c.args.k.route.peer c.args.kept.now.items
      place = c.place_of-place.ensures.place ∙ ap (λ (r : FlowRoute). place_in r.rule r.peer c.deref.result.now) c.route-route.ensures
          ∙ ap (place_in c.args.k.route.rule c.args.k.route.peer) c.deref.ensures.value

pub returns-then-is_at-clause-fresh : goal.returns-then-is_at-clause-fresh
returns-then-is_at-clause-fresh c =
    ap not (sym c.if-is_at.true ∙ c.is_at.ensures
    ∙ ap (λ (r : FlowRoute). has_key_at r.rule r.peer (slice_get c.deref-2.result.now c.place_of-place.result)) c.route-route.ensures
    ∙ ap (has_key_at c.args.k.route.rule c.args.k.route.peer) (ap₂ slice_get c.deref-2.ensures.value place)
    ∙ any_here c.args.k.route.rule c.args.k.route.peer c.args.kept.now.items c.requires) where
      place : c.place_of-place.result ≡ place_in c.args.k.route.rule c.args.k.route.peer c.args.kept.now.items
      place = c.place_of-place.ensures.place ∙ ap (λ (r : FlowRoute). place_in r.rule r.peer c.deref.result.now) c.route-route.ensures
          ∙ ap (place_in c.args.k.route.rule c.args.k.route.peer) c.deref.ensures.value

pub returns-clause-fresh : goal.returns-clause-fresh
returns-clause-fresh c = ap not (sym c.if-is_at.false ∙ c.is_at.ensures
    ∙ ap (λ (r : FlowRoute). has_key_at r.rule r.peer (slice_get c.deref-2.result.now c.place_of-place.result)) c.route-route.ensures
    ∙ ap (has_key_at c.args.k.route.rule c.args.k.route.peer) (ap₂ slice_get c.deref-2.ensures.value place)
    ∙ any_here c.args.k.route.rule c.args.k.route.peer c.args.kept.now.items c.requires) where
      place : c.place_of-place.result ≡ place_in c.args.k.route.rule c.args.k.route.peer c.args.kept.now.items
      place = c.place_of-place.ensures.place ∙ ap (λ (r : FlowRoute). place_in r.rule r.peer c.deref.result.now) c.route-route.ensures
          ∙ ap (place_in c.args.k.route.rule c.args.k.route.peer) c.deref.ensures.value
