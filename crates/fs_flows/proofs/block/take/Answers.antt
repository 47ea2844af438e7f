use Rattle.fs_flows.proofs.Words.{◌≡◌, ◌<◌, sym, ◌∙◌, ap, ap₂, slice_get, remove, length, arith, has_key_at, place_in}
use Rattle.fs_flows.proofs.Placing.{any_here, take_here, none_here, inside_from_key}
use Rattle.fs_flows.proofs.block.take.Goals as goal

pub remove-requires : goal.remove-requires
remove-requires c = let h : c.place_of-place.result < length c.args.kept.now.items =
    inside_from_key c.args.rule.now c.args.peer c.args.kept.now.items c.place_of-place.result
    (sym (c.is_at.ensures ∙ ap (λ ks. has_key_at c.args.rule.now c.args.peer (slice_get ks c.place_of-place.result)) c.deref-2.ensures.value)
    ∙ c.if-not-is_at.false) in omega arith

pub returns-clause-taken : goal.returns-clause-taken
returns-clause-taken c = c.remove.ensures.items ∙ ap (remove c.args.kept.now.items) place
    ∙ take_here c.args.rule.now c.args.peer c.args.kept.now.items c.requires
    (sym (c.is_at.ensures ∙ ap (has_key_at c.args.rule.now c.args.peer) (ap₂ slice_get c.deref-2.ensures.value place)) ∙ c.if-not-is_at.false) where
      place : c.place_of-place.result ≡ place_in c.args.rule.now c.args.peer c.args.kept.now.items
      place = c.place_of-place.ensures.place ∙ ap (place_in c.args.rule.now c.args.peer) c.deref.ensures.value

pub returns-clause-held : goal.returns-clause-held
returns-clause-held c = sym c.if-not-is_at.false ∙ c.is_at.ensures
    ∙ ap (has_key_at c.args.rule.now c.args.peer) (ap₂ slice_get c.deref-2.ensures.value place)
    ∙ any_here c.args.rule.now c.args.peer c.args.kept.now.items c.requires where
      place : c.place_of-place.result ≡ place_in c.args.rule.now c.args.peer c.args.kept.now.items
      place = c.place_of-place.ensures.place ∙ ap (place_in c.args.rule.now c.args.peer) c.deref.ensures.value

pub returns-then-not-is_at-clause-taken : goal.returns-then-not-is_at-clause-taken
returns-then-not-is_at-clause-taken c =
    none_here c.args.rule.now c.args.peer c.args.kept.now.items (sym (any_here c.args.rule.now c.args.peer c.args.kept.now.items c.requires)
    ∙ sym (c.is_at.ensures ∙ ap (has_key_at c.args.rule.now c.args.peer) (ap₂ slice_get c.deref-2.ensures.value place)) ∙ c.if-not-is_at.true) where
      place : c.place_of-place.result ≡ place_in c.args.rule.now c.args.peer c.args.kept.now.items
      place = c.place_of-place.ensures.place ∙ ap (place_in c.args.rule.now c.args.peer) c.deref.ensures.value

pub returns-then-not-is_at-clause-held : goal.returns-then-not-is_at-clause-held
returns-then-not-is_at-clause-held c = sym c.if-not-is_at.true ∙ c.is_at.ensures
    ∙ ap (has_key_at c.args.rule.now c.args.peer) (ap₂ slice_get c.deref-2.ensures.value place)
    ∙ any_here c.args.rule.now c.args.peer c.args.kept.now.items c.requires where
      place : c.place_of-place.result ≡ place_in c.args.rule.now c.args.peer c.args.kept.now.items
      place = c.place_of-place.ensures.place ∙ ap (place_in c.args.rule.now c.args.peer) c.deref.ensures.value
