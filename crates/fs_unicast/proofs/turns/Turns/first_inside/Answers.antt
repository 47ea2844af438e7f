use Rattle.fs_unicast.proofs.Words.{◌∙◌, sym, ap, subst, map-id, is_lt, IsStrictlySortedBy, place_cmp}
use Rattle.fs_unicast.proofs.{Finding.{find_both}, Nearest.{none_before, none_within}}
use Rattle.fs_unicast.proofs.turns.Turns.first_inside.Goals as goal

pub returns-in_err-turn-clause-found : goal.returns-in_err-turn-clause-found
returns-in_err-turn-clause-found c = c.from_residual.ensures
    ∙ none_within (λ t. t) c.args.self.now.places.keys (λ t. is_lt (place_cmp c.args.place.now t)) c.args.high.now (sym c.in_err-turn.ensures.found)

pub returns-then-is_lt-clause-found : goal.returns-then-is_lt-clause-found
returns-then-is_lt-clause-found c =
    sym (find_both (λ t. is_lt (place_cmp c.args.place.now t)) (λ t. is_lt (place_cmp t c.args.high.now)) c.args.self.now.places.keys c.in_ok-turn.turn
    (sym c.in_ok-turn.ensures.found)
    (ap is_lt (sym c.cmp.ensures) ∙ sym c.is_lt.ensures ∙ c.if-is_lt.true))

pub returns-else-is_lt-clause-found : goal.returns-else-is_lt-clause-found
returns-else-is_lt-clause-found c =
    none_before (λ t. t) c.args.self.now.places.keys (λ t. is_lt (place_cmp c.args.place.now t)) c.args.high.now c.in_ok-turn.turn
    (subst (IsStrictlySortedBy place_cmp) (sym (map-id c.args.self.now.places.keys)) c.first_after.ensures.ordered) (sym c.in_ok-turn.ensures.found)
    (ap is_lt (sym c.cmp.ensures) ∙ sym c.is_lt.ensures ∙ c.if-is_lt.false)
