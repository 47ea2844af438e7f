use Rattle.fs_unicast.proofs.{Words.{◌≡◌, ◌∙◌, subst, Some, Option, List, is_le, IsStrictlySortedBy, Place, place_cmp, IsLastUpto, find_last}, Gap.{last_is}}
use Rattle.fs_unicast.proofs.turns.Turns.take_last.Goals as goal

-- the keys stayed as they were, since no turn stood at the place
last_was : (old new : List Place) (z : Place) (o : Option Place) → new ≡ old → IsStrictlySortedBy place_cmp new
    → o ≡ find_last (λ t. is_le (place_cmp t z)) new → IsLastUpto old z o
last_was old new z o same sorted e = subst (λ ts. IsLastUpto ts z o) same (last_is new z o sorted e)

pub returns-in_err-turn-clause-last : goal.returns-in_err-turn-clause-last
returns-in_err-turn-clause-last c =
    last_was c.args.self.now.places.keys c.remove.new.self.keys c.args.place.now c.from_residual.result c.if-remove.ensures.unchanged
    c.last_upto.ensures.ordered (c.from_residual.ensures ∙ c.in_err-turn.ensures.found)

pub returns-clause-last : goal.returns-clause-last
returns-clause-last c = last_was c.args.self.now.places.keys c.remove.new.self.keys c.args.place.now (Some c.in_ok-turn.turn) c.if-remove.ensures.unchanged
    c.last_upto.ensures.ordered c.in_ok-turn.ensures.found
